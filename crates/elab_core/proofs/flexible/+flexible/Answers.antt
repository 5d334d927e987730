use Rattle.std.proofs.Common.{rules, arith, ◌≡◌, ◌-◌, suc, ◌∷◌, Some, false, subst}
use Rattle.std.specs.Prelude.{IfOk}
use Rattle.std.specs.List.{list_any}
use Rattle.std.specs.Map.{lookup}
use Rattle.type_data.specs.Same.{same_tag}
use Rattle.elab_core.proofs.Downward.{flexible_step}
use Rattle.elab_core.proofs.flexible.+flexible.Goals as goal

pub flexible_in-returns : goal.flexible_in-returns
flexible_in-returns t c =
    let n = c.args.walk.now.bound in
    let tags = c.args.walk.now.tags.now in
    let inside = c.args.walk.now.inside.now in
    let id = c.args.id.now in
    let info = c.in-Some.info.now in
    let below : n ≡ suc (n - 1) = grind (arith, c.if-walk-eq0.false) in
    let out : list_any (same_tag id) inside ≡ false = search rules in
    let found : lookup (same_tag id) tags ≡ Some info = search rules in
    let is : c.as_slice.result.now ≡ id ∷ inside = search rules in
    subst (λ x. IfOk c.of_info.result (λ b. b ≡ x)) (flexible_step n (n - 1) tags inside c.as_slice.result.now id info below out found is) c.of_info.ensures
