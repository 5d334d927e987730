use Rattle.std.proofs.Common.{rules, arith, ◌≡◌, ◌-◌, suc, ◌∷◌, Some, false, subst}
use Rattle.std.specs.Prelude.{IfOk, option_map}
use Rattle.std.specs.List.{list_any}
use Rattle.std.specs.Map.{lookup}
use Rattle.type_data.specs.Same.{same_tag}
use Rattle.elab_core.proofs.Downward.{member_step}
use Rattle.elab_core.proofs.members.+members.Goals as goal

pub member_in-returns : goal.member_in-returns
member_in-returns t c =
    let n = c.args.walk.now.bound in
    let tags = c.args.walk.now.tags.now in
    let inside = c.args.walk.now.inside.now in
    let id = c.args.id.now in
    let info = c.in-Some.info.now in
    let below : n ≡ suc (n - 1) = grind (arith, c.if-walk-eq0.false) in
    let out : list_any (same_tag id) inside ≡ false = search rules in
    let found : lookup (same_tag id) tags ≡ Some info = search rules in
    let has : info.members ≡ Some c.in-Some-members.members = search rules in
    let is : c.as_slice.result.now ≡ id ∷ inside = search rules in
    let same : c.as_slice-2.result.now ≡ c.in-Some-members.members = search rules in
    subst (λ x. IfOk c.among.result (λ m. option_map (λ one. one.now) m ≡ x))
    (member_step n (n - 1) tags inside c.as_slice.result.now c.args.walk.now.name.now id info c.in-Some-members.members c.as_slice-2.result.now below out found has is same)
    c.among.ensures
