use Rattle.std.proofs.Common.{rules, arith, ◌≡◌, ◌-◌, suc, ◌∷◌, Some, false, subst}
use Rattle.std.specs.Prelude.{IfOk}
use Rattle.std.specs.List.{list_any}
use Rattle.std.specs.Map.{lookup}
use Rattle.type_data.specs.Same.{same_tag}
use Rattle.type_data.specs.Types.{Tagged_type}
use Rattle.init_rules.specs.Accepted
use Rattle.init_rules.specs.Parts.{after, of_tag}
use Rattle.init_rules.specs.Places.{place}
use Rattle.init_rules.specs.Shown.{shown}
use Rattle.init_rules.proofs.WayLemmas.{way_step}
use Rattle.init_rules.proofs.descents.+search.Goals as goal

pub down_in-returns-clause-ty : goal.down_in-returns-clause-ty
down_in-returns-clause-ty t c =
    let n = c.args.search.now.bound in
    let tags = c.args.search.now.tags.now in
    let inside = c.args.search.now.inside.now in
    let takes = Accepted.takes c.args.search.now.e.text c.args.search.now.e.judged.now c.args.search.now.e.converted.now in
    let id = c.args.id.now in
    let below : n ≡ suc (n - 1) = grind (arith, c.if-search-eq0.false) in
    let out : list_any (same_tag id) inside ≡ false = search rules in
    let found : Some (shown c.in-Some.part) ≡ of_tag false 0 (lookup (same_tag id) tags) = search rules in
    let is : c.as_slice.result.now ≡ id ∷ inside = search rules in
    let are : c.push.new.self ≡ place (Tagged_type id) (after c.in-Some.part.number) false ∷ c.args.places.now = search rules in
    subst (λ w. IfOk c.down.result (λ t'. t'.now ≡ w.ty))
    (way_step n (n - 1) tags inside c.as_slice.result.now takes id (shown c.in-Some.part) c.args.places.now c.push.new.self below out found is are)
    c.down.ensures.ty
