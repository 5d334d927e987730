use Rattle.std.proofs.Common.{rules, ◌≡◌, [], ◌∷◌, Some, subst}
use Rattle.std.specs.Prelude.{IfOk}
use Rattle.std.specs.Map.{lookup}
use Rattle.type_data.specs.Same.{same_tag}
use Rattle.init_rules.proofs.WayLemmas.{path_is}
use Rattle.init_rules.proofs.paths.path.Goals as goal

pub returns : goal.returns
returns c =
    let tags = c.args.tags.now in
    let id = c.args.id.now in
    let info = c.in-Some.info.now in
    let found : lookup (same_tag id) tags ≡ Some info = search rules in
    let has : info.members ≡ Some c.in-Some-members.members = search rules in
    let is : c.as_slice-2.result.now ≡ id ∷ [] = search rules in
    let same : c.as_slice-3.result.now ≡ c.in-Some-members.members = search rules in
    subst (λ x. IfOk c.from_next.result (λ p. p ≡ x))
    (path_is c.most_tags.result tags c.as_slice-2.result.now c.args.name.now c.args.next id info c.in-Some-members.members c.as_slice-3.result.now c.most_tags.ensures found has is same)
    c.from_next.ensures
