use Rattle.std.proofs.Common.{rules, ◌≡◌, ◌∙◌, length}
use Rattle.macro_expand.proofs.RestLemmas.{laid_nil}
use Rattle.macro_expand.proofs.rest.Rest.is_empty.Goals as goal

pub returns : goal.returns
returns c =
    let some : length c.self.inside.front.items ≡ 0 → ⊥ = search rules in (
      λ yes. cc,
      λ none. absurd (some (laid_nil c.self.inside.front.items c.self.inside.behind.now (c.self.view_is ∙ none))),
    )
