use Rattle.std.proofs.Common.{ap, sym, ◌∙◌}
use Rattle.meaning_lists.specs.Entities.{are_apart}
use Rattle.meaning_lists.proofs.Apart.{entities_stay}
use Rattle.meaning_lists.proofs.entities.last_entities.Goals as goal

pub returns-then-are_apart : goal.returns-then-are_apart
returns-then-are_apart c =
    entities_stay c.args.entities.items (ap are_apart (sym c.as_slice.ensures.value) ∙ sym c.are_apart.ensures ∙ c.if-are_apart.true)
