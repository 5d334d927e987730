use Rattle.std.proofs.Common.{ap, sym, ◌∙◌}
use Rattle.meaning_lists.specs.Bindings.{are_apart}
use Rattle.meaning_lists.proofs.Apart.{bindings_stay}
use Rattle.meaning_lists.proofs.bindings.last_bindings.Goals as goal

pub returns-then-are_apart : goal.returns-then-are_apart
returns-then-are_apart c =
    bindings_stay c.args.bindings.items (ap are_apart (sym c.as_slice.ensures.value) ∙ sym c.are_apart.ensures ∙ c.if-are_apart.true)
