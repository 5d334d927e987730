use Rattle.std.proofs.lemmas.List.{nil_from_length}
use Rattle.stmt_checks.proofs.Noting.{items_begin, items_end, items_turn}
use Rattle.stmt_checks.proofs.kept.note_items.Goals as goal

pub items-init : goal.items-init
items-init c = items_begin c.args.earlier.now c.args.was.now c.args.tokens.now c.args.items.now c.args.names.now c.args.changed.now c.requires.noted

pub returns : goal.returns
returns c = items_end c.items.invariant (nil_from_length c.items.rest.now c.in_default.ensures.cases)
