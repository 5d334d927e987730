use Rattle.c_tokens.proofs.OrderLemmas.{grows_none}
use Rattle.c_tokens.proofs.lexing.add_piece.Goals as goal

pub returns-in-LineEnd-clause-place_order : goal.returns-in-LineEnd-clause-place_order
returns-in-LineEnd-clause-place_order c = grows_none c.args.text.now c.args.piece c.args.found.now.places.items c.add_fault.new.found.places.items c.requires.piece (cc c.in_ok-add_fault.ensures.places)

pub returns-in_default-clause-place_order : goal.returns-in_default-clause-place_order
returns-in_default-clause-place_order c = grows_none c.args.text.now c.args.piece c.args.found.now.places.items c.add_fault.new.found.places.items c.requires.piece (cc c.in_ok-add_fault.ensures.places)
