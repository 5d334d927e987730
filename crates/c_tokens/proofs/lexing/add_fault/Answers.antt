use Rattle.std.proofs.Common.{refl}
use Rattle.c_tokens.specs.Laws.{ranges}
use Rattle.c_tokens.proofs.OrderLemmas.{fault_grows, grows_none}
use Rattle.c_tokens.proofs.lexing.add_fault.Goals as goal

pub returns-in_default-clause-fault_order : goal.returns-in_default-clause-fault_order
returns-in_default-clause-fault_order c = grows_none c.args.text.now c.args.piece (ranges c.args.found.now.faults.items) (ranges c.args.found.now.faults.items) c.requires.piece refl

pub returns-clause-fault_order : goal.returns-clause-fault_order
returns-clause-fault_order c = fault_grows c.args.text.now c.args.piece c.in-Some.fault c.args.found.now.faults.items c.push.new.self.items c.in-Some.ensures.within c.in_ok-push.ensures.items
