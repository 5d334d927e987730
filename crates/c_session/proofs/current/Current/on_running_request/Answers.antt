use Rattle.std.proofs.Common.{codes, refl}
use Rattle.c_session.proofs.Keeping.{idle_counts}
use Rattle.c_session.proofs.current.Current.on_running_request.Goals as goal

pub returns-then-eq-clause-steps : goal.returns-then-eq-clause-steps
returns-then-eq-clause-steps g c = idle_counts c.args.method.now (codes "initialize") c.eq.result c.args.steps.now _ c.eq.ensures c.if-eq.true refl

pub returns-then-eq-2-clause-steps : goal.returns-then-eq-2-clause-steps
returns-then-eq-2-clause-steps g c = idle_counts c.args.method.now (codes "shutdown") c.eq-2.result c.args.steps.now _ c.eq-2.ensures c.if-eq-2.true refl
