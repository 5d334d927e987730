use Rattle.std.proofs.Common.{List, subst}
use Rattle.macro_expand.specs.declared.types.Marked.{Marked}
use Rattle.macro_expand.specs.Ties.Machine.{Unmentioned}
use Rattle.macro_expand.proofs.UnmentionedLemmas.{none_enough}
use Rattle.macro_expand.proofs.machine.relieved.Goals as goal

pub returns-clause-enough : goal.returns-clause-enough
returns-clause-enough c =
    none_enough c.args.call c.new.result c.args.behind.now c.new.ensures
    (subst (λ (all : List (List Marked)). Unmentioned c.args.call.def.now all c.args.behind.now) c.as_slice.ensures
    (c.mentions.ensures c.if-mentions.false))
