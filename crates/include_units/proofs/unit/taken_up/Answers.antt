use Rattle.std.proofs.Common.{ap, subst}
use Rattle.include_units.specs.Stack.{IsRead, rest_by}
use Rattle.include_units.proofs.Moving.{read_is}
use Rattle.include_units.proofs.unit.taken_up.Goals as goal

pub returns-in-Some : goal.returns-in-Some
returns-in-Some c = λ answers read.
    read_is c.args.conf.now answers c.in-Some.reading (subst (λ o. IsRead c.args.conf.now answers o) c.in-Some.is read)

pub returns-in_ok-first-in-None : goal.returns-in_ok-first-in-None
returns-in_ok-first-in-None c = λ answers read. ap (rest_by answers) c.in_ok-first-in-None.ensures
