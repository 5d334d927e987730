use Rattle.std.proofs.Common.{sym, subst}
use Rattle.include_units.specs.Stack.{IsRead}
use Rattle.include_units.proofs.Moving.{read_stays}
use Rattle.include_units.proofs.unit.Unit.tell.Goals.{in-Ok, in-Err}
use Rattle.include_units.proofs.unit.Unit.tell.Goals as goal

pub invariant_of-self : goal.invariant_of-self
invariant_of-self c = (
  c.self.invariant.0,
  elim c.match-tell.branch [
    | in-Ok w ↦
        subst (λ answers. IsRead c.self.inside.conf answers c.self.inside.reading) (sym w.in-Ok.ensures.told)
        (read_stays c.self.inside.conf c.self.inside.files (c.args.path, c.args.answer) c.self.inside.reading c.self.invariant.1)
    | in-Err w ↦
        subst (λ answers. IsRead c.self.inside.conf answers c.self.inside.reading) (sym w.in-Err.ensures.kept) c.self.invariant.1
  ],
)
