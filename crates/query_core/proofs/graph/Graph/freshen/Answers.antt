use Rattle.std.proofs.Common.{sym, subst}
use Rattle.query_core.specs.Soundness.{IsUnswept}
use Rattle.query_core.proofs.graph.Graph.freshen.Goals as goal
use Rattle.query_core.proofs.Freshening.{freshen_done}

pub invariant_of-self : goal.invariant_of-self
invariant_of-self g c =
    (freshen_done g.R.Rules.queries c.self.inside.store c.freshen.new.self c.self.inside.revision c.self.inside.runs.items c.self.invariant (subst (IsUnswept g.R.Rules.queries) (sym c.self.view_is) c.requires.unswept) c.freshen.ensures).kept

pub returns-clause-walked : goal.returns-clause-walked
returns-clause-walked g c =
    rw (← c.self.view_is)
    (freshen_done g.R.Rules.queries c.self.inside.store c.freshen.new.self c.self.inside.revision c.self.inside.runs.items c.self.invariant (subst (IsUnswept g.R.Rules.queries) (sym c.self.view_is) c.requires.unswept) c.freshen.ensures).walked

pub returns-clause-numbers : goal.returns-clause-numbers
returns-clause-numbers g c =
    rw (← c.self.view_is)
    (freshen_done g.R.Rules.queries c.self.inside.store c.freshen.new.self c.self.inside.revision c.self.inside.runs.items c.self.invariant (subst (IsUnswept g.R.Rules.queries) (sym c.self.view_is) c.requires.unswept) c.freshen.ensures).numbers

pub returns-clause-before : goal.returns-clause-before
returns-clause-before g c = rw (← c.self.view_is) c.self.invariant.sound
