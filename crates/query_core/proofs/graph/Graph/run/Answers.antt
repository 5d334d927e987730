use Rattle.std.proofs.Common.{◌≡◌, subst, sym, ap, refl, ◌∙◌, ◌+◌, add-zero, Ok}
use Rattle.std.specs.declared.alloc.AllocError.{AllocError}
use Rattle.query_core.specs.Lists.{Has}
use Rattle.query_core.specs.Graph.{node_of}
use Rattle.query_core.proofs.Words.{Has-left}
use Rattle.query_core.specs.Walk.{IsRunning, HasBegun, IsHalt, halted}
use Rattle.query_core.specs.declared.frame.Running.{Running}
use Rattle.query_core.proofs.graph.Graph.run.Goals as goal

pub returns-in_ok-running-in-Pauses-clause-ok : goal.returns-in_ok-running-in-Pauses-clause-ok
returns-in_ok-running-in-Pauses-clause-ok g c =
    let h = subst (IsHalt g.R.Rules.queries c.args.self.now c.args.key c.go_on.new.asked c.go_on.new.answered) c.in-Pauses.is c.in_ok-halt.ensures.halt in (
      refl,
      c.in_ok-halt.ensures.ticks ∙ ap (λ s. c.args.steps.now + halted {E = AllocError} (Ok s)) c.in-Pauses.is ∙ add-zero c.args.steps.now,
      refl,
      record { stale = c.requires.stale; stage = subst (λ (r : Running g.row.R-Key.Denot g.row.R-Run.Denot). (node_of g.R.Rules.queries c.args.self.now c.args.key ≡ r.node) × IsRunning g.R.Rules.queries c.args.self.now c.args.key r.asked r.answered × HasBegun g.R.Rules.queries g.R.Rules.has_read c.args.self.now c.args.key r.run r.asked) (sym c.in_ok-running-in-Pauses.ensures.ok) (c.requires.numbered, h.0, c.in_ok-halt.ensures.begun) },
      subst (λ l. Has l c.in-Pauses.on) (sym h.0.2.1) (Has-left c.go_on.new.asked h.0.2.0 c.in-Pauses.on h.1),
      h.2,
      h.3,
    )
