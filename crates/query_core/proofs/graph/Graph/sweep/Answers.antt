use Rattle.std.proofs.Common.{sym, ap, subst, ◌∙◌}
use Rattle.query_core.specs.Marking.{root_nodes}
use Rattle.query_core.specs.Removal.{Leaves}
use Rattle.query_core.proofs.Calls.{numbered_of}
use Rattle.query_core.proofs.Sweeping.{sweep_done}
use Rattle.query_core.proofs.graph.Graph.sweep.Goals as goal

pub sweep-requires : goal.sweep-requires
sweep-requires g c =
    numbered_of g.R.Rules.queries g.met.R.Rules.lawful g.R.Key.PartialEq.eq g.met.R.Rules.same_keys c.self.inside.store c.self.inside.revision c.self.inside.runs.items c.self.invariant.sound

pub invariant_of-self-2 : goal.invariant_of-self-2
invariant_of-self-2 g c =
    (sweep_done g.R.Rules.queries g.met.R.Rules.lawful g.R.Key.PartialEq.eq g.met.R.Rules.same_keys c.self.inside.store c.sweep.new.self c.self.inside.revision c.self.inside.runs.items c.self.invariant
    c.args.roots.now (subst (λ l. Leaves g.R.Key.PartialEq.eq l c.self.inside.store c.sweep.new.self) (c.in_ok-nodes.ensures ∙ ap (λ o. root_nodes g.R.Rules.queries o c.args.roots.now) (sym c.self.view_is)) c.in_ok-count.ensures.ok)
    c.in_ok-count.count c.in_ok-count.ensures.count).kept

pub returns-clause-ok : goal.returns-clause-ok
returns-clause-ok g c =
    rw (← c.self.view_is)
    (sweep_done g.R.Rules.queries g.met.R.Rules.lawful g.R.Key.PartialEq.eq g.met.R.Rules.same_keys c.self.inside.store c.sweep.new.self c.self.inside.revision c.self.inside.runs.items c.self.invariant
    c.args.roots.now (subst (λ l. Leaves g.R.Key.PartialEq.eq l c.self.inside.store c.sweep.new.self) (c.in_ok-nodes.ensures ∙ ap (λ o. root_nodes g.R.Rules.queries o c.args.roots.now) (sym c.self.view_is)) c.in_ok-count.ensures.ok)
    c.in_ok-count.count c.in_ok-count.ensures.count).sweeps

pub returns-clause-sound : goal.returns-clause-sound
returns-clause-sound g c =
    (sweep_done g.R.Rules.queries g.met.R.Rules.lawful g.R.Key.PartialEq.eq g.met.R.Rules.same_keys c.self.inside.store c.sweep.new.self c.self.inside.revision c.self.inside.runs.items c.self.invariant
    c.args.roots.now (subst (λ l. Leaves g.R.Key.PartialEq.eq l c.self.inside.store c.sweep.new.self) (c.in_ok-nodes.ensures ∙ ap (λ o. root_nodes g.R.Rules.queries o c.args.roots.now) (sym c.self.view_is)) c.in_ok-count.ensures.ok)
    c.in_ok-count.count c.in_ok-count.ensures.count).kept.sound
