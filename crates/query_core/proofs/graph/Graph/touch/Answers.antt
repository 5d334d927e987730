use Rattle.std.proofs.Common.{sym, subst, refl, ◌≡◌, Some, false, length}
use Rattle.query_core.specs.Graph.{at, node_of, is_verified}
use Rattle.query_core.specs.Walk.{IsSettledTo}
use Rattle.query_core.specs.Node.{Node}
use Rattle.query_core.specs.Soundness.{IsUnswept}
use Rattle.query_core.proofs.graph.Graph.touch.Goals as goal
use Rattle.query_core.proofs.Finishing.{touch_done}
use Rattle.query_core.proofs.Calls.{held, is_some_from}
use Rattle.query_core.proofs.Cleaning.{finish_kept}
use Rattle.query_core.specs.Freshening.{mark_at}

pub verify-requires : goal.verify-requires
verify-requires g c =
    let st = c.self.invariant.sound.numbers c.args.key.now c.args.node (subst (λ o. node_of g.R.Rules.queries o c.args.key.now ≡ Some c.args.node) (sym c.self.view_is) c.requires.numbered) in
    record { stands = is_some_from _ st.0 st.1; fresh = subst (λ o. o.demanded_at ≡ o.revision) (sym c.self.view_is) c.requires.fresh }

pub invariant_of-self : goal.invariant_of-self
invariant_of-self g c =
    finish_kept g.R.Rules.queries g.met.R.Rules.lawful (held c.self.inside.store c.self.inside.revision c.self.inside.runs.items) (held c.verify.new.self c.self.inside.revision c.self.inside.runs.items) (mark_at c.self.inside.store.clean) (mark_at c.verify.new.self.clean) c.self.invariant c.args.key.now c.args.node
    (touch_done g.R.Rules.queries g.met.R.Rules.lawful g.R.Key.PartialEq.eq g.met.R.Rules.same_keys c.self.inside.store c.verify.new.self c.self.inside.revision c.self.inside.runs.items c.self.inside.runs.items
    c.self.invariant.sound (subst (IsUnswept g.R.Rules.queries) (sym c.self.view_is) c.requires.unswept) c.verify.ensures.clean_at c.args.key.now c.args.node refl (subst (λ o. node_of g.R.Rules.queries o c.args.key.now ≡ Some c.args.node) (sym c.self.view_is) c.requires.numbered) c.requires.no_input (subst (λ o. is_verified g.R.Rules.queries o c.args.key.now ≡ false) (sym c.self.view_is) c.requires.stale) (subst (λ o. (r : Node g.row.R-Key.Denot g.row.R-Value.Denot) → at o c.args.node ≡ Some r → IsSettledTo g.R.Rules.queries o r (length r.reads)) (sym c.self.view_is) c.requires.settled) c.verify.ensures.changes)
    c.verify.ensures.marks.others c.requires.no_input (subst (λ o. is_verified g.R.Rules.queries o c.args.key.now ≡ false) (sym c.self.view_is) c.requires.stale) (subst (λ o. o.demanded_at ≡ o.revision) (sym c.self.view_is) c.requires.fresh) c.verify.ensures.marks.here

pub returns-clause-finishes : goal.returns-clause-finishes
returns-clause-finishes g c =
    rw (← c.self.view_is)
    (touch_done g.R.Rules.queries g.met.R.Rules.lawful g.R.Key.PartialEq.eq g.met.R.Rules.same_keys c.self.inside.store c.verify.new.self c.self.inside.revision c.self.inside.runs.items c.self.inside.runs.items
    c.self.invariant.sound (subst (IsUnswept g.R.Rules.queries) (sym c.self.view_is) c.requires.unswept) c.verify.ensures.clean_at c.args.key.now c.args.node refl (subst (λ o. node_of g.R.Rules.queries o c.args.key.now ≡ Some c.args.node) (sym c.self.view_is) c.requires.numbered) c.requires.no_input (subst (λ o. is_verified g.R.Rules.queries o c.args.key.now ≡ false) (sym c.self.view_is) c.requires.stale) (subst (λ o. (r : Node g.row.R-Key.Denot g.row.R-Value.Denot) → at o c.args.node ≡ Some r → IsSettledTo g.R.Rules.queries o r (length r.reads)) (sym c.self.view_is) c.requires.settled) c.verify.ensures.changes).finishes

pub returns-clause-sound : goal.returns-clause-sound
returns-clause-sound g c =
    (touch_done g.R.Rules.queries g.met.R.Rules.lawful g.R.Key.PartialEq.eq g.met.R.Rules.same_keys c.self.inside.store c.verify.new.self c.self.inside.revision c.self.inside.runs.items c.self.inside.runs.items
    c.self.invariant.sound (subst (IsUnswept g.R.Rules.queries) (sym c.self.view_is) c.requires.unswept) c.verify.ensures.clean_at c.args.key.now c.args.node refl (subst (λ o. node_of g.R.Rules.queries o c.args.key.now ≡ Some c.args.node) (sym c.self.view_is) c.requires.numbered) c.requires.no_input (subst (λ o. is_verified g.R.Rules.queries o c.args.key.now ≡ false) (sym c.self.view_is) c.requires.stale) (subst (λ o. (r : Node g.row.R-Key.Denot g.row.R-Value.Denot) → at o c.args.node ≡ Some r → IsSettledTo g.R.Rules.queries o r (length r.reads)) (sym c.self.view_is) c.requires.settled) c.verify.ensures.changes).sound

pub returns-clause-unswept : goal.returns-clause-unswept
returns-clause-unswept g c =
    (touch_done g.R.Rules.queries g.met.R.Rules.lawful g.R.Key.PartialEq.eq g.met.R.Rules.same_keys c.self.inside.store c.verify.new.self c.self.inside.revision c.self.inside.runs.items c.self.inside.runs.items
    c.self.invariant.sound (subst (IsUnswept g.R.Rules.queries) (sym c.self.view_is) c.requires.unswept) c.verify.ensures.clean_at c.args.key.now c.args.node refl (subst (λ o. node_of g.R.Rules.queries o c.args.key.now ≡ Some c.args.node) (sym c.self.view_is) c.requires.numbered) c.requires.no_input (subst (λ o. is_verified g.R.Rules.queries o c.args.key.now ≡ false) (sym c.self.view_is) c.requires.stale) (subst (λ o. (r : Node g.row.R-Key.Denot g.row.R-Value.Denot) → at o c.args.node ≡ Some r → IsSettledTo g.R.Rules.queries o r (length r.reads)) (sym c.self.view_is) c.requires.settled) c.verify.ensures.changes).unswept
