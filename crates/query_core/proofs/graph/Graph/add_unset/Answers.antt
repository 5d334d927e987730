use Rattle.std.proofs.Common.{sym, subst, refl, ◌≡◌, None}
use Rattle.query_core.specs.Graph.{record_of}
use Rattle.query_core.specs.Soundness.{IsUnswept}
use Rattle.query_core.proofs.graph.Graph.add_unset.Goals as goal
use Rattle.query_core.proofs.Finishing.{unset_done}
use Rattle.query_core.proofs.Calls.{held, no_number}
use Rattle.query_core.proofs.Cleaning.{unset_kept}
use Rattle.query_core.specs.Freshening.{mark_at}

pub add-requires : goal.add-requires
add-requires g c = no_number g.R.Rules.queries g.R.Key.PartialEq.eq g.met.R.Rules.same_keys c.self.inside.store c.self.inside.revision c.self.inside.runs.items c.self.invariant.sound c.args.key
    (subst (λ o. record_of g.R.Rules.queries o c.args.key ≡ None) (sym c.self.view_is) c.requires.absent)

pub invariant_of-self-2 : goal.invariant_of-self-2
invariant_of-self-2 g c =
    let absent = subst (λ o. record_of g.R.Rules.queries o c.args.key ≡ None) (sym c.self.view_is) c.requires.absent in
    unset_kept g.R.Rules.queries g.met.R.Rules.lawful (held c.self.inside.store c.self.inside.revision c.self.inside.runs.items) (held c.add.new.self c.self.inside.revision c.self.inside.runs.items) (mark_at c.self.inside.store.clean) (mark_at c.add.new.self.clean) c.self.invariant c.args.key c.in_ok-node.node
    (unset_done g.R.Rules.queries g.met.R.Rules.lawful g.R.Key.PartialEq.eq g.met.R.Rules.same_keys c.self.inside.store c.add.new.self c.self.inside.revision c.self.inside.runs.items c.self.inside.runs.items c.self.invariant.sound (subst (IsUnswept g.R.Rules.queries) (sym c.self.view_is) c.requires.unswept)
    c.add.ensures.clean_at c.args.key c.in_ok-node.node c.in_ok-value.value c.new-reads.result refl absent
    (no_number g.R.Rules.queries g.R.Key.PartialEq.eq g.met.R.Rules.same_keys c.self.inside.store c.self.inside.revision c.self.inside.runs.items c.self.invariant.sound c.args.key absent)
    c.requires.input c.in_ok-value.ensures c.new-reads.ensures c.in_ok-node.ensures.ok)
    c.in_ok-node.ensures.marks.others c.requires.input c.in_ok-node.ensures.ok.free c.in_ok-node.ensures.marks.here

pub returns-clause-finishes : goal.returns-clause-finishes
returns-clause-finishes g c =
    let absent = subst (λ o. record_of g.R.Rules.queries o c.args.key ≡ None) (sym c.self.view_is) c.requires.absent in
    rw (← c.self.view_is)
    (unset_done g.R.Rules.queries g.met.R.Rules.lawful g.R.Key.PartialEq.eq g.met.R.Rules.same_keys c.self.inside.store c.add.new.self c.self.inside.revision c.self.inside.runs.items c.self.inside.runs.items c.self.invariant.sound (subst (IsUnswept g.R.Rules.queries) (sym c.self.view_is) c.requires.unswept)
    c.add.ensures.clean_at c.args.key c.in_ok-node.node c.in_ok-value.value c.new-reads.result refl absent
    (no_number g.R.Rules.queries g.R.Key.PartialEq.eq g.met.R.Rules.same_keys c.self.inside.store c.self.inside.revision c.self.inside.runs.items c.self.invariant.sound c.args.key absent)
    c.requires.input c.in_ok-value.ensures c.new-reads.ensures c.in_ok-node.ensures.ok).finishes

pub returns-clause-sound : goal.returns-clause-sound
returns-clause-sound g c =
    let absent = subst (λ o. record_of g.R.Rules.queries o c.args.key ≡ None) (sym c.self.view_is) c.requires.absent in
    (unset_done g.R.Rules.queries g.met.R.Rules.lawful g.R.Key.PartialEq.eq g.met.R.Rules.same_keys c.self.inside.store c.add.new.self c.self.inside.revision c.self.inside.runs.items c.self.inside.runs.items c.self.invariant.sound (subst (IsUnswept g.R.Rules.queries) (sym c.self.view_is) c.requires.unswept)
    c.add.ensures.clean_at c.args.key c.in_ok-node.node c.in_ok-value.value c.new-reads.result refl absent
    (no_number g.R.Rules.queries g.R.Key.PartialEq.eq g.met.R.Rules.same_keys c.self.inside.store c.self.inside.revision c.self.inside.runs.items c.self.invariant.sound c.args.key absent)
    c.requires.input c.in_ok-value.ensures c.new-reads.ensures c.in_ok-node.ensures.ok).sound

pub returns-clause-unswept : goal.returns-clause-unswept
returns-clause-unswept g c =
    let absent = subst (λ o. record_of g.R.Rules.queries o c.args.key ≡ None) (sym c.self.view_is) c.requires.absent in
    (unset_done g.R.Rules.queries g.met.R.Rules.lawful g.R.Key.PartialEq.eq g.met.R.Rules.same_keys c.self.inside.store c.add.new.self c.self.inside.revision c.self.inside.runs.items c.self.inside.runs.items c.self.invariant.sound (subst (IsUnswept g.R.Rules.queries) (sym c.self.view_is) c.requires.unswept)
    c.add.ensures.clean_at c.args.key c.in_ok-node.node c.in_ok-value.value c.new-reads.result refl absent
    (no_number g.R.Rules.queries g.R.Key.PartialEq.eq g.met.R.Rules.same_keys c.self.inside.store c.self.inside.revision c.self.inside.runs.items c.self.invariant.sound c.args.key absent)
    c.requires.input c.in_ok-value.ensures c.new-reads.ensures c.in_ok-node.ensures.ok).unswept
