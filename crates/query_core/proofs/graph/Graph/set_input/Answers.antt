use Rattle.std.proofs.Common.{sym, subst, ◌∙◌}
use Rattle.query_core.specs.Changes.{IsFresh}
use Rattle.query_core.proofs.graph.Graph.set_input.Goals as goal
use Rattle.query_core.proofs.Calls.{stored_node, is_some_from, set_changed, set_added, prepared_changes, held}
use Rattle.query_core.proofs.Cleaning.{prepared_kept, added_kept}
use Rattle.query_core.proofs.Setting.{set_was_due}

pub set-requires : goal.set-requires
set-requires g c =
    let st = stored_node g.R.Rules.queries g.R.Key.PartialEq.eq g.met.R.Rules.same_keys c.self.inside.store c.self.inside.revision c.self.inside.runs.items c.self.invariant.sound c.args.key c.in-Some.node (sym c.in-Some.ensures) in
    is_some_from _ st.0 (c.in_ok-prepare-in-Some.ensures.ok.nodes c.in-Some.node ∙ st.1)

pub invariant_of-self-in-Some-1 : goal.invariant_of-self-in-Some-1
invariant_of-self-in-Some-1 g c =
    prepared_kept g.R.Rules.queries g.met.R.Rules.lawful c.self.inside.store c.set.new.self c.self.inside.revision c.self.inside.runs.items c.self.invariant (subst (IsFresh g.R.Rules.queries) (sym c.self.view_is) c.requires.fresh) c.args.key c.args.value c.in-Some.node
    (set_changed g.R.Rules.queries g.met.R.Rules.lawful g.R.Key.PartialEq.eq g.met.R.Rules.same_keys c.self.inside.store c.set.new.self c.self.inside.revision c.self.inside.runs.items c.self.invariant.sound
    (subst (IsFresh g.R.Rules.queries) (sym c.self.view_is) c.requires.fresh) c.args.key c.args.value c.requires.input
    g.R.Value.PartialEq.eq g.met.R.Rules.same_values g.met.R.Value.Eq.laws.refl c.in-Some.node (sym c.in-Some.ensures) (prepared_changes g.R.Value.PartialEq.eq c.self.inside.store c.prepare.new.self c.set.new.self c.in-Some.node c.args.value c.self.inside.revision c.in_ok-prepare-in-Some.ensures.ok c.set.ensures.changes))
    c.requires.input c.set.ensures.marks.here (c.set.ensures.clean_at ∙ c.in_ok-prepare-in-Some.ensures.ok.clean_at) g.R.Value.PartialEq.eq g.met.R.Rules.same_values c.prepare.new.self c.in_ok-prepare-in-Some.ensures.ok c.set.ensures.marks.others

pub returns-in_ok-prepare-in-Some-clause-ok : goal.returns-in_ok-prepare-in-Some-clause-ok
returns-in_ok-prepare-in-Some-clause-ok g c =
    rw (← c.self.view_is)
    (set_changed g.R.Rules.queries g.met.R.Rules.lawful g.R.Key.PartialEq.eq g.met.R.Rules.same_keys c.self.inside.store c.set.new.self c.self.inside.revision c.self.inside.runs.items c.self.invariant.sound
    (subst (IsFresh g.R.Rules.queries) (sym c.self.view_is) c.requires.fresh) c.args.key c.args.value c.requires.input
    g.R.Value.PartialEq.eq g.met.R.Rules.same_values g.met.R.Value.Eq.laws.refl c.in-Some.node (sym c.in-Some.ensures) (prepared_changes g.R.Value.PartialEq.eq c.self.inside.store c.prepare.new.self c.set.new.self c.in-Some.node c.args.value c.self.inside.revision c.in_ok-prepare-in-Some.ensures.ok c.set.ensures.changes)).sets

pub returns-in_ok-prepare-in-Some-clause-still_fresh : goal.returns-in_ok-prepare-in-Some-clause-still_fresh
returns-in_ok-prepare-in-Some-clause-still_fresh g c =
    (set_changed g.R.Rules.queries g.met.R.Rules.lawful g.R.Key.PartialEq.eq g.met.R.Rules.same_keys c.self.inside.store c.set.new.self c.self.inside.revision c.self.inside.runs.items c.self.invariant.sound
    (subst (IsFresh g.R.Rules.queries) (sym c.self.view_is) c.requires.fresh) c.args.key c.args.value c.requires.input
    g.R.Value.PartialEq.eq g.met.R.Rules.same_values g.met.R.Value.Eq.laws.refl c.in-Some.node (sym c.in-Some.ensures) (prepared_changes g.R.Value.PartialEq.eq c.self.inside.store c.prepare.new.self c.set.new.self c.in-Some.node c.args.value c.self.inside.revision c.in_ok-prepare-in-Some.ensures.ok c.set.ensures.changes)).fresh

pub invariant_of-self-in_ok-add-in-None : goal.invariant_of-self-in_ok-add-in-None
invariant_of-self-in_ok-add-in-None g c =
    added_kept g.R.Rules.queries g.met.R.Rules.lawful c.self.inside.store c.add.new.self c.self.inside.revision c.self.inside.runs.items c.self.invariant (subst (IsFresh g.R.Rules.queries) (sym c.self.view_is) c.requires.fresh) c.args.key c.args.value c.in_ok-add-in-None.field-0
    (set_added g.R.Rules.queries g.met.R.Rules.lawful g.R.Key.PartialEq.eq g.met.R.Rules.same_keys c.self.inside.store c.add.new.self c.self.inside.revision c.self.inside.runs.items c.self.invariant.sound
    (subst (IsFresh g.R.Rules.queries) (sym c.self.view_is) c.requires.fresh) c.args.key c.args.value c.requires.input
    (sym c.in-None.ensures) c.in_ok-add-in-None.field-0 c.new-reads.result c.new-reads.ensures c.in_ok-add-in-None.ensures.ok)
    c.requires.input c.in_ok-add-in-None.ensures.marks.here c.add.ensures.clean_at c.in_ok-add-in-None.ensures.ok.free c.in_ok-add-in-None.ensures.marks.others

pub returns-in_ok-add-in-None-clause-ok : goal.returns-in_ok-add-in-None-clause-ok
returns-in_ok-add-in-None-clause-ok g c =
    rw (← c.self.view_is)
    (set_added g.R.Rules.queries g.met.R.Rules.lawful g.R.Key.PartialEq.eq g.met.R.Rules.same_keys c.self.inside.store c.add.new.self c.self.inside.revision c.self.inside.runs.items c.self.invariant.sound
    (subst (IsFresh g.R.Rules.queries) (sym c.self.view_is) c.requires.fresh) c.args.key c.args.value c.requires.input
    (sym c.in-None.ensures) c.in_ok-add-in-None.field-0 c.new-reads.result c.new-reads.ensures c.in_ok-add-in-None.ensures.ok).sets

pub returns-in_ok-prepare-in-Some-clause-sound : goal.returns-in_ok-prepare-in-Some-clause-sound
returns-in_ok-prepare-in-Some-clause-sound g c =
    (set_changed g.R.Rules.queries g.met.R.Rules.lawful g.R.Key.PartialEq.eq g.met.R.Rules.same_keys c.self.inside.store c.set.new.self c.self.inside.revision c.self.inside.runs.items c.self.invariant.sound
    (subst (IsFresh g.R.Rules.queries) (sym c.self.view_is) c.requires.fresh) c.args.key c.args.value c.requires.input
    g.R.Value.PartialEq.eq g.met.R.Rules.same_values g.met.R.Value.Eq.laws.refl c.in-Some.node (sym c.in-Some.ensures) (prepared_changes g.R.Value.PartialEq.eq c.self.inside.store c.prepare.new.self c.set.new.self c.in-Some.node c.args.value c.self.inside.revision c.in_ok-prepare-in-Some.ensures.ok c.set.ensures.changes)).sound

pub returns-in_ok-add-in-None-clause-sound : goal.returns-in_ok-add-in-None-clause-sound
returns-in_ok-add-in-None-clause-sound g c =
    (set_added g.R.Rules.queries g.met.R.Rules.lawful g.R.Key.PartialEq.eq g.met.R.Rules.same_keys c.self.inside.store c.add.new.self c.self.inside.revision c.self.inside.runs.items c.self.invariant.sound
    (subst (IsFresh g.R.Rules.queries) (sym c.self.view_is) c.requires.fresh) c.args.key c.args.value c.requires.input
    (sym c.in-None.ensures) c.in_ok-add-in-None.field-0 c.new-reads.result c.new-reads.ensures c.in_ok-add-in-None.ensures.ok).sound

pub returns-in_ok-prepare-in-Some-clause-due : goal.returns-in_ok-prepare-in-Some-clause-due
returns-in_ok-prepare-in-Some-clause-due g c =
    rw (← c.self.view_is)
    (set_was_due g.R.Rules.queries g.met.R.Rules.lawful (held c.self.inside.store c.self.inside.revision c.self.inside.runs.items) (held c.set.new.self c.self.inside.revision c.self.inside.runs.items) c.args.key c.args.value c.self.invariant.sound
    (set_changed g.R.Rules.queries g.met.R.Rules.lawful g.R.Key.PartialEq.eq g.met.R.Rules.same_keys c.self.inside.store c.set.new.self c.self.inside.revision c.self.inside.runs.items c.self.invariant.sound
    (subst (IsFresh g.R.Rules.queries) (sym c.self.view_is) c.requires.fresh) c.args.key c.args.value c.requires.input
    g.R.Value.PartialEq.eq g.met.R.Rules.same_values g.met.R.Value.Eq.laws.refl c.in-Some.node (sym c.in-Some.ensures) (prepared_changes g.R.Value.PartialEq.eq c.self.inside.store c.prepare.new.self c.set.new.self c.in-Some.node c.args.value c.self.inside.revision c.in_ok-prepare-in-Some.ensures.ok c.set.ensures.changes)).sets c.requires.input)

pub returns-in_ok-add-in-None-clause-due : goal.returns-in_ok-add-in-None-clause-due
returns-in_ok-add-in-None-clause-due g c =
    rw (← c.self.view_is)
    (set_was_due g.R.Rules.queries g.met.R.Rules.lawful (held c.self.inside.store c.self.inside.revision c.self.inside.runs.items) (held c.add.new.self c.self.inside.revision c.self.inside.runs.items) c.args.key c.args.value c.self.invariant.sound
    (set_added g.R.Rules.queries g.met.R.Rules.lawful g.R.Key.PartialEq.eq g.met.R.Rules.same_keys c.self.inside.store c.add.new.self c.self.inside.revision c.self.inside.runs.items c.self.invariant.sound
    (subst (IsFresh g.R.Rules.queries) (sym c.self.view_is) c.requires.fresh) c.args.key c.args.value c.requires.input
    (sym c.in-None.ensures) c.in_ok-add-in-None.field-0 c.new-reads.result c.new-reads.ensures c.in_ok-add-in-None.ensures.ok).sets c.requires.input)

pub returns-in_ok-prepare-in-Some-clause-still_unswept : goal.returns-in_ok-prepare-in-Some-clause-still_unswept
returns-in_ok-prepare-in-Some-clause-still_unswept g c =
    rw (← c.self.view_is)
    (set_changed g.R.Rules.queries g.met.R.Rules.lawful g.R.Key.PartialEq.eq g.met.R.Rules.same_keys c.self.inside.store c.set.new.self c.self.inside.revision c.self.inside.runs.items c.self.invariant.sound
    (subst (IsFresh g.R.Rules.queries) (sym c.self.view_is) c.requires.fresh) c.args.key c.args.value c.requires.input
    g.R.Value.PartialEq.eq g.met.R.Rules.same_values g.met.R.Value.Eq.laws.refl c.in-Some.node (sym c.in-Some.ensures) (prepared_changes g.R.Value.PartialEq.eq c.self.inside.store c.prepare.new.self c.set.new.self c.in-Some.node c.args.value c.self.inside.revision c.in_ok-prepare-in-Some.ensures.ok c.set.ensures.changes)).unswept

pub returns-in_ok-add-in-None-clause-still_unswept : goal.returns-in_ok-add-in-None-clause-still_unswept
returns-in_ok-add-in-None-clause-still_unswept g c =
    rw (← c.self.view_is)
    (set_added g.R.Rules.queries g.met.R.Rules.lawful g.R.Key.PartialEq.eq g.met.R.Rules.same_keys c.self.inside.store c.add.new.self c.self.inside.revision c.self.inside.runs.items c.self.invariant.sound
    (subst (IsFresh g.R.Rules.queries) (sym c.self.view_is) c.requires.fresh) c.args.key c.args.value c.requires.input
    (sym c.in-None.ensures) c.in_ok-add-in-None.field-0 c.new-reads.result c.new-reads.ensures c.in_ok-add-in-None.ensures.ok).unswept
