use Rattle.std.proofs.Common.{sym, subst, ap, ◌≡◌, Some, None, ◌∙◌, ◌++◌, ◌∷◌, []}
use Rattle.query_core.specs.Graph.{node_of}
use Rattle.query_core.specs.Walk.{IsEntry}
use Rattle.query_core.specs.Soundness.{IsUnswept}
use Rattle.query_core.proofs.graph.Graph.enter.Goals as goal
use Rattle.query_core.specs.Freshening.{mark_at}
use Rattle.query_core.proofs.Calls.{held, stored_node, is_some_from, number_is}
use Rattle.query_core.proofs.Cleaning.{finish_kept}
use Rattle.query_core.proofs.Finishing.{enter_old, enter_new}

pub renew-requires : goal.renew-requires
renew-requires g c =
    let st = stored_node g.R.Rules.queries g.R.Key.PartialEq.eq g.met.R.Rules.same_keys c.self.inside.store c.self.inside.revision c.self.inside.runs.items c.self.invariant.sound c.args.key c.in-Some.node (number_is g.R.Rules.queries g.R.Key.PartialEq.eq g.met.R.Rules.same_keys c.self.inside.store c.self.inside.revision c.self.inside.runs.items c.args.key (Some c.in-Some.node) (subst (λ o. node_of g.R.Rules.queries o c.args.key ≡ c.args.at_node) (sym c.self.view_is) c.requires.numbered ∙ c.in-Some.is)) in
    record { stands = is_some_from _ st.0 st.1; fresh = subst (λ o. o.demanded_at ≡ o.revision) (sym c.self.view_is) c.requires.fresh }

pub invariant_of-self-in-Some-1 : goal.invariant_of-self-in-Some-1
invariant_of-self-in-Some-1 g c =
    finish_kept g.R.Rules.queries g.met.R.Rules.lawful (held c.self.inside.store c.self.inside.revision c.self.inside.runs.items) (held c.renew.new.self c.self.inside.revision c.push_reserved.new.self.items) (mark_at c.self.inside.store.clean) (mark_at c.renew.new.self.clean) c.self.invariant c.args.key c.in-Some.node
    (enter_old g.R.Rules.queries g.met.R.Rules.lawful g.R.Key.PartialEq.eq g.met.R.Rules.same_keys c.self.inside.store c.renew.new.self c.self.inside.revision c.self.inside.runs.items c.push_reserved.new.self.items c.self.invariant.sound (subst (IsUnswept g.R.Rules.queries) (sym c.self.view_is) c.requires.unswept) c.renew.ensures.clean_at c.args.key
    g.R.Value.PartialEq.eq g.met.R.Rules.same_values g.met.R.Value.Eq.laws.refl c.in-Some.node c.args.value c.args.reads
    (c.push_reserved.ensures.items ∙ ap (λ l. l ++ c.in_ok-ran.ran ∷ []) c.in_ok-reserve.ensures.items ∙ ap (λ x. c.self.inside.runs.items ++ x ∷ []) c.in_ok-ran.ensures)
    (subst (λ o. IsEntry g.R.Rules.queries o c.args.key c.args.value c.args.reads) (sym c.self.view_is) c.requires.entry) (number_is g.R.Rules.queries g.R.Key.PartialEq.eq g.met.R.Rules.same_keys c.self.inside.store c.self.inside.revision c.self.inside.runs.items c.args.key (Some c.in-Some.node) (subst (λ o. node_of g.R.Rules.queries o c.args.key ≡ c.args.at_node) (sym c.self.view_is) c.requires.numbered ∙ c.in-Some.is)) c.in_ok-renew-in-Some.ensures.changes)
    c.in_ok-renew-in-Some.ensures.marks.others (subst (λ o. IsEntry g.R.Rules.queries o c.args.key c.args.value c.args.reads) (sym c.self.view_is) c.requires.entry).no_input (subst (λ o. IsEntry g.R.Rules.queries o c.args.key c.args.value c.args.reads) (sym c.self.view_is) c.requires.entry).stale (subst (λ o. o.demanded_at ≡ o.revision) (sym c.self.view_is) c.requires.fresh) c.in_ok-renew-in-Some.ensures.marks.here

pub returns-in_ok-renew-in-Some-clause-finishes : goal.returns-in_ok-renew-in-Some-clause-finishes
returns-in_ok-renew-in-Some-clause-finishes g c =
    rw (← c.self.view_is)
    (enter_old g.R.Rules.queries g.met.R.Rules.lawful g.R.Key.PartialEq.eq g.met.R.Rules.same_keys c.self.inside.store c.renew.new.self c.self.inside.revision c.self.inside.runs.items c.push_reserved.new.self.items c.self.invariant.sound (subst (IsUnswept g.R.Rules.queries) (sym c.self.view_is) c.requires.unswept) c.renew.ensures.clean_at c.args.key
    g.R.Value.PartialEq.eq g.met.R.Rules.same_values g.met.R.Value.Eq.laws.refl c.in-Some.node c.args.value c.args.reads
    (c.push_reserved.ensures.items ∙ ap (λ l. l ++ c.in_ok-ran.ran ∷ []) c.in_ok-reserve.ensures.items ∙ ap (λ x. c.self.inside.runs.items ++ x ∷ []) c.in_ok-ran.ensures)
    (subst (λ o. IsEntry g.R.Rules.queries o c.args.key c.args.value c.args.reads) (sym c.self.view_is) c.requires.entry) (number_is g.R.Rules.queries g.R.Key.PartialEq.eq g.met.R.Rules.same_keys c.self.inside.store c.self.inside.revision c.self.inside.runs.items c.args.key (Some c.in-Some.node) (subst (λ o. node_of g.R.Rules.queries o c.args.key ≡ c.args.at_node) (sym c.self.view_is) c.requires.numbered ∙ c.in-Some.is)) c.in_ok-renew-in-Some.ensures.changes).finishes

pub invariant_of-self-in-None : goal.invariant_of-self-in-None
invariant_of-self-in-None g c =
    finish_kept g.R.Rules.queries g.met.R.Rules.lawful (held c.self.inside.store c.self.inside.revision c.self.inside.runs.items) (held c.add.new.self c.self.inside.revision c.push_reserved-in-None.new.self.items) (mark_at c.self.inside.store.clean) (mark_at c.add.new.self.clean) c.self.invariant c.args.key c.in_ok-node-in-None.node
    (enter_new g.R.Rules.queries g.met.R.Rules.lawful g.R.Key.PartialEq.eq g.met.R.Rules.same_keys c.self.inside.store c.add.new.self c.self.inside.revision c.self.inside.runs.items c.push_reserved-in-None.new.self.items c.self.invariant.sound (subst (IsUnswept g.R.Rules.queries) (sym c.self.view_is) c.requires.unswept) c.add.ensures.clean_at c.args.key
    c.in_ok-node-in-None.node c.args.value c.args.reads
    (c.push_reserved-in-None.ensures.items ∙ ap (λ l. l ++ c.in_ok-ran.ran ∷ []) c.in_ok-reserve.ensures.items ∙ ap (λ x. c.self.inside.runs.items ++ x ∷ []) c.in_ok-ran.ensures)
    (subst (λ o. IsEntry g.R.Rules.queries o c.args.key c.args.value c.args.reads) (sym c.self.view_is) c.requires.entry) (number_is g.R.Rules.queries g.R.Key.PartialEq.eq g.met.R.Rules.same_keys c.self.inside.store c.self.inside.revision c.self.inside.runs.items c.args.key None (subst (λ o. node_of g.R.Rules.queries o c.args.key ≡ c.args.at_node) (sym c.self.view_is) c.requires.numbered ∙ c.in-None.is)) (subst (λ o. o.demanded_at ≡ o.revision) (sym c.self.view_is) c.requires.fresh) c.in_ok-node-in-None.ensures.ok)
    c.in_ok-node-in-None.ensures.marks.others (subst (λ o. IsEntry g.R.Rules.queries o c.args.key c.args.value c.args.reads) (sym c.self.view_is) c.requires.entry).no_input (subst (λ o. IsEntry g.R.Rules.queries o c.args.key c.args.value c.args.reads) (sym c.self.view_is) c.requires.entry).stale (subst (λ o. o.demanded_at ≡ o.revision) (sym c.self.view_is) c.requires.fresh) c.in_ok-node-in-None.ensures.marks.here

pub returns-in_ok-node-in-None-clause-finishes : goal.returns-in_ok-node-in-None-clause-finishes
returns-in_ok-node-in-None-clause-finishes g c =
    rw (← c.self.view_is)
    (enter_new g.R.Rules.queries g.met.R.Rules.lawful g.R.Key.PartialEq.eq g.met.R.Rules.same_keys c.self.inside.store c.add.new.self c.self.inside.revision c.self.inside.runs.items c.push_reserved-in-None.new.self.items c.self.invariant.sound (subst (IsUnswept g.R.Rules.queries) (sym c.self.view_is) c.requires.unswept) c.add.ensures.clean_at c.args.key
    c.in_ok-node-in-None.node c.args.value c.args.reads
    (c.push_reserved-in-None.ensures.items ∙ ap (λ l. l ++ c.in_ok-ran.ran ∷ []) c.in_ok-reserve.ensures.items ∙ ap (λ x. c.self.inside.runs.items ++ x ∷ []) c.in_ok-ran.ensures)
    (subst (λ o. IsEntry g.R.Rules.queries o c.args.key c.args.value c.args.reads) (sym c.self.view_is) c.requires.entry) (number_is g.R.Rules.queries g.R.Key.PartialEq.eq g.met.R.Rules.same_keys c.self.inside.store c.self.inside.revision c.self.inside.runs.items c.args.key None (subst (λ o. node_of g.R.Rules.queries o c.args.key ≡ c.args.at_node) (sym c.self.view_is) c.requires.numbered ∙ c.in-None.is)) (subst (λ o. o.demanded_at ≡ o.revision) (sym c.self.view_is) c.requires.fresh) c.in_ok-node-in-None.ensures.ok).finishes

pub returns-in_ok-renew-in-Some-clause-sound : goal.returns-in_ok-renew-in-Some-clause-sound
returns-in_ok-renew-in-Some-clause-sound g c =
    (enter_old g.R.Rules.queries g.met.R.Rules.lawful g.R.Key.PartialEq.eq g.met.R.Rules.same_keys c.self.inside.store c.renew.new.self c.self.inside.revision c.self.inside.runs.items c.push_reserved.new.self.items c.self.invariant.sound (subst (IsUnswept g.R.Rules.queries) (sym c.self.view_is) c.requires.unswept) c.renew.ensures.clean_at c.args.key
    g.R.Value.PartialEq.eq g.met.R.Rules.same_values g.met.R.Value.Eq.laws.refl c.in-Some.node c.args.value c.args.reads
    (c.push_reserved.ensures.items ∙ ap (λ l. l ++ c.in_ok-ran.ran ∷ []) c.in_ok-reserve.ensures.items ∙ ap (λ x. c.self.inside.runs.items ++ x ∷ []) c.in_ok-ran.ensures)
    (subst (λ o. IsEntry g.R.Rules.queries o c.args.key c.args.value c.args.reads) (sym c.self.view_is) c.requires.entry) (number_is g.R.Rules.queries g.R.Key.PartialEq.eq g.met.R.Rules.same_keys c.self.inside.store c.self.inside.revision c.self.inside.runs.items c.args.key (Some c.in-Some.node) (subst (λ o. node_of g.R.Rules.queries o c.args.key ≡ c.args.at_node) (sym c.self.view_is) c.requires.numbered ∙ c.in-Some.is)) c.in_ok-renew-in-Some.ensures.changes).sound

pub returns-in_ok-node-in-None-clause-sound : goal.returns-in_ok-node-in-None-clause-sound
returns-in_ok-node-in-None-clause-sound g c =
    (enter_new g.R.Rules.queries g.met.R.Rules.lawful g.R.Key.PartialEq.eq g.met.R.Rules.same_keys c.self.inside.store c.add.new.self c.self.inside.revision c.self.inside.runs.items c.push_reserved-in-None.new.self.items c.self.invariant.sound (subst (IsUnswept g.R.Rules.queries) (sym c.self.view_is) c.requires.unswept) c.add.ensures.clean_at c.args.key
    c.in_ok-node-in-None.node c.args.value c.args.reads
    (c.push_reserved-in-None.ensures.items ∙ ap (λ l. l ++ c.in_ok-ran.ran ∷ []) c.in_ok-reserve.ensures.items ∙ ap (λ x. c.self.inside.runs.items ++ x ∷ []) c.in_ok-ran.ensures)
    (subst (λ o. IsEntry g.R.Rules.queries o c.args.key c.args.value c.args.reads) (sym c.self.view_is) c.requires.entry) (number_is g.R.Rules.queries g.R.Key.PartialEq.eq g.met.R.Rules.same_keys c.self.inside.store c.self.inside.revision c.self.inside.runs.items c.args.key None (subst (λ o. node_of g.R.Rules.queries o c.args.key ≡ c.args.at_node) (sym c.self.view_is) c.requires.numbered ∙ c.in-None.is)) (subst (λ o. o.demanded_at ≡ o.revision) (sym c.self.view_is) c.requires.fresh) c.in_ok-node-in-None.ensures.ok).sound

pub returns-in_ok-renew-in-Some-clause-unswept : goal.returns-in_ok-renew-in-Some-clause-unswept
returns-in_ok-renew-in-Some-clause-unswept g c =
    (enter_old g.R.Rules.queries g.met.R.Rules.lawful g.R.Key.PartialEq.eq g.met.R.Rules.same_keys c.self.inside.store c.renew.new.self c.self.inside.revision c.self.inside.runs.items c.push_reserved.new.self.items c.self.invariant.sound (subst (IsUnswept g.R.Rules.queries) (sym c.self.view_is) c.requires.unswept) c.renew.ensures.clean_at c.args.key
    g.R.Value.PartialEq.eq g.met.R.Rules.same_values g.met.R.Value.Eq.laws.refl c.in-Some.node c.args.value c.args.reads
    (c.push_reserved.ensures.items ∙ ap (λ l. l ++ c.in_ok-ran.ran ∷ []) c.in_ok-reserve.ensures.items ∙ ap (λ x. c.self.inside.runs.items ++ x ∷ []) c.in_ok-ran.ensures)
    (subst (λ o. IsEntry g.R.Rules.queries o c.args.key c.args.value c.args.reads) (sym c.self.view_is) c.requires.entry) (number_is g.R.Rules.queries g.R.Key.PartialEq.eq g.met.R.Rules.same_keys c.self.inside.store c.self.inside.revision c.self.inside.runs.items c.args.key (Some c.in-Some.node) (subst (λ o. node_of g.R.Rules.queries o c.args.key ≡ c.args.at_node) (sym c.self.view_is) c.requires.numbered ∙ c.in-Some.is)) c.in_ok-renew-in-Some.ensures.changes).unswept

pub returns-in_ok-node-in-None-clause-unswept : goal.returns-in_ok-node-in-None-clause-unswept
returns-in_ok-node-in-None-clause-unswept g c =
    (enter_new g.R.Rules.queries g.met.R.Rules.lawful g.R.Key.PartialEq.eq g.met.R.Rules.same_keys c.self.inside.store c.add.new.self c.self.inside.revision c.self.inside.runs.items c.push_reserved-in-None.new.self.items c.self.invariant.sound (subst (IsUnswept g.R.Rules.queries) (sym c.self.view_is) c.requires.unswept) c.add.ensures.clean_at c.args.key
    c.in_ok-node-in-None.node c.args.value c.args.reads
    (c.push_reserved-in-None.ensures.items ∙ ap (λ l. l ++ c.in_ok-ran.ran ∷ []) c.in_ok-reserve.ensures.items ∙ ap (λ x. c.self.inside.runs.items ++ x ∷ []) c.in_ok-ran.ensures)
    (subst (λ o. IsEntry g.R.Rules.queries o c.args.key c.args.value c.args.reads) (sym c.self.view_is) c.requires.entry) (number_is g.R.Rules.queries g.R.Key.PartialEq.eq g.met.R.Rules.same_keys c.self.inside.store c.self.inside.revision c.self.inside.runs.items c.args.key None (subst (λ o. node_of g.R.Rules.queries o c.args.key ≡ c.args.at_node) (sym c.self.view_is) c.requires.numbered ∙ c.in-None.is)) (subst (λ o. o.demanded_at ≡ o.revision) (sym c.self.view_is) c.requires.fresh) c.in_ok-node-in-None.ensures.ok).unswept

pub add-requires : goal.add-requires
add-requires g c =
    number_is g.R.Rules.queries g.R.Key.PartialEq.eq g.met.R.Rules.same_keys c.self.inside.store c.self.inside.revision c.self.inside.runs.items c.args.key None (subst (λ o. node_of g.R.Rules.queries o c.args.key ≡ c.args.at_node) (sym c.self.view_is) c.requires.numbered ∙ c.in-None.is)
