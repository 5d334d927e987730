use Rattle.std.proofs.Common.{◌≡◌, ◌+◌, true, cond, refl, IsSome, sym, ap, subst, ◌∙◌}
use Rattle.query_core.specs.Lists.{Has}
use Rattle.query_core.specs.Stored.{node_at}
use Rattle.query_core.specs.Tallies.{Lowers, reads_of, occurs}
use Rattle.query_core.proofs.store.Store.renew.Goals as goal
use Rattle.query_core.proofs.Calls.{is_some_from}
use Rattle.query_core.proofs.Slots.{kept_of, some_of, renew_changes, renew_marks}
use Rattle.query_core.proofs.Removing.{known_same, known_renewed, known_refused}
use Rattle.query_core.proofs.Counting.{taken_back}

pub reads_at-before-requires : goal.reads_at-before-requires
reads_at-before-requires g c =
    let s = some_of _ (subst (λ o. IsSome (node_at o c.args.node)) (sym c.self.view_is) c.requires.stands) in
    let k = kept_of c.self.inside.nodes.slots c.self.inside.numbers.entries c.self.inside.clean_at c.args.node s.0 s.1 in
    is_some_from _ k.0 k.1.0

pub invariant_of-self : goal.invariant_of-self
invariant_of-self g c =
    let s = some_of _ (subst (λ o. IsSome (node_at o c.args.node)) (sym c.self.view_is) c.requires.stands) in
    let k = kept_of c.self.inside.nodes.slots c.self.inside.numbers.entries c.self.inside.clean_at c.args.node s.0 s.1 in
    let u = c.set_run.ensures.some k.0 k.1.0 in
    known_same c.self.inside.readers c.self.inside.tallies c.self.inside.nodes.slots c.set_run.new.nodes.slots c.args.node c.self.inside.roots.items c.self.invariant k.0
    (record k.0 { value = c.args.value; reads = c.args.reads; clean = true; changed_at = cond (g.V.PartialEq.eq k.0.value c.args.value) k.0.changed_at c.args.now }) k.1.0 u.changed
    (sym (sym (c.reads_at-before.ensures k.0 k.1.0) ∙ c.are_same.ensures c.if-are_same.true ∙ c.as_slice.ensures)) refl u.others

pub returns-then-are_same-clause-changes : goal.returns-then-are_same-clause-changes
returns-then-are_same-clause-changes g c =
    rw (← c.self.view_is)
    (renew_changes c.self.inside.nodes c.set_run.new.nodes c.self.inside.numbers.entries c.self.inside.clean_at c.args.node g.V.PartialEq.eq c.args.value c.args.reads c.args.now c.set_run.ensures.some
    (subst (λ o. o.clean_at ≡ c.args.now) (sym c.self.view_is) c.requires.fresh))

pub returns-then-are_same-clause-marks : goal.returns-then-are_same-clause-marks
returns-then-are_same-clause-marks g c =
    rw (← c.self.view_is)
    (renew_marks c.self.inside.nodes c.set_run.new.nodes c.self.inside.numbers.entries c.self.inside.clean_at c.args.node g.V.PartialEq.eq c.args.value c.args.reads c.args.now c.set_run.ensures.some
    (subst (λ o. IsSome (node_at o c.args.node)) (sym c.self.view_is) c.requires.stands))

pub invariant_of-self-in_default : goal.invariant_of-self-in_default
invariant_of-self-in_default g c =
    let lowers = subst (Lowers c.raise.new.self c.lower.new.self) (c.as_slice-in_default.ensures ∙ sym c.as_slice-2.ensures) c.lower.ensures in
    known_refused c.self.inside.readers c.link.new.self c.self.inside.tallies c.lower.new.self c.self.inside.nodes.slots c.self.inside.nodes.slots c.self.inside.roots.items c.self.invariant refl c.in_default.ensures.err
    (taken_back c.self.inside.tallies c.raise.new.self c.lower.new.self c.as_slice-2.result.now c.in_ok-raise.ensures.ok lowers)
    (λ j h. lowers.kept j (subst (λ l. Has l j) (sym c.raise.ensures.unread) h))

pub invariant_of-self-2 : goal.invariant_of-self-2
invariant_of-self-2 g c =
    let s = some_of _ (subst (λ o. IsSome (node_at o c.args.node)) (sym c.self.view_is) c.requires.stands) in
    let k = kept_of c.self.inside.nodes.slots c.self.inside.numbers.entries c.self.inside.clean_at c.args.node s.0 s.1 in
    let u = c.set_run-2.ensures.some k.0 k.1.0 in
    known_renewed c.self.inside.readers c.self.inside.tallies c.self.inside.nodes.slots c.set_run-2.new.nodes.slots c.args.node c.self.inside.roots.items c.self.invariant c.link.new.self c.raise.new.self c.lower-2.new.self k.0
    (record k.0 { value = c.args.value; reads = c.args.reads; clean = true; changed_at = cond (g.V.PartialEq.eq k.0.value c.args.value) k.0.changed_at c.args.now }) k.1.0 u.changed refl u.others
    (λ j has. c.in-Ok.ensures.named j (subst (λ l. Has l j) (sym c.as_slice-3.ensures) has)) c.in-Ok.ensures.others
    (λ j. c.in_ok-raise.ensures.ok j ∙ ap (λ l. reads_of c.self.inside.tallies j + occurs l j) c.as_slice-2.ensures) c.raise.ensures.unread
    (subst (Lowers c.raise.new.self c.lower-2.new.self) (c.reads_at-before.ensures k.0 k.1.0) c.lower-2.ensures)

pub returns-clause-changes : goal.returns-clause-changes
returns-clause-changes g c =
    rw (← c.self.view_is)
    (renew_changes c.self.inside.nodes c.set_run-2.new.nodes c.self.inside.numbers.entries c.self.inside.clean_at c.args.node g.V.PartialEq.eq c.args.value c.args.reads c.args.now c.set_run-2.ensures.some
    (subst (λ o. o.clean_at ≡ c.args.now) (sym c.self.view_is) c.requires.fresh))

pub returns-clause-marks : goal.returns-clause-marks
returns-clause-marks g c =
    rw (← c.self.view_is)
    (renew_marks c.self.inside.nodes c.set_run-2.new.nodes c.self.inside.numbers.entries c.self.inside.clean_at c.args.node g.V.PartialEq.eq c.args.value c.args.reads c.args.now c.set_run-2.ensures.some
    (subst (λ o. IsSome (node_at o c.args.node)) (sym c.self.view_is) c.requires.stands))
