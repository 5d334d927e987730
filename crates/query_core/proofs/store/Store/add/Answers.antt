use Rattle.std.proofs.Common.{rules, ◌≡◌, ◌+◌, ℕ, sym, subst, None, Some, ap, ◌∙◌, slice_index_or}
use Rattle.slab.specs.Slab.{Updates}
use Rattle.query_core.specs.Lists.{Has}
use Rattle.query_core.specs.Tallies.{Lowers, reads_of, occurs}
use Rattle.query_core.proofs.store.Store.add.Goals as goal
use Rattle.query_core.proofs.Slots.{adds, mark_set}
use Rattle.query_core.proofs.Removing.{known_added, known_refused, known_free}
use Rattle.query_core.proofs.Counting.{taken_back}

pub invariant_of-self-in_err-link : goal.invariant_of-self-in_err-link
invariant_of-self-in_err-link g c =
    known_refused c.self.inside.readers c.link.new.self c.self.inside.tallies c.list.new.self c.self.inside.nodes.slots c.reserve.new.self.slots c.self.inside.roots.items c.self.invariant (ap (λ s. s.slots) c.in_ok-reserve.ensures.rest_kept) c.in_err-link.ensures.err
    (λ j. c.list.ensures.counts j ∙ ap (λ t. t.reads) (c.in_ok-cover.ensures.same j)) (λ j h. c.list.ensures.kept j (subst (λ l. Has l j) (sym c.in_ok-cover.ensures.unread) h))

pub invariant_of-self-in_err-raise : goal.invariant_of-self-in_err-raise
invariant_of-self-in_err-raise g c =
    let slots = ap (λ s. s.slots) c.in_ok-reserve.ensures.rest_kept in
    known_free c.self.inside.readers c.link.new.self c.self.inside.tallies c.raise.new.self c.self.inside.nodes.slots c.reserve.new.self.slots c.in_ok-node.node c.self.inside.roots.items c.self.invariant slots
    (ap (λ l. slice_index_or l c.in_ok-node.node None) (sym slots) ∙ c.in_ok-node.ensures.free) c.in_ok-link.ensures.others
    (λ j. c.in_err-raise.ensures.err j ∙ c.list.ensures.counts j ∙ ap (λ t. t.reads) (c.in_ok-cover.ensures.same j))
    (λ j h. subst (λ l. Has l j) (sym c.raise.ensures.unread) (c.list.ensures.kept j (subst (λ l. Has l j) (sym c.in_ok-cover.ensures.unread) h)))

pub invariant_of-self-in_default : goal.invariant_of-self-in_default
invariant_of-self-in_default g c =
    let slots = ap (λ s. s.slots) c.in_ok-reserve.ensures.rest_kept in
    let raised : (j : ℕ) → reads_of c.raise.new.self j ≡ reads_of c.list.new.self j + occurs c.args.added.reads j = subst (λ l. (j : ℕ) → reads_of c.raise.new.self j ≡ reads_of c.list.new.self j + occurs l j) c.as_slice-2.ensures c.in_ok-raise.ensures.ok in
    let lowers = subst (Lowers c.raise.new.self c.lower.new.self) c.as_slice-in_default.ensures c.lower.ensures in
    known_free c.self.inside.readers c.link.new.self c.self.inside.tallies c.lower.new.self c.self.inside.nodes.slots c.reserve.new.self.slots c.in_ok-node.node c.self.inside.roots.items c.self.invariant slots
    (ap (λ l. slice_index_or l c.in_ok-node.node None) (sym slots) ∙ c.in_ok-node.ensures.free) c.in_ok-link.ensures.others
    (λ j. taken_back c.list.new.self c.raise.new.self c.lower.new.self c.args.added.reads raised lowers j ∙ c.list.ensures.counts j ∙ ap (λ t. t.reads) (c.in_ok-cover.ensures.same j))
    (λ j h. lowers.kept j (subst (λ l. Has l j) (sym c.raise.ensures.unread) (c.list.ensures.kept j (subst (λ l. Has l j) (sym c.in_ok-cover.ensures.unread) h))))

pub invariant_of-self-2 : goal.invariant_of-self-2
invariant_of-self-2 g c =
    let slots = ap (λ s. s.slots) c.in_ok-reserve.ensures.rest_kept in
    let at : c.insert_reserved.result ≡ c.in_ok-node.node = c.insert_reserved.ensures.key ∙ sym c.in_ok-node.ensures.next in
    let up = subst (λ i. Updates c.reserve.new.self c.insert_reserved.new.self i (Some c.args.added)) at c.insert_reserved.ensures.updates in
    known_added c.self.inside.readers c.self.inside.tallies c.self.inside.nodes.slots c.insert_reserved.new.self.slots c.in_ok-node.node c.self.inside.roots.items c.self.invariant c.link.new.self c.raise.new.self c.args.added
    (ap (λ l. slice_index_or l c.in_ok-node.node None) (sym slots) ∙ c.in_ok-node.ensures.free) up.changed (λ j n. up.others j n ∙ ap (λ l. slice_index_or l j None) slots)
    (λ j h. c.in_ok-link.ensures.named j (subst (λ l. Has l j) (sym c.as_slice.ensures) h)) c.in_ok-link.ensures.others
    (λ j. c.in_ok-raise.ensures.ok j ∙ ap (λ l. reads_of c.list.new.self j + occurs l j) c.as_slice-2.ensures ∙ ap (λ n. n + occurs c.args.added.reads j) (c.list.ensures.counts j ∙ ap (λ t. t.reads) (c.in_ok-cover.ensures.same j)))
    (λ j h. subst (λ l. Has l j) (sym c.raise.ensures.unread) (c.list.ensures.kept j (subst (λ l. Has l j) (sym c.in_ok-cover.ensures.unread) h)))
    (subst (λ l. Has l c.in_ok-node.node) (sym c.raise.ensures.unread) c.list.ensures.listed)

pub returns-clause-ok : goal.returns-clause-ok
returns-clause-ok g c =
    let at : c.insert_reserved.result ≡ c.in_ok-node.node = c.insert_reserved.ensures.key ∙ sym c.in_ok-node.ensures.next in
    let up = subst (λ i. Updates c.reserve.new.self c.insert_reserved.new.self i (Some c.args.added)) at c.insert_reserved.ensures.updates in
    rw (← c.self.view_is)
    (adds c.self.inside.nodes.slots c.insert_reserved.new.self.slots c.self.inside.numbers.entries c.insert.new.self.entries c.self.inside.clean_at c.in_ok-node.node
    (λ j n. up.others j n ∙ ap (λ s. slice_index_or s.slots j None) c.in_ok-reserve.ensures.rest_kept) g.K.PartialEq.eq c.args.added
    (ap (λ s. slice_index_or s.slots c.in_ok-node.node None) (sym c.in_ok-reserve.ensures.rest_kept) ∙ c.in_ok-node.ensures.free) up.changed (search rules))

pub returns-clause-marks : goal.returns-clause-marks
returns-clause-marks g c =
    let at : c.insert_reserved.result ≡ c.in_ok-node.node = c.insert_reserved.ensures.key ∙ sym c.in_ok-node.ensures.next in
    let up = subst (λ i. Updates c.reserve.new.self c.insert_reserved.new.self i (Some c.args.added)) at c.insert_reserved.ensures.updates in
    rw (← c.self.view_is)
    (mark_set c.self.inside.nodes.slots c.insert_reserved.new.self.slots c.self.inside.numbers.entries c.insert.new.self.entries c.self.inside.clean_at c.in_ok-node.node
    (λ j n. up.others j n ∙ ap (λ s. slice_index_or s.slots j None) c.in_ok-reserve.ensures.rest_kept) (Some c.args.added) up.changed)
