use Rattle.std.proofs.Common.{arith, refl, ◌∙◌, ap, sym, length, take, drop, length-drop, length-take}
use Rattle.std.specs.List.{concat}
use Rattle.io_edges.specs.contracts.mem_wire.MemWire.{the_view}
use Rattle.io_edges.proofs.PieceLemmas.{taking_drops, next_is_front, next_within, none_at_end}
use Rattle.io_edges.proofs.WireLemmas.{told_after, held_after}
use Rattle.io_edges.proofs.mem_wire.MemWireWire.read.Goals as goal

pub invariant_of-self-then-count-eq0 : goal.invariant_of-self-then-count-eq0
invariant_of-self-then-count-eq0 c =
    let d = ap concat c.take-count.ensures.left ∙ taking_drops c.take-count.result c.self.inside.pieces (omega arith) in
    let l = ap length d ∙ length-drop c.take-count.result (concat c.self.inside.pieces) in
    (omega arith, omega arith)

pub returns-then-count-eq0-clause-taken : goal.returns-then-count-eq0-clause-taken
returns-then-count-eq0-clause-taken c =
    let d = ap concat c.take-count.ensures.left ∙ taking_drops c.take-count.result c.self.inside.pieces (omega arith) in
    let e = d ∙ ap (λ k. drop k (concat c.self.inside.pieces)) c.if-count-eq0.true in
    rw (← c.self.view_is) (rw e refl)

pub returns-then-count-eq0-clause-at_end : goal.returns-then-count-eq0-clause-at_end
returns-then-count-eq0-clause-at_end c = λ _. rw (← c.self.view_is) (none_at_end c.self.inside.pieces (omega arith))

pub invariant_of-self-2 : goal.invariant_of-self-2
invariant_of-self-2 c =
    let d = ap concat c.take-count.ensures.left ∙ taking_drops c.take-count.result c.self.inside.pieces (omega arith) in
    let l = ap length d ∙ length-drop c.take-count.result (concat c.self.inside.pieces) in
    let w = next_within c.self.inside.pieces in
    (omega arith, omega arith)

pub push_reserved-requires : goal.push_reserved-requires
push_reserved-requires c = let w = next_within c.self.inside.pieces in omega arith

pub returns-clause-taken : goal.returns-clause-taken
returns-clause-taken c =
    let d = ap concat c.take-count.ensures.left ∙ taking_drops c.take-count.result c.self.inside.pieces (omega arith) in
    rw (← c.self.view_is)
    (told_after (take c.take-count.result c.take-count.new.into) c.take-count.result c.self.inside.taken (concat c.self.inside.pieces) (concat c.take-count.new.self)
    c.self.inside.sink.written c.self.inside.marks.items c.push_reserved.new.self.items
    (record { taken = c.self.inside.taken; written = length c.written.result.now })
    (omega (arith, length-take c.take-count.result c.take-count.new.into)) (omega arith) d (ap (λ k. record { taken = c.self.inside.taken; written = k }) (ap length c.written.ensures.written)) c.push_reserved.ensures.items)

pub returns-clause-front : goal.returns-clause-front
returns-clause-front c = rw (← c.self.view_is) (next_is_front c.take-count.result c.self.inside.pieces (omega arith) ∙ sym c.take-count.ensures.front)

pub returns-clause-after : goal.returns-clause-after
returns-clause-after c = rw (← c.self.view_is)
    (held_after (the_view c.self.inside) c.take-count.result c.take-count.new.self c.saturating_add-self-inside.result
    (record { taken = c.self.inside.taken; written = length c.written.result.now }) c.push_reserved.new.self.items (omega arith)
    c.take-count.ensures.left c.saturating_add-self-inside.ensures
    (ap (λ k. record { taken = c.self.inside.taken; written = k }) (ap length c.written.ensures.written)) c.push_reserved.ensures.items)
