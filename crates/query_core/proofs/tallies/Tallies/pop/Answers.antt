use Rattle.std.proofs.Common.{slice_set, sym, subst, refl, false, arith}
use Rattle.std.specs.Vec.{vec_capacity}
use Rattle.query_core.specs.Tallies.{AreListed}
use Rattle.query_core.proofs.Counting.{taken_off, taken_past, popped, set_long, listed_most}
use Rattle.query_core.proofs.tallies.Tallies.pop.Goals as goal

pub invariant_of-self-then-node-len : goal.invariant_of-self-then-node-len
invariant_of-self-then-node-len c =
    subst (λ n. AreListed c.self.inside.tallies.items c.pop.new.self.items n) (sym c.in_ok-node.ensures.capacity)
    (taken_past c.self.inside.tallies.items c.self.inside.unread.items c.pop.new.self.items (vec_capacity c.self.inside.unread) c.in_ok-node.node c.self.invariant
    (let h = c.if-node-len.true in let e = c.len.ensures in let o = c.self.inside.tallies.ok.0 in omega arith) c.in_ok-node.ensures.items
    (let a = c.in_ok-node.ensures.len in let b = c.pop.new.self.ok.0 in let d = c.self.inside.unread.ok.0 in omega arith))

pub returns-then-node-len-clause-some : goal.returns-then-node-len-clause-some
returns-then-node-len-clause-some c = rw (← c.self.view_is) (popped c.self.inside.unread.items c.pop.new.self.items c.in_ok-node.node c.in_ok-node.ensures.items)

pub invariant_of-self-2 : goal.invariant_of-self-2
invariant_of-self-2 c =
    subst (λ n. AreListed (slice_set c.self.inside.tallies.items c.in_ok-node.node (record { reads = c.index_mut.result.now.reads; listed = false })) c.pop.new.self.items n) (sym c.in_ok-node.ensures.capacity)
    (taken_off c.self.inside.tallies.items c.self.inside.unread.items c.pop.new.self.items (vec_capacity c.self.inside.unread) c.in_ok-node.node (record { reads = c.index_mut.result.now.reads; listed = false }) c.self.invariant
    (let h = c.if-node-len.false in let e = c.len.ensures in let o = c.self.inside.tallies.ok.0 in omega arith) refl c.in_ok-node.ensures.items
    (let a = c.in_ok-node.ensures.len in let b = c.pop.new.self.ok.0 in let d = c.self.inside.unread.ok.0 in omega arith)
    (set_long c.self.inside.tallies.items c.in_ok-node.node (record { reads = c.index_mut.result.now.reads; listed = false })))

pub returns-clause-some : goal.returns-clause-some
returns-clause-some c = rw (← c.self.view_is) (popped c.self.inside.unread.items c.pop.new.self.items c.in_ok-node.node c.in_ok-node.ensures.items)

pub returns-then-node-len-clause-bounded : goal.returns-then-node-len-clause-bounded
returns-then-node-len-clause-bounded c =
    let a = c.in_ok-node.ensures.len in let b = c.pop.new.self.ok.0 in let d = c.self.inside.unread.ok.0 in let f = c.self.invariant.fits in let m = listed_most c.self.inside.tallies.items in omega arith

pub returns-clause-bounded : goal.returns-clause-bounded
returns-clause-bounded c =
    let a = c.in_ok-node.ensures.len in let b = c.pop.new.self.ok.0 in let d = c.self.inside.unread.ok.0 in let f = c.self.invariant.fits in let m = listed_most c.self.inside.tallies.items in
    let s = set_long c.self.inside.tallies.items c.in_ok-node.node (record { reads = c.index_mut.result.now.reads; listed = false }) in omega arith
