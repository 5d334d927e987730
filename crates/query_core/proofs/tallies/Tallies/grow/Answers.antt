use Rattle.std.proofs.Common.{◌+◌, ◌≤◌, ◌++◌, ◌∷◌, [], List, length, sym, ap, subst, ◌∙◌, false, arith}
use Rattle.std.specs.Vec.{vec_capacity}
use Rattle.query_core.specs.Tallies.{AreListed}
use Rattle.query_core.specs.declared.tallies.Tally.{Tally}
use Rattle.query_core.proofs.Counting.{grown}
use Rattle.query_core.proofs.tallies.Tallies.grow.Goals as goal

pub invariant_of-self-2 : goal.invariant_of-self-2
invariant_of-self-2 c =
    let room : length c.self.inside.tallies.items + 1 ≤ vec_capacity c.reserve-2.new.self = (let a = c.len-wanted.ensures in let b = c.reserve.new.self.ok.0 in let d = ap length c.in_ok-reserve.ensures.items in let e = c.saturating_sub.ensures in
    let f = c.len.ensures in let h = c.in_ok-reserve-2.ensures.len in let o = c.in_ok-reserve-2.ensures.ok in omega arith) in
    subst (λ l. AreListed l c.reserve-2.new.self.items (vec_capacity c.reserve-2.new.self)) (sym (c.push_reserved.ensures.items ∙ ap (λ (l : List Tally). l ++ (record { reads = 0; listed = false }) ∷ []) c.in_ok-reserve.ensures.items))
    (subst (λ l. AreListed (c.self.inside.tallies.items ++ (record { reads = 0; listed = false }) ∷ []) l (vec_capacity c.reserve-2.new.self)) (sym c.in_ok-reserve-2.ensures.items)
    (grown c.self.inside.tallies.items c.self.inside.unread.items (vec_capacity c.self.inside.unread) (vec_capacity c.reserve-2.new.self) c.self.invariant room))
