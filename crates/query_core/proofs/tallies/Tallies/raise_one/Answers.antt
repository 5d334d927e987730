use Rattle.std.proofs.Common.{◌<◌, ◌+◌, length, sym, ap, subst}
use Rattle.std.specs.Vec.{vec_capacity}
use Rattle.query_core.proofs.Counting.{rewritten, tally_is, set_long}
use Rattle.query_core.proofs.tallies.Tallies.raise_one.Goals as goal

pub invariant_of-self : goal.invariant_of-self
invariant_of-self c =
    let lt : c.args.node < length c.self.inside.tallies.items = subst (λ o. c.args.node < length o.tallies) (sym c.self.view_is) c.requires.covered in
    rewritten c.self.inside.tallies.items c.self.inside.unread.items (vec_capacity c.self.inside.unread) c.args.node (record { reads = c.index_mut.result.now.reads + 1; listed = c.index_mut.result.now.listed }) c.self.invariant lt
    (ap (λ t. t.listed) (tally_is c.self.inside.tallies.items c.args.node c.index_mut.result.now lt c.index_mut.ensures.value))
    (set_long c.self.inside.tallies.items c.args.node (record { reads = c.index_mut.result.now.reads + 1; listed = c.index_mut.result.now.listed }))
