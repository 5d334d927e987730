use Rattle.std.proofs.Common.{sym, subst, arith}
use Rattle.query_core.specs.Answering.{IsNumbered}
use Rattle.query_core.specs.Tallies.{AreTallied}
use Rattle.query_core.proofs.Removing.{tallied_exchanged, named_left, removed_seen, count_seen}
use Rattle.query_core.proofs.store.Store.sweep.Goals as goal

pub overflow_sub-result : goal.overflow_sub-result
overflow_sub-result g c =
    let removes = c.remove_unread.ensures c.args.roots.items c.self.inside.clean_at (tallied_exchanged c.self.inside.nodes.slots c.self.inside.tallies c.hold.new.tallies c.self.inside.roots.items c.args.roots.items c.self.invariant.tallied c.in_ok-hold.ensures.ok)
    (subst (IsNumbered g.K.PartialEq.eq) (sym c.self.view_is) c.requires) in
    let a = c.len.ensures in let b = c.len-before.ensures in let f = removes.removing.fewer in omega arith

pub invariant_of-self-2 : goal.invariant_of-self-2
invariant_of-self-2 g c =
    let removes = c.remove_unread.ensures c.args.roots.items c.self.inside.clean_at (tallied_exchanged c.self.inside.nodes.slots c.self.inside.tallies c.hold.new.tallies c.self.inside.roots.items c.args.roots.items c.self.invariant.tallied c.in_ok-hold.ensures.ok)
    (subst (IsNumbered g.K.PartialEq.eq) (sym c.self.view_is) c.requires) in
    record {
      named = named_left c.self.inside.readers c.self.inside.nodes.slots c.remove_unread.new.nodes.slots c.self.invariant.named removes.removing.was;
      tallied = subst (AreTallied c.remove_unread.new.nodes.slots c.remove_unread.new.tallies) (sym c.in_ok-hold.ensures.held) removes.removing.tallied;
    }

pub returns-clause-ok : goal.returns-clause-ok
returns-clause-ok g c =
    let removes = c.remove_unread.ensures c.args.roots.items c.self.inside.clean_at (tallied_exchanged c.self.inside.nodes.slots c.self.inside.tallies c.hold.new.tallies c.self.inside.roots.items c.args.roots.items c.self.invariant.tallied c.in_ok-hold.ensures.ok)
    (subst (IsNumbered g.K.PartialEq.eq) (sym c.self.view_is) c.requires) in
    rw (← c.self.view_is)
    (removed_seen g.K.PartialEq.eq c.args.roots.items c.self.inside.clean_at c.self.inside.nodes.slots c.remove_unread.new.nodes.slots c.self.inside.numbers.entries c.remove_unread.new.numbers.entries c.remove_unread.new.tallies removes)

pub returns-clause-count : goal.returns-clause-count
returns-clause-count g c =
    let removes = c.remove_unread.ensures c.args.roots.items c.self.inside.clean_at (tallied_exchanged c.self.inside.nodes.slots c.self.inside.tallies c.hold.new.tallies c.self.inside.roots.items c.args.roots.items c.self.invariant.tallied c.in_ok-hold.ensures.ok)
    (subst (IsNumbered g.K.PartialEq.eq) (sym c.self.view_is) c.requires) in
    rw (← c.self.view_is)
    (let a = c.len.ensures in let b = c.len-before.ensures in let f = removes.removing.fewer in let n = count_seen c.self.inside.clean_at c.remove_unread.new.nodes.slots in let o = count_seen c.self.inside.clean_at c.self.inside.nodes.slots in omega arith)
