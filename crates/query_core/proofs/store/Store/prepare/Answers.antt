use Rattle.std.proofs.Common.{sym, subst}
use Rattle.query_core.specs.Readers.{Reaches}
use Rattle.query_core.specs.Stored.{clean_in}
use Rattle.query_core.proofs.Reached.{prepared, prepared_same, named_opened}
use Rattle.query_core.proofs.Removing.{tallied_seen}
use Rattle.query_core.proofs.store.Store.prepare.Goals as goal

pub returns-then-has_value-clause-ok : goal.returns-then-has_value-clause-ok
returns-then-has_value-clause-ok g c = prepared_same g.V.PartialEq.eq c.args.value.now c.args.self.now c.args.node (c.has_value.ensures c.if-has_value.true)

pub returns-clause-ok : goal.returns-clause-ok
returns-clause-ok g c =
    rw (← c.self.view_is)
    (prepared g.V.PartialEq.eq c.args.value.now c.self.inside.readers c.self.inside.nodes.slots c.unmark_all.new.nodes.slots c.self.inside.numbers.entries c.self.inside.clean_at c.args.node c.self.invariant.named c.as_slice.result.now
    (subst (Reaches c.self.inside.readers (clean_in c.self.inside.nodes.slots) c.args.node) (sym c.as_slice.ensures) c.in_ok-reached.ensures) c.unmark_all.ensures)

pub invariant_of-self : goal.invariant_of-self
invariant_of-self g c = record {
  named =
      named_opened g.V.PartialEq.eq c.args.value.now c.self.inside.readers c.self.inside.nodes.slots c.unmark_all.new.nodes.slots c.self.inside.numbers.entries c.self.inside.clean_at c.args.node c.self.invariant.named c.as_slice.result.now
      c.unmark_all.ensures;
  tallied = tallied_seen c.self.inside.clean_at c.self.inside.nodes.slots c.unmark_all.new.nodes.slots c.self.inside.tallies c.self.inside.roots.items c.self.invariant.tallied c.unmark_all.ensures.seen;
}
