use Rattle.doc_texts.proofs.Copied.{entry_again}
use Rattle.doc_texts.proofs.copies.disk_again.Goals as goal

pub loop-entry-preserved-in_ok-insert : goal.loop-entry-preserved-in_ok-insert
loop-entry-preserved-in_ok-insert c =
    record {
      same = entry_again c.loop-entry.copy.entries c.loop-entry.entry-iterator c.next.new.self _ _ c.in-Some.entry.0.now _ c.in-Some.entry.1.now _ c.loop-entry.invariant.ordered c.loop-entry.invariant.same c.in-Some.ensures.steps c.in_ok-insert.ensures.entries c.in_ok-share.ensures c.in_ok-share-2.ensures;
      ordered = c.loop-entry.invariant.ordered;
    }

pub loop-entry-preserved : goal.loop-entry-preserved
loop-entry-preserved c =
    record {
      same = entry_again c.loop-entry.copy.entries c.loop-entry.entry-iterator c.next.new.self _ _ c.in-Some.entry.0.now _ c.in-Some.entry.1.now _ c.loop-entry.invariant.ordered c.loop-entry.invariant.same c.in-Some.ensures.steps c.in_ok-insert.ensures.entries c.in_ok-share.ensures c.in_ok-share-2.ensures;
      ordered = c.loop-entry.invariant.ordered;
    }
