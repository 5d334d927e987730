use Rattle.std.proofs.Common.{[], sym, subst}
use Rattle.std.specs.FinMap.{from_entries}
use Rattle.doc_texts.specs.Kept.{Counted}
use Rattle.doc_texts.proofs.Counts.{nothing_counted}
use Rattle.doc_texts.proofs.docs.Docs.new.Goals as goal

pub invariant_of-result : goal.invariant_of-result
invariant_of-result c =
    subst (λ opened. Counted (record { root = c.args.root; disk = from_entries c.new.result.entries; opened = from_entries opened }) 0 0) (sym c.new-2.ensures.empty)
    (subst (λ disk. Counted (record { root = c.args.root; disk = from_entries disk; opened = from_entries [] }) 0 0) (sym c.new.ensures.empty) (nothing_counted c.args.root))
