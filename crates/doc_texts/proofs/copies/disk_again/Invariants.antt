use Rattle.std.proofs.Common.{◌≡◌, ◌++◌}
use Rattle.std.specs.List.Sorted.{IsStrictlySortedBy}
use Rattle.std.specs.Map.{keys_of}
use Rattle.doc_texts.proofs.Maps.{by_bytes}
use Rattle.doc_texts.proofs.copies.disk_again.Given as goal

abbrev pub invariant-loop-entry : goal.invariant-loop-entry
invariant-loop-entry l = record {
  same : l.copy.entries ++ l.entry-iterator ≡ l.fn.disk.entries;
  ordered : IsStrictlySortedBy by_bytes (keys_of l.fn.disk.entries);
}
