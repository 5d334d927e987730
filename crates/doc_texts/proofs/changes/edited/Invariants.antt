use Rattle.std.proofs.Common.{◌≡◌, ◌≤◌, length}
use Rattle.std.specs.String.{string_bytes}
use Rattle.doc_texts.specs.Docs.{all_edited}
use Rattle.doc_texts.specs.Limits.{longest_kept}
use Rattle.doc_texts.proofs.changes.edited.Given as goal

abbrev pub invariant-loop-change : goal.invariant-loop-change
invariant-loop-change l = record {
  made : all_edited (string_bytes l.text) l.rest l.encoding ≡ all_edited l.fn.text l.changes l.encoding;
  short : length (string_bytes l.text) ≤ longest_kept;
}

abbrev pub decreases-loop-change : goal.decreases-loop-change
decreases-loop-change l = length l.rest
