use Rattle.std.proofs.Common.{◌≡◌, ◌++◌, length, map}
use Rattle.std.specs.List.Sorted.{IsStrictlySortedBy}
use Rattle.doc_texts.specs.Edited.{CanAllBeMade}
use Rattle.plain_mean.specs.Ranges.{AreShort, plain, ranges_at_path, ranges_of, tok_cmp}
use Rattle.plain_mean.proofs.ranges.edits_of.Given as goal

abbrev pub invariant-turn : goal.invariant-turn
invariant-turn l = record {
  made : map plain l.edits.items ++ map (ranges_at_path l.docs l.toks) l.rest ≡ ranges_of l.docs l.toks;
  can : AreShort l.docs → IsStrictlySortedBy tok_cmp l.toks → CanAllBeMade l.docs l.edits.items;
}

abbrev pub decreases-turn : goal.decreases-turn
decreases-turn l = length l.rest
