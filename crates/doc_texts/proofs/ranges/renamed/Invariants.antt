use Rattle.std.proofs.Common.{◌≡◌, ◌≤◌, ◌<◌, ◌*◌, ◌++◌, length, drop}
use Rattle.std.specs.Str.{IsCharBoundary}
use Rattle.std.specs.String.{string_bytes}
use Rattle.doc_texts.specs.Edited.{renamed, Stand}
use Rattle.doc_texts.specs.Limits.{longest_name}
use Rattle.doc_texts.proofs.ranges.renamed.Given as goal

abbrev pub invariant-turn : goal.invariant-turn
invariant-turn l = record {
  same : string_bytes l.made ++ drop l.at (renamed l.fn.name l.rest l.fn.text) ≡ renamed l.fn.name l.fn.ranges l.fn.text;
  stand : Stand l.fn.text l.at l.rest;
  bound : 0 < l.at → IsCharBoundary l.fn.text l.at;
  within : l.at ≤ length l.fn.text;
  short : length (string_bytes l.made) ≤ longest_name * l.at;
}

abbrev pub decreases-turn : goal.decreases-turn
decreases-turn l = length l.rest
