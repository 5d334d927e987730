use Rattle.std.proofs.Common.{◌≡◌, ◌++◌, length, map, not}
use Rattle.std.specs.List.{filter}
use Rattle.uri_paths.specs.Parts.{parts, is_empty}
use denote.Text.{Utf8}
use denote.Shadow.{shadow}
use Rattle.uri_paths.proofs.parts.components.Given as goal

abbrev pub invariant-loop-names : goal.invariant-loop-names
invariant-loop-names l = record {
  text : shadow (Utf8 l.rest);
  left : map (λ name. name.now) l.names.items ++ filter (λ part. not (is_empty part)) (parts l.rest) ≡ filter (λ part. not (is_empty part)) (parts l.text);
}

abbrev pub decreases-loop-names : goal.decreases-loop-names
decreases-loop-names l = length l.rest
