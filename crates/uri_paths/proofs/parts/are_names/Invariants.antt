use Rattle.std.proofs.Common.{◌≡◌, length}
use Rattle.std.specs.List.{list_all}
use Rattle.uri_paths.specs.Parts.{parts, is_name}
use denote.Text.{Utf8}
use denote.Shadow.{shadow}
use Rattle.uri_paths.proofs.parts.are_names.Given as goal

abbrev pub invariant-loop-more : goal.invariant-loop-more
invariant-loop-more l = record {
  text : shadow (Utf8 l.rest);
  left : list_all is_name (parts l.rest) ≡ list_all is_name (parts l.text);
}

abbrev pub decreases-loop-more : goal.decreases-loop-more
decreases-loop-more l = length l.rest
