use Rattle.std.proofs.Common.{◌≡◌, length}
use Rattle.uri_paths.specs.Uris.{has_dots}
use denote.Text.{Utf8}
use denote.Shadow.{shadow}
use Rattle.uri_paths.proofs.parts.has_dots.Given as goal

abbrev pub invariant-loop-part : goal.invariant-loop-part
invariant-loop-part l = record {
  text : shadow (Utf8 l.rest);
  left : has_dots l.rest ≡ has_dots l.text;
}

abbrev pub decreases-loop-part : goal.decreases-loop-part
decreases-loop-part l = length l.rest
