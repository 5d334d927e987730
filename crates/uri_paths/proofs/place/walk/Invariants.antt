use Rattle.std.proofs.Common.{◌≡◌, length, map}
use Rattle.uri_paths.specs.Parts.{parts}
use Rattle.uri_paths.specs.Paths.{walk}
use denote.Text.{Utf8}
use denote.Shadow.{shadow}
use Rattle.uri_paths.proofs.place.walk.Given as goal

abbrev pub invariant-loop-folder : goal.invariant-loop-folder
invariant-loop-folder l = record {
  text : shadow (Utf8 l.rest);
  left : walk (map (λ name. name.now) l.folder.items) (parts l.rest) ≡ walk (map (λ name. name.now) l.initial.folder.items) (parts l.name);
}

abbrev pub decreases-loop-folder : goal.decreases-loop-folder
decreases-loop-folder l = length l.rest
