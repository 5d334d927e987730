use Rattle.std.proofs.Common.{ap, ◌∙◌}
use Rattle.std.specs.List.{list_any}
use Rattle.unit_index.specs.Files.{has_file, introduces_in}
use Rattle.unit_index.specs.Groups.{same_file}
use Rattle.unit_index.proofs.piece.Piece.files.Goals as goal

pub returns : goal.returns
unfolding has_file
returns c = λ f. ap (list_any (same_file f)) c.as_slice.ensures.keys ∙ c.self.invariant.files f ∙ ap (list_any (introduces_in f)) c.self.view_is
