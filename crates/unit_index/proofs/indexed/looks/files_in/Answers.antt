use Rattle.std.proofs.Common.{◌||◌, refl, ap, ◌∙◌}
use Rattle.std.specs.List.{list_any}
use Rattle.unit_index.specs.Files.{introduces_in}
use Rattle.unit_index.proofs.PieceLemmas.{any_pieces}
use Rattle.unit_index.proofs.indexed.looks.files_in.Goals as goal

pub pieces-init : goal.pieces-init
pieces-init c = λ f. ap (λ b. b || list_any (λ p. list_any (introduces_in f) p.value) c.args.pieces.now) (c.no_files-files.ensures f) ∙ any_pieces c.args.pieces.now (λ p. p.value) _ refl (introduces_in f)
