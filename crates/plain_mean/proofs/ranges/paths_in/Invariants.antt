use Rattle.std.proofs.Common.{◌≡◌, length}
use Rattle.std.specs.List.{filter_map}
use Rattle.doc_texts.specs.Texts.{add_all, marked}
use Rattle.uri_paths.specs.Paths.{path_read}
use Rattle.plain_mean.proofs.ranges.paths_in.Given as goal

abbrev pub invariant-turn : goal.invariant-turn
invariant-turn l = add_all l.set (filter_map (λ t. path_read t.file) l.rest) ≡ marked (filter_map (λ t. path_read t.file) l.toks)

abbrev pub decreases-turn : goal.decreases-turn
decreases-turn l = length l.rest
