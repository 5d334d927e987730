use Rattle.std.proofs.Common.{◌++◌, ap, ap₂, sym, ◌∙◌}
use Rattle.std.specs.FinMap.{keys}
use Rattle.doc_texts.proofs.Maps.{keys_seen}
use Rattle.doc_texts.proofs.path_set.PathSet.paths.Goals as goal

pub loop-path-init : goal.loop-path-init
loop-path-init c =
    ap₂ ◌++◌ c.new-paths.ensures.items (c.into_iter-path-iterator.ensures.into_iter_gives ∙ c.keys-path-items.ensures.rest ∙ sym (keys_seen c.self.inside.paths c.keys-path-items.ensures.ordered) ∙ ap keys c.self.view_is)
