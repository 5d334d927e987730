use Rattle.std.proofs.Common.{ap, ◌∙◌}
use Rattle.std.specs.FinMap.{insert}
use Rattle.doc_texts.proofs.Maps.{seen_put}
use Rattle.doc_texts.proofs.path_set.PathSet.insert.Goals as goal

pub returns-clause-ok : goal.returns-clause-ok
returns-clause-ok c =
    seen_put c.self.inside.paths c.insert.new.self c.args.path tt c.in_ok-insert.ensures.updates.0
    ∙ ap (λ set. insert set c.args.path tt) c.self.view_is
