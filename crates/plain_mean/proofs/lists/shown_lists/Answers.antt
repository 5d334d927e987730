use Rattle.std.proofs.Common.{bytes_eq, ap, ◌∙◌}
use Rattle.std.specs.List.{list_any}
use Rattle.doc_texts.specs.Texts.{paths_of}
use Rattle.plain_mean.specs.Gathered.{faults_at}
use Rattle.plain_mean.specs.Lists.{shown_in}
use Rattle.plain_mean.specs.Marks.{is_marked}
use Rattle.plain_mean.proofs.Listed.{all_right}
use Rattle.plain_mean.proofs.lists.shown_lists.Goals as goal

pub returns-clause-shown : goal.returns-clause-shown
returns-clause-shown c = λ fs rs are q.
    all_right c.args.lexings.now fs rs q (list_any (bytes_eq q) c.as_slice.result.now) (is_marked c.args.gathered.now.reads q) (faults_at c.args.gathered.now.faults q) (shown_in c.in_ok-lists.lists q)
    (c.in_ok-lists.ensures.listed q)
    (ap (list_any (bytes_eq q)) (c.as_slice.ensures.value ∙ c.in_ok-paths.ensures ∙ ap paths_of c.docs.ensures) ∙ c.paths_are_sets.ensures.members c.args.lexings.now q)
    (are.faults q) (are.reads q)
