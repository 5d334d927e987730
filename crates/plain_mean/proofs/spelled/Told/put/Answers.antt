use Rattle.std.proofs.Common.{Some, ◌∙◌}
use Rattle.plain_mean.specs.Reads.{path_in}
use Rattle.plain_mean.proofs.Keys.{updated}
use Rattle.plain_mean.proofs.Spelling.{put_here}
use Rattle.plain_mean.proofs.spelled.Told.put.Goals as goal

pub returns : goal.returns
unfolding path_in
returns c = λ q.
    updated c.args.self.now.paths c.insert.new.self c.from_name-file.result (Some c.in_ok-copy.copy) c.in_ok-insert.ensures.updates.0 q
    ∙ put_here q c.from_name-file.result c.in_ok-copy.copy c.args.path.now (path_in c.args.self.now q)
    (c.from_name-file.ensures ∙ c.in_ok-name.ensures ∙ c.as_str.ensures.text) c.in_ok-copy.ensures
