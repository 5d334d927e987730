use Rattle.std.proofs.Common.{ap, ◌∙◌}
use Rattle.plain_mean.specs.Spelled.{told_path}
use Rattle.plain_mean.proofs.spelled.Answered.path.Goals as goal

pub returns : goal.returns
returns c = c.get.ensures ∙ c.self.invariant c.args.file.now ∙ ap (λ asked. told_path asked c.args.file.now) c.self.view_is
