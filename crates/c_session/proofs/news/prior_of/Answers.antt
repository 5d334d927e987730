use Rattle.std.proofs.Common.{◌∙◌}
use Rattle.c_session.proofs.Remembered.{prior_told}
use Rattle.c_session.proofs.news.prior_of.Goals as goal

pub returns : goal.returns
returns c =
    prior_told c.args.old.now c.args.new.now c.new-prior.result c.remember_all.new.prior c.remember_all-2.new.prior c.as_slice.result.now c.as_slice-2.result.now
    c.new-prior.ensures (c.as_slice.ensures.value ∙ c.in_ok-paths.ensures) c.in_ok-remember_all.ensures (c.as_slice-2.ensures.value ∙ c.in_ok-paths-2.ensures) c.in_ok-remember_all-2.ensures
