use Rattle.std.proofs.Common.{◌≡◌, length}
use Rattle.c_session.specs.Ties.News.{all_remembered}
use Rattle.c_session.proofs.news.remember_all.Given as goal

abbrev pub invariant-files : goal.invariant-files
invariant-files l = all_remembered l.prior l.docs l.rest ≡ all_remembered l.fn.prior l.fn.docs l.fn.paths

abbrev pub decreases-files : goal.decreases-files
decreases-files l = length l.rest
