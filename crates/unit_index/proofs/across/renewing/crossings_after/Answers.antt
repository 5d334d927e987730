use Rattle.std.proofs.Common.{ap}
use Rattle.unit_index.specs.Matching.{matched}
use Rattle.unit_index.specs.News.{has}
use Rattle.unit_index.proofs.CrossLemmas.{exact_tells, matched_tells}
use Rattle.unit_index.proofs.RenewLemmas.{after_news}
use Rattle.unit_index.proofs.across.renewing.crossings_after.Goals as goal

pub returns-clause-meant : goal.returns-clause-meant
returns-clause-meant c = λ test exact ss are was.
    after_news test ss c.args.units.now c.args.news.now _ _ c.names-names.result.now c.shifts-shifts.result.now c.args.kept.now _ (λ q. ap (λ n. has n q) c.names-names.ensures) c.shifts-shifts.ensures
    c.in_ok-firsts.ensures (c.in_ok-all.ensures test (exact_tells test exact)) are was

pub returns-clause-value : goal.returns-clause-value
returns-clause-value c = λ ss are was.
    after_news matched ss c.args.units.now c.args.news.now _ _ c.names-names.result.now c.shifts-shifts.result.now c.args.kept.now _ (λ q. ap (λ n. has n q) c.names-names.ensures) c.shifts-shifts.ensures
    c.in_ok-firsts.ensures (c.in_ok-all.ensures matched matched_tells) are was
