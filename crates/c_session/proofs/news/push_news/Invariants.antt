use Rattle.std.proofs.Common.{◌≡◌, ◌++◌, flat_map, length, option_map}
use Rattle.plain_mean.specs.Lists.{shown_in}
use Rattle.c_session.specs.Ties.News.{touched_by, news_of, news}
use Rattle.c_session.proofs.news.push_news.Given as goal

abbrev pub invariant-files : goal.invariant-files
invariant-files l =
    l.out.items ++ flat_map (news_of (touched_by (option_map (λ p. p.now) l.change.touched)) l.encoding (shown_in l.change.before.now) (shown_in l.change.after.now) l.change.prior.now l.docs) l.rest
    ≡ l.fn.out.items ++ news (touched_by (option_map (λ p. p.now) l.fn.change.touched)) l.fn.encoding (shown_in l.fn.change.before.now) (shown_in l.fn.change.after.now) l.fn.change.prior.now l.fn.docs

abbrev pub decreases-files : goal.decreases-files
decreases-files l = length l.rest
