use Rattle.unit_index.proofs.NewsLemmas.{no_news}
use Rattle.unit_index.proofs.across.news.News.new.Goals as goal

pub returns : goal.returns
returns c = no_news _ c.new.ensures.items
