use Rattle.unit_index.proofs.across.news.News.is_none.Goals as goal

pub returns : goal.returns
returns c = λ yes ss ts are. are.none yes
