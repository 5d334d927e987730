use Rattle.std.proofs.Common.{refl}
use Rattle.unit_index.proofs.NewsLemmas.{same_more}
use Rattle.unit_index.proofs.across.news.News.same.Goals as goal

pub returns : goal.returns
returns c = λ ss ts s are. same_more c.args.self.now _ ss ts s (λ q. refl) c.in_ok-push.ensures.items refl are
