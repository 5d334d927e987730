use Rattle.std.proofs.Common.{refl}
use Rattle.unit_index.specs.News.{has}
use Rattle.unit_index.proofs.NewsLemmas.{replaced_more}
use Rattle.unit_index.proofs.across.news.News.note_replaced.Goals as goal

pub returns : goal.returns
returns c = λ ss ts path s t replaced are.
    replaced_more c.args.self.now _ (has c.note_all.new.names) c.args.replaced.gone.now c.args.replaced.come.now c.args.replaced.front _ ss ts path s t c.in_ok-note_all.ensures c.in_ok-note_all-2.ensures
    refl c.in_ok-push.ensures.items refl replaced are
