use Rattle.std.proofs.Common.{[], ◌∷◌, ◌++◌, subst}
use Rattle.unit_index.specs.Crossing.{sight}
use Rattle.unit_index.specs.News.{AreNews}
use Rattle.unit_index.proofs.across.news.News.changed.Goals as goal

pub returns-then-same_sight : goal.returns-then-same_sight
returns-then-same_sight c = λ ss ts path are.
    subst (λ t. AreNews (ss ++ sight (record { path = path; exports = c.args.before.now }) ∷ []) (ts ++ t ∷ []) c.same.new.self)
    (c.same_sight.ensures c.if-same_sight.true path) (c.in_ok-same.ensures ss ts (sight (record { path = path; exports = c.args.before.now })) are)

pub returns : goal.returns
returns c = λ ss ts path are. c.in_ok-note_replaced.ensures ss ts path c.args.before.now c.args.now.now c.names_replaced-replaced.ensures are
