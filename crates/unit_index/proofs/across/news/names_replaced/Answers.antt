use Rattle.std.proofs.Common.{◌∙◌}
use Rattle.unit_index.proofs.NewsLemmas.{all_of, both_ends}
use Rattle.unit_index.proofs.across.news.names_replaced.Goals as goal

pub returns-then-are_alike : goal.returns-then-are_alike
returns-then-are_alike c =
    both_ends c.args.before.now c.args.now.now _ _ _ _ _ _ _ (c.are_alike.ensures c.if-are_alike.true) c.as_slice-gone.ensures c.as_slice-come.ensures c.behind_front-left.ensures.parts
    c.without_end.ensures.parts (c.without_end.ensures.front ∙ c.behind_front-left.ensures.front)

pub returns : goal.returns
returns c = all_of c.args.before.now c.args.now.now _ _ c.as_slice-gone.ensures c.as_slice-come.ensures
