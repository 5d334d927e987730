use Rattle.unit_index.proofs.GroupLemmas.{group_turns}
use Rattle.unit_index.proofs.groups.grouped.Goals as goal

pub tokens-preserved : goal.tokens-preserved
tokens-preserved c = λ f. group_turns f _ _ _ _ _ c.in-Some.tok.now c.in-Some.ensures.cases.0 (c.in_ok-add.ensures f) (c.tokens.invariant f)
