use Rattle.unit_index.specs.Handles.{one}
use Rattle.unit_index.proofs.FirstLemmas.{firsts_end, firsts_turn}
use Rattle.unit_index.proofs.handles.keyed.Goals as goal

pub members-preserved : goal.members-preserved
members-preserved c = λ q. firsts_turn (one c.args.tags.now q) _ _ _ c.in-Some.member.now _ _ c.in-Some.ensures.cases.0 (c.in_ok-key.ensures q) (c.members.invariant q)

pub returns : goal.returns
returns c = λ q. firsts_end (one c.args.tags.now q) _ _ _ c.in_default.ensures.cases (c.members.invariant q)
