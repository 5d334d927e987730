use Rattle.item_cut.proofs.Looking.{is_shallow, looking_stops, looking_turns}
use Rattle.item_cut.proofs.openings.body_start.Goals as goal

pub after-progress-requires : goal.after-progress-requires
after-progress-requires c = is_shallow _ _ _ _ _ _ c.tokens.invariant c.in-Some.ensures.cases.0

pub tokens-preserved : goal.tokens-preserved
tokens-preserved c = looking_turns c.tokens.invariant c.in-Some.ensures.cases.0 c.as_str.ensures c.opens.ensures c.if-opens.false c.as_str-in-Some.ensures c.after-progress.ensures

pub returns-then-opens : goal.returns-then-opens
returns-then-opens c = looking_stops c.tokens.invariant c.in-Some.ensures.cases.0 c.as_str.ensures c.opens.ensures c.if-opens.true
