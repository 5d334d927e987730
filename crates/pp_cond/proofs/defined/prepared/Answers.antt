use Rattle.std.specs.FinMap as map
use Rattle.std.proofs.Common.{ap, ◌∙◌, ◌++◌, option_map}
use Rattle.pp_cond.proofs.Pieces.{prepared_turns}
use Rattle.pp_cond.specs.Defined.{prepared}
use Rattle.pp_cond.proofs.defined.prepared.Goals as goal

pub loop-token-preserved : goal.loop-token-preserved
loop-token-preserved c =
    ap (λ xs. xs ++ prepared (map.get c.args.table.now) c.read.result.1.now) c.in_ok-push.ensures.items
    ∙ prepared_turns (map.get c.args.table.now) _ _ c.loop-token.rest.now c.in-Some.token.now c.in-Some.behind.now
    (option_map (λ u. u.now) c.read.result.0) c.read.result.1.now _ (record { is = c.in-Some.ensures.cases.0; tests = c.read.ensures.operand; behind = c.read.ensures.behind }) c.in_ok-written.ensures c.loop-token.invariant
