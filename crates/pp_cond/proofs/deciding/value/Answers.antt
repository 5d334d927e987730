use Rattle.std.specs.FinMap as map
use Rattle.std.proofs.Common.{ap, ◌∙◌, option_map}
use Rattle.pp_cond.proofs.Pieces.{symbols_turn}
use Rattle.pp_cond.specs.Defined.{symbols}
use Rattle.pp_cond.specs.Machine.{run, step}
use Rattle.pp_cond.proofs.deciding.value.Goals as goal

pub loop-token-preserved : goal.loop-token-preserved
loop-token-preserved c =
    ap (λ r. run r (symbols (map.get c.args.table.now) c.read.result.1.now)) c.in_ok-more.ensures
    ∙ ap (λ s. run (step s c.loop-token.reader) (symbols (map.get c.args.table.now) c.read.result.1.now)) c.symbol.ensures
    ∙ symbols_turn (map.get c.args.table.now) c.loop-token.reader c.loop-token.rest.now c.in-Some.token.now c.in-Some.behind.now
    (option_map (λ u. u.now) c.read.result.0) c.read.result.1.now (record { is = c.in-Some.ensures.cases.0; tests = c.read.ensures.operand; behind = c.read.ensures.behind })
    ∙ c.loop-token.invariant
