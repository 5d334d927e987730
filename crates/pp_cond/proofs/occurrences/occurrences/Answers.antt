use Rattle.std.specs.FinMap as map
use Rattle.std.proofs.Common.{ap, sym, ◌∙◌, ◌++◌, option_map}
use Rattle.pp_cond.proofs.Pieces.{occurrences_turn}
use Rattle.std.proofs.Common.{option_to_list}
use Rattle.pp_cond.specs.Defined.{occurrences}
use Rattle.pp_cond.proofs.occurrences.occurrences.Goals as goal

pub loop-token-preserved : goal.loop-token-preserved
loop-token-preserved c =
    ap (λ xs. xs ++ occurrences (map.get c.args.table.now) c.args.left c.read.result.1.now) c.in_ok-push.ensures.items
    ∙ occurrences_turn (map.get c.args.table.now) c.args.left _ _ c.loop-token.rest.now c.in-Some.token.now c.in-Some.behind.now
    (option_map (λ u. u.now) c.read.result.0) c.read.result.1.now _ (record { is = c.in-Some.ensures.cases.0; tests = c.read.ensures.operand; behind = c.read.ensures.behind })
    (ap option_to_list (sym c.in-Some-2.is) ∙ c.in_ok-occ.ensures) c.loop-token.invariant
