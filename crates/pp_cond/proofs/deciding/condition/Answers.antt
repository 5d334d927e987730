use Rattle.std.proofs.Common.{◌≡◌, ap, ◌∙◌}
use Rattle.std.specs.FinMap as map
use Rattle.pp_cond.specs.Conditions.{expansion, truth}
use Rattle.pp_cond.proofs.Answering.{answers}
use Rattle.pp_cond.proofs.deciding.condition.Goals as goal

pub returns-clause-meaning : goal.returns-clause-meaning
returns-clause-meaning c =
    let h : c.in_ok-cond.cond.truth ≡ truth (map.get c.args.table.now) (expansion (map.get c.args.table.now) c.args.lines.now c.args.budget c.args.tokens.now) =
    c.in_ok-cond.ensures.truth ∙ ap (truth (map.get c.args.table.now)) c.in_ok-expanded.ensures in
    answers (map.get c.args.table.now) (expansion (map.get c.args.table.now) c.args.lines.now c.args.budget c.args.tokens.now) c.in_ok-cond.cond.truth h
