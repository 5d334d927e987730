use Rattle.std.proofs.Common.{rules, ◌≡◌, ◌∷◌, [], sym, ap, ◌∙◌, Some, None}
use Rattle.asking.specs.Asking.{Gives, and_then}
use Rattle.asking.specs.LookUps.{Ends, run_by}
use Rattle.elab_state.specs.Looks.{Anonymous, At, Deep, look, told}
use Rattle.elab_state.specs.Seen.{context_of, told_of}
use Rattle.elab_state.specs.Wants.{answered}
use Rattle.elab_state.proofs.Runs.{comes_on, leads_on, run_then, stops_as, stops_on}
use Rattle.std.specs.Prelude.{Ok}
use Rattle.expr_rules.specs.Judgements.{judged}
use Rattle.elab_core.specs.Rows.{outcome}
use Rattle.elab_core.proofs.rows.judged_now.Goals as goal

pub returns-in-Ok : goal.returns-in-Ok
returns-in-Ok c =
    let is : judged c.args.operator.now c.args.parts.now c.args.made.now.tags ≡ Ok c.in-Ok.judged = search rules in
    sym (ap (λ r. outcome r c.args.made.now) is)
