use Rattle.std.proofs.Common.{rules, ◌≡◌, ◌∷◌, [], sym, ap, ◌∙◌, Some, None}
use Rattle.asking.specs.Asking.{Gives, and_then}
use Rattle.asking.specs.LookUps.{Ends, run_by}
use Rattle.elab_state.specs.Looks.{Anonymous, At, Deep, look, told}
use Rattle.elab_state.specs.Seen.{context_of, told_of}
use Rattle.elab_state.specs.Wants.{answered}
use Rattle.elab_state.proofs.Runs.{comes_on, leads_on, run_then, stops_as, stops_on}
use Rattle.elab_state.specs.Doings.{gives}
use Rattle.expr_rules.specs.declared.parts.Form.TheVariants as form
use Rattle.elab_core.specs.Casts.{is_unevaluated, with_warning}
use Rattle.elab_core.specs.Rows.{row}
use Rattle.elab_core.proofs.casts.cast.Goals as goal

pub returns-in-Err : goal.returns-in-Err
returns-in-Err c = stops_on (answered (told_of c.args.around.now)) (row (context_of c.args.around.now) c.args.at (form.Cast c.args.typed.ty c.args.typed.qual) (c.args.operand ∷ []) c.args.made.now) (λ r. gives r.0 (with_warning c.args.at (is_unevaluated c.args.typed c.args.operand) r.1)) c.in-Err.halt c.in-Err.ensures

pub returns-in-Ok-warn : goal.returns-in-Ok-warn
returns-in-Ok-warn c =
    let first : run_by (answered (told_of c.args.around.now)) (row (context_of c.args.around.now) c.args.at (form.Cast c.args.typed.ty c.args.typed.qual) (c.args.operand ∷ []) c.args.made.now) ≡ Ends (c.in-Ok.judged, c.row.new.made) = search rules in
    let is : c.warn.new.made ≡ with_warning c.args.at (is_unevaluated c.args.typed c.args.operand) c.row.new.made = search rules in
    run_then (answered (told_of c.args.around.now)) (row (context_of c.args.around.now) c.args.at (form.Cast c.args.typed.ty c.args.typed.qual) (c.args.operand ∷ []) c.args.made.now) (λ r. gives r.0 (with_warning c.args.at (is_unevaluated c.args.typed c.args.operand) r.1)) (c.in-Ok.judged, c.row.new.made) first
    ∙ ap (λ made. Ends (c.in-Ok.judged, made)) (sym is)
