use Rattle.std.proofs.Common.{sym, subst}
use Rattle.asking.specs.Asking.{Gives}
use Rattle.elab_state.specs.Seen.{context_of, told_of}
use Rattle.stmt_acts.specs.Shown.{act_of}
use Rattle.stmt_checks.specs.Acting.{acts, defaulted, within}
use Rattle.stmt_checks.specs.Labels.{labelled, jumped}
use Rattle.stmt_checks.specs.Moves.{Moves}
use Rattle.stmt_checks.specs.Standings.{entered, told}
use Rattle.stmt_checks.proofs.Moving.{quiet}
use Rattle.stmt_rules.specs.Jumps.{continue_fault, break_fault}
use Rattle.stmt_checks.proofs.acting.act.Goals as goal

pub returns-in-Enter : goal.returns-in-Enter
returns-in-Enter c =
    subst (λ a. Moves (told_of c.args.around.now) (acts (context_of c.args.around.now) c.args.function.now.ty c.args.function.now.labels (act_of a) c.args.standing.now) c.halt.result c.enter.new.standing)
    (sym c.in-Enter.is) (
    subst (λ r. Moves (told_of c.args.around.now) (Gives (entered c.args.standing.now)) r c.enter.new.standing) (sym c.halt.ensures)
    (quiet (told_of c.args.around.now) (entered c.args.standing.now) c.enter.new.standing c.enter.result c.enter.ensures))

pub returns-in-DefaultLabel : goal.returns-in-DefaultLabel
returns-in-DefaultLabel c =
    subst (λ a. Moves (told_of c.args.around.now) (acts (context_of c.args.around.now) c.args.function.now.ty c.args.function.now.labels (act_of a) c.args.standing.now) c.halt-in-DefaultLabel.result c.label_default.new.standing)
    (sym c.in-DefaultLabel.is) (
    subst (λ r. Moves (told_of c.args.around.now) (Gives (defaulted c.in-DefaultLabel.at c.args.standing.now)) r c.label_default.new.standing) (sym c.halt-in-DefaultLabel.ensures)
    (quiet (told_of c.args.around.now) (defaulted c.in-DefaultLabel.at c.args.standing.now) c.label_default.new.standing c.label_default.result c.label_default.ensures))

pub returns-in-Label : goal.returns-in-Label
returns-in-Label c =
    subst (λ a. Moves (told_of c.args.around.now) (acts (context_of c.args.around.now) c.args.function.now.ty c.args.function.now.labels (act_of a) c.args.standing.now) c.halt-in-Label.result c.label_act.new.standing)
    (sym c.in-Label.is) (
    subst (λ r. Moves (told_of c.args.around.now) (Gives (labelled (context_of c.args.around.now) c.in-Label.at c.args.standing.now)) r c.label_act.new.standing) (sym c.halt-in-Label.ensures)
    (quiet (told_of c.args.around.now) (labelled (context_of c.args.around.now) c.in-Label.at c.args.standing.now) c.label_act.new.standing c.label_act.result c.label_act.ensures))

pub returns-in-Goto : goal.returns-in-Goto
returns-in-Goto c =
    subst (λ a. Moves (told_of c.args.around.now) (acts (context_of c.args.around.now) c.args.function.now.ty c.args.function.now.labels (act_of a) c.args.standing.now) c.halt-in-Goto.result c.goto_act.new.standing)
    (sym c.in-Goto.is) (
    subst (λ r. Moves (told_of c.args.around.now) (Gives (jumped (context_of c.args.around.now) c.args.function.now.labels c.in-Goto.at c.args.standing.now)) r c.goto_act.new.standing) (sym c.halt-in-Goto.ensures)
    (quiet (told_of c.args.around.now) (jumped (context_of c.args.around.now) c.args.function.now.labels c.in-Goto.at c.args.standing.now) c.goto_act.new.standing c.goto_act.result c.goto_act.ensures))

pub returns-in-Continue : goal.returns-in-Continue
returns-in-Continue c =
    subst (λ a. Moves (told_of c.args.around.now) (acts (context_of c.args.around.now) c.args.function.now.ty c.args.function.now.labels (act_of a) c.args.standing.now) c.halt-in-Continue.result c.continue_act.new.standing)
    (sym c.in-Continue.is) (
    subst (λ r. Moves (told_of c.args.around.now) (Gives (told (continue_fault c.in-Continue.at (within c.in-Continue.within)) c.args.standing.now)) r c.continue_act.new.standing) (sym c.halt-in-Continue.ensures)
    (quiet (told_of c.args.around.now) (told (continue_fault c.in-Continue.at (within c.in-Continue.within)) c.args.standing.now) c.continue_act.new.standing c.continue_act.result c.continue_act.ensures))

pub returns-in-Break : goal.returns-in-Break
returns-in-Break c =
    subst (λ a. Moves (told_of c.args.around.now) (acts (context_of c.args.around.now) c.args.function.now.ty c.args.function.now.labels (act_of a) c.args.standing.now) c.halt-in-Break.result c.break_act.new.standing)
    (sym c.in-Break.is) (
    subst (λ r. Moves (told_of c.args.around.now) (Gives (told (break_fault c.in-Break.at (within c.in-Break.within)) c.args.standing.now)) r c.break_act.new.standing) (sym c.halt-in-Break.ensures)
    (quiet (told_of c.args.around.now) (told (break_fault c.in-Break.at (within c.in-Break.within)) c.args.standing.now) c.break_act.new.standing c.break_act.result c.break_act.ensures))
