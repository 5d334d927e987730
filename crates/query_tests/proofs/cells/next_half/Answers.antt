use Rattle.std.proofs.Common.{ap, sym, ◌∙◌, arith}
use Rattle.query_core.specs.declared.rules.Step.TheVariants.{Ask, Done}
use Rattle.query_tests.specs.CellLaws.{step_open, step_done}
use Rattle.query_tests.proofs.cells.next_half.Goals as goal

pub returns-then-run-number-clause-step : goal.returns-then-run-number-clause-step
returns-then-run-number-clause-step g c =
    ap Ask (c.from_vec.ensures ∙ c.in_ok-next.ensures)
    ∙ sym (step_open c.args.answers.now c.args.number c.go_past.new.run c.go_past.ensures.answered c.if-run-number.true (c.go_past.ensures.open c.if-run-number.true))

pub returns-clause-step : goal.returns-clause-step
returns-clause-step g c =
    ap Done c.value.ensures ∙ sym (step_done c.args.answers.now c.args.number c.go_past.new.run c.go_past.ensures.answered (let f = c.if-run-number.false in omega arith))
