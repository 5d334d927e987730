use Rattle.std.proofs.Common.{sym, ap, ◌∙◌, []}
use Rattle.asking.specs.LookUps.{Needs}
use Rattle.elab_state.specs.Answering.{with_answers}
use Rattle.elab_state.specs.Doings.{begun}
use Rattle.elab_state.specs.Seen.{context_of, told_of}
use Rattle.elab_state.specs.Wants.{answered}
use Rattle.scope_tables.specs.declared.entities.ScopeKind.TheVariants.{File}
use Rattle.stmt_checks.proofs.Bodies.{behind_is, some_lack_by}
use Rattle.stmt_checks.proofs.Lacking.{nothing_asked, something_asked}
use Rattle.stmt_checks.proofs.checking.check_around.Goals as goal
use Rattle.stmt_checks.specs.Meanings.{body_from, questions}

pub returns-then-is_none : goal.returns-then-is_none
returns-then-is_none c =
    behind_is (answered (told_of c.args.around.now)) (context_of c.args.around.now) c.args.head.now c.answered.result
    (sym c.in_ok-asked.ensures ∙ nothing_asked c.in_ok-asked.asked (sym c.is_none.ensures ∙ c.if-is_none.true)) c.answered.ensures

pub returns : goal.returns
returns c = λ r is.
    let look = answered (told_of c.args.around.now) in
    let around = context_of c.args.around.now in
    some_lack_by look (questions around) (λ answers. body_from r around c.args.head.now (with_answers (questions around) answers (begun File [])))
    (λ none. something_asked c.in_ok-asked.asked (sym c.is_none.ensures ∙ c.if-is_none.false) (c.in_ok-asked.ensures ∙ none)) ∙ ap (λ qs. Needs qs) (sym c.in_ok-asked.ensures)
