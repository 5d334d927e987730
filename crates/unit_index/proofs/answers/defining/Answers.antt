use Rattle.std.proofs.Common.{arith, ◌≡◌, length, ◌∙◌}
use Rattle.unit_index.specs.Occurrences.{shared}
use Rattle.unit_index.proofs.AnswerLemmas.{declared, defined, is_some, is_nothing}
use Rattle.unit_index.proofs.answers.defining.Goals as goal

pub returns-then-not-is_empty : goal.returns-then-not-is_empty
returns-then-not-is_empty c =
    let size = c.in_ok-defined.defined.ok.0 in
    let count : c.in_ok-defined.defined.len ≡ length c.in_ok-defined.defined.items = omega (arith, size) in
    c.in_ok-defined.ensures
    ∙ defined (shared c.args.units.now c.args.tok.now) c.in_ok-defined.defined.items c.in_ok-defined.ensures
    (is_some c.in_ok-defined.defined.items c.in_ok-defined.defined.len c.is_empty.result count c.is_empty.ensures c.if-not-is_empty.true)

pub returns : goal.returns
returns c =
    let size = c.in_ok-defined.defined.ok.0 in
    let count : c.in_ok-defined.defined.len ≡ length c.in_ok-defined.defined.items = omega (arith, size) in
    c.in_ok-declared.ensures
    ∙ declared (shared c.args.units.now c.args.tok.now) c.in_ok-defined.defined.items c.in_ok-defined.ensures
    (is_nothing c.in_ok-defined.defined.items c.in_ok-defined.defined.len c.is_empty.result count c.is_empty.ensures c.if-not-is_empty.false)
