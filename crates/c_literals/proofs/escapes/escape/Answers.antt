use Rattle.std.proofs.Common.{arith, ◌≡◌, ◌-◌, ◌+◌, ap, sym, ◌∙◌, length, drop}
use Rattle.std.specs.Prelude.{◌≢◌}
use Rattle.std.specs.Str.{chars}
use Rattle.c_literals.specs.CChars
use Rattle.c_literals.specs.Units.{units_of}
use Rattle.c_literals.proofs.CCharLemmas.{escape_octal, escape_nothing}
use Rattle.c_literals.proofs.escapes.escape.Goals as goal

pub returns-then-count-ne0-clause-value : goal.returns-then-count-ne0-clause-value
returns-then-count-ne0-clause-value c = λ p.
    let some : length (CChars.octal (chars c.args.text.now)) ≢ 0 = omega (arith, c.digits-count.ensures.count) in
    c.digits-count.ensures.value p ∙ sym (ap (λ f. units_of p f.c_char) (escape_octal (chars c.args.text.now) some))

pub returns-then-count-ne0-clause-behind : goal.returns-then-count-ne0-clause-behind
returns-then-count-ne0-clause-behind c =
    let some : length (CChars.octal (chars c.args.text.now)) ≢ 0 = omega (arith, c.digits-count.ensures.count) in
    let count : 1 + length (CChars.octal (chars c.args.text.now)) - 1 ≡ length (CChars.octal (chars c.args.text.now)) = omega arith in
    c.digits-count.ensures.behind
    ∙ sym (ap (λ n. drop n (chars c.args.text.now)) count)
    ∙ sym (ap (λ f. drop (f.width - 1) (chars c.args.text.now)) (escape_octal (chars c.args.text.now) some))

pub returns-in-None-clause-value : goal.returns-in-None-clause-value
returns-in-None-clause-value c = λ p.
    sym (ap (λ cs. units_of p (CChars.escape cs).c_char) c.in-None.ensures.points ∙ ap (λ f. units_of p f.c_char) escape_nothing)
