use Rattle.std.proofs.Common.{arith, ◌≡◌, ◌∷◌, ◌-◌, ap, sym, ◌∙◌, length, drop}
use Rattle.std.specs.Prelude.{◌≢◌}
use Rattle.std.specs.Str.{chars}
use Rattle.c_literals.specs.CChars
use Rattle.c_literals.specs.Units.{units_of}
use Rattle.c_literals.proofs.CCharLemmas.{escape_simple, escape_bare, escape_hexadecimal, drop_more}
use Rattle.c_literals.proofs.escapes.named.Goals as goal

pub returns-then-c-ne120-clause-value : goal.returns-then-c-ne120-clause-value
returns-then-c-ne120-clause-value c = λ p.
    let other : c.args.c ≢ 120 = omega arith in
    c.simple.ensures p ∙ sym (ap (λ f. units_of p f.c_char) (escape_simple c.args.behind.now c.args.c other c.requires))

pub returns-then-c-ne120-clause-behind : goal.returns-then-c-ne120-clause-behind
returns-then-c-ne120-clause-behind c =
    let other : c.args.c ≢ 120 = omega arith in
    sym (ap (λ f. drop (f.width - 1) (c.args.c ∷ chars c.args.behind.now)) (escape_simple c.args.behind.now c.args.c other c.requires))

pub returns-then-count-eq0-clause-value : goal.returns-then-count-eq0-clause-value
returns-then-count-eq0-clause-value c = λ p.
    let x : c.args.c ≡ 120 = omega arith in
    let bare : length (CChars.digits 16 (length c.args.behind.now) (chars c.args.behind.now)) ≡ 0 = omega (arith, c.digits-count.ensures.count) in
    sym (ap (λ f. units_of p f.c_char) (escape_bare c.args.behind.now c.args.c c.utf8.behind x c.requires bare))

pub returns-then-count-eq0-clause-behind : goal.returns-then-count-eq0-clause-behind
returns-then-count-eq0-clause-behind c =
    let x : c.args.c ≡ 120 = omega arith in
    let bare : length (CChars.digits 16 (length c.args.behind.now) (chars c.args.behind.now)) ≡ 0 = omega (arith, c.digits-count.ensures.count) in
    sym (ap (λ f. drop (f.width - 1) (c.args.c ∷ chars c.args.behind.now)) (escape_bare c.args.behind.now c.args.c c.utf8.behind x c.requires bare))

pub returns-clause-value : goal.returns-clause-value
returns-clause-value c = λ p.
    let x : c.args.c ≡ 120 = omega arith in
    let some : length (CChars.digits 16 (length c.args.behind.now) (chars c.args.behind.now)) ≢ 0 = omega (arith, c.digits-count.ensures.count) in
    c.digits-count.ensures.value p ∙ sym (ap (λ f. units_of p f.c_char) (escape_hexadecimal c.args.behind.now c.args.c c.utf8.behind x c.requires some))

pub returns-clause-behind : goal.returns-clause-behind
returns-clause-behind c =
    let x : c.args.c ≡ 120 = omega arith in
    let some : length (CChars.digits 16 (length c.args.behind.now) (chars c.args.behind.now)) ≢ 0 = omega (arith, c.digits-count.ensures.count) in
    c.digits-count.ensures.behind
    ∙ sym (drop_more (length (CChars.digits 16 (length c.args.behind.now) (chars c.args.behind.now))) c.args.c (chars c.args.behind.now))
    ∙ sym (ap (λ f. drop (f.width - 1) (c.args.c ∷ chars c.args.behind.now)) (escape_hexadecimal c.args.behind.now c.args.c c.utf8.behind x c.requires some))
