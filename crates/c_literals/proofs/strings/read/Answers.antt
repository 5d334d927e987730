use Rattle.std.proofs.Common.{rules, arith, ◌≡◌, ◌∷◌, false, ap, ◌∙◌}
use Rattle.std.specs.Prelude.{◌==◌, refl}
use Rattle.std.specs.Str.{chars}
use Rattle.c_literals.specs.CChars.{is_new_line}
use Rattle.c_literals.specs.Texts.{kept}
use Rattle.c_literals.proofs.StringLemmas.{one_added, quote_ends, quote_inside, line_ends}
use Rattle.c_literals.proofs.strings.read.Goals as goal
use Rattle.c_literals.proofs.strings.read.Goals.{then-c-eq10-via-then-c-eq10, then-c-eq10-via-else-c-eq10+then-c-eq13}

pub returns-in-Some-split_first_char : goal.returns-in-Some-split_first_char
returns-in-Some-split_first_char c =
    let quote : c.in-Some.c ≡ 34 = omega arith in
    quote_inside c.args.prefix (kept c.loop-c.text) c.in-Some.c _ _ _ quote
    (c.in-Some.ensures.points ∙ ap (λ xs. c.in-Some.c ∷ xs) c.in-Some-split_first_char.ensures.points) ∙ c.loop-c.invariant.1

pub returns-in-None : goal.returns-in-None
returns-in-None c =
    let quote : c.in-Some.c ≡ 34 = omega arith in
    quote_ends c.args.prefix (kept c.loop-c.text) c.in-Some.c _ quote (c.in-Some.ensures.points ∙ ap (λ xs. c.in-Some.c ∷ xs) c.in-None.ensures.points)
    ∙ c.loop-c.invariant.1

pub returns-then-c-eq10 : goal.returns-then-c-eq10
returns-then-c-eq10 c =
    elim c.then-c-eq10.branch [
      | then-c-eq10-via-then-c-eq10 w ↦
          let e : c.in-Some.c ≡ 10 = omega arith in
          line_ends c.args.prefix (kept c.loop-c.text) 10 (chars c.in-Some.behind.now) _ refl refl refl (c.in-Some.ensures.points ∙ ap (λ n. n ∷ chars c.in-Some.behind.now) e) ∙ c.loop-c.invariant.1
      | then-c-eq10-via-else-c-eq10+then-c-eq13 w ↦
          let e : c.in-Some.c ≡ 13 = omega arith in
          line_ends c.args.prefix (kept c.loop-c.text) 13 (chars c.in-Some.behind.now) _ refl refl refl (c.in-Some.ensures.points ∙ ap (λ n. n ∷ chars c.in-Some.behind.now) e) ∙ c.loop-c.invariant.1
    ]

pub loop-c-preserved : goal.loop-c-preserved
loop-c-preserved c =
    let other : (c.in-Some.c == 34) ≡ false = grind arith in
    let line : is_new_line c.in-Some.c ≡ false = grind arith in (
      search rules,
      one_added c.args.prefix (kept c.loop-c.text) (kept c.add.new.text) c.in-Some.c (chars c.in-Some.behind.now) _ _ other line c.in_ok-rest.ensures.adds c.in_ok-rest.ensures.behind c.in-Some.ensures.points
          ∙ c.loop-c.invariant.1,
    )
