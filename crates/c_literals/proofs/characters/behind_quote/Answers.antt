use Rattle.std.proofs.Common.{rules, arith, ◌≡◌, ◌∷◌, false, ap, ◌∙◌}
use Rattle.std.specs.Prelude.{◌==◌, refl}
use Rattle.std.specs.Str.{chars}
use Rattle.c_literals.specs.CChars.{is_new_line}
use Rattle.c_literals.proofs.CCharLemmas.{one_more, quote_here, line_here}
use Rattle.c_literals.proofs.characters.behind_quote.Goals as goal
use Rattle.c_literals.proofs.characters.behind_quote.Goals.{then-c-eq10-via-then-c-eq10, then-c-eq10-via-else-c-eq10+then-c-eq13}

pub returns-then-c-eq39 : goal.returns-then-c-eq39
returns-then-c-eq39 c =
    let quote : c.in-Some.c ≡ 39 = omega arith in
    c.at_quote.ensures ∙ quote_here c.args.prefix c.loop-c.seen c.in-Some.c (chars c.in-Some.behind.now) _ quote c.in-Some.ensures.points ∙ c.loop-c.invariant.1

pub returns-then-c-eq10 : goal.returns-then-c-eq10
returns-then-c-eq10 c =
    elim c.then-c-eq10.branch [
      | then-c-eq10-via-then-c-eq10 w ↦
          let e : c.in-Some.c ≡ 10 = omega arith in
          line_here c.args.prefix c.loop-c.seen 10 (chars c.in-Some.behind.now) _ refl refl refl (c.in-Some.ensures.points ∙ ap (λ n. n ∷ chars c.in-Some.behind.now) e) ∙ c.loop-c.invariant.1
      | then-c-eq10-via-else-c-eq10+then-c-eq13 w ↦
          let e : c.in-Some.c ≡ 13 = omega arith in
          line_here c.args.prefix c.loop-c.seen 13 (chars c.in-Some.behind.now) _ refl refl refl (c.in-Some.ensures.points ∙ ap (λ n. n ∷ chars c.in-Some.behind.now) e) ∙ c.loop-c.invariant.1
    ]

pub loop-c-preserved : goal.loop-c-preserved
loop-c-preserved c =
    let other : (c.in-Some.c == 39) ≡ false = grind arith in
    let line : is_new_line c.in-Some.c ≡ false = grind arith in (
      search rules,
      one_more c.args.prefix c.loop-c.seen c.step-more.result.0 c.in-Some.c (chars c.in-Some.behind.now) _ _ other line c.step-more.ensures.adds c.step-more.ensures.behind c.in-Some.ensures.points
          ∙ c.loop-c.invariant.1,
    )
