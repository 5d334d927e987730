use Rattle.std.proofs.Common.{sym, ◌∙◌}
use Rattle.include_units.proofs.TextLemmas.{directive_next, run_next}
use Rattle.include_units.proofs.texts.next_part.Goals as goal

pub returns-then-is_hash-clause-parts : goal.returns-then-is_hash-clause-parts
returns-then-is_hash-clause-parts c =
    directive_next
    c.args.name.now
    c.args.at
    c.args.tokens.now
    c.in-Some.token.now
    c.in-Some.behind.now
    c.in_ok-first.first
    c.in_ok-front.front
    c.in-Some.ensures.cases.0
    c.in_ok-first.ensures
    (sym c.is_hash.ensures ∙ c.if-is_hash.true)
    c.in_ok-front.ensures.part
    c.in_ok-front.ensures.at
    c.in_ok-front.ensures.behind

pub returns-clause-parts : goal.returns-clause-parts
returns-clause-parts c =
    run_next
    c.args.name.now
    c.args.at
    c.args.tokens.now
    c.in-Some.token.now
    c.in-Some.behind.now
    c.in_ok-first.first
    c.in_ok-front-2.front
    c.in-Some.ensures.cases.0
    c.in_ok-first.ensures
    (sym c.is_hash.ensures ∙ c.if-is_hash.false)
    c.in_ok-front-2.ensures.parts
