use Rattle.std.proofs.Common.{refl, sym, ◌∙◌, arith}
use Rattle.std.proofs.lemmas.Grind.{common_steps}
use Rattle.include_units.proofs.TextLemmas.{run_stops, run_turns, further_here, further_line, further_same}
use Rattle.include_units.specs.Texts.{before_run, parts_from}
use Rattle.include_units.specs.Fronts.{width}
use Rattle.include_units.proofs.texts.run_in_front.Goals as goal

pub returns-then-is_hash-clause-parts : goal.returns-then-is_hash-clause-parts
returns-then-is_hash-clause-parts c =
    run_stops
    c.args.name.now
    c.loop-token.number
    c.loop-token.rest.now
    c.in-Some.token.now
    c.in-Some.behind.now
    c.in_ok-first.first
    c.loop-token.out
    (before_run c.args.begun (parts_from c.args.name.now c.args.at c.args.tokens.now))
    c.run_front.result
    c.in-Some.ensures.cases.0
    c.in_ok-first.ensures
    (sym c.is_hash.ensures ∙ c.if-is_hash.true)
    c.loop-token.invariant.0
    c.run_front.ensures.part
    c.run_front.ensures.at
    c.run_front.ensures.behind

pub loop-token-preserved : goal.loop-token-preserved
loop-token-preserved c = (
  run_turns
      c.args.name.now
      c.loop-token.number
      c.loop-token.rest.now
      c.in-Some.token.now
      c.in-Some.behind.now
      c.in_ok-first.first
      c.loop-token.out
      c.add_line.new.out
      c.in_ok-line.line.at
      c.in_ok-line.line.tokens.now
      (before_run c.args.begun (parts_from c.args.name.now c.args.at c.args.tokens.now))
      c.in-Some.ensures.cases.0
      c.in_ok-first.ensures
      (sym c.is_hash.ensures ∙ c.if-is_hash.false)
      (grind (arith, common_steps, c.in_ok-line.ensures.line, c.in_ok-push.ensures))
      c.in_ok-line.ensures.at
      c.in_ok-line.ensures.behind
      c.loop-token.invariant.0,
  grind (arith, common_steps, c.in_ok-line.ensures.numbered, c.loop-token.invariant.1, c.in-Some.ensures.cases.0),
  grind (arith, common_steps, c.in_ok-line.ensures.shorter, c.loop-token.invariant.2, c.in-Some.ensures.cases.0),
  further_line c.args.at c.args.tokens.now c.loop-token.number c.loop-token.rest.now c.in-Some.token.now c.in-Some.behind.now (width c.in-Some.behind.now) c.in_ok-line.line.at c.in_ok-line.line.tokens.now c.loop-token.invariant.3 c.in-Some.ensures.cases.0 c.in_ok-line.ensures.at c.in_ok-line.ensures.behind,
)

pub loop-token-init : goal.loop-token-init
loop-token-init c = (refl, refl, omega arith, further_here c.args.at c.args.tokens.now)

pub returns-then-is_hash-clause-further : goal.returns-then-is_hash-clause-further
returns-then-is_hash-clause-further c =
    further_same c.args.at c.args.tokens.now c.loop-token.number c.loop-token.rest.now c.run_front.result.at c.run_front.result.behind.now c.loop-token.invariant.3 c.run_front.ensures.at c.run_front.ensures.behind
