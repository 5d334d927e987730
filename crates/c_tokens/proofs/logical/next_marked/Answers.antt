-- The loop passes over removed units; the first other one is the character.
use Rattle.std.proofs.Common.{arith, refl}
use Rattle.c_tokens.specs.Reading.{rest}
use Rattle.c_tokens.proofs.ReadingLemmas.{removed_step, trigraph_step, plain_step, plain_code, boundary_behind}
use Rattle.c_tokens.proofs.logical.next_marked.Goals as goal

pub loop-own-init : goal.loop-own-init
unfolding rest
loop-own-init c = record { same = refl; begins = omega arith; within = c.requires; boundary = λ _ first. first }

pub loop-own-preserved : goal.loop-own-preserved
loop-own-preserved c = record {
  same = removed_step c.args.text.now c.split_at.result.1.now c.args.at c.loop-own.own c.in-Removed.width c.split_at.ensures.back c.loop-own-test.true c.in-Removed.ensures.value c.in-Removed.ensures.some c.loop-own.invariant.same;
  begins = omega arith;
  within = omega (arith, c.in-Removed.ensures.within);
  boundary = boundary_behind c.args.text.now c.split_at.result.1.now c.args.at c.loop-own.own c.in-Removed.width c.split_at.ensures.back c.loop-own.invariant.within c.in-Removed.ensures.boundary c.loop-own.invariant.boundary;
}

pub returns-in-Trigraph : goal.returns-in-Trigraph
returns-in-Trigraph c = record {
  first = trigraph_step c.args.text.now c.split_at.result.1.now c.args.at c.loop-own.own c.in-Trigraph.code c.split_at.ensures.back c.loop-own-test.true c.in-Trigraph.ensures.value c.loop-own.invariant.same;
  code = refl;
  character = (refl, c.in-Trigraph.ensures.replacement);
  begins = c.loop-own.invariant.begins;
  goes_on = omega arith;
  within = omega (arith, c.in-Trigraph.ensures.within);
  own_boundary = c.loop-own.invariant.boundary;
  boundary = boundary_behind c.args.text.now c.split_at.result.1.now c.args.at c.loop-own.own 3 c.split_at.ensures.back c.loop-own.invariant.within c.in-Trigraph.ensures.boundary c.loop-own.invariant.boundary;
}

pub returns-in-Plain : goal.returns-in-Plain
returns-in-Plain c = record {
  first = plain_step c.args.text.now c.split_at.result.1.now c.args.at c.loop-own.own c.in-Plain.width c.split_at.ensures.back c.loop-own-test.true c.in-Plain.ensures.value c.in-Plain.ensures.some c.loop-own.invariant.same;
  code = plain_code c.args.text.now c.split_at.result.1.now c.loop-own.own c.in-Plain.width c.split_at.ensures.back c.in-Plain.ensures.some;
  character = tt;
  begins = c.loop-own.invariant.begins;
  goes_on = omega (arith, c.in-Plain.ensures.some);
  within = omega (arith, c.in-Plain.ensures.within);
  own_boundary = c.loop-own.invariant.boundary;
  boundary = boundary_behind c.args.text.now c.split_at.result.1.now c.args.at c.loop-own.own c.in-Plain.width c.split_at.ensures.back c.loop-own.invariant.within c.in-Plain.ensures.boundary c.loop-own.invariant.boundary;
}
