-- Each turn reads one character more.
use Rattle.std.proofs.Common.{arith}
use Rattle.c_tokens.specs.Reading.{ahead}
use Rattle.c_tokens.proofs.AfterLemmas.{after_begins, after_turns, ahead_next}
use Rattle.c_tokens.proofs.RunLemmas.{runs_begins, runs_turns}
use Rattle.c_tokens.proofs.classes.run.Goals as goal

pub loop-read-init : goal.loop-read-init
loop-read-init c = record {
  runs = runs_begins (ahead c.args.text.now c.args.at) c.args.from;
  after = after_begins c.args.text.now c.args.at c.requires;
}

pub overflow_add-count : goal.overflow_add-count
overflow_add-count c = omega (arith, c.loop-read.invariant.after.begins, c.in-Some.ensures.begins, c.in-Some.ensures.goes_on, c.in-Some.ensures.within)

pub loop-read-preserved : goal.loop-read-preserved
loop-read-preserved c = record {
  runs = runs_turns c.loop-read.count c.in-Some.read.code _ _ c.loop-read.state c.in-Some-next_state.next _ c.args.from
      (ahead_next c.args.text.now c.loop-read.end c.in-Some.read c.in-Some.ensures) c.in-Some-next_state.ensures c.loop-read.invariant.runs;
  after = after_turns c.args.text.now c.args.at c.loop-read.count c.loop-read.end c.in-Some.read c.loop-read.invariant.after c.in-Some.ensures;
}
