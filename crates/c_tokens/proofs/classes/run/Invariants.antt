-- What is still ahead goes on from the state as all does from the first one.
use Rattle.std.proofs.Common.{◌-◌, length}
use Rattle.c_tokens.specs.Reading.{IsAfter, ahead}
use Rattle.c_tokens.proofs.RunLemmas.{Runs}
use Rattle.c_tokens.proofs.classes.run.Given as goal

abbrev pub invariant-loop-read : goal.invariant-loop-read
invariant-loop-read l = record {
  runs : Runs l.count (ahead l.text l.end) l.state (ahead l.text l.at) l.fn.from;
  after : IsAfter l.text l.at l.count l.end;
}

abbrev pub decreases-loop-read : goal.decreases-loop-read
decreases-loop-read l = length l.text - l.end
