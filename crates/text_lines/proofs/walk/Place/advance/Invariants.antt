use Rattle.std.proofs.Common.{◌≡◌, ℕ, ◌+◌, ◌≤◌, length}
use Rattle.text_lines.specs.Walked.{IsBounded, pos_from}
use Rattle.text_lines.proofs.walk.Place.advance.Given as goal

abbrev pub invariant-loop-c : goal.invariant-loop-c
invariant-loop-c l = record {
  bounded : IsBounded l.place (l.self.at + length l.self.rest.now);
  forward : l.self.at ≤ l.place.at;
  ahead : l.place.at ≤ l.offset;
  tells : (k : ℕ) → l.place.at ≤ k → pos_from l.encoding l.self k ≡ pos_from l.encoding l.place k;
}

abbrev pub decreases-loop-c : goal.decreases-loop-c
decreases-loop-c l = length l.place.rest.now
