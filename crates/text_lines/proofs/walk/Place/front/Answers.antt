use Rattle.std.proofs.Common.{arith}
use Rattle.std.proofs.Math.Nat.{sub-zero}
use Rattle.text_lines.proofs.Walked.{pos_at_walked}
use Rattle.text_lines.proofs.walk.Place.front.Goals as goal

pub returns-clause-place : goal.returns-clause-place
returns-clause-place c enc = record {
  bounded = record { rest = omega arith; short = omega arith; line = omega arith; character = omega arith };
  tells = λ k h. rw sub-zero (pos_at_walked c.args.text.now k enc);
}
