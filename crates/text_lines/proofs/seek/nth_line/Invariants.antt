use Rattle.std.proofs.Common.{◌≡◌, ℕ, ◌+◌, length}
use denote.Text.{Utf8 as IsText}
use denote.Shadow.{shadow}
use Rattle.std.specs.Str.{chars}
use Rattle.text_lines.specs.Walked.{sought}
use Rattle.text_lines.specs.declared.encoding.Encoding.{Encoding}
use Rattle.text_lines.proofs.seek.nth_line.Given as goal

abbrev pub invariant-loop-c : goal.invariant-loop-c
invariant-loop-c l = record {
  text : shadow (IsText l.rest);
  seeks : (encoding : Encoding) (more character : ℕ) → sought encoding (l.line + more) character (chars l.text) ≡ l.at + sought encoding (l.left + more) character (chars l.rest);
  bytes : l.at + length l.rest ≡ length l.text;
}

abbrev pub decreases-loop-c : goal.decreases-loop-c
decreases-loop-c l = length l.rest
