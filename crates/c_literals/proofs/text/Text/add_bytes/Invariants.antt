use Rattle.std.proofs.Common.{◌≡◌, length}
use Rattle.c_literals.specs.Strings
use Rattle.c_literals.specs.Texts.{kept}
use Rattle.c_literals.proofs.text.Text.add_bytes.Given as goal

abbrev pub invariant-loop-byte : goal.invariant-loop-byte
invariant-loop-byte l = Strings.followed (kept l.self) (Strings.Units l.rest) ≡ Strings.followed (kept l.fn.self) (Strings.Units l.bytes)

abbrev pub decreases-loop-byte : goal.decreases-loop-byte
decreases-loop-byte l = length l.rest
