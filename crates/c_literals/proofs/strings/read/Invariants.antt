use Rattle.std.proofs.Common.{◌≡◌, length}
use denote.Text.{Utf8}
use denote.Shadow.{shadow}
use Rattle.std.specs.Str.{chars}
use Rattle.c_literals.specs.CChars.{c_chars, closed}
use Rattle.c_literals.specs.Strings.{followed, of_content}
use Rattle.c_literals.specs.Texts.{kept}
use Rattle.c_literals.proofs.strings.read.Given as goal

abbrev pub invariant-loop-c : goal.invariant-loop-c
invariant-loop-c l =
    shadow (Utf8 l.rest)
    × (followed (kept l.text) (of_content l.prefix (closed 34 (c_chars (chars l.rest)))) ≡ followed (kept l.fn.text) (of_content l.prefix (closed 34 (c_chars (chars l.piece)))))

abbrev pub decreases-loop-c : goal.decreases-loop-c
decreases-loop-c l = length l.rest
