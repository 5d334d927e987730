use Rattle.std.proofs.Common.{◌≡◌, length}
use denote.Text.{Utf8}
use denote.Shadow.{shadow}
use Rattle.std.specs.Str.{chars}
use Rattle.c_literals.specs.CChars.{c_chars, closed}
use Rattle.c_literals.specs.Character.{of_c_chars}
use Rattle.c_literals.specs.Kept.{goes_on}
use Rattle.c_literals.proofs.characters.behind_quote.Given as goal

abbrev pub invariant-loop-c : goal.invariant-loop-c
invariant-loop-c l = shadow (Utf8 l.rest) × (goes_on l.prefix l.seen (closed 39 (c_chars (chars l.rest))) ≡ of_c_chars l.prefix (closed 39 (c_chars (chars l.text))))

abbrev pub decreases-loop-c : goal.decreases-loop-c
decreases-loop-c l = length l.rest
