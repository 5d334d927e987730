use Rattle.std.proofs.Common.{◌≡◌, ℕ, List, length}
use Rattle.c_parser.specs.Noted.{number_in}
use Rattle.c_parser.specs.Words.{first_from, first_among}
use Rattle.c_parser.proofs.tokens.firsts_of.Given as goal

abbrev pub invariant-firsts : goal.invariant-firsts
invariant-firsts l = (text : List ℕ) → first_from l.number (number_in l.firsts text) l.rest text ≡ first_among l.tokens text

abbrev pub decreases-firsts : goal.decreases-firsts
decreases-firsts l = length l.rest
