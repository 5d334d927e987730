use Rattle.std.proofs.Common.{◌≡◌, ℕ, List, length}
use Rattle.c_parser.specs.Noted.{number_in}
use Rattle.c_parser.specs.Tokens.{number_from, number_among}
use Rattle.c_parser.proofs.tokens.typedefs_of.Given as goal

abbrev pub invariant-names : goal.invariant-names
invariant-names l = (text : List ℕ) → number_from l.number (number_in l.typedefs text) l.rest text ≡ number_among l.names text

abbrev pub decreases-names : goal.decreases-names
decreases-names l = length l.rest
