use Rattle.std.proofs.Common.{◌≡◌, ◌++◌, length, map}
use Rattle.elab_state.specs.Tokens.{bare_tokens, spelling}
use Rattle.elab_core.proofs.constants.spellings.Given as goal

abbrev pub invariant-numbers : goal.invariant-numbers
invariant-numbers l = l.names.items ++ map (spelling (bare_tokens l.tokens)) l.rest ≡ map (spelling (bare_tokens l.tokens)) l.numbers

abbrev pub decreases-numbers : goal.decreases-numbers
decreases-numbers l = length l.rest
