use Rattle.std.proofs.Common.{◌≡◌, ℕ, List, drop, map}
use Rattle.macro_expand.specs.Tokens.{plain}
use Rattle.macro_expand.specs.Ties.Parens.{all_before}
use Rattle.macro_expand.proofs.parens.Parens.leave_all.Given as goal

abbrev pub invariant-loop-token : goal.invariant-loop-token
invariant-loop-token l = (p : ℕ × List ℕ) → l.fn.self ≡ all_before (map plain l.tokens) p
    → l.self ≡ all_before (map plain (drop l.token-index l.tokens)) p
