-- What is kept and what is left make what the list made.
use Rattle.std.proofs.Common.{◌≡◌, ℕ, List, drop, map as list_map}
use Rattle.std.specs.FinMap as map
use Rattle.tok_data.specs.declared.sources.TokId.{TokId}
use Rattle.macro_expand.specs.declared.types.Progress.{Progress}
use Rattle.macro_expand.specs.Tokens.{plain}
use Rattle.macro_expand.specs.Expansion.{expansion}
use Rattle.macro_expand.specs.Ties.Keeping.{held}
use Rattle.macro_expand.proofs.skimming.skim_plain.Given as goal

abbrev pub invariant-loop-token : goal.invariant-loop-token
invariant-loop-token l = record {
  count : l.count ≡ l.token-index;
  same : (lines : List (TokId × ℕ)) (p : Progress) → p.stopped ≡ l.stopped
      → held l.room l.kept (expansion (map.get l.table) lines p (list_map plain (drop l.token-index l.tokens)))
      ≡ held l.room l.fn.kept (expansion (map.get l.table) lines p (list_map plain l.tokens));
}
