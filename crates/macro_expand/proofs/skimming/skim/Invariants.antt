-- What is kept and what is left make what they made.
use Rattle.std.proofs.Common.{◌≡◌, ◌≤◌, ℕ, List, length}
use Rattle.std.specs.FinMap as map
use Rattle.tok_data.specs.declared.sources.TokId.{TokId}
use Rattle.macro_expand.specs.declared.types.Progress.{Progress}
use Rattle.macro_expand.specs.Ties.Codes.{Names}
use Rattle.macro_expand.specs.Ties.Stands.{Stands, Grows}
use Rattle.macro_expand.specs.Ties.Numbers.{reals}
use Rattle.macro_expand.specs.Expansion.{expansion}
use Rattle.macro_expand.specs.Ties.Keeping.{held}
use Rattle.macro_expand.proofs.skimming.skim.Given as goal

abbrev pub invariant-tokens : goal.invariant-tokens
invariant-tokens l = record {
  grows : Grows l.fn.sets l.sets;
  same : (f : Names → Names) → Stands f l.sets → (lines : List (TokId × ℕ)) (p : Progress) → p.stopped ≡ l.stopped
      → held l.room l.kept (expansion (map.get l.table) lines p (reals f l.rest))
      ≡ held l.room l.fn.kept (expansion (map.get l.table) lines p (reals f l.fn.rest));
  shorter : length l.rest ≤ length l.fn.rest;
}

abbrev pub decreases-tokens : goal.decreases-tokens
decreases-tokens l = length l.rest
