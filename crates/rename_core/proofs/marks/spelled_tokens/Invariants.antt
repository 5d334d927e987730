use Rattle.std.proofs.Common.{◌≡◌, ◌-◌, ◌||◌, length, drop, map}
use Rattle.tok_data.specs.declared.sources.TokId.{TokId}
use Rattle.rename_core.specs.Found.{has_tok}
use Rattle.rename_core.specs.Showing.{spelled_in}
use Rattle.rename_core.proofs.marks.spelled_tokens.Given as goal

abbrev pub invariant-units : goal.invariant-units
invariant-units l = (q : TokId) → (has_tok l.set q || spelled_in (drop l.unit (map (λ os. os.now) l.units)) q) ≡ spelled_in (map (λ os. os.now) l.units) q

abbrev pub decreases-units : goal.decreases-units
decreases-units l = length l.units - l.unit
