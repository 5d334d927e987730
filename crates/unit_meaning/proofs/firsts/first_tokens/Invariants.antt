use Rattle.std.proofs.Common.{◌≡◌, ℕ, List, drop, map}
use Rattle.std.specs.Option.{option_or}
use Rattle.unit_meaning.specs.Kept.{at}
use Rattle.unit_meaning.specs.Exports.{first_token}
use Rattle.unit_meaning.proofs.firsts.first_tokens.Given as goal

abbrev pub invariant-occs : goal.invariant-occs
invariant-occs l = (q : List ℕ) → option_or (at l.firsts q) (first_token q (map (λ o. o.now) (drop l.occ-index l.occs))) ≡ first_token q (map (λ o. o.now) l.occs)
