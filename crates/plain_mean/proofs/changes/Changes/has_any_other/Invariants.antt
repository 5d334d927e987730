use Rattle.std.proofs.Common.{◌≡◌, length, map}
use Rattle.std.specs.List.{list_any}
use Rattle.include_units.specs.Coming.{question}
use Rattle.plain_mean.specs.Renewed.{has_other_by}
use Rattle.plain_mean.proofs.changes.Changes.has_any_other.Given as goal

abbrev pub invariant-wants : goal.invariant-wants
invariant-wants l =
    (list_any (has_other_by l.fn.self.prior l.fn.self.now) (map question l.rest) ≡ list_any (has_other_by l.fn.self.prior l.fn.self.now) (map question l.fn.wants))
    × (l.self ≡ l.fn.self) × (l.lexings ≡ l.fn.lexings)

abbrev pub decreases-wants : goal.decreases-wants
decreases-wants l = length l.rest
