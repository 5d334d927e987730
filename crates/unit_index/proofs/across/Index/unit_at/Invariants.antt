use Rattle.std.proofs.Common.{◌≡◌, ◌-◌, drop}
use Rattle.std.specs.Prelude.{bytes_eq}
use Rattle.std.specs.List.{find}
use Rattle.unit_index.proofs.across.Index.unit_at.Given as goal

abbrev pub invariant-units : goal.invariant-units
invariant-units l = find (λ u. bytes_eq u.path l.path) (drop l.place l.self) ≡ find (λ u. bytes_eq u.path l.path) l.self

abbrev pub decreases-units : goal.decreases-units
decreases-units l = 9223372036854775808 - l.place
