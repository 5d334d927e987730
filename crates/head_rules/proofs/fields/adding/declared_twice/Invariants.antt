use Rattle.std.proofs.Common.{◌≡◌, length}
use Rattle.head_rules.specs.Fields.{declared_twice}
use Rattle.head_rules.proofs.fields.adding.declared_twice.Given as goal

abbrev pub invariant-names : goal.invariant-names
invariant-names l = declared_twice l.names.entries l.rest ≡ declared_twice l.names.entries l.brought

abbrev pub decreases-names : goal.decreases-names
decreases-names l = length l.rest
