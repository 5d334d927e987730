use Rattle.std.proofs.Common.{◌≡◌, length}
use Rattle.head_rules.specs.Fields.{all_noted}
use Rattle.head_rules.proofs.fields.adding.note_all.Given as goal

abbrev pub invariant-names : goal.invariant-names
invariant-names l = all_noted l.names.entries l.rest ≡ all_noted l.fn.names.entries l.brought

abbrev pub decreases-names : goal.decreases-names
decreases-names l = length l.rest
