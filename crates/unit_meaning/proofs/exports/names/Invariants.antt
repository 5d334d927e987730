use Rattle.std.proofs.Common.{◌≡◌, ◌++◌, length}
use Rattle.unit_meaning.specs.Exports.{names}
use Rattle.unit_meaning.proofs.exports.names.Given as goal

abbrev pub invariant-entities : goal.invariant-entities
invariant-entities l = l.out.items ++ names l.sources l.reached l.kept.occs l.kept.heads l.rest ≡ names l.sources l.reached l.kept.occs l.kept.heads l.entities

abbrev pub decreases-entities : goal.decreases-entities
decreases-entities l = length l.rest
