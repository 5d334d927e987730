use Rattle.std.proofs.Common.{◌≡◌, ◌++◌, length}
use Rattle.std.specs.String.{string_bytes}
use Rattle.head_rules.specs.Assertions.{behind}
use Rattle.head_rules.proofs.assertions.add_all.Given as goal

abbrev pub invariant-pieces : goal.invariant-pieces
invariant-pieces l = string_bytes l.out ++ behind l.rest ≡ string_bytes l.fn.out ++ behind l.pieces

abbrev pub decreases-pieces : goal.decreases-pieces
decreases-pieces l = length l.rest
