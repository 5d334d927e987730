use Rattle.std.proofs.Common.{◌≡◌, ◌++◌, length}
use Rattle.elab_core.specs.Prototypes.{bindings_of}
use Rattle.elab_core.proofs.prototypes.bindings_of.Given as goal

abbrev pub invariant-entities : goal.invariant-entities
invariant-entities l = l.out.items ++ bindings_of l.made l.rest ≡ bindings_of l.made l.entities

abbrev pub decreases-entities : goal.decreases-entities
decreases-entities l = length l.rest
