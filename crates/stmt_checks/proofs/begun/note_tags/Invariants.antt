use Rattle.std.proofs.Common.{◌≡◌, length}
use Rattle.stmt_checks.specs.Begun.{all_tags}
use Rattle.stmt_checks.proofs.begun.note_tags.Given as goal

abbrev pub invariant-entities : goal.invariant-entities
invariant-entities l = all_tags l.rest l.tags ≡ all_tags l.entities l.fn.tags

abbrev pub decreases-entities : goal.decreases-entities
decreases-entities l = length l.rest
