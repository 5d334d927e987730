use Rattle.std.proofs.Common.{◌≡◌, ◌||◌, length}
use Rattle.type_data.specs.declared.names.TagId.{TagId}
use Rattle.unit_ends.specs.Kept.{has_tag}
use Rattle.unit_ends.specs.Last.{is_complete}
use Rattle.unit_ends.proofs.last.complete_tags.Given as goal

abbrev pub invariant-loop-head : goal.invariant-loop-head
invariant-loop-head l = (q : TagId) → (has_tag l.tags q || is_complete q l.rest) ≡ is_complete q l.heads

abbrev pub decreases-loop-head : goal.decreases-loop-head
decreases-loop-head l = length l.rest
