-- What ties the code of a walk to its definition.
use Rattle.std.specs.Prelude.{◌≡◌, ◌<◌, ◌^◌, ℕ, List, Option, None, Some, Result, Ok, Err, slice_get}
use Rattle.std.specs.Map.{lookup}
use Rattle.asking.specs.Asking.{Asking}
use Rattle.asking.specs.LookUps.{Ends, run_by}
use Rattle.type_data.specs.declared.members.Member.{Member}
use Rattle.type_data.specs.declared.names.TagId.{TagId}
use Rattle.type_data.specs.Same.{same_tag}
use Rattle.elab_state.specs.declared.halt.Halt.{Halt}
use Rattle.elab_state.specs.declared.reached.Through.{Through}
use Rattle.elab_state.specs.declared.reached.Through.TheVariants as through
use Rattle.elab_state.specs.Comes.{Stops}
use Rattle.elab_state.specs.Doings.{Made}
use Rattle.elab_state.specs.Looks.{held, reached_info, unnamed}
use Rattle.elab_state.specs.Wants.{Told, answered, wants}

-- from which members it goes on
abbrev pub leads : Through → Member → Option TagId
leads through.Held m = held m
leads through.Unnamed m = unnamed m

-- a copy of what stands at a place
abbrev pub IsAt : List TagId → ℕ → Option TagId → Type 0
IsAt ids place None = slice_get ids place ≡ None
IsAt ids place (Some id) = (slice_get ids place ≡ Some id) × (place < 2 ^ 63)

-- one tag of a walk: what is known of it is among the tags, and what its members lead to is come to
abbrev pub Passes : {B : Type 0} → Told → Asking wants Made → Through → TagId → List TagId → Result B Halt → List TagId → Made → Type 0
Passes told asking way id ids (Ok x) now made =
    (run_by (answered told) asking ≡ Ends made) × (now ≡ reached_info (leads way) ids (lookup (same_tag id) made.tags))
Passes told asking way id ids (Err halt) now made = Stops (run_by (answered told) asking) halt
