-- What is asked for: what a name denotes in front of an item, in a name space (ISO C11 6.2.1, 6.2.3). Of a tag the members, size and
-- alignment are asked for under the empty name of its own name space.
use Rattle.std.specs.Prelude.{ℕ, List, [], Option, Some, None, if◌then◌else◌}
use Rattle.std.specs.Map.{lookup}
use Rattle.std.specs.Option.{option_or}
use Rattle.asking.specs.Asking.{Kind}
use Rattle.asking.specs.LookUps.{LookUp}
use Rattle.scope_tables.specs.declared.entities.Entity.{Entity}
use Rattle.type_data.specs.declared.members.Space.{Space}
use Rattle.type_data.specs.declared.members.Space.TheVariants as space
use Rattle.type_data.specs.declared.names.TagId.{TagId}
use Rattle.elab_state.specs.declared.wants.Wanted.{Wanted}
use Rattle.elab_state.specs.Same.{same_wanted}

abbrev pub wanted : Space → List ℕ → Wanted
wanted s name = record { space = s; name = name }

abbrev pub members_of : TagId → Wanted
members_of id = wanted (space.Members id) []

-- an answer is an entity, or that there is none
abbrev pub reads : Wanted → Wanted × Option Entity → Option (Option Entity)
reads q entry = if same_wanted q entry.0 then Some entry.1 else None

abbrev pub wants : Kind
wants = record { Question = Wanted; Answer = λ q. Option Entity; Entry = Wanted × Option Entity; reads = reads; same = same_wanted }

-- questions with their answers, and the answer to all others, where they have one
pub record Told : Type 0 where
  pub entries : List (Wanted × Option Entity)
  pub others : Option (Option Entity)

abbrev pub answered : Told → LookUp wants
answered told q = option_or (lookup (same_wanted q) told.entries) told.others
