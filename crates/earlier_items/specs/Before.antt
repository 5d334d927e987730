-- What a name denotes in front of an item (ISO C11 6.2.1p4, p7): what the last item before it that declares the name at file scope makes of
-- it. Of a tag the members, size and alignment are asked for under the empty name of its own name space: these are what the last item that
-- declares the tag leaves, in whatever scope, since a type may name a tag that no scope shows (6.7.2.3).
use Rattle.std.specs.Prelude.{◌≡◌, Bool, true, false, List, [], ◌∷◌, Option, Some, None, option_map, if◌then◌else◌}
use Rattle.scope_tables.specs.Scopes.{or_outside}
use Rattle.scope_tables.specs.declared.bindings.Binding.{Binding}
use Rattle.scope_tables.specs.declared.entities.Entity.{Entity}
use Rattle.scope_tables.specs.declared.entities.EntityKind.{EntityKind}
use Rattle.scope_tables.specs.declared.entities.EntityKind.TheVariants as kind
use Rattle.scope_tables.specs.declared.meanings.HeadMeaning.{HeadMeaning}
use Rattle.type_data.specs.declared.members.Space.{Space}
use Rattle.type_data.specs.declared.members.Space.TheVariants as space
use Rattle.elab_state.specs.declared.wants.Wanted.{Wanted}
use Rattle.elab_state.specs.Same.{same_wanted}
use Rattle.elab_state.specs.Wants.{Told, answered, members_of, wanted}

-- the entity, where it is asked for by this question
abbrev pub if_it : Wanted → Wanted → Entity → Option Entity
if_it one q e = if same_wanted one q then Some e else None

-- ---- what a head declares

-- the last binding of a name
abbrev pub bound : Wanted → List Binding → Option Entity
bound q [] = None
bound q (b ∷ bs) = or_outside (bound q bs) (if_it (wanted b.space b.name) q b.entity)

-- the last entity of a tag
abbrev pub tag_by : Wanted → Entity → EntityKind → Option Entity
tag_by q e (kind.Tag id info) = if_it (members_of id) q e
tag_by q e kind.Object = None
tag_by q e kind.Function = None
tag_by q e kind.Typedef = None
tag_by q e kind.Enumerator = None
tag_by q e kind.Member = None
tag_by q e kind.Label = None

abbrev pub tag : Wanted → List Entity → Option Entity
tag q [] = None
tag q (e ∷ es) = or_outside (tag q es) (tag_by q e e.kind)

abbrev pub in_head : Wanted → HeadMeaning → Option Entity
in_head q h = or_outside (tag q h.entities) (bound q h.declared)

-- only a tag has a name space of its own, of its members
abbrev pub members_only : Space → Option Entity → Option Entity
members_only space.Labels e = None
members_only space.Tags e = None
members_only (space.Members id) e = e
members_only space.Ordinary e = None

abbrev pub is_other : Space → Bool
is_other space.Labels = true
is_other space.Tags = true
is_other (space.Members id) = false
is_other space.Ordinary = true

-- ---- what the heads of the items before it declare, in their order

abbrev pub before : List HeadMeaning → Wanted → Option Entity
before [] q = None
before (h ∷ hs) q = or_outside (before hs q) (in_head q h)

-- ---- what answers say

-- an entity is the answer, else there is the one before
abbrev pub or_answer : Option Entity → Option (Option Entity) → Option (Option Entity)
or_answer None answer = answer
or_answer (Some e) answer = Some (Some e)

abbrev pub or_nothing : Option (Option Entity) → Option Entity
or_nothing None = None
or_nothing (Some answer) = answer

-- an answer; that there is none where the question isn't among them
unfoldable pub said : Told → Wanted → Option Entity
said told q = or_nothing (answered told q)

-- the answers to all questions, and those to what is asked of tags alone
pub record Tells : Type 0 where
  pub known : Told
  pub tags : Told

-- only what is asked of a tag has an answer
abbrev pub tags_before : List HeadMeaning → Wanted → Option (Option Entity)
tags_before hs q = option_map Some (members_only q.space (before hs q))

-- they are what these items declare
pub record AreBefore (hs : List HeadMeaning) (tells : Tells) : Type 0 where
  pub said : (q : Wanted) → said tells.known q ≡ before hs q
  pub tags : (q : Wanted) → answered tells.tags q ≡ tags_before hs q
