-- What the names and tags of a unit are at its end: each declaration of one makes it what it is from there on (ISO C11 6.2.7p4,
-- 6.7.2.3).
use Rattle.std.specs.Prelude.{Bool, true, false, not, ◌&&◌, ℕ, List, [], ◌∷◌, Option, Some, None, if◌then◌else◌}
use Rattle.std.specs.List.{list_any}
use Rattle.type_data.specs.declared.members.Space.TheVariants.{Ordinary}
use Rattle.type_data.specs.declared.names.TagId.{TagId}
use Rattle.type_data.specs.declared.qualifiers.Extent.{Extent}
use Rattle.type_data.specs.declared.qualifiers.Extent.TheVariants as extent
use Rattle.type_data.specs.Same.{same_tag}
use Rattle.type_data.specs.Types.{Ty, Void_type, Basic_type, Enumerated_type, Tagged_type, Pointer_to, Array_of, Function_of, Bad_type}
use Rattle.scope_tables.specs.Scopes.{binds, or_outside}
use Rattle.scope_tables.specs.declared.bindings.Binding.{Binding}
use Rattle.scope_tables.specs.declared.entities.Entity.{Entity}
use Rattle.scope_tables.specs.declared.entities.EntityKind.{EntityKind}
use Rattle.scope_tables.specs.declared.entities.EntityKind.TheVariants as kind
use Rattle.scope_tables.specs.declared.entities.Linkage.{Linkage}
use Rattle.scope_tables.specs.declared.entities.Linkage.TheVariants as linkage
use Rattle.scope_tables.specs.declared.meanings.HeadMeaning.{HeadMeaning}

abbrev pub is_it : List ℕ → Binding → Bool
is_it name b = binds Ordinary name b

-- the last declaration of an ordinary name at file scope
abbrev pub last_here : List ℕ → List Binding → Option Entity
last_here name [] = None
last_here name (b ∷ bs) = or_outside (last_here name bs) (if is_it name b then Some b.entity else None)

abbrev pub last : List ℕ → List HeadMeaning → Option Entity
last name [] = None
last name (h ∷ hs) = or_outside (last name hs) (last_here name h.declared)

-- a tag is complete at the end where some declaration of it gives its members
abbrev pub holds : {A : Type 0} → Option A → Bool
holds (Some a) = true
holds None = false

abbrev pub completes : TagId → EntityKind → Bool
completes id (kind.Tag other info) = same_tag other id && holds info.members
completes id kind.Object = false
completes id kind.Function = false
completes id kind.Typedef = false
completes id kind.Enumerator = false
completes id kind.Member = false
completes id kind.Label = false

abbrev pub completed : TagId → List Entity → Bool
completed id es = list_any (λ e. completes id e.kind) es

abbrev pub is_complete : TagId → List HeadMeaning → Bool
is_complete id hs = list_any (λ h. completed id h.entities) hs

-- 6.9.2p2, p3: a tentative definition has an incomplete type at the end; an array of unknown size with external linkage has one
-- element then
abbrev pub has_one : Linkage → Bool
has_one linkage.External = true
has_one linkage.Internal = false
has_one linkage.None = false

abbrev pub unsized : Extent → Bool
unsized extent.None = true
unsized (extent.Size n) = false
unsized extent.Unknown = false

abbrev pub is_incomplete : Linkage → List HeadMeaning → Ty → Bool
is_incomplete l hs Void_type = true
is_incomplete l hs (Array_of t q n) = unsized n && not (has_one l)
is_incomplete l hs (Tagged_type id) = not (is_complete id hs)
is_incomplete l hs (Basic_type b) = false
is_incomplete l hs (Enumerated_type id) = false
is_incomplete l hs (Pointer_to t q) = false
is_incomplete l hs (Function_of t ps p) = false
is_incomplete l hs Bad_type = false
