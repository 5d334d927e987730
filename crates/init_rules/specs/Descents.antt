-- The way down from an object to the first one inside that an expression initializes (ISO C11 6.7.9p13, p20): structures, unions
-- and arrays on it are opened without a brace.
use Rattle.std.specs.Prelude.{ℕ, suc, zero, Bool, true, false, not, ◌||◌, ◌==◌, List, [], ◌∷◌, Option, Some, None, if◌then◌else◌}
use Rattle.std.specs.Map.{lookup}
use Rattle.type_data.specs.declared.names.TagId.{TagId}
use Rattle.type_data.specs.declared.qualifiers.Extent.{Extent}
use Rattle.type_data.specs.declared.qualifiers.Extent.TheVariants as extent
use Rattle.type_data.specs.Same.{same_tag}
use Rattle.type_data.specs.Types.{Ty, Tagged_type, Array_of, Bad_type}
use Rattle.type_rel.specs.Kinds.{Tagging}
use Rattle.type_rel.specs.Inside.{inside_or, most_tags}
use Rattle.init_rules.specs.declared.state.OpenPlace.{OpenPlace}
use Rattle.init_rules.specs.Parts.{Part, after, of_tag}
use Rattle.init_rules.specs.Places.{place, unchecked}

-- the places that are open then, and the type of the object where the way ends
pub record Way : Type 0 where
  pub places : List OpenPlace
  pub ty : Ty

abbrev pub ends_at : Ty → List OpenPlace → Way
ends_at t ps = record { places = ps; ty = t }

-- an array of no size is no part of the way, and neither is one of no elements
abbrev pub has_elements : Extent → Bool
has_elements (extent.Size n) = not (n == 0)
has_elements extent.None = false
has_elements extent.Unknown = true

-- through arrays, from element to element
abbrev pub inner : (Ty → Bool) → Ty → List OpenPlace → Way
inner takes (Array_of t q n) ps =
    if takes (Array_of t q n) || not (has_elements n) then ends_at (Array_of t q n) ps
    else inner takes t (place (Array_of t q n) 1 false ∷ ps)
inner takes t ps = ends_at t ps

-- `enter` goes on from a structure or union; of an object whose type has a fault nothing is checked
abbrev pub by_kind : (TagId → List OpenPlace → Way) → (Ty → Bool) → Ty → List OpenPlace → Way
by_kind enter takes (Tagged_type id) ps = if takes (Tagged_type id) then ends_at (Tagged_type id) ps else enter id ps
by_kind enter takes Bad_type ps = ends_at Bad_type (unchecked ∷ ps)
by_kind enter takes t ps = ends_at t ps

abbrev pub behind : (TagId → List OpenPlace → Way) → (Ty → Bool) → Way → Way
behind enter takes w = by_kind enter takes w.ty w.places

abbrev pub down : (TagId → List OpenPlace → Way) → (Ty → Bool) → Ty → List OpenPlace → Way
down enter takes t ps = behind enter takes (inner takes t ps)

-- to the first member; one without members is the end
abbrev pub to_first : (Ty → List OpenPlace → Way) → TagId → List OpenPlace → Option Part → Way
to_first further id ps None = ends_at (Tagged_type id) ps
to_first further id ps (Some part) = further part.ty (place (Tagged_type id) (after part.number) false ∷ ps)

-- by a bound on how deep tags are inside of one another; a tag that it is already inside of has no members
abbrev pub down_in : ℕ → Tagging → List TagId → (Ty → Bool) → TagId → List OpenPlace → Way
down_in zero tags inside takes id ps = ends_at (Tagged_type id) ps
down_in (suc n) tags inside takes id ps =
    inside_or inside id (ends_at (Tagged_type id) ps)
    (to_first (λ t qs. down (λ other rs. down_in n tags (id ∷ inside) takes other rs) takes t qs) id ps (of_tag false 0 (lookup (same_tag id) tags)))

unfoldable pub descent : Tagging → (Ty → Bool) → Ty → List OpenPlace → Way
descent tags takes t ps = down (λ id qs. down_in most_tags tags [] takes id qs) takes t ps
