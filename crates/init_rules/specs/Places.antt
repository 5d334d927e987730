-- The places that are open in an initializer, the innermost first: objects of which some parts may still be initialized
-- (ISO C11 6.7.9p17, p20).
use Rattle.std.specs.Prelude.{ℕ, Bool, true, false, not, ◌&&◌, ◌||◌, ◌==◌, is_none, List, [], ◌∷◌, Option, Some, None, if◌then◌else◌}
use Rattle.type_data.specs.declared.qualifiers.Extent.TheVariants as extent
use Rattle.type_data.specs.Types.{Ty, Array_of, Bad_type}
use Rattle.type_rel.specs.Completeness.{is_open_array}
use Rattle.type_rel.specs.Kinds.{Tagging, is_bad}
use Rattle.init_rules.specs.declared.state.OpenPlace.{OpenPlace}
use Rattle.init_rules.specs.declared.spots.Spot.{Spot}
use Rattle.init_rules.specs.declared.spots.Spot.TheVariants as spot_is
use Rattle.init_rules.specs.Parts.{Part, after, part_at}
use Rattle.init_rules.specs.Stacks.{top}

-- an object of this type whose next part has this number; a brace opened it, or not
abbrev pub place : Ty → ℕ → Bool → OpenPlace
place t n braced = record { ty = t; next = n; braced = braced; overfull = false }

-- one in which nothing is checked
abbrev pub unchecked : OpenPlace
unchecked = place Bad_type 0 false

-- p20: without a brace of its own an object takes initializers for its parts alone, and the others are left for the object round it
abbrev pub lacks_part : Tagging → OpenPlace → Bool
lacks_part tags p = is_none (part_at tags false p.ty p.next)

abbrev pub is_done : Tagging → OpenPlace → Bool
is_done tags p = not p.braced && not (is_bad p.ty) && lacks_part tags p

abbrev pub is_top_done : Tagging → Option OpenPlace → Bool
is_top_done tags None = false
is_top_done tags (Some p) = is_done tags p

abbrev pub settled : Tagging → List OpenPlace → List OpenPlace
settled tags [] = []
settled tags (p ∷ ps) = if is_done tags p then settled tags ps else p ∷ ps

-- p17: what is designated is next; else the first object with a part that is left
abbrev pub current : Tagging → Bool → List OpenPlace → List OpenPlace
current tags designating ps = if designating then ps else settled tags ps

abbrev pub is_top_unbraced : Option OpenPlace → Bool
is_top_unbraced None = false
is_top_unbraced (Some p) = not p.braced

-- the object whose list this is
abbrev pub listed : List OpenPlace → List OpenPlace
listed [] = []
listed (p ∷ ps) = if p.braced then p ∷ ps else listed ps

abbrev pub without_top : List OpenPlace → List OpenPlace
without_top [] = []
without_top (p ∷ ps) = ps

-- behind the brace that closes its list
abbrev pub closed : List OpenPlace → List OpenPlace
closed ps = without_top (listed ps)

-- the innermost place's next part has this number
abbrev pub next_is : ℕ → List OpenPlace → List OpenPlace
next_is n [] = []
next_is n (p ∷ ps) = record p { next = n } ∷ ps

-- its part with this number has an initializer
abbrev pub taken : ℕ → List OpenPlace → List OpenPlace
taken n ps = next_is (after n) ps

-- an array whose size isn't told
abbrev pub is_untold : Ty → Bool
is_untold (Array_of t q extent.Unknown) = true
is_untold t = false

-- nothing is known of what comes next: the object's type has a fault, or is an array without a brace whose size isn't told
abbrev pub is_lost : Bool → OpenPlace → Bool
is_lost designating p = is_bad p.ty || (not designating && not p.braced && is_untold p.ty && not (p.next == 0))

-- 6.7.2.1p18: a flexible array member takes no initializer
abbrev pub spot_at : Option Part → Spot
spot_at None = spot_is.Full
spot_at (Some part) = if is_open_array part.ty then spot_is.Full else spot_is.At part.number part.ty

-- nor do its elements: an array of no size without a brace was designated
abbrev pub is_flexible : OpenPlace → Bool
is_flexible p = not p.braced && is_open_array p.ty

abbrev pub spot_in : Tagging → Bool → OpenPlace → Spot
spot_in tags designating p =
    if is_lost designating p then spot_is.Unchecked
    else if is_flexible p then spot_is.Full
    else spot_at (part_at tags designating p.ty p.next)

-- what an initializer is for: where no place is open it is for the whole
abbrev pub spot : Tagging → Bool → Option OpenPlace → Spot
spot tags designating None = spot_is.Whole
spot tags designating (Some p) = spot_in tags designating p

-- whether it was told of the list that it has too many initializers
abbrev pub was_told : Option OpenPlace → Bool
was_told None = false
was_told (Some p) = p.overfull

abbrev pub is_told : List OpenPlace → Bool
is_told ps = was_told (top (listed ps))

-- more elements than an array has
unfoldable pub beyond : ℕ
beyond = 18446744073709551616

-- how many parts of its object a list is for isn't told, and nothing is checked up to the next designation
abbrev pub untold : List OpenPlace → List OpenPlace
untold [] = []
untold (p ∷ ps) = unchecked ∷ record p { next = beyond } ∷ ps

abbrev pub passed : List OpenPlace → List OpenPlace
passed ps = untold (listed ps)

-- it is told, and nothing is checked up to the next designation
abbrev pub tell : List OpenPlace → List OpenPlace
tell [] = []
tell (p ∷ ps) = unchecked ∷ record p { overfull = true } ∷ ps

abbrev pub overfilled : List OpenPlace → List OpenPlace
overfilled ps = tell (listed ps)
