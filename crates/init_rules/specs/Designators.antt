-- Designators (ISO C11 6.7.9p6, p7, p17, p18).
use Rattle.std.specs.Prelude.{ℕ, ℤ, pos, Bool, true, false, not, ◌==◌, ◌&&◌, nat_lt, List, [], ◌∷◌, Option, Some, None, if◌then◌else◌}
use Rattle.type_data.specs.declared.judged.Fault.{Fault}
use Rattle.type_data.specs.declared.qualifiers.Extent.{Extent}
use Rattle.type_data.specs.declared.qualifiers.Extent.TheVariants as extent
use Rattle.type_data.specs.declared.values.Value.{Value}
use Rattle.type_data.specs.declared.values.Value.TheVariants.{Known, Unknown, Faulty}
use Rattle.type_data.specs.Types.{Ty, Void_type, Tagged_type, Array_of}
use Rattle.type_rel.specs.Kinds.{Tagging, is_bad}
use Rattle.init_rules.specs.declared.state.OpenPlace.{OpenPlace}
use Rattle.init_rules.specs.declared.spots.Spot.{Spot}
use Rattle.init_rules.specs.declared.spots.Spot.TheVariants as spot_is
use Rattle.init_rules.specs.declared.spots.Standing.{Standing}
use Rattle.init_rules.specs.declared.spots.Standing.TheVariants as standing_is
use Rattle.init_rules.specs.Accepted.{broken, too_many}
use Rattle.init_rules.specs.Parts.{Part, has_parts, part_at}
use Rattle.init_rules.specs.Paths.{Path, path}
use Rattle.init_rules.specs.Places.{is_flexible, listed, next_is, overfilled, passed, place, taken, unchecked}
use Rattle.init_rules.specs.Stacks.{top}

-- p18: what was designated becomes an open place, of which the next designator speaks
abbrev pub aim_at : Option Part → Spot
aim_at None = spot_is.Full
aim_at (Some part) = spot_is.At part.number part.ty

abbrev pub aim_in : Tagging → OpenPlace → Spot
aim_in tags p =
    if is_bad p.ty then spot_is.Unchecked
    else if is_flexible p then spot_is.Full
    else aim_at (part_at tags true p.ty p.next)

abbrev pub aim : Tagging → Option OpenPlace → Spot
aim tags None = spot_is.Whole
aim tags (Some p) = aim_in tags p

-- where no initializer is taken a designator is too many, as in the list of a scalar that has its initializer
abbrev pub spent : OpenPlace
spent = place Void_type 1 false

abbrev pub entered : Spot → List OpenPlace → List OpenPlace
entered spot_is.Whole ps = ps
entered spot_is.Unchecked ps = ps
entered spot_is.Full ps = spent ∷ ps
entered (spot_is.At n t) ps = place t 0 false ∷ taken n ps

abbrev pub deeper : Tagging → List OpenPlace → List OpenPlace
deeper tags ps = entered (aim tags (top ps)) ps

-- p17, p18: a designation begins at the object whose list it stands in
abbrev pub object : Tagging → Bool → List OpenPlace → List OpenPlace
object tags designating ps = if designating then deeper tags ps else listed ps

-- p7: along the way to a member, through anonymous ones
abbrev pub along : Tagging → List ℕ → List OpenPlace → List OpenPlace
along tags [] ps = ps
along tags (n ∷ path) ps = along tags path (next_is n (deeper tags ps))

abbrev pub followed : Tagging → List ℕ → List OpenPlace → List OpenPlace
followed tags [] ps = ps
followed tags (n ∷ path) ps = along tags path (next_is n ps)

-- a designator that designates nothing; where the object is a scalar, it stands in front of the one initializer that this takes
abbrev pub missed_next : OpenPlace → ℕ
missed_next p = if has_parts p.ty then p.next else 1

abbrev pub missed : List OpenPlace → List OpenPlace
missed [] = []
missed (p ∷ ps) = unchecked ∷ record p { next = missed_next p } ∷ ps

-- p6: an array has the element; one of unknown size has every one
abbrev pub has_element : ℕ → Extent → Bool
has_element n (extent.Size m) = nat_lt n m
has_element n extent.None = true
has_element n extent.Unknown = true

abbrev pub element_at : Ty → ℤ → Option ℕ
element_at (Array_of t q m) (pos n) = if has_element n m then Some n else None
element_at t z = None

-- p11: a scalar takes one initializer
abbrev pub is_spent : OpenPlace → Bool
is_spent p = not (has_parts p.ty) && not (p.next == 0)

abbrev pub standing_in : OpenPlace → Standing
standing_in p = if is_bad p.ty then standing_is.Unknown else if is_spent p then standing_is.Spent else standing_is.Able

abbrev pub standing : Option OpenPlace → Standing
standing None = standing_is.Unlisted
standing (Some p) = standing_in p

-- what a designator comes to, `f` and `qs` where the object may take it; without a list it is out of place
abbrev pub fault_if : ℕ → List OpenPlace → Standing → Option Fault → Option Fault
fault_if at ps standing_is.Unlisted f = broken at 426
fault_if at ps standing_is.Unknown f = None
fault_if at ps standing_is.Spent f = too_many at ps
fault_if at ps standing_is.Able f = f

abbrev pub places_if : List OpenPlace → Standing → List OpenPlace → List OpenPlace
places_if ps standing_is.Unlisted qs = ps
places_if ps standing_is.Unknown qs = ps
places_if ps standing_is.Spent qs = overfilled ps
places_if ps standing_is.Able qs = qs

-- p7
abbrev pub path_from : Tagging → List ℕ → ℕ → Ty → Path
path_from tags name next (Tagged_type id) = path tags name next id
path_from tags name next t = None

abbrev pub path_of : Tagging → List ℕ → Option OpenPlace → Path
path_of tags name None = None
path_of tags name (Some p) = path_from tags name p.next p.ty

abbrev pub no_path : ℕ → Path → Option Fault
no_path at None = broken at 426
no_path at (Some path) = None

abbrev pub path_or_missed : Tagging → List OpenPlace → Path → List OpenPlace
path_or_missed tags ps None = missed ps
path_or_missed tags ps (Some path) = followed tags path ps

abbrev pub field_fault : ℕ → Tagging → List ℕ → List OpenPlace → Option Fault
field_fault at tags name ps = fault_if at ps (standing (top ps)) (no_path at (path_of tags name (top ps)))

abbrev pub field_places : Tagging → List ℕ → List OpenPlace → List OpenPlace
field_places tags name ps = places_if ps (standing (top ps)) (path_or_missed tags ps (path_of tags name (top ps)))

-- p6: an integer constant expression with a value
abbrev pub element_of : Option OpenPlace → ℤ → Option ℕ
element_of None z = None
element_of (Some p) z = element_at p.ty z

abbrev pub no_element : ℕ → Option ℕ → Option Fault
no_element at None = broken at 426
no_element at (Some n) = None

abbrev pub element_or_missed : List OpenPlace → Option ℕ → List OpenPlace
element_or_missed ps None = missed ps
element_or_missed ps (Some n) = next_is n ps

abbrev pub is_array : Ty → Bool
is_array (Array_of t q n) = true
is_array t = false

abbrev pub is_in_array : Option OpenPlace → Bool
is_in_array None = false
is_in_array (Some p) = is_array p.ty

-- one whose value isn't told: what is no array has no element either
abbrev pub untold_fault : ℕ → Bool → Option Fault
untold_fault at in_array = if in_array then None else broken at 426

abbrev pub untold_places : List OpenPlace → Bool → List OpenPlace
untold_places ps in_array = if in_array then passed ps else missed ps

-- one whose value breaks this rule; 0 is none, of what is told elsewhere
abbrev pub faulty_fault : ℕ → ℕ → Option Fault
faulty_fault at rule = if rule == 0 then None else broken at rule

abbrev pub faulty_places : List OpenPlace → ℕ → List OpenPlace
faulty_places ps rule = if rule == 0 then passed ps else missed ps

abbrev pub value_fault : ℕ → Option OpenPlace → Value → Option Fault
value_fault at p (Known z) = no_element at (element_of p z)
value_fault at p Unknown = untold_fault at (is_in_array p)
value_fault at p (Faulty rule) = faulty_fault at rule

abbrev pub value_places : List OpenPlace → Value → List OpenPlace
value_places ps (Known z) = element_or_missed ps (element_of (top ps) z)
value_places ps Unknown = untold_places ps (is_in_array (top ps))
value_places ps (Faulty rule) = faulty_places ps rule

abbrev pub index_fault : ℕ → Value → List OpenPlace → Option Fault
index_fault at v ps = fault_if at ps (standing (top ps)) (value_fault at (top ps) v)

abbrev pub index_places : Value → List OpenPlace → List OpenPlace
index_places v ps = places_if ps (standing (top ps)) (value_places ps v)
