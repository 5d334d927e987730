-- One step of an initializer (ISO C11 6.7.9): where it leads, and the rule that is broken.
use Rattle.std.specs.Prelude.{ℕ, Bool, true, false, ◌&&◌, ◌||◌, List, ◌∷◌, Option, Some, None, Result, Ok, Err, if◌then◌else◌}
use Rattle.type_data.specs.declared.judged.Fault.{Fault}
use Rattle.type_data.specs.declared.judged.Judged.{Judged}
use Rattle.type_data.specs.Types.{Ty, Bad_type}
use Rattle.type_data.specs.declared.judged.CheckError.{CheckError}
use Rattle.type_data.specs.declared.judged.CheckError.TheVariants.{Broken}
use Rattle.type_rel.specs.Completeness.{is_complete, is_open_array}
use Rattle.type_rel.specs.Kinds.{Tagging, is_bad}
use Rattle.type_rel.specs.Conversion.{converted}
use Rattle.init_rules.specs.declared.state.InitPiece.{InitPiece}
use Rattle.init_rules.specs.declared.state.InitPiece.TheVariants as piece
use Rattle.init_rules.specs.declared.state.InitState.{InitState}
use Rattle.init_rules.specs.declared.state.OpenPlace.{OpenPlace}
use Rattle.init_rules.specs.declared.spots.Spot.{Spot}
use Rattle.init_rules.specs.declared.spots.Spot.TheVariants as spot_is
use Rattle.init_rules.specs.Accepted.{by_text, refused, takes, too_many}
use Rattle.init_rules.specs.Descents.{Way, descent}
use Rattle.init_rules.specs.Designators.{field_fault, field_places, index_fault, index_places, object}
use Rattle.init_rules.specs.Extents.{got, greater}
use Rattle.init_rules.specs.Parts.{has_parts}
use Rattle.init_rules.specs.Places.{closed, current, overfilled, passed, place, spot, taken, unchecked}
use Rattle.init_rules.specs.Stacks.{bottom, top}
use Rattle.init_rules.specs.Strings.{filled, filled_length, fills, length_of, may_fill, may_take_text}

-- An expression with a fault takes a scalar; of what has parts it isn't known how many it takes.
abbrev pub unknown_in : Ty → List OpenPlace → List OpenPlace
unknown_in t ps = if has_parts t then unchecked ∷ ps else ps

-- the way from a part to the object that the expression initializes
abbrev pub way : Tagging → Bool → Judged → Judged → Ty → List OpenPlace → Way
way tags text j c t ps = descent tags (takes text j c) t ps

abbrev pub part_places : Tagging → Bool → Judged → Judged → Ty → List OpenPlace → List OpenPlace
part_places tags text j c t ps = if is_bad j.ty then unknown_in t ps else (way tags text j c t ps).places

-- an expression: `c` is what it is after its conversion, and `text` says that it is a string literal
abbrev pub places_at : Tagging → Bool → Judged → Judged → Spot → List OpenPlace → List OpenPlace
places_at tags text j c spot_is.Whole ps = ps
places_at tags text j c spot_is.Unchecked ps = passed ps
places_at tags text j c spot_is.Full ps = overfilled ps
places_at tags text j c (spot_is.At n t) ps = part_places tags text j c t (taken n ps)

abbrev pub part_fault : ℕ → Bool → Tagging → Bool → Judged → Judged → Ty → List OpenPlace → Option Fault
part_fault at constant tags text j c t ps =
    if is_bad j.ty then None else refused at constant text (way tags text j c t ps).ty j c

abbrev pub fault_at : ℕ → Bool → Ty → Tagging → Bool → Judged → Judged → Spot → List OpenPlace → Option Fault
fault_at at constant whole tags text j c spot_is.Whole ps = refused at constant text whole j c
fault_at at constant whole tags text j c spot_is.Unchecked ps = None
fault_at at constant whole tags text j c spot_is.Full ps = too_many at ps
fault_at at constant whole tags text j c (spot_is.At n t) ps = part_fault at constant tags text j c t (taken n ps)

-- p14, p22: a string for an array as a whole tells the number of its elements, also where their type has a fault
abbrev pub text_length : Bool → Ty → Ty → ℕ
text_length text u t = if text && may_take_text t u then length_of u else 0

abbrev pub whole_length : Ty → Bool → Judged → Spot → ℕ
whole_length whole text j spot_is.Whole = text_length text j.ty whole
whole_length whole text j spot_is.Unchecked = 0
whole_length whole text j spot_is.Full = 0
whole_length whole text j (spot_is.At n t) = 0

-- a string in braces
abbrev pub filled_fault : ℕ → Ty → Option OpenPlace → Option Fault
filled_fault at u None = None
filled_fault at u (Some p) = by_text at p.ty u

-- of a string in braces that may stand for the whole array or for its first element nothing is checked
abbrev pub spot_of : Tagging → Bool → Bool → Judged → Option OpenPlace → Spot
spot_of tags designating text j p = if text && may_fill designating j.ty p then spot_is.Unchecked else spot tags designating p

-- the state behind a step
abbrev pub moved : InitState → List OpenPlace → Bool → ℕ → InitState
moved s ps designating n = record s { open_places = ps; designating = designating; reached = greater (greater s.reached n) (got (bottom ps)) }

-- by the places that are open where it stands
abbrev pub expressed : InitState → Tagging → Bool → Judged → Judged → List OpenPlace → InitState
expressed s tags text j c ps =
    if text && fills s.designating j.ty (top ps) then moved s (filled c.ty ps) false (filled_length j.ty ps)
    else moved s (places_at tags text j c (spot_of tags s.designating text j (top ps)) ps) false (whole_length s.ty text j (spot_of tags s.designating text j (top ps)))

abbrev pub expressed_fault : InitState → Tagging → Bool → Judged → Judged → List OpenPlace → Option Fault
expressed_fault s tags text j c ps =
    if text && fills s.designating j.ty (top ps) then filled_fault s.at j.ty (top ps)
    else fault_at s.at s.constant s.ty tags text j c (spot_of tags s.designating text j (top ps)) ps

-- of an object of incomplete type nothing is checked in its list, but for an array
abbrev pub list_type : Tagging → Ty → Ty
list_type tags t = if is_complete tags t || is_open_array t then t else Bad_type

-- an opening brace
abbrev pub opened : Tagging → Ty → Spot → List OpenPlace → List OpenPlace
opened tags whole spot_is.Whole ps = place (list_type tags whole) 0 true ∷ ps
opened tags whole spot_is.Unchecked ps = place Bad_type 0 true ∷ passed ps
opened tags whole spot_is.Full ps = place Bad_type 0 true ∷ overfilled ps
opened tags whole (spot_is.At n t) ps = place (list_type tags t) 0 true ∷ taken n ps

abbrev pub open_fault : ℕ → Spot → List OpenPlace → Option Fault
open_fault at spot_is.Whole ps = None
open_fault at spot_is.Unchecked ps = None
open_fault at spot_is.Full ps = too_many at ps
open_fault at (spot_is.At n t) ps = None

abbrev pub here : InitState → Tagging → List OpenPlace
here s tags = current tags s.designating s.open_places

abbrev pub after_piece : InitState → Tagging → InitPiece → InitState
after_piece s tags piece.Open = moved s (opened tags s.ty (spot tags s.designating (top (here s tags))) (here s tags)) false 0
after_piece s tags piece.Close = moved s (closed s.open_places) false 0
after_piece s tags (piece.Field name) = moved s (field_places tags name (object tags s.designating s.open_places)) true 0
after_piece s tags (piece.Index v) = moved s (index_places v (object tags s.designating s.open_places)) true 0
after_piece s tags (piece.Item j) = expressed s tags false j (converted j) (here s tags)
after_piece s tags (piece.Text j) = expressed s tags true j (converted j) (here s tags)

abbrev pub fault_of_piece : InitState → Tagging → InitPiece → Option Fault
fault_of_piece s tags piece.Open = open_fault s.at (spot tags s.designating (top (here s tags))) (here s tags)
fault_of_piece s tags piece.Close = None
fault_of_piece s tags (piece.Field name) = field_fault s.at tags name (object tags s.designating s.open_places)
fault_of_piece s tags (piece.Index v) = index_fault s.at v (object tags s.designating s.open_places)
fault_of_piece s tags (piece.Item j) = expressed_fault s tags false j (converted j) (here s tags)
fault_of_piece s tags (piece.Text j) = expressed_fault s tags true j (converted j) (here s tags)

-- what a step answers
abbrev pub answer_of : Option Fault → Result (Unit {0}) CheckError
answer_of None = Ok tt
answer_of (Some f) = Err (Broken f)

abbrev pub answered : InitState → Tagging → InitPiece → Result (Unit {0}) CheckError
answered s tags p = answer_of (fault_of_piece s tags p)
