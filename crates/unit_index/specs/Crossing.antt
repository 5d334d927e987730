-- The warnings across units without their tokens, by what units see of one another: so they stay while the tokens of a unit move.
use Rattle.std.specs.Prelude.{ℕ, ◌+◌, Bool, true, ◌&&◌, nat_eq, is_some, bytes_eq, List, [], ◌∷◌, ◌++◌, codes, Option, Some, None, map, option_and_then, if◌then◌else◌}
use Rattle.std.specs.Bool.{beq}
use Rattle.std.specs.Cmp.Lexicographic.{pointwise}
use Rattle.std.specs.List.{flat_map, slice_get}
use Rattle.tok_data.specs.declared.sources.TokId.{TokId}
use Rattle.scope_tables.specs.declared.units.Export.{Export}
use Rattle.type_data.specs.Same.{same_type}
use Rattle.type_data.specs.Types.{Ty}
use Rattle.type_print.specs.Printed.{text, unqualified}
use Rattle.unit_index.specs.declared.across.CrossFault.{CrossFault}
use Rattle.unit_index.specs.declared.crossing.Crossing.{Crossing}
use Rattle.unit_index.specs.declared.crossing.Wrong.{Wrong}
use Rattle.unit_index.specs.declared.crossing.Wrong.TheVariants.{OtherType, DefinedToo}
use Rattle.unit_index.specs.declared.exported.Does.{Does}
use Rattle.unit_index.specs.declared.exported.Does.TheVariants.{Declares, Defines}
use Rattle.unit_index.specs.Cross.{fault}
use Rattle.unit_index.specs.Exported.{From, Shown}
use Rattle.unit_index.specs.Firsts.{first_some, given}
use Rattle.unit_index.specs.Handles.{Tagging}
use Rattle.unit_index.specs.Matching.{Test}

-- what others see of a name, and of a unit
pub record Seen : Type 0 where
  pub name : List ℕ
  pub ty : Ty
  pub is_defined : Bool

pub record Sight : Type 0 where
  pub path : List ℕ
  pub tags : Tagging
  pub names : List Seen

abbrev pub seen : Export → Seen
seen e = record { name = e.name; ty = e.ty; is_defined = is_some e.defined }

abbrev pub sight : Shown → Sight
sight u = record { path = u.path; tags = u.exports.tags; names = map seen u.exports.names }

-- the same is seen of two names
abbrev pub same_seen : Export → Export → Bool
same_seen a b = bytes_eq a.name b.name && (same_type a.ty b.ty && beq (is_some a.defined) (is_some b.defined))

-- a name of a unit
pub record Origin : Type 0 where
  pub path : List ℕ
  pub tags : Tagging
  pub name : Seen

abbrev pub origin : From → Origin
origin f = record { path = f.path; tags = f.tags; name = seen f.export }

abbrev pub does_seen : Does → Seen → Bool
does_seen Declares s = true
does_seen Defines s = s.is_defined

abbrev pub one_seen : Does → List ℕ → Tagging → List ℕ → Seen → Option Origin
one_seen does path tags q s = given (does_seen does s && pointwise nat_eq s.name q) (record { path = path; tags = tags; name = s })

abbrev pub seen_in : Does → List ℕ → Sight → Option Origin
seen_in does q s = first_some (one_seen does s.path s.tags q) s.names

-- the first unit that does it, with the first name of it that does
abbrev pub first_seen : Does → List Sight → List ℕ → Option Origin
first_seen does ss q = first_some (seen_in does q) ss

-- a warning on a unit's name, by the name's number
abbrev pub crossing : ℕ → Wrong → List ℕ → Crossing
crossing n w t = record { nth = n; wrong = w; text = t }

abbrev pub types_told : Origin → Tagging → Seen → List ℕ
types_told o tags s = (((((s.name ++ codes " is ") ++ text tags s.ty unqualified []) ++ codes " here, ") ++ text o.tags o.name.ty unqualified []) ++ codes " in ") ++ o.path

abbrev pub definition_told : List ℕ → Seen → List ℕ
definition_told first s = ((s.name ++ codes " is defined in ") ++ first) ++ codes " too"

module _ (test : Test) where
  abbrev pub differs : Origin → Tagging → ℕ → Seen → List Crossing
  differs o tags n s = if test o.tags tags o.name.ty s.ty then [] else crossing n OtherType (types_told o tags s) ∷ []

  abbrev pub typed : Option Origin → List ℕ → Tagging → ℕ → Seen → List Crossing
  typed None path tags n s = []
  typed (Some o) path tags n s = if bytes_eq o.path path then [] else differs o tags n s

abbrev pub twice : List ℕ → ℕ → Seen → List Crossing
twice first n s = if s.is_defined then crossing n DefinedToo (definition_told first s) ∷ [] else []

abbrev pub defined : Option Origin → List ℕ → ℕ → Seen → List Crossing
defined None path n s = []
defined (Some o) path n s = if bytes_eq o.path path then [] else twice o.path n s

module _ (test : Test) (ss : List Sight) where
  abbrev pub on_name : List ℕ → Tagging → ℕ → Seen → List Crossing
  on_name path tags n s = typed test (first_seen Declares ss s.name) path tags n s ++ defined (first_seen Defines ss s.name) path n s

  -- those of names from a number on
  abbrev pub on_names : List ℕ → Tagging → ℕ → List Seen → List Crossing
  on_names path tags n [] = []
  on_names path tags n (s ∷ names) = on_name path tags n s ++ on_names path tags (n + 1) names

  abbrev pub crossings : Sight → List Crossing
  crossings s = on_names s.path s.tags 0 s.names

-- of each unit
abbrev pub all_crossings : Test → List Sight → List (List Crossing)
all_crossings test ss = map (crossings test ss) ss

-- ---- their tokens

abbrev pub rule_of : Wrong → ℕ
rule_of OtherType = 801
rule_of DefinedToo = 802

-- the token on which such a warning falls, on a name
abbrev pub token_of : Export → Wrong → Option TokId
token_of e OtherType = Some e.first
token_of e DefinedToo = e.defined

abbrev pub on_token : List ℕ → ℕ → List ℕ → Option TokId → List CrossFault
on_token path rule message None = []
on_token path rule message (Some tok) = fault path rule tok message ∷ []

abbrev pub token_at : Shown → Crossing → Option TokId
token_at u c = option_and_then (λ e. token_of e c.wrong) (slice_get u.exports.names c.nth)

-- the warning on the token that its name has now
abbrev pub placed : Shown → Crossing → List CrossFault
placed u c = on_token u.path (rule_of c.wrong) c.text (token_at u c)

-- those of some units, one behind the other
abbrev pub all_placed : List Shown → List (List Crossing) → List CrossFault
all_placed [] css = []
all_placed (u ∷ us) [] = []
all_placed (u ∷ us) (cs ∷ css) = flat_map (placed u) cs ++ all_placed us css
