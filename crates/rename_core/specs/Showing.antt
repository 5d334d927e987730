-- What a class shows that stands in the way of another name, each with the tokens that show it, and its name where it has external linkage.
use Rattle.std.specs.Prelude.{ℕ, Bool, true, false, not, ◌&&◌, ◌==◌, List, [], ◌∷◌, flat_map, Option, Some, None, option_map}
use Rattle.std.specs.List.{find, list_any}
use Rattle.tok_data.specs.declared.sources.TokId.{TokId}
use Rattle.scope_tables.specs.declared.entities.Anchor.{Anchor}
use Rattle.scope_tables.specs.declared.entities.Anchor.TheVariants.{External, Local, Made, Macro}
use Rattle.scope_tables.specs.declared.entities.Occ.{Occ}
use Rattle.scope_tables.specs.declared.entities.Role.{Role}
use Rattle.scope_tables.specs.declared.entities.Role.TheVariants as role
use Rattle.rename_core.specs.declared.class.TwoMeanings.{TwoMeanings}
use Rattle.scope_tables.specs.Occurrences.{same_tok, same_anchor, counts}
use Rattle.rename_core.specs.Occurrences.{anchors_at, in_class, first_some}

-- ---- a token of it stands in a library text, whose name begins with `<`
abbrev pub is_library : List ℕ → Bool
is_library [] = false
is_library (c ∷ name) = c == 60

abbrev pub is_in_library : TokId → Bool
is_in_library t = is_library t.file

unfoldable pub library : List TokId → Option TokId
library class = find is_in_library class

-- ---- a token that `##` made denotes what it denotes (6.10.3.3)
abbrev pub is_pasted : Role → Bool
is_pasted role.Pasted = true
is_pasted role.Defines = false
is_pasted role.Declares = false
is_pasted role.Uses = false
is_pasted role.Spelled = false

-- a token of the class denotes the entity with this anchor there
abbrev pub has_anchor : List TokId → Anchor → Occ → Bool
has_anchor class a o = counts o.role && (same_anchor o.anchor a && in_class class o.tok)

-- the units in which an anchor of a unit means the same
abbrev pub across : List (List Occ) → List Occ → Anchor → List (List Occ)
across us os (External name) = us
across us os (Local t) = os ∷ []
across us os (Made t name) = os ∷ []
across us os (Macro name) = os ∷ []

-- an anchor of a unit is one of the class
abbrev pub class_has : List TokId → List (List Occ) → List Occ → Anchor → Bool
class_has class us os a = list_any (λ ps. list_any (has_anchor class a) ps) (across us os a)

abbrev pub is_pasted_of : List TokId → List (List Occ) → List Occ → Occ → Bool
is_pasted_of class us os o = is_pasted o.role && class_has class us os o.anchor

abbrev pub pasted_in : List TokId → List (List Occ) → List Occ → Option TokId
pasted_in class us os = option_map (λ o. o.tok) (find (is_pasted_of class us os) os)

-- the place at which the first one was made
unfoldable pub pasted : List (List Occ) → List TokId → Option TokId
pasted us class = first_some (pasted_in class us) us

-- ---- a token of it is in an argument that `#` spells (6.10.3.2)
abbrev pub is_spelled : Role → Bool
is_spelled role.Spelled = true
is_spelled role.Pasted = false
is_spelled role.Defines = false
is_spelled role.Declares = false
is_spelled role.Uses = false

abbrev pub is_spelled_at : TokId → Occ → Bool
is_spelled_at t o = is_spelled o.role && same_tok o.tok t

abbrev pub spelled_in : List (List Occ) → TokId → Bool
spelled_in us t = list_any (λ os. list_any (is_spelled_at t) os) us

unfoldable pub spelled : List (List Occ) → List TokId → Option TokId
spelled us class = find (spelled_in us) class

-- ---- a token of it has two anchors in one unit
abbrev pub other_than : Anchor → Anchor → Bool
other_than a b = not (same_anchor a b)

-- the first anchor, and the first that is another one
abbrev pub two_of : List Anchor → Option (Anchor × Anchor)
two_of [] = None
two_of (a ∷ others) = option_map (λ b. (a, b)) (find (other_than a) others)

abbrev pub two_in : TokId → List Occ → Option (Anchor × Anchor)
two_in t os = two_of (anchors_at t os)

abbrev pub meanings_of : List (List Occ) → TokId → Option TwoMeanings
meanings_of us t = option_map (λ p. record { tok = t; first = p.0; second = p.1 }) (first_some (two_in t) us)

unfoldable pub two : List (List Occ) → List TokId → Option TwoMeanings
two us class = first_some (meanings_of us) class

-- ---- its name with external linkage (6.2.2p2)
abbrev pub external_name : Anchor → Option (List ℕ)
external_name (External name) = Some name
external_name (Local t) = None
external_name (Made t name) = None
external_name (Macro name) = None

abbrev pub name_in : List (List Occ) → TokId → Option (List ℕ)
name_in us t = first_some external_name (flat_map (anchors_at t) us)

unfoldable pub external : List (List Occ) → List TokId → Option (List ℕ)
external us class = first_some (name_in us) class
