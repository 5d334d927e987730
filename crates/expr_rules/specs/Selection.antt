-- Generic selections (ISO C11 6.5.1.1).
use Rattle.std.specs.Prelude.{ℕ, Bool, true, false, not, ◌&&◌, List, [], ◌∷◌, Option, Some, None, Ok, if◌then◌else◌}
use Rattle.std.specs.List.{list_all, list_any}
use Rattle.type_data.specs.declared.judged.Judged.{Judged}
use Rattle.type_data.specs.Same.{same_qual}
use Rattle.type_data.specs.Types.{Ty}
use Rattle.type_rel.specs.Compatible.{compatible}
use Rattle.type_rel.specs.Completeness.{is_complete}
use Rattle.type_rel.specs.Kinds.{Tagging, unqualified}
use Rattle.type_rel.specs.Conversion.{converted}
use Rattle.expr_rules.specs.declared.parts.Association.{Association}
use Rattle.expr_rules.specs.declared.parts.Association.TheVariants.{Typed, Default}
use Rattle.expr_rules.specs.Constants.{settled}
use Rattle.expr_rules.specs.Operands.{Answer, broken}

-- p2: each type is a complete object type
abbrev pub is_proper : Tagging → Association → Bool
is_proper tags (Typed t q) = is_complete tags t
is_proper tags Default = true

-- p2: no two of the types are compatible, and there is one `default` at most
abbrev pub are_alike : Association → Association → Bool
are_alike (Typed t q) (Typed u r) = same_qual q r && compatible t u
are_alike Default Default = true
are_alike (Typed t q) Default = false
are_alike Default (Typed u r) = false

abbrev pub are_apart : List Association → Bool
are_apart [] = true
are_apart (a ∷ more) = not (list_any (are_alike a) more) && are_apart more

abbrev pub are_proper : Tagging → List Association → Bool
are_proper tags associations = list_all (is_proper tags) associations

-- p3: the association with a type that is compatible with that of the controlling expression, which has no qualifiers
abbrev pub is_match : Ty → Association → Bool
is_match t (Typed u q) = same_qual unqualified q && compatible t u
is_match t Default = false

abbrev pub is_default : Association → Bool
is_default Default = true
is_default (Typed u q) = false

-- one of them, and no other
abbrev pub matches_one : Ty → List Association → Bool
matches_one t [] = false
matches_one t (a ∷ more) = if is_match t a then not (list_any (is_match t) more) else matches_one t more

-- the expression of the first association that passes
abbrev pub first_of : (Association → Bool) → List Association → List Judged → Option Judged
first_of passes [] es = None
first_of passes (a ∷ more) [] = None
first_of passes (a ∷ more) (e ∷ es) = if passes a then Some e else first_of passes more es

-- a part as it is chosen
abbrev pub selected_part : Judged → Judged
selected_part e = record { ty = e.ty; qual = e.qual; place = e.place; constant = settled e.ty e.constant }

abbrev pub chosen : ℕ → Ty → Option Judged → Answer
chosen at t (Some e) = Ok (selected_part e)
chosen at t None = broken at 503 [] (t ∷ [])

-- one type matches, or none does and there is a `default`
unfoldable pub selected : ℕ → Ty → List Association → List Judged → Answer
selected at t associations es =
    if matches_one t associations then chosen at t (first_of (is_match t) associations es)
    else if list_any (is_match t) associations then broken at 503 [] (t ∷ [])
    else chosen at t (first_of is_default associations es)

abbrev pub are_fit : Tagging → List Association → Bool
are_fit tags associations = are_proper tags associations && are_apart associations

abbrev pub generic : ℕ → Tagging → List Association → Judged → List Judged → Answer
generic at tags associations c es =
    if are_fit tags associations then selected at (converted c).ty associations es
    else broken at 502 [] []
