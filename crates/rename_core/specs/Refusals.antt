-- What a rename comes to before its effect is known: the first refusal that holds, in this order, or the plan of it.
use Rattle.std.specs.Prelude.{ℕ, Bool, not, ◌&&◌, List, [], ◌∷◌, Option, Some, None, Result, Ok, Err, length, option_map, is_none, if◌then◌else◌, leb}
use Rattle.c_tokens.specs.Languages.{is_identifier}
use Rattle.tok_data.specs.Keywords.{is_keyword}
use Rattle.tok_data.specs.declared.sources.TokId.{TokId}
use Rattle.rename_core.specs.declared.class.Class.{Class}
use Rattle.rename_core.specs.declared.error.RenameError.{RenameError}
use Rattle.rename_core.specs.declared.error.RenameError.TheVariants.{NoName, NotIdentifier, Library, Pasted, Stringized, TwoMeanings}
use Rattle.rename_core.specs.declared.class.Plan.{Plan}
use Rattle.rename_core.specs.Occurrences.{or_later}

-- there is no token in it, as the one that was asked for denotes nothing
abbrev pub where_none : List TokId → Option RenameError
where_none [] = Some NoName
where_none (t ∷ ts) = None

abbrev pub no_name : Class → Option RenameError
no_name class = where_none class.toks

-- no identifier (6.4.2.1), a keyword (6.4.1), or more than 1,023 bytes
unfoldable pub is_new_name : List ℕ → Bool
is_new_name name = is_identifier name && (not (is_keyword name) && leb (length name) 1023)

abbrev pub not_identifier : List ℕ → Option RenameError
not_identifier name = if is_new_name name then None else Some NotIdentifier

abbrev pub in_library : Class → Option RenameError
in_library class = option_map Library class.library

abbrev pub is_pasted : Class → Option RenameError
is_pasted class = option_map Pasted class.pasted

abbrev pub is_stringized : Class → Option RenameError
is_stringized class = option_map Stringized class.spelled

abbrev pub has_two_meanings : Class → Option RenameError
has_two_meanings class = option_map TwoMeanings class.two

-- the first one of some that holds
abbrev pub first_of : List (Option RenameError) → Option RenameError
first_of [] = None
first_of (r ∷ rs) = or_later r (first_of rs)

abbrev pub refusal : Class → List ℕ → Option RenameError
refusal class name = first_of (no_name class ∷ not_identifier name ∷ in_library class ∷ is_pasted class ∷ is_stringized class ∷ has_two_meanings class ∷ [])

abbrev pub outcome : {A : Type 0} → Option RenameError → A → Result A RenameError
outcome None x = Ok x
outcome (Some e) x = Err e

abbrev pub planned : Class → List ℕ → Result Plan RenameError
planned class name = outcome (refusal class name) (record { class = class; new_name = name })

-- no refusal holds whatever the new name is
abbrev pub can_be_renamed : Class → Bool
can_be_renamed class = is_none (first_of (no_name class ∷ in_library class ∷ is_pasted class ∷ is_stringized class ∷ has_two_meanings class ∷ []))
