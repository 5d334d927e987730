-- Where a fault falls: on the token of a text that led to its output token (ISO C11 6.10.3); where that stands in a library text, on the
-- first directive of the unit, in a text that isn't the library's, through which the text was reached.
use Rattle.std.specs.Prelude.{ℕ, ◌==◌, ◌&&◌, not, Bool, false, List, [], ◌∷◌, ◌++◌, bytes_eq, Option, Some, None, if◌then◌else◌}
use Rattle.std.specs.List.{list_any}
use Rattle.tok_data.specs.declared.sources.TokId.{TokId}
use Rattle.tok_data.specs.declared.tokens.OutToken.{OutToken}
use Rattle.type_data.specs.declared.names.ItemName.{ItemName}
use Rattle.scope_tables.specs.Files.{text_of}
use Rattle.unit_items.specs.Sources.{output}
use Rattle.unit_items.specs.Units.{Unit}

-- a text that was entered, and the token by which it was
abbrev pub Entry : Type 0
Entry = List ℕ × TokId

-- a library text's name begins with `<`, a path with `/`
abbrev pub is_library : List ℕ → Bool
is_library [] = false
is_library (c ∷ name) = c == 60

-- the token of the first entry of a text, or the token itself where there is none
abbrev pub entry_of : List Entry → TokId → TokId
entry_of [] t = t
entry_of (e ∷ es) t = if bytes_eq e.0 t.file then e.1 else entry_of es t

-- by the library texts that were reached so far, each with the directive outside the library
abbrev pub moved : List Entry → TokId → TokId
moved reached t = if is_library t.file then entry_of reached t else t

abbrev pub is_reached : List Entry → List ℕ → Bool
is_reached reached name = list_any (λ e. bytes_eq e.0 name) reached

-- the first entry of a library text counts
abbrev pub also_reached : List Entry → Entry → List Entry
also_reached reached e =
    if is_library e.0 && not (is_reached reached e.0)
    then reached ++ (e.0, moved reached e.1) ∷ []
    else reached

abbrev pub all_reached : List Entry → List Entry → List Entry
all_reached reached [] = reached
all_reached reached (e ∷ es) = all_reached (also_reached reached e) es

-- ---- of a token of an item

abbrev pub site_or : Option OutToken → TokId → TokId
site_or None tok = tok
site_or (Some t) tok = t.site

abbrev pub fallen : Unit → List Entry → TokId → TokId
fallen u reached tok = moved reached (site_or (output u.tokens u.items tok) tok)

abbrev pub token_in : ItemName → ℕ → TokId
token_in item n = record { file = text_of item; at = n }

abbrev pub fallen_in : Unit → List Entry → ItemName → ℕ → TokId
fallen_in u reached item n = fallen u reached (token_in item n)
