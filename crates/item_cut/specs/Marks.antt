-- The punctuators that cut a unit into items; a digraph counts as what it stands for (ISO C11 6.4.6).
use Rattle.std.specs.Prelude.{ℕ, Bool, List, [], ◌∷◌, bytes_eq, codes}
use Rattle.std.specs.List.{list_any}

abbrev pub is_among : List (List ℕ) → List ℕ → Bool
is_among table text = list_any (λ mark. bytes_eq mark text) table

unfoldable pub is_opening : List ℕ → Bool
is_opening = is_among (codes "(" ∷ codes "[" ∷ codes "{" ∷ codes "<:" ∷ codes "<%" ∷ [])

unfoldable pub is_closing : List ℕ → Bool
is_closing = is_among (codes ")" ∷ codes "]" ∷ codes "}" ∷ codes ":>" ∷ codes "%>" ∷ [])

unfoldable pub is_open_brace : List ℕ → Bool
is_open_brace = is_among (codes "{" ∷ codes "<%" ∷ [])

unfoldable pub is_close_brace : List ℕ → Bool
is_close_brace = is_among (codes "}" ∷ codes "%>" ∷ [])

unfoldable pub is_close_paren : List ℕ → Bool
is_close_paren = is_among (codes ")" ∷ [])

unfoldable pub is_semicolon : List ℕ → Bool
is_semicolon = is_among (codes ";" ∷ [])

unfoldable pub is_equals : List ℕ → Bool
is_equals = is_among (codes "=" ∷ [])

-- what stands behind the name that an item declares
unfoldable pub is_name_end : List ℕ → Bool
is_name_end =
    is_among
    (codes "(" ∷ codes "[" ∷ codes "=" ∷ codes "," ∷ codes ";" ∷ codes "{" ∷ codes "<:" ∷ codes "<%" ∷ [])
