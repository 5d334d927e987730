-- Occurrences of one key: the place of the first one, and of each the place of the next.
use Rattle.std.specs.Prelude.{◌≡◌, ℕ, ◌+◌, Bool, List, [], ◌∷◌, drop, Option, Some, None, if◌then◌else◌}
use Rattle.std.specs.List.{filter, slice_get}
use Rattle.std.specs.HashMap.{HashMap, get}
use Rattle.tok_data.specs.declared.sources.TokId.{TokId}
use Rattle.scope_tables.specs.declared.entities.Occ.{Occ}
use Rattle.unit_index.specs.declared.chains.By.{By}
use Rattle.unit_index.specs.declared.chains.By.TheVariants as by
use Rattle.scope_tables.specs.Occurrences.{same_tok, is_at}
use Rattle.unit_index.specs.Codes.{by_token, by_anchor}
use Rattle.unit_index.specs.Occurrences.{is_of}

-- the place of the first that passes, the list's own first being at n
abbrev pub first_from : {A : Type 0} → (A → Bool) → ℕ → List A → Option ℕ
first_from p n [] = None
first_from p n (x ∷ xs) = if p x then Some n else first_from p (n + 1) xs

-- an occurrence of the key that another one has
abbrev pub alike : By → Occ → Occ → Bool
alike by.Token x = is_at x.tok
alike by.Anchor x = is_of x.anchor

-- the number of a key
abbrev pub code_by : By → Occ → ℕ
code_by by.Token = by_token
code_by by.Anchor = by_anchor

-- the first that passes from a place on
abbrev pub from_place : {A : Type 0} → (A → Bool) → Option ℕ → List A → Option ℕ
from_place p None xs = None
from_place p (Some n) xs = first_from p n (drop n xs)

-- this number stands at the place
abbrev pub HasCode : ℕ → List ℕ → Option ℕ → Type 0
HasCode code codes None = Unit
HasCode code codes (Some n) = slice_get codes n ≡ Some code

-- the place that a map has at a key
unfoldable pub at_tok : {S : Type 0} → HashMap TokId ℕ S → TokId → Option ℕ
at_tok map t = get same_tok map t

-- what is left of a chain that goes on at a place
abbrev pub chained : By → List Occ → Option Occ → ℕ → List Occ
chained b os None i = []
chained b os (Some x) i = filter (alike b x) (drop i os)

abbrev pub left : By → List Occ → Option ℕ → List Occ
left b os None = []
left b os (Some i) = chained b os (slice_get os i) i
