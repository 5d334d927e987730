-- The parts of a text, and its names.
use Rattle.std.proofs.Common.{◌≡◌, ℕ, ◌<◌, Bool, true, false, not, ◌||◌, ◌==◌, List, [], ◌∷◌, ◌++◌, length, All, sym, refl, ap, ◌∙◌, ⊎_elim, arith}
use Rattle.std.specs.List.{list_all, list_any, filter, onto_first, position_or_len, before_first, after_first}
use Rattle.std.proofs.lemmas.Bool.{cond-true, cond-false, cond_both, cases_Bool, and_parts, or_parts, and_from}
use Rattle.std.proofs.lemmas.List.Elements.{All-nil, All-cons, All-head, All-tail}
use Rattle.std.proofs.lemmas.List.Splits.{slice_split_none, slice_split_first}
use Rattle.std.proofs.lemmas.List.Sums.{fails_before_first}
use Rattle.std.proofs.lemmas.List.Elements.{All-from_get_or}
use Rattle.uri_paths.specs.Parts.{slash, parts, is_empty, is_here, is_up, is_name}
use Rattle.uri_paths.specs.Named.{IsComponent}

-- the byte is no slash
abbrev pub IsOther : ℕ → Type 0
IsOther b = (b == slash) ≡ false

-- no byte of the part is a slash
abbrev pub IsWhole : List ℕ → Type 0
IsWhole part = All IsOther part

-- a text without a slash is one part
pub one_part : (text : List ℕ) → position_or_len (λ b. b == slash) text ≡ length text → parts text ≡ text ∷ []
one_part text none =
    slice_split_none (λ b. b == slash) text (All-from_get_or IsOther text 0 (λ i inside. fails_before_first (λ b. b == slash) text i 0 (omega arith)))

-- the first part ends at the first slash
pub first_part : (text : List ℕ) → position_or_len (λ b. b == slash) text < length text → parts text ≡ before_first (λ b. b == slash) text ∷ parts (after_first (λ b. b == slash) text)
first_part text inside = slice_split_first (λ b. b == slash) text 0 inside

-- the same, of the parts that a call gave
pub split_first : (text part rest : List ℕ) → part ≡ before_first (λ b. b == slash) text → rest ≡ after_first (λ b. b == slash) text → position_or_len (λ b. b == slash) text < length text → parts text ≡ part ∷ parts rest
split_first text part rest front back inside = rw (front, back) (first_part text inside)

onto_whole : (b : ℕ) (ps : List (List ℕ)) → IsOther b → All IsWhole ps → All IsWhole (onto_first b ps)
onto_whole b [] other whole = All-cons IsWhole (b ∷ []) [] (All-cons IsOther b [] other (All-nil IsOther)) (All-nil IsWhole)
onto_whole b (p ∷ ps) other whole =
    All-cons IsWhole (b ∷ p) ps (All-cons IsOther b p other (All-head IsWhole p ps whole)) (All-tail IsWhole p ps whole)

-- no part has a slash
pub parts_whole : (text : List ℕ) → All IsWhole (parts text)
parts_whole [] = All-cons IsWhole [] [] (All-nil IsOther) (All-nil IsWhole)
parts_whole (b ∷ text) =
    cond_both (b == slash) ([] ∷ parts text) (onto_first b (parts text)) (All IsWhole)
    (λ here. All-cons IsWhole [] (parts text) (All-nil IsOther) (parts_whole text))
    (λ other. onto_whole b (parts text) other (parts_whole text))

-- a slash parts two texts
pub parts_append : (a b : List ℕ) → parts (a ++ slash ∷ b) ≡ parts a ++ parts b
parts_append [] b = refl
parts_append (x ∷ a) b =
    ⊎_elim
    (λ here. cond-true _ _ _ here ∙ ap (λ ps. [] ∷ ps) (parts_append a b) ∙ ap (λ ps. ps ++ parts b) (sym (cond-true (x == slash) ([] ∷ parts a) (onto_first x (parts a)) here)))
    (λ other. cond-false _ _ _ other ∙ ap (onto_first x) (parts_append a b) ∙ onto_append x a b ∙ ap (λ ps. ps ++ parts b) (sym (cond-false (x == slash) ([] ∷ parts a) (onto_first x (parts a)) other)))
    (cases_Bool (x == slash))
  where
    has_first : (b : ℕ) (ps qs : List (List ℕ)) → 0 < length ps → onto_first b (ps ++ qs) ≡ onto_first b ps ++ qs
    has_first b [] qs some = absurd (omega arith)
    has_first b (p ∷ ps) qs some = refl

    some_onto : (b : ℕ) (ps : List (List ℕ)) → 0 < length (onto_first b ps)
    some_onto b [] = omega arith
    some_onto b (p ∷ ps) = omega arith

    some_part : (text : List ℕ) → 0 < length (parts text)
    some_part [] = omega arith
    some_part (b ∷ text) = cond_both (b == slash) ([] ∷ parts text) (onto_first b (parts text)) (λ ps. 0 < length ps) (λ _. omega arith) (λ _. some_onto b (parts text))

    onto_append : (x : ℕ) (a b : List ℕ) → onto_first x (parts a ++ parts b) ≡ onto_first x (parts a) ++ parts b
    onto_append x a b = has_first x (parts a) (parts b) (some_part a)

-- ---- names

-- names are their own parts
pub names_stay : (ps : List (List ℕ)) → list_all is_name ps ≡ true → filter (λ part. not (is_empty part)) ps ≡ ps
names_stay [] all = refl
names_stay (p ∷ ps) all =
    let here = and_parts _ _ all in
    cond-true _ _ _ (not_empty (is_empty p) (is_here p || is_up p) here.0) ∙ ap (λ qs. p ∷ qs) (names_stay ps here.1)
  where
    not_empty : (e dots : Bool) → not (e || dots) ≡ true → not e ≡ true
    not_empty false dots name = refl
    not_empty true dots name = name

-- names without a slash are components
pub names_are : (ps : List (List ℕ)) → list_all is_name ps ≡ true → All IsWhole ps → All IsComponent ps
names_are [] all whole = All-nil IsComponent
names_are (p ∷ ps) all whole =
    let here = and_parts _ _ all in
    All-cons IsComponent p ps (record { named = here.0; whole = All-head IsWhole p ps whole }) (names_are ps here.1 (All-tail IsWhole p ps whole))

-- components are names
pub components_are : (ps : List (List ℕ)) → All IsComponent ps → list_all is_name ps ≡ true
components_are [] each = refl
components_are (p ∷ ps) each =
    and_from _ _ ((All-head IsComponent p ps each).named) (components_are ps (All-tail IsComponent p ps each))

is_named : (e h u : Bool) → e ≡ false → (h || u) ≡ false → not (e || (h || u)) ≡ true
is_named e h u empty dots = rw (empty, dots) refl

-- the parts of a text without dots that aren't empty are components
pub names_left : (ps : List (List ℕ)) → list_any (λ part. is_here part || is_up part) ps ≡ false → All IsWhole ps → All IsComponent (filter (λ part. not (is_empty part)) ps)
names_left [] none whole = All-nil IsComponent
names_left (p ∷ ps) none whole =
    let here = or_parts _ _ none in
    let rest = names_left ps here.1 (All-tail IsWhole p ps whole) in
    cond_both (not (is_empty p)) (p ∷ filter (λ part. not (is_empty part)) ps) (filter (λ part. not (is_empty part)) ps) (All IsComponent)
    (λ some. All-cons IsComponent p _ (record { named = is_named (is_empty p) (is_here p) (is_up p) (not_not (is_empty p) some) here.0; whole = All-head IsWhole p ps whole }) rest)
    (λ empty. rest)
  where
    not_not : (e : Bool) → not e ≡ true → e ≡ false
    not_not false some = refl
    not_not true some = sym some
