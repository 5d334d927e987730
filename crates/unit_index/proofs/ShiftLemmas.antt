-- Walks over the names of units, and over what was kept of their warnings.
use Rattle.std.proofs.Common.{◌≡◌, ℕ, ◌+◌, Bool, true, false, List, [], ◌∷◌, ◌++◌, length, drop, map, Option, Some, None, option_map, refl, sym, ap, ◌∙◌, append_assoc, append-nil, true≢false}
use Rattle.std.specs.Prelude.{◌&&◌, nat_eq, nat_lt, if◌then◌else◌}
use Rattle.std.specs.Cmp.Lexicographic.{pointwise}
use Rattle.std.specs.List.{slice_get}
use Rattle.std.proofs.lemmas.Slice.Eq.{bytes_eq-Decides}
use Rattle.scope_tables.specs.declared.units.Export.{Export}
use Rattle.unit_index.specs.declared.across.news.Shift.{Shift}
use Rattle.unit_index.specs.declared.crossing.Crossing.{Crossing}
use Rattle.unit_index.specs.declared.exported.Does.{Does}
use Rattle.unit_index.specs.Crossing.{Seen, defined, origin, seen, typed}
use Rattle.unit_index.specs.Exported.{From, Shown, does_it, from, one}
use Rattle.unit_index.specs.Firsts.{given, or_else}
use Rattle.unit_index.specs.Handles.{Tagging}
use Rattle.unit_index.specs.Matching.{Test}
use Rattle.unit_index.specs.Renewed.{judged, left, of_unit, of_units, one_taken, renewed, taken}
use Rattle.unit_index.proofs.FirstLemmas.{empty, rest_here, rest_none}

-- ---- a name that isn't one of a set

apart : (noted : List ℕ → Bool) (a q : List ℕ) → noted a ≡ false → noted q ≡ true → pointwise nat_eq a q ≡ false
apart noted a q out inside = by (pointwise nat_eq a q) refl
  where
    by : (b : Bool) → pointwise nat_eq a q ≡ b → b ≡ false
    by true same = let is : a ≡ q = (bytes_eq-Decides a q).0 same in absurd (true≢false (sym inside ∙ ap noted (sym is) ∙ out))
    by false same = refl

pub none_more : (noted : List ℕ → Bool) (does : Does) (path : List ℕ) (tags : Tagging) (q : List ℕ) (e : Export) (old : Option From) → noted e.name ≡ false → noted q ≡ true
    → old ≡ or_else old (one does path tags q e)
none_more noted does path tags q e old out inside =
    or_nothing old ∙ ap (or_else old) (sym (ap (λ b. given b (from path tags e)) (ap (λ b. does_it does e && b) (apart noted e.name q out inside) ∙ and_false (does_it does e))))
  where
    or_nothing : (o : Option From) → o ≡ or_else o None
    or_nothing None = refl
    or_nothing (Some x) = refl

    and_false : (b : Bool) → (b && false) ≡ false
    and_false true = refl
    and_false false = refl

-- ---- what is taken over of the warnings on a name

module _ (b : ℕ) (c : Crossing) (rest behind : List Crossing) (here : rest ≡ c ∷ behind) where
  pub taken_turns : (n : ℕ) (out now all : List Crossing) → nat_lt b c.nth ≡ false → now ≡ out ++ one_taken b n c → out ++ taken b n rest ≡ all → now ++ taken b n behind ≡ all
  taken_turns n out now all past is was =
      ap (λ l. l ++ taken b n behind) is ∙ append_assoc out (one_taken b n c) (taken b n behind)
      ∙ sym (ap (λ p. out ++ (if p then [] else one_taken b n c ++ taken b n behind)) past) ∙ sym (ap (λ xs. out ++ taken b n xs) here) ∙ was

  pub left_turns : (all : List Crossing) → nat_lt b c.nth ≡ false → left b rest ≡ all → left b behind ≡ all
  left_turns all past was = sym (ap (λ p. if p then c ∷ behind else left b behind) past) ∙ sym (ap (left b) here) ∙ was

  pub taken_stops : (n : ℕ) (out all : List Crossing) → nat_lt b c.nth ≡ true → out ++ taken b n rest ≡ all → out ≡ all
  taken_stops n out all past was =
      sym (append-nil out) ∙ sym (ap (λ p. out ++ (if p then [] else one_taken b n c ++ taken b n behind)) past) ∙ sym (ap (λ xs. out ++ taken b n xs) here) ∙ was

  pub left_stops : (all : List Crossing) → nat_lt b c.nth ≡ true → left b rest ≡ all → rest ≡ all
  left_stops all past was = here ∙ sym (ap (λ p. if p then c ∷ behind else left b behind) past) ∙ sym (ap (left b) here) ∙ was

pub taken_ends : (b n : ℕ) (out all rest : List Crossing) → length rest ≡ 0 → out ++ taken b n rest ≡ all → out ≡ all
taken_ends b n out all rest none was = sym (append-nil out) ∙ sym (ap (λ xs. out ++ taken b n xs) (empty rest none)) ∙ was

pub left_ends : (b : ℕ) (all rest : List Crossing) → length rest ≡ 0 → left b rest ≡ all → rest ≡ all
left_ends b all rest none was = empty rest none ∙ sym (ap (left b) (empty rest none)) ∙ was

-- ---- a name, and the names of a unit

pub anew_more : {A : Type 0} (b : Bool) (out now judged behind other : List A) → true ≡ b → now ≡ out ++ judged → now ++ behind ≡ out ++ (if b then judged ++ behind else other)
anew_more b out now judged behind other is put =
    ap (λ l. l ++ behind) put ∙ append_assoc out judged behind ∙ ap (λ p. out ++ (if p then judged ++ behind else other)) is

pub kept_more : {A : Type 0} (b : Bool) (out now over behind other : List A) → false ≡ b → now ≡ out ++ over → now ++ behind ≡ out ++ (if b then other else over ++ behind)
kept_more b out now over behind other is put =
    ap (λ l. l ++ behind) put ∙ append_assoc out over behind ∙ ap (λ p. out ++ (if p then other else over ++ behind)) is

module _ (test : Test) (noted : List ℕ → Bool) (declares defines : List ℕ → Option From) where
  pub renewed_end : (path : List ℕ) (tags : Tagging) (shift : Shift) (n : ℕ) (names : List Export) (kept out all : List Crossing) → None ≡ slice_get names n
      → out ++ renewed test noted declares defines path tags shift n (map seen (drop n names)) kept ≡ all → out ≡ all
  renewed_end path tags shift n names kept out all none was =
      sym (append-nil out) ∙ sym (ap (λ xs. out ++ renewed test noted declares defines path tags shift n (map seen xs) kept) (rest_none names n none)) ∙ was

  pub renewed_turn : (path : List ℕ) (tags : Tagging) (shift : Shift) (n : ℕ) (names : List Export) (e : Export) (kept out all : List Crossing) (next : List Crossing) → Some e ≡ slice_get names n
      → next ≡ out ++ renewed test noted declares defines path tags shift n (seen e ∷ map seen (drop (n + 1) names)) kept
      → out ++ renewed test noted declares defines path tags shift n (map seen (drop n names)) kept ≡ all → next ≡ all
  renewed_turn path tags shift n names e kept out all next here is was =
      is ∙ sym (ap (λ xs. out ++ renewed test noted declares defines path tags shift n (map seen xs) kept) (rest_here names n e here)) ∙ was

  -- ---- the units

  pub units_turn : (us : List Shown) (xs : List Shift) (css : List (List Crossing)) (n : ℕ) (u : Shown) (x : Shift) (cs y : List Crossing) (out now all : List (List Crossing))
      → Some u ≡ slice_get us n → Some x ≡ slice_get xs n → Some cs ≡ slice_get css n → y ≡ of_unit test noted declares defines u x cs → now ≡ out ++ y ∷ []
      → out ++ of_units test noted declares defines (drop n us) (drop n xs) (drop n css) ≡ all
      → now ++ of_units test noted declares defines (drop (n + 1) us) (drop (n + 1) xs) (drop (n + 1) css) ≡ all
  units_turn us xs css n u x cs y out now all unit shift kept same is was =
      ap (λ l. l ++ of_units test noted declares defines (drop (n + 1) us) (drop (n + 1) xs) (drop (n + 1) css)) (is ∙ ap (λ z. out ++ z ∷ []) same)
      ∙ append_assoc out (of_unit test noted declares defines u x cs ∷ []) (of_units test noted declares defines (drop (n + 1) us) (drop (n + 1) xs) (drop (n + 1) css))
      ∙ sym (λ i. out ++ of_units test noted declares defines (rest_here us n u unit i) (rest_here xs n x shift i) (rest_here css n cs kept i)) ∙ was

  no_shifts : (us : List Shown) (css : List (List Crossing)) → of_units test noted declares defines us [] css ≡ []
  no_shifts [] css = refl
  no_shifts (u ∷ us) css = refl

  none_kept : (us : List Shown) (xs : List Shift) → of_units test noted declares defines us xs [] ≡ []
  none_kept [] xs = refl
  none_kept (u ∷ us) [] = refl
  none_kept (u ∷ us) (x ∷ xs) = refl

  pub units_end : (us : List Shown) (xs : List Shift) (css : List (List Crossing)) (n : ℕ) (out all : List (List Crossing)) → None ≡ slice_get us n
      → out ++ of_units test noted declares defines (drop n us) (drop n xs) (drop n css) ≡ all → out ≡ all
  units_end us xs css n out all none was =
      sym (append-nil out) ∙ sym (ap (λ rest. out ++ of_units test noted declares defines rest (drop n xs) (drop n css)) (rest_none us n none)) ∙ was

  pub shifts_end : (us : List Shown) (xs : List Shift) (css : List (List Crossing)) (n : ℕ) (out all : List (List Crossing)) → None ≡ slice_get xs n
      → out ++ of_units test noted declares defines (drop n us) (drop n xs) (drop n css) ≡ all → out ≡ all
  shifts_end us xs css n out all none was =
      sym (append-nil out)
      ∙ sym (ap (λ l. out ++ l) (ap (λ rest. of_units test noted declares defines (drop n us) rest (drop n css)) (rest_none xs n none) ∙ no_shifts (drop n us) (drop n css))) ∙ was

  pub kept_end : (us : List Shown) (xs : List Shift) (css : List (List Crossing)) (n : ℕ) (out all : List (List Crossing)) → None ≡ slice_get css n
      → out ++ of_units test noted declares defines (drop n us) (drop n xs) (drop n css) ≡ all → out ≡ all
  kept_end us xs css n out all none was =
      sym (append-nil out)
      ∙ sym (ap (λ l. out ++ l) (ap (λ rest. of_units test noted declares defines (drop n us) (drop n xs) rest) (rest_none css n none) ∙ none_kept (drop n us) (drop n xs))) ∙ was

  -- what is put behind for a name that is judged, by what is kept of the units that declare and define it
  pub judged_more : (path : List ℕ) (tags : Tagging) (n : ℕ) (s : Seen) (d f : Option From) (out made now : List Crossing) → d ≡ declares s.name → f ≡ defines s.name
      → made ≡ out ++ typed test (option_map origin d) path tags n s → now ≡ made ++ defined (option_map origin f) path n s → now ≡ out ++ judged test noted declares defines path tags n s
  judged_more path tags n s d f out made now first second one two =
      two ∙ ap (λ l. l ++ defined (option_map origin f) path n s) one ∙ append_assoc out (typed test (option_map origin d) path tags n s) (defined (option_map origin f) path n s)
      ∙ (λ i. out ++ (typed test (option_map origin (first i)) path tags n s ++ defined (option_map origin (second i)) path n s))
