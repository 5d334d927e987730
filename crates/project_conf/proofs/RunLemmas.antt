-- Characters of a word that stand for themselves, many at a time.
use Rattle.std.proofs.Common.{◌≡◌, ℕ, ◌<◌, ◌+◌, suc, Bool, true, false, not, ◌&&◌, ◌==◌, ◌||◌, List, [], ◌∷◌, ◌++◌, take, drop, get_or, cond, unwrap_or, IsUtf8, IsCharBoundary, encode_utf8, encode_utf8_all, refl, sym, ap, subst, ◌∙◌, append_assoc, append-nil, true≢false, take-append-drop, arith}
use Rattle.std.specs.List.{list_all, prefix_len}
use Rattle.std.specs.Str.{chars}
use Rattle.std.proofs.lemmas.Bool.{eqb-true}
use Rattle.std.proofs.lemmas.List.Folds.{list_all-append}
use Rattle.std.proofs.lemmas.List.Sums.{prefix_len-le-length, prefix_len_stops}
use Rattle.std.proofs.lemmas.Str.{IsUtf8-take, chars-append, encodes-chars, IsCharBoundary-start, encode_ascii}
use Rattle.project_conf.specs.declared.parting.Mode.{Mode}
use Rattle.project_conf.specs.declared.parting.Mode.TheVariants.{Plain, Escaped, Single, Double, DoubleEscaped}
use Rattle.project_conf.specs.declared.parting.Act.TheVariants.{Keeps}
use Rattle.project_conf.specs.Parting.{step, all_behind, by_act, parted, space, double_quote, single_quote, backslash}
use Rattle.project_conf.specs.Writing.{is_special, is_taken}
use Rattle.project_conf.specs.Runs.{stands}
use Rattle.project_conf.proofs.Written.{kept_plain, kept_single, kept_double}

-- ---- tests

not_true : (b : Bool) → not b ≡ true → b ≡ false
not_true true h = absurd (true≢false (sym h))
not_true false h = refl

not_false : (b : Bool) → not b ≡ false → b ≡ true
not_false true h = refl
not_false false h = absurd (true≢false h)

either : (a b : Bool) (P : Type 0) → (a ≡ true → P) → (b ≡ true → P) → a || b ≡ true → P
either true b P f g h = f refl
either false b P f g h = g h

is_low : (b n : ℕ) → n < 128 → b == n ≡ true → b < 128
is_low b n h e = subst (λ k. k < 128) (sym (eqb-true b n e)) h

taken_low : (b : ℕ) → is_taken b ≡ true → b < 128
taken_low b = either (b == double_quote) (b == backslash) (b < 128) (is_low b 34 (omega arith)) (is_low b 92 (omega arith))

special_low : (b : ℕ) → is_special b ≡ true → b < 128
special_low b =
    either (b == space || b == single_quote || b == double_quote) (b == backslash) (b < 128)
    (either (b == space || b == single_quote) (b == double_quote) (b < 128)
    (either (b == space) (b == single_quote) (b < 128) (is_low b 32 (omega arith)) (is_low b 39 (omega arith))) (is_low b 34 (omega arith)))
    (is_low b 92 (omega arith))

-- ---- where a run ends

ends_low : (p : ℕ → Bool) (text : List ℕ) → ((b : ℕ) → p b ≡ false → b < 128) → IsCharBoundary text (prefix_len p text)
ends_low p text low =
    (prefix_len-le-length p text, λ within high. absurd (omega (arith, low (get_or text (prefix_len p text) 0) (prefix_len_stops p text 0 within), high)))

none_first : (p : ℕ → Bool) (text : List ℕ) → ((b : ℕ) → p b ≡ false) → prefix_len p text ≡ 0
none_first p [] fails = refl
none_first p (b ∷ text) fails = ap (λ x. cond x (1 + prefix_len p text) 0) (fails b)

ends_first : (p : ℕ → Bool) (text : List ℕ) → IsUtf8 text → ((b : ℕ) → p b ≡ false) → IsCharBoundary text (prefix_len p text)
ends_first p text valid fails = subst (IsCharBoundary text) (sym (none_first p text fails)) (IsCharBoundary-start text valid)

run_fits : (mode : Mode) (text : List ℕ) → IsUtf8 text → IsCharBoundary text (prefix_len (stands mode) text)
unfolding stands
run_fits Plain text valid = ends_low (stands Plain) text (λ b h. special_low b (not_false (is_special b) h))
run_fits Escaped text valid = ends_first (stands Escaped) text valid (λ b. refl)
run_fits Single text valid = ends_low (stands Single) text (λ b h. is_low b 39 (omega arith) (not_false (b == single_quote) h))
run_fits Double text valid = ends_low (stands Double) text (λ b h. taken_low b (not_false (is_taken b) h))
run_fits DoubleEscaped text valid = ends_first (stands DoubleEscaped) text valid (λ b. refl)

-- ---- what a run says

keeps : (mode : Mode) (c : ℕ) → stands mode c ≡ true → step mode c ≡ Keeps mode
unfolding stands
keeps Plain c h = kept_plain c (not_true (is_special c) h)
keeps Escaped c h = absurd (true≢false (sym h))
keeps Single c h = kept_single c (not_true (c == single_quote) h)
keeps Double c h = kept_double c (not_true (is_taken c) h)
keeps DoubleEscaped c h = absurd (true≢false (sym h))

both_true : (a b : Bool) → a && b ≡ true → (a ≡ true) × (b ≡ true)
both_true true b h = (refl, h)
both_true false b h = absurd (true≢false (sym h))

front_passes : (p : ℕ → Bool) (bytes : List ℕ) → list_all p (take (prefix_len p bytes) bytes) ≡ true
front_passes p [] = refl
front_passes p (b ∷ bytes) = by (p b) refl (front_passes p bytes)
  where
    by : (x : Bool) → p b ≡ x → list_all p (take (prefix_len p bytes) bytes) ≡ true → list_all p (take (cond x (1 + prefix_len p bytes) 0) (b ∷ bytes)) ≡ true
    by true e rest =
        let on : 1 + prefix_len p bytes ≡ suc (prefix_len p bytes) = omega arith in
        ap (λ n. list_all p (take n (b ∷ bytes))) on ∙ ap (λ x. x && list_all p (take (prefix_len p bytes) bytes)) e ∙ rest
    by false e rest = refl

module _ (mode : Mode) (low : (b : ℕ) → stands mode b ≡ false → b < 128) where
  -- a byte that stops a run is a character
  whole : (c : ℕ) → list_all (stands mode) (encode_utf8 c) ≡ true → stands mode c ≡ true
  whole c h = by (stands mode c) refl
    where
      by : (x : Bool) → stands mode c ≡ x → stands mode c ≡ true
      by true e = e
      by false e = absurd (true≢false (sym h ∙ ap (list_all (stands mode)) (encode_ascii c (low c e)) ∙ ap (λ x. x && true) e))

  run_read : (cs e made : List ℕ) → list_all (stands mode) (encode_utf8_all cs) ≡ true
      → all_behind made (parted mode (cs ++ e)) ≡ all_behind (made ++ encode_utf8_all cs) (parted mode e)
  unfolding parted
  run_read [] e made h = ap (λ w. all_behind w (parted mode e)) (sym (append-nil made))
  run_read (c ∷ cs) e made h =
      let both : (list_all (stands mode) (encode_utf8 c) ≡ true) × (list_all (stands mode) (encode_utf8_all cs) ≡ true) =
      both_true _ _ (sym (list_all-append (stands mode) (encode_utf8 c) (encode_utf8_all cs)) ∙ h) in
      ap (λ act. all_behind made (by_act act c (λ next. parted next (cs ++ e)))) (keeps mode c (whole c both.0))
      ∙ ap (λ w. w ∷ (parted mode (cs ++ e)).behind) (sym (append_assoc made (encode_utf8 c) (unwrap_or (parted mode (cs ++ e)).word [])))
      ∙ run_read cs e (made ++ encode_utf8 c) both.1
      ∙ ap (λ w. all_behind w (parted mode e)) (append_assoc made (encode_utf8 c) (encode_utf8_all cs))

  says_by : (text made : List ℕ) (n : ℕ) → IsUtf8 (take n text) → list_all (stands mode) (take n text) ≡ true
      → all_behind (made ++ take n text) (parted mode (chars (drop n text))) ≡ all_behind made (parted mode (chars text))
  says_by text made n valid passes =
      let written : encode_utf8_all (chars (take n text)) ≡ take n text = encodes-chars (take n text) valid in
      sym (ap (λ cs. all_behind made (parted mode cs)) (ap chars (sym (take-append-drop n text)) ∙ chars-append (take n text) (drop n text) valid)
      ∙ run_read (chars (take n text)) (chars (drop n text)) made (ap (list_all (stands mode)) written ∙ passes)
      ∙ ap (λ w. all_behind (made ++ w) (parted mode (chars (drop n text)))) written)

none_says : (mode : Mode) (text made : List ℕ) (n : ℕ) → n ≡ 0 → all_behind (made ++ take n text) (parted mode (chars (drop n text))) ≡ all_behind made (parted mode (chars text))
none_says mode text made n none =
    ap (λ k. all_behind (made ++ take k text) (parted mode (chars (drop k text)))) none ∙ ap (λ w. all_behind w (parted mode (chars text))) (append-nil made)

run_says : (mode : Mode) (text made : List ℕ) → IsUtf8 text
    → all_behind (made ++ take (prefix_len (stands mode) text) text) (parted mode (chars (drop (prefix_len (stands mode) text) text))) ≡ all_behind made (parted mode (chars text))
unfolding stands
run_says Plain text made valid =
    says_by Plain (λ b h. special_low b (not_false (is_special b) h)) text made _ (IsUtf8-take text _ valid (run_fits Plain text valid)) (front_passes (stands Plain) text)
run_says Escaped text made valid = none_says Escaped text made _ (none_first (stands Escaped) text (λ b. refl))
run_says Single text made valid =
    says_by Single (λ b h. is_low b 39 (omega arith) (not_false (b == single_quote) h)) text made _ (IsUtf8-take text _ valid (run_fits Single text valid)) (front_passes (stands Single) text)
run_says Double text made valid =
    says_by Double (λ b h. taken_low b (not_false (is_taken b) h)) text made _ (IsUtf8-take text _ valid (run_fits Double text valid)) (front_passes (stands Double) text)
run_says DoubleEscaped text made valid = none_says DoubleEscaped text made _ (none_first (stands DoubleEscaped) text (λ b. refl))

pub run_taken : (mode : Mode) (text run behind made made' : List ℕ) (size : ℕ) → IsUtf8 text → size ≡ prefix_len (stands mode) text → run ≡ take size text → behind ≡ drop size text
    → made' ≡ made ++ run → all_behind made' (parted mode (chars behind)) ≡ all_behind made (parted mode (chars text))
run_taken mode text run behind made made' size valid is front back put =
    ap (λ w. all_behind w (parted mode (chars behind))) (put ∙ ap (λ w. made ++ w) (front ∙ ap (λ n. take n text) is))
    ∙ ap (λ w. all_behind (made ++ take (prefix_len (stands mode) text) text) (parted mode (chars w))) (back ∙ ap (λ n. drop n text) is)
    ∙ run_says mode text made valid

pub run_cuts : (mode : Mode) (text : List ℕ) (size : ℕ) → IsUtf8 text → size ≡ prefix_len (stands mode) text → IsCharBoundary text size
run_cuts mode text size valid is = subst (IsCharBoundary text) (sym is) (run_fits mode text valid)
