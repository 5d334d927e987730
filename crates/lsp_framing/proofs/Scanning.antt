-- The lines that are met byte by byte are those that end at the first CR LF.
use Rattle.std.proofs.Common.{◌≡◌, ℕ, zero, suc, ◌+◌, ◌-◌, Bool, true, false, cond, ◌&&◌, ◌==◌, List, [], ◌∷◌, ◌++◌, length, take, drop, slice_index, Option, Some, None, refl, arith, sym, ◌∙◌, ap, append_assoc}
use Rattle.std.specs.Prelude.{option_map}
use Rattle.std.specs.Option.{option_map_or}
use Rattle.std.proofs.lemmas.List.{append-nil, length-append, take_at, drop_at}
use Rattle.std.proofs.lemmas.Bool.{eqb-true}
use Rattle.lsp_framing.specs.Lines.{line_end, lines_behind, header, header_from, longest_header}
use Rattle.lsp_framing.specs.Scanned.{lines_met, lines_from, line_ended}

-- the last byte is a CR
abbrev ends_with_cr : List ℕ → Bool
ends_with_cr [] = false
ends_with_cr (x ∷ []) = x == 13
ends_with_cr (x ∷ y ∷ ys) = ends_with_cr (y ∷ ys)

last_is : (x : ℕ) (xs : List ℕ) → slice_index (x ∷ xs) (length xs) == 13 ≡ ends_with_cr (x ∷ xs)
last_is x [] = refl
last_is x (y ∷ ys) = last_is y ys

ended_is : (so_far : List ℕ) (b : ℕ) → line_ended so_far b ≡ cond (b == 10 && ends_with_cr so_far) (Some (take (length so_far - 1) so_far)) None
unfolding line_ended
ended_is [] b = refl
ended_is (x ∷ xs) b =
    let n : length (x ∷ xs) - 1 ≡ length xs = omega arith in
    ap (λ k. cond (b == 10 && slice_index (x ∷ xs) k == 13) (Some (take (length (x ∷ xs) - 1) (x ∷ xs))) None) n
    ∙ ap (λ t. cond (b == 10 && t) (Some (take (length (x ∷ xs) - 1) (x ∷ xs))) None) (last_is x xs)

-- no line ends at the front of a text, and none behind it
apart : (t : Bool) (o : Option ℕ) → cond t (Some 0) (option_map (λ n. n + 1) o) ≡ None → (t ≡ false) × (o ≡ None)
apart true o e = absurd (cc e)
apart false None e = (refl, refl)
apart false (Some n) e = absurd (cc e)

no_two : (t : Bool) → (t && false) ≡ false
no_two true = refl
no_two false = refl

both_true : (s t : Bool) → (s && t) ≡ true → (s ≡ true) × (t ≡ true)
both_true true true e = (refl, refl)
both_true true false e = absurd (cc e)
both_true false t e = absurd (cc e)

turned : (s t : Bool) → (s && t) ≡ false → (t && s) ≡ false
turned true true e = e
turned true false e = refl
turned false true e = refl
turned false false e = refl

still_open : (so_far : List ℕ) (b : ℕ) → line_end so_far ≡ None → (b == 10 && ends_with_cr so_far) ≡ false → line_end (so_far ++ b ∷ []) ≡ None
still_open [] b none e = ap (λ t. cond t (Some 0) None) (no_two (b == 13))
still_open (x ∷ []) b none e =
    ap (λ t. cond t (Some 0) (option_map (λ n. n + 1) (line_end (b ∷ [])))) (turned (b == 10) (x == 13) e)
    ∙ ap (option_map (λ n. n + 1)) (still_open [] b refl (no_two (b == 10)))
still_open (x ∷ y ∷ ys) b none e =
    let a = apart (x == 13 && y == 10) (line_end (y ∷ ys)) none in
    ap (λ t. cond t (Some 0) (option_map (λ n. n + 1) (line_end ((y ∷ ys) ++ b ∷ [])))) a.0
    ∙ ap (option_map (λ n. n + 1)) (still_open (y ∷ ys) b a.1 e)

-- a line that is open up to its CR ends there once the LF stands behind it
closes : (line rest : List ℕ) → line_end (line ++ 13 ∷ []) ≡ None → line_end (line ++ 13 ∷ 10 ∷ rest) ≡ Some (length line)
closes [] rest none = refl
closes (x ∷ []) rest none = ap (λ t. cond t (Some 0) (Some 1)) (no_two (x == 13))
closes (x ∷ y ∷ ys) rest none =
    let a = apart (x == 13 && y == 10) (line_end ((y ∷ ys) ++ 13 ∷ [])) none in
    ap (λ t. cond t (Some 0) (option_map (λ n. n + 1) (line_end ((y ∷ ys) ++ 13 ∷ 10 ∷ rest)))) a.0
    ∙ ap (option_map (λ n. n + 1)) (closes (y ∷ ys) rest a.1)
    ∙ ap Some (omega arith)

-- a text that ends with a CR, without it
without_cr : (so_far : List ℕ) → ends_with_cr so_far ≡ true → so_far ≡ take (length so_far - 1) so_far ++ 13 ∷ []
without_cr [] e = absurd (cc e)
without_cr (x ∷ []) e = ap (λ b. b ∷ []) (eqb-true x 13 e)
without_cr (x ∷ y ∷ ys) e =
    let n : length (x ∷ y ∷ ys) - 1 ≡ suc (length (y ∷ ys) - 1) = omega arith in
    ap (λ t. x ∷ t) (without_cr (y ∷ ys) e) ∙ ap (λ k. take k (x ∷ y ∷ ys) ++ 13 ∷ []) (sym n)

module _ (later : List ℕ → List (List ℕ)) where
  -- the first line of a text, and what `later` gives of the bytes behind it
  abbrev first_of : List ℕ → List (List ℕ)
  first_of text = option_map_or (λ n. take n text ∷ later (drop (n + 2) text)) (line_end text) []

  first_is : (line rest : List ℕ) → line_end (line ++ 13 ∷ []) ≡ None → first_of (line ++ 13 ∷ 10 ∷ rest) ≡ line ∷ later rest
  first_is line rest none =
      let text = line ++ 13 ∷ 10 ∷ rest in
      let e : text ≡ (line ++ 13 ∷ 10 ∷ []) ++ rest = sym (append_assoc line (13 ∷ 10 ∷ []) rest) in
      let front : take (length line) text ≡ line = take_at line (13 ∷ 10 ∷ rest) (length line) refl in
      let behind : drop (length line + 2) text ≡ rest = ap (drop (length line + 2)) e ∙ drop_at (line ++ 13 ∷ 10 ∷ []) rest (length line + 2) (length-append line (13 ∷ 10 ∷ [])) in
      ap (λ o. option_map_or (λ n. take n text ∷ later (drop (n + 2) text)) o []) (closes line rest none)
      ∙ ap (λ t. t ∷ later (drop (length line + 2) text)) front ∙ ap (λ t. line ∷ later t) behind

-- what stands of a line goes on up to its end
cut_is : (text so_far : List ℕ) → line_end so_far ≡ None → lines_from so_far text ≡ first_of (lines_from []) (so_far ++ text)
cut_is [] so_far none =
    ap (λ o. option_map_or (λ n. take n (so_far ++ []) ∷ lines_from [] (drop (n + 2) (so_far ++ []))) o [])
    (sym (ap line_end (append-nil so_far) ∙ none))
cut_is (b ∷ rest) so_far none =
    by_test (b == 10 && ends_with_cr so_far) refl (cut_is rest (so_far ++ b ∷ [])) where
      by_test : (t : Bool) → (b == 10 && ends_with_cr so_far) ≡ t
          → (line_end (so_far ++ b ∷ []) ≡ None → lines_from (so_far ++ b ∷ []) rest ≡ first_of (lines_from []) ((so_far ++ b ∷ []) ++ rest))
          → lines_from so_far (b ∷ rest) ≡ first_of (lines_from []) (so_far ++ b ∷ rest)
      by_test false e again =
          let open_still : line_ended so_far b ≡ None = ended_is so_far b ∙ ap (λ t. cond t (Some (take (length so_far - 1) so_far)) None) e in
          ap (λ o. option_map_or (λ line. line ∷ lines_from [] rest) o (lines_from (so_far ++ b ∷ []) rest)) open_still
          ∙ again (still_open so_far b none e)
          ∙ ap (first_of (lines_from [])) (append_assoc so_far (b ∷ []) rest)
      by_test true e again =
          let line = take (length so_far - 1) so_far in
          let both = both_true (b == 10) (ends_with_cr so_far) e in
          let lf : b ≡ 10 = eqb-true b 10 both.0 in
          let cr : so_far ≡ line ++ 13 ∷ [] = without_cr so_far both.1 in
          let closed : line_ended so_far b ≡ Some line = ended_is so_far b ∙ ap (λ t. cond t (Some line) None) e in
          let text : line ++ 13 ∷ 10 ∷ rest ≡ so_far ++ b ∷ rest =
          sym (append_assoc line (13 ∷ []) (10 ∷ rest)) ∙ ap (λ t. t ++ 10 ∷ rest) (sym cr) ∙ ap (λ c. so_far ++ c ∷ rest) (sym lf) in
          ap (λ o. option_map_or (λ line. line ∷ lines_from [] rest) o (lines_from (so_far ++ b ∷ []) rest)) closed
          ∙ sym (first_is (lines_from []) line rest (ap line_end (sym cr) ∙ none))
          ∙ ap (first_of (lines_from [])) text

lines_scan : (text : List ℕ) (skip : ℕ) → lines_behind skip text ≡ lines_from [] (drop skip text)
lines_scan [] zero = refl
lines_scan [] (suc skip) = refl
lines_scan (b ∷ rest) (suc skip) = lines_scan rest skip
lines_scan (b ∷ rest) zero = by_end (line_end (b ∷ rest)) (λ n. lines_scan rest n) ∙ sym (cut_is (b ∷ rest) [] refl) where
  by_end : (o : Option ℕ) → ((n : ℕ) → lines_behind n rest ≡ lines_from [] (drop n rest))
      → option_map_or (λ n. take n (b ∷ rest) ∷ lines_behind (n + 1) rest) o []
      ≡ option_map_or (λ n. take n (b ∷ rest) ∷ lines_from [] (drop (n + 2) (b ∷ rest))) o []
  by_end None again = refl
  by_end (Some n) again =
      let e : n + 2 ≡ suc (n + 1) = omega arith in
      ap (λ t. take n (b ∷ rest) ∷ t) (again (n + 1)) ∙ ap (λ k. take n (b ∷ rest) ∷ lines_from [] (drop k (b ∷ rest))) (sym e)

pub header_scans : (bytes : List ℕ) → header bytes ≡ header_from None 0 (lines_met (take longest_header bytes))
unfolding header
header_scans bytes = ap (header_from None 0) (lines_scan (take longest_header bytes) 0)
