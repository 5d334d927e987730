-- Where the tokens of a text stand: their places cut no code point, and part the CR and the LF of no line end.
use Rattle.std.proofs.Common.{◌≡◌, ℕ, zero, suc, ◌+◌, ◌-◌, ◌<◌, ◌≤◌, inl, inr, Bool, true, false, not, nat_lt, ◌==◌, ◌||◌, ◌&&◌, List, [], ◌∷◌, ◌++◌, length, take, drop, slice_index, flat_map, Option, Some, None, refl, sym, ap, subst, ◌∙◌, arith, IsUtf8, IsCharBoundary}
use Rattle.std.proofs.lemmas.Grind.{common_steps}
use Rattle.std.proofs.lemmas.List.{length-drop, drop-drop, get_or-drop, get_or-take}
use Rattle.std.proofs.lemmas.Str.{IsCharBoundary-end, IsCharBoundary-from_rest, IsCharBoundary-start, IsUtf8-drop}
use Rattle.std.specs.List.{AllByRecursion, prefix_len}
use Rattle.std.specs.Option.{option_map_or}
use Rattle.c_tokens.proofs.Boundaries.{before_lead_behind, behind_ascii, within_from_some}
use Rattle.c_tokens.proofs.CutLemmas.{cut_at}
use Rattle.c_tokens.proofs.EndLemmas.{logical_follows}
use Rattle.c_tokens.proofs.FollowLemmas.{source_within, within_from_code}
use Rattle.c_tokens.proofs.FrontLemmas.{if_cases, sized_front}
use Rattle.c_tokens.proofs.LawLemmas.{end_of_from}
use Rattle.c_tokens.proofs.LongestLemmas.{either_part, first_part, second_part}
use Rattle.c_tokens.specs.Classes.{is_digit, is_nondigit, is_pair, is_quadruple, is_single, is_triple, is_word_part, is_blank, last_state, longest_of_four, next_state, punctuator_size, run}
use Rattle.c_tokens.specs.Cut.{cut}
use Rattle.c_tokens.specs.Laws.{Follow}
use Rattle.c_tokens.specs.Lexed.{kind_of, lexed, place, place_by, place_of}
use Rattle.c_tokens.specs.Logical.{Character, Source, backslash_width, begins_trigraph, characters, characters_of, closing_line_end, code, codes_of, continues, end_of, ends_in_line_end, first_source, first_unit, is_line_end, line_end_width, logical, plain, replaced, source_of, trigraph}
use Rattle.c_tokens.specs.Pieces.{Front, Piece, after_piece, block_comment, first_front, front_of, front_token, header_or_token, header_size, closing_of, is_closed, is_front_mark, is_prefix, is_quote, is_space, is_token, literal_at, literal_or_plain, literal_prefix, pieces, plain_front, punctuator_or_stray, spelling, token_front}
use Rattle.c_tokens.specs.declared.classes.State.{State}
use Rattle.c_tokens.specs.declared.classes.State.TheVariants.{Blanks, Line, Block, Star, BlockEnd, Word, Digits, Exponent, Text, Escape, TextEnd, HeaderFront, Header, HeaderEnd}
use Rattle.c_tokens.specs.declared.logical.Unit.{Unit}
use Rattle.c_tokens.specs.declared.logical.Unit.TheVariants.{Removed, Trigraph}
use Rattle.c_tokens.specs.declared.pieces.Class.{Class}
use Rattle.c_tokens.specs.declared.pieces.Context.{Context}
use Rattle.c_tokens.specs.declared.pieces.Context.TheVariants.{Fresh, Hash, Include, Later}
use Rattle.tok_data.specs.declared.tokens.PpKind.{PpKind}
use Rattle.c_session.proofs.Named.{AreOrdered, CanBeNamed}

same_from_test : (a b : ℕ) → a == b ≡ true → a ≡ b
same_from_test a b e = grind (arith, common_steps, e)

not_lf : (c : ℕ) → is_line_end c ≡ false → c ≡ 10 → ⊥
not_lf c e f = let x : is_line_end 10 ≡ false = subst (λ n. is_line_end n ≡ false) f e in let bad : true ≡ false = x in let no : ⊥ = cc bad in no

not_cr : (c : ℕ) → is_line_end c ≡ false → c ≡ 13 → ⊥
not_cr c e f = let x : is_line_end 13 ≡ false = subst (λ n. is_line_end n ≡ false) f e in let bad : true ≡ false = x in let no : ⊥ = cc bad in no

-- ---- units of the source

prefix_within : (p : ℕ → Bool) (xs : List ℕ) → prefix_len p xs ≤ length xs
prefix_within p [] = omega arith
prefix_within p (x ∷ xs) = if_cases (λ (n : ℕ). n ≤ length (x ∷ xs)) (p x) _ _ (λ _. omega (arith, prefix_within p xs)) (λ _. omega arith)

prefix_stops : (p : ℕ → Bool) (xs : List ℕ) → prefix_len p xs < length xs → p (slice_index xs (prefix_len p xs)) ≡ false
prefix_stops p [] = λ h. absurd (omega (arith, h))
prefix_stops p (x ∷ xs) = if_cases (λ (n : ℕ). n < length (x ∷ xs) → p (slice_index (x ∷ xs) n) ≡ false) (p x) _ _
    (λ _ h. let e : suc (prefix_len p xs) ≡ 1 + prefix_len p xs = omega arith in subst (λ n. p (slice_index (x ∷ xs) n) ≡ false) e (prefix_stops p xs (omega (arith, h))))
    (λ e _. e)

prefix_in : (p : ℕ → Bool) (xs : List ℕ) (i : ℕ) → i < prefix_len p xs → p (slice_index xs i) ≡ true
prefix_in p [] i = λ h. absurd (omega (arith, h))
prefix_in p (x ∷ xs) zero = if_cases (λ (n : ℕ). 0 < n → p x ≡ true) (p x) _ _ (λ e _. e) (λ _ h. absurd (omega (arith, h)))
prefix_in p (x ∷ xs) (suc i) = if_cases (λ (n : ℕ). suc i < n → p (slice_index xs i) ≡ true) (p x) _ _ (λ _ h. prefix_in p xs i (omega (arith, h))) (λ _ h. absurd (omega (arith, h)))

-- behind a unit a text may be cut, and one that isn't removed neither begins with LF nor ends in CR, unless it is a line end
record Fits (bytes : List ℕ) (s : Source) : Type 0 where
  boundary : IsUtf8 bytes → IsCharBoundary bytes s.width
  front : s.removed ≡ false → is_line_end (slice_index s.spelling 0) ≡ false → slice_index bytes 0 ≡ 10 → ⊥
  back : s.removed ≡ false → is_line_end (slice_index s.spelling 0) ≡ false → slice_index bytes (s.width - 1) ≡ 13 → ⊥

last_byte : (b : ℕ) (bs : List ℕ) (n : ℕ) → n ≤ prefix_len continues bs → is_line_end b ≡ false → slice_index (b ∷ bs) n ≡ 13 → ⊥
last_byte b bs zero on e f = not_cr b e f
last_byte b bs (suc m) on e f =
    let more : continues (slice_index bs m) ≡ true = prefix_in continues bs m (omega (arith, on)) in
    let there : slice_index bs m ≡ 13 = f in
    let bad : false ≡ true = subst (λ n. continues n ≡ true) there more in
    let no : ⊥ = cc bad in no

plain_fits : (b : ℕ) (bs : List ℕ) → Fits (b ∷ bs) (source_of (plain (b ∷ bs)) (b ∷ bs))
plain_fits b bs =
    let n : ℕ = prefix_len continues bs in
    let first : slice_index (take (1 + n) (b ∷ bs)) 0 ≡ b = get_or-take (1 + n) (b ∷ bs) 0 0 (omega arith) in
    let e : 1 + n - 1 ≡ n = omega arith in
    record {
      boundary = λ utf8. before_lead_behind (b ∷ bs) n (omega arith) (omega (arith, prefix_within continues bs)) (prefix_stops continues bs);
      front = λ _ h lf. not_lf b (subst (λ c. is_line_end c ≡ false) first h) lf;
      back = λ _ h cr. last_byte b bs n (omega arith) (subst (λ c. is_line_end c ≡ false) first h) (subst (λ k. slice_index (b ∷ bs) k ≡ 13) e cr);
    }

third_one : (third n : ℕ) → third == n ≡ true → 32 < n → n < 64 → (32 < third) × (third < 64)
third_one third n e low high = let f : third ≡ n = same_from_test third n e in (omega (arith, f, low), omega (arith, f, high))

third_is : (third c : ℕ) → trigraph third ≡ Some c → (32 < third) × (third < 64)
unfolding trigraph
third_is third c =
    let P : Option ℕ → Type 0 = λ o. o ≡ Some c → (32 < third) × (third < 64) in
    if_cases P (third == 61) _ _ (λ e _. third_one third 61 e (omega arith) (omega arith)) (λ _.
    if_cases P (third == 40) _ _ (λ e _. third_one third 40 e (omega arith) (omega arith)) (λ _.
    if_cases P (third == 47) _ _ (λ e _. third_one third 47 e (omega arith) (omega arith)) (λ _.
    if_cases P (third == 41) _ _ (λ e _. third_one third 41 e (omega arith) (omega arith)) (λ _.
    if_cases P (third == 39) _ _ (λ e _. third_one third 39 e (omega arith) (omega arith)) (λ _.
    if_cases P (third == 60) _ _ (λ e _. third_one third 60 e (omega arith) (omega arith)) (λ _.
    if_cases P (third == 33) _ _ (λ e _. third_one third 33 e (omega arith) (omega arith)) (λ _.
    if_cases P (third == 62) _ _ (λ e _. third_one third 62 e (omega arith) (omega arith)) (λ _.
    if_cases P (third == 45) _ _ (λ e _. third_one third 45 e (omega arith) (omega arith)) (λ _ e. absurd (let bad : ⊥ = cc e in bad))))))))))

trigraph_fits : (bytes : List ℕ) (c : ℕ) → begins_trigraph bytes ≡ true → Some c ≡ trigraph (slice_index bytes 2) → Fits bytes (source_of (Trigraph c) bytes)
unfolding begins_trigraph
trigraph_fits bytes c mark e =
    let third = third_is (slice_index bytes 2) c (sym e) in
    let first : slice_index bytes 0 ≡ 63 = same_from_test (slice_index bytes 0) 63 (first_part (slice_index bytes 0 == 63) (slice_index bytes 1 == 63) mark) in
    let back : 3 - 1 ≡ 2 = omega arith in
    record {
      boundary = λ utf8. behind_ascii bytes 2 3 (omega arith) (within_from_some bytes 2 (omega (arith, third.0))) (omega (arith, third.1)) utf8;
      front = λ _ _ lf. omega (arith, first, lf);
      back = λ _ _ cr. (let there : slice_index bytes 2 ≡ 13 = subst (λ k. slice_index bytes k ≡ 13) back cr in omega (arith, there, third.0));
    }

replaced_fits : (b : ℕ) (bs : List ℕ) (o : Option ℕ) → o ≡ trigraph (slice_index (b ∷ bs) 2) → begins_trigraph (b ∷ bs) ≡ true → Fits (b ∷ bs) (source_of (replaced o (b ∷ bs)) (b ∷ bs))
replaced_fits b bs None e mark = plain_fits b bs
replaced_fits b bs (Some c) e mark = trigraph_fits (b ∷ bs) c mark e

line_end_boundary : (bytes : List ℕ) (k : ℕ) → 0 < line_end_width bytes k → IsUtf8 bytes → IsCharBoundary bytes (k + line_end_width bytes k)
unfolding line_end_width
line_end_boundary bytes k =
    let P : ℕ → Type 0 = λ w. 0 < w → IsUtf8 bytes → IsCharBoundary bytes (k + w) in
    if_cases P (slice_index bytes k == 10) _ _ (λ e _ utf8. behind_ascii bytes k (k + 1) refl (within_from_code bytes k 10 (omega arith) e) (omega (arith, same_from_test (slice_index bytes k) 10 e)) utf8) (λ _.
    if_cases P (slice_index bytes k == 13) _ _ (λ e.
    if_cases P (slice_index bytes (k + 1) == 10) _ _
    (λ f _ utf8. behind_ascii bytes (k + 1) (k + 2) (omega arith) (within_from_code bytes (k + 1) 10 (omega arith) f) (omega (arith, same_from_test (slice_index bytes (k + 1)) 10 f)) utf8)
    (λ _ _ utf8. behind_ascii bytes k (k + 1) refl (within_from_code bytes k 13 (omega arith) e) (omega (arith, same_from_test (slice_index bytes k) 13 e)) utf8))
    (λ _ some. absurd (omega (arith, some))))

removed_fits : (bytes : List ℕ) (b l : ℕ) → nat_lt 0 b && nat_lt 0 l ≡ true → (0 < l → IsUtf8 bytes → IsCharBoundary bytes (b + l)) → Fits bytes (source_of (Removed (b + l)) bytes)
removed_fits bytes b l e cut_there = record {
  boundary = cut_there (grind (arith, common_steps, e));
  front = λ kept. absurd (let bad : ⊥ = cc kept in bad);
  back = λ kept. absurd (let bad : ⊥ = cc kept in bad);
}

unit_fits : (b : ℕ) (bs : List ℕ) → Fits (b ∷ bs) (first_source (b ∷ bs))
unfolding first_unit
unit_fits b bs =
    let P : Unit → Type 0 = λ u. Fits (b ∷ bs) (source_of u (b ∷ bs)) in
    if_cases P (nat_lt 0 (backslash_width (b ∷ bs)) && nat_lt 0 (line_end_width (b ∷ bs) (backslash_width (b ∷ bs)))) _ _
    (λ e. removed_fits (b ∷ bs) (backslash_width (b ∷ bs)) (line_end_width (b ∷ bs) (backslash_width (b ∷ bs))) e (line_end_boundary (b ∷ bs) (backslash_width (b ∷ bs))))
    (λ _. if_cases P (begins_trigraph (b ∷ bs)) _ _ (λ mark. replaced_fits b bs (trigraph (slice_index (b ∷ bs) 2)) refl mark) (λ _. plain_fits b bs))

-- ---- characters

-- a character that is no line end begins with no LF and ends in no CR
record IsGood (text : List ℕ) (c : Character) : Type 0 where
  own : IsCharBoundary text c.own
  to : IsCharBoundary text c.to
  some : is_line_end (code c) ≡ false → c.own < c.to
  front : is_line_end (code c) ≡ false → slice_index (drop c.own text) 0 ≡ 10 → ⊥
  back : is_line_end (code c) ≡ false → slice_index text (c.to - 1) ≡ 13 → ⊥

abbrev AreGood : List ℕ → List Character → Type 0
AreGood text cs = AllByRecursion (IsGood text) cs

module _ (text : List ℕ) (utf8 : IsUtf8 text) where
  good_from : (n from at : ℕ) (bytes : List ℕ) → bytes ≡ drop at text → length bytes ≤ n → at ≤ length text → IsCharBoundary text at → AreGood text (characters from at (cut first_source (λ s. s.width) 0 bytes))
  good_from n from at [] e few within here = tt
  good_from zero from at (b ∷ bs) e few within here = absurd (omega (arith, few))
  good_from (suc n) from at (b ∷ bs) e few within here =
      let s : Source = first_source (b ∷ bs) in
      let bounds = source_within (b ∷ bs) (omega arith) in
      let fits : Fits (b ∷ bs) s = unit_fits b bs in
      let long : length (b ∷ bs) ≡ length text - at = ap length e ∙ length-drop at text in
      let wide : 0 < s.width = bounds.0 in
      let fit : s.width ≤ length (b ∷ bs) = bounds.1 in
      let cuts : cut first_source (λ s. s.width) 0 (b ∷ bs) ≡ s ∷ cut first_source (λ s. s.width) 0 (drop s.width (b ∷ bs)) = cut_at first_source (λ s. s.width) (b ∷ bs) (omega arith) wide in
      let behind : drop s.width (b ∷ bs) ≡ drop (at + s.width) text = ap (drop s.width) e ∙ drop-drop s.width at text in
      let own8 : IsUtf8 (b ∷ bs) = subst (λ (xs : List ℕ). IsUtf8 xs) (sym e) (IsUtf8-drop text at utf8 here) in
      let next : IsCharBoundary text (at + s.width) = IsCharBoundary-from_rest text at s.width within (subst (λ (xs : List ℕ). IsCharBoundary xs s.width) e (fits.boundary own8)) in
      let rest : (from : ℕ) → AreGood text (characters from (at + s.width) (cut first_source (λ s. s.width) 0 (drop s.width (b ∷ bs)))) =
      λ from. good_from n from (at + s.width) (drop s.width (b ∷ bs)) behind (omega (arith, length-drop s.width (b ∷ bs), wide, few)) (omega (arith, fit, long, within)) next in
      let last : slice_index (b ∷ bs) (s.width - 1) ≡ slice_index text (at + s.width - 1) =
      (let k : at + (s.width - 1) ≡ at + s.width - 1 = omega (arith, wide) in
      ap (λ xs. slice_index xs (s.width - 1)) e ∙ get_or-drop at text (s.width - 1) 0 ∙ ap (λ i. slice_index text i) k) in
      let one : s.removed ≡ false → IsGood text (record { spelling = s.spelling; from = from; own = at; to = at + s.width }) =
      λ kept. record {
        own = here;
        to = next;
        some = λ _. omega (arith, wide);
        front = λ plain lf. fits.front kept plain (ap (λ xs. slice_index xs 0) e ∙ lf);
        back = λ plain cr. fits.back kept plain (last ∙ cr);
      } in
      subst (λ (ss : List Source). AreGood text (characters from at ss)) (sym cuts)
      (if_cases (AreGood text) s.removed _ _ (λ _. rest from) (λ kept. (one kept, rest (at + s.width))))

  good_end : (cs : List Character) → AreGood text (closing_line_end (length text) cs)
  unfolding closing_line_end
  good_end cs = if_cases (AreGood text) (ends_in_line_end false cs) _ _ (λ _. tt) (λ _. (
    record {
      own = IsCharBoundary-end text;
      to = IsCharBoundary-end text;
      some = λ e. absurd (let bad : true ≡ false = e in let no : ⊥ = cc bad in no);
      front = λ e _. (let bad : true ≡ false = e in let no : ⊥ = cc bad in no);
      back = λ e _. (let bad : true ≡ false = e in let no : ⊥ = cc bad in no);
    },
    tt,
  ))

  good_joined : (xs ys : List Character) → AreGood text xs → AreGood text ys → AreGood text (xs ++ ys)
  good_joined [] ys a b = b
  good_joined (x ∷ xs) ys a b = (a.0, good_joined xs ys a.1 b)

  good_logical : AreGood text (logical text)
  good_logical = good_joined (characters_of text) (closing_line_end (length text) (characters_of text))
      (good_from (length text) 0 0 text refl (omega arith) (omega arith) (IsCharBoundary-start text utf8)) (good_end (characters_of text))

-- ---- tokens have no line end

abbrev ArePlain : List ℕ → Type 0
ArePlain cs = AllByRecursion (λ c. is_line_end c ≡ false) cs

abbrev in_line : State → Bool
in_line Block = false
in_line Star = false
in_line BlockEnd = false
in_line _ = true

abbrev in_line_if : Option State → Bool
in_line_if None = true
in_line_if (Some s) = in_line s

in_line_next : (s : State) (c : ℕ) → in_line s ≡ true → in_line_if (next_state s c) ≡ true
unfolding next_state
in_line_next Blanks c e = if_cases (λ (o : Option State). in_line_if o ≡ true) (is_blank c) _ _ (λ _. refl) (λ _. refl)
in_line_next Line c e = if_cases (λ (o : Option State). in_line_if o ≡ true) (is_line_end c) _ _ (λ _. refl) (λ _. refl)
in_line_next Block c e = cc e
in_line_next Star c e = cc e
in_line_next BlockEnd c e = refl
in_line_next Word c e = if_cases (λ (o : Option State). in_line_if o ≡ true) (is_word_part c) _ _ (λ _. refl) (λ _. refl)
in_line_next Digits c e = grind arith
in_line_next Exponent c e = grind arith
in_line_next (Text quote) c e = grind arith
in_line_next (Escape quote) c e = grind arith
in_line_next TextEnd c e = refl
in_line_next (HeaderFront quote) c e = grind arith
in_line_next (Header quote) c e = grind arith
in_line_next HeaderEnd c e = refl

stops_lf : (s : State) → in_line s ≡ true → next_state s 10 ≡ None
unfolding next_state
stops_lf Blanks e = refl
stops_lf Line e = refl
stops_lf Block e = cc e
stops_lf Star e = cc e
stops_lf BlockEnd e = refl
stops_lf Word e = refl
stops_lf Digits e = refl
stops_lf Exponent e = refl
stops_lf (Text quote) e = refl
stops_lf (Escape quote) e = refl
stops_lf TextEnd e = refl
stops_lf (HeaderFront quote) e = refl
stops_lf (Header quote) e = refl
stops_lf HeaderEnd e = refl

stops_cr : (s : State) → in_line s ≡ true → next_state s 13 ≡ None
unfolding next_state
stops_cr Blanks e = refl
stops_cr Line e = refl
stops_cr Block e = cc e
stops_cr Star e = cc e
stops_cr BlockEnd e = refl
stops_cr Word e = refl
stops_cr Digits e = refl
stops_cr Exponent e = refl
stops_cr (Text quote) e = refl
stops_cr (Escape quote) e = refl
stops_cr TextEnd e = refl
stops_cr (HeaderFront quote) e = refl
stops_cr (Header quote) e = refl
stops_cr HeaderEnd e = refl

goes_plain : (s t : State) (c : ℕ) (b : Bool) → is_line_end c ≡ b → in_line s ≡ true → next_state s c ≡ Some t → b ≡ false
goes_plain s t c false e line go = refl
goes_plain s t c true e line go = elim (either_part (c == 10) (c == 13) e) as (λ _. true ≡ false) [
  | inl f ↦ (let none : None ≡ Some t = sym (ap (next_state s) (same_from_test c 10 f) ∙ stops_lf s line) ∙ go in let bad : ⊥ = cc none in absurd bad)
  | inr f ↦ (let none : None ≡ Some t = sym (ap (next_state s) (same_from_test c 13 f) ∙ stops_cr s line) ∙ go in let bad : ⊥ = cc none in absurd bad)
]

run_by : (c : ℕ) (cs : List ℕ) (o : Option State) → ((t : State) → o ≡ Some t → is_line_end c ≡ false) → ((t : State) → in_line t ≡ true → ArePlain (take (run cs t) cs)) → in_line_if o ≡ true →
    ArePlain (take (option_map_or (λ t. 1 + run cs t) o 0) (c ∷ cs))
run_by c cs None first more line = tt
run_by c cs (Some t) first more line = let k : suc (run cs t) ≡ 1 + run cs t = omega arith in subst (λ n. ArePlain (take n (c ∷ cs))) k (first t refl, more t line)

run_plain : (cs : List ℕ) (s : State) → in_line s ≡ true → ArePlain (take (run cs s) cs)
run_plain [] s e = tt
run_plain (c ∷ cs) s e = run_by c cs (next_state s c) (λ t go. goes_plain s t c (is_line_end c) refl e go) (run_plain cs) (in_line_next s c e)

plain_joined : (m n : ℕ) (cs : List ℕ) → ArePlain (take m cs) → ArePlain (take n (drop m cs)) → ArePlain (take (m + n) cs)
plain_joined zero n cs a b = let e : n ≡ 0 + n = omega arith in subst (λ k. ArePlain (take k cs)) e b
plain_joined (suc m) n [] a b = let e : suc (m + n) ≡ suc m + n = omega arith in subst (λ k. ArePlain (take k [])) e tt
plain_joined (suc m) n (c ∷ cs) a b = let e : suc (m + n) ≡ suc m + n = omega arith in subst (λ k. ArePlain (take k (c ∷ cs))) e (a.0, plain_joined m n cs a.1 b)

one_plain : (cs : List ℕ) → is_line_end (slice_index cs 0) ≡ false → ArePlain (take 1 cs)
one_plain [] a = tt
one_plain (c ∷ cs) a = (a, tt)

two_plain : (cs : List ℕ) → is_line_end (slice_index cs 0) ≡ false → is_line_end (slice_index cs 1) ≡ false → ArePlain (take 2 cs)
two_plain [] a b = tt
two_plain (c ∷ cs) a b = (a, one_plain cs b)

three_plain : (cs : List ℕ) → is_line_end (slice_index cs 0) ≡ false → is_line_end (slice_index cs 1) ≡ false → is_line_end (slice_index cs 2) ≡ false → ArePlain (take 3 cs)
three_plain [] a b c = tt
three_plain (x ∷ cs) a b c = (a, two_plain cs b c)

four_plain : (cs : List ℕ) → is_line_end (slice_index cs 0) ≡ false → is_line_end (slice_index cs 1) ≡ false → is_line_end (slice_index cs 2) ≡ false → is_line_end (slice_index cs 3) ≡ false → ArePlain (take 4 cs)
four_plain [] a b c d = tt
four_plain (x ∷ cs) a b c d = (a, three_plain cs b c d)

quote_plain : (c : ℕ) → is_quote c ≡ true → is_line_end c ≡ false
quote_plain c e = grind (arith, common_steps, e)

exact_plain : (c n : ℕ) → c == n ≡ true → is_line_end n ≡ false → is_line_end c ≡ false
exact_plain c n e f = subst (λ k. is_line_end k ≡ false) (sym (same_from_test c n e)) f

pair_plain : (a b : ℕ) → is_pair a b ≡ true → is_line_end b ≡ false
unfolding is_pair
pair_plain a b e = grind (arith, common_steps, e)

triple_plain : (a b c : ℕ) → is_triple a b c ≡ true → (is_line_end b ≡ false) × (is_line_end c ≡ false)
triple_plain a b c e = (grind (arith, common_steps, e), grind (arith, common_steps, e))

quadruple_plain : (a b c d : ℕ) → is_quadruple a b c d ≡ true → (is_line_end b ≡ false) × (is_line_end c ≡ false) × (is_line_end d ≡ false)
quadruple_plain a b c d e = (grind (arith, common_steps, e), grind (arith, common_steps, e), grind (arith, common_steps, e))

mark_plain : (cs : List ℕ) → is_line_end (slice_index cs 0) ≡ false → ArePlain (take (punctuator_size cs) cs)
unfolding longest_of_four
mark_plain cs first =
    let a = slice_index cs 0 in
    let b = slice_index cs 1 in
    let c = slice_index cs 2 in
    let d = slice_index cs 3 in
    let P : ℕ → Type 0 = λ n. ArePlain (take n cs) in
    if_cases P (is_quadruple a b c d) _ _ (λ e. (let k = quadruple_plain a b c d e in four_plain cs first k.0 k.1 k.2)) (λ _.
    if_cases P (is_triple a b c) _ _ (λ e. (let k = triple_plain a b c e in three_plain cs first k.0 k.1)) (λ _.
    if_cases P (is_pair a b) _ _ (λ e. two_plain cs first (pair_plain a b e)) (λ _.
    if_cases P (is_single a) _ _ (λ _. one_plain cs first) (λ _. tt))))

-- what stands at the front has no line end, if it is a token
abbrev IsPlainToken : List ℕ → Front → Type 0
IsPlainToken cs f = (kind : PpKind) → kind_of f.class ≡ Some kind → ArePlain (take f.size cs)

prefix_plain : (cs : List ℕ) (place : ℕ) → literal_prefix cs ≡ Some place → is_line_end (slice_index cs 0) ≡ false → ArePlain (take (place + 1) cs)
unfolding literal_prefix
prefix_plain cs place found first =
    let P : Option ℕ → Type 0 = λ o. o ≡ Some place → ArePlain (take (place + 1) cs) in
    if_cases P (is_quote (slice_index cs 0)) _ _ (λ _ e. at 0 e (one_plain cs first)) (λ _.
    if_cases P (is_prefix (slice_index cs 0) && is_quote (slice_index cs 1)) _ _
    (λ q e. at 1 e (two_plain cs first (quote_plain (slice_index cs 1) (second_part (is_prefix (slice_index cs 0)) (is_quote (slice_index cs 1)) q)))) (λ _.
    if_cases P (slice_index cs 0 == 117 && slice_index cs 1 == 56 && slice_index cs 2 == 34) _ _
    (λ q e. at 2 e (three_plain cs first (grind (arith, common_steps, q)) (grind (arith, common_steps, q)))) (λ _ e. absurd (let bad : ⊥ = cc e in bad)))) found
  where
    at : (n : ℕ) → Some n ≡ Some place → ArePlain (take (n + 1) cs) → ArePlain (take (place + 1) cs)
    at n e p = let same : n ≡ place = cc e in subst (λ k. ArePlain (take (k + 1) cs)) same p

literal_plain : (cs : List ℕ) (place : ℕ) → literal_prefix cs ≡ Some place → is_line_end (slice_index cs 0) ≡ false → IsPlainToken cs (literal_at cs place)
unfolding literal_at
literal_plain cs place found first = λ kind e. plain_joined (place + 1) (run (drop (place + 1) cs) (Text (slice_index cs place))) cs (prefix_plain cs place found first) (run_plain (drop (place + 1) cs) (Text (slice_index cs place)) refl)

stray_plain : (cs : List ℕ) → is_line_end (slice_index cs 0) ≡ false → IsPlainToken cs (punctuator_or_stray cs)
unfolding punctuator_or_stray
stray_plain cs first = if_cases (IsPlainToken cs) (nat_lt 0 (punctuator_size cs)) _ _ (λ _ kind e. mark_plain cs first) (λ _ kind e. one_plain cs first)

other_plain : (cs : List ℕ) → is_line_end (slice_index cs 0) ≡ false → IsPlainToken cs (plain_front cs)
unfolding plain_front
other_plain cs first = if_cases (IsPlainToken cs) (is_nondigit (slice_index cs 0)) _ _ (λ _ kind e. run_plain cs Word refl) (λ _.
    if_cases (IsPlainToken cs) (is_digit (slice_index cs 0) || (slice_index cs 0 == 46 && is_digit (slice_index cs 1))) _ _ (λ _ kind e. run_plain cs Digits refl) (λ _. stray_plain cs first))

token_by : (cs : List ℕ) (o : Option ℕ) → literal_prefix cs ≡ o → is_line_end (slice_index cs 0) ≡ false → IsPlainToken cs (literal_or_plain o cs)
token_by cs None found first = other_plain cs first
token_by cs (Some place) found first = literal_plain cs place found first

token_plain : (cs : List ℕ) → is_line_end (slice_index cs 0) ≡ false → IsPlainToken cs (token_front cs)
unfolding token_front
token_plain cs first = token_by cs (literal_prefix cs) refl first

header_plain : (cs : List ℕ) → is_line_end (slice_index cs 0) ≡ false → ArePlain (take (header_size cs) cs)
unfolding header_size
header_plain cs first = if_cases (λ (n : ℕ). ArePlain (take n cs)) ((slice_index cs 0 == 60 || slice_index cs 0 == 34) && is_closed (last_state (drop 1 cs) (HeaderFront (closing_of (slice_index cs 0))))) _ _
    (λ _. plain_joined 1 (run (drop 1 cs) (HeaderFront (closing_of (slice_index cs 0)))) cs (one_plain cs first) (run_plain (drop 1 cs) (HeaderFront (closing_of (slice_index cs 0))) refl)) (λ _. tt)

header_token_plain : (cs : List ℕ) → is_line_end (slice_index cs 0) ≡ false → IsPlainToken cs (header_or_token cs)
unfolding header_or_token
header_token_plain cs first = if_cases (IsPlainToken cs) (nat_lt 0 (header_size cs) && not (is_token (token_front cs).class && nat_lt (header_size cs) (token_front cs).size)) _ _
    (λ _ kind e. header_plain cs first) (λ _. token_plain cs first)

front_token_plain : (context : Context) (cs : List ℕ) → is_line_end (slice_index cs 0) ≡ false → IsPlainToken cs (front_token context cs)
front_token_plain Include cs first = header_token_plain cs first
front_token_plain Fresh cs first = token_plain cs first
front_token_plain Hash cs first = token_plain cs first
front_token_plain Later cs first = token_plain cs first

none_is : {A : Type 0} (kind : PpKind) → None ≡ Some kind → A
none_is kind e = absurd (let bad : ⊥ = cc e in bad)

comment_plain : (cs : List ℕ) → IsPlainToken cs (block_comment cs)
unfolding block_comment
comment_plain cs = λ kind. if_cases (λ (k : Class). kind_of k ≡ Some kind → ArePlain (take (block_comment cs).size cs)) (is_closed (last_state (drop 2 cs) Block)) _ _ (λ _ e. none_is kind e) (λ _ e. none_is kind e)

first_plain : (context : Context) (cs : List ℕ) → IsPlainToken cs (first_front context cs)
unfolding first_front
first_plain context cs =
    if_cases (IsPlainToken cs) (is_line_end (slice_index cs 0)) _ _ (λ _ kind e. none_is kind e) (λ first.
    if_cases (IsPlainToken cs) (is_blank (slice_index cs 0)) _ _ (λ _ kind e. none_is kind e) (λ _.
    if_cases (IsPlainToken cs) (slice_index cs 0 == 47 && slice_index cs 1 == 47) _ _ (λ _ kind e. none_is kind e) (λ _.
    if_cases (IsPlainToken cs) (slice_index cs 0 == 47 && slice_index cs 1 == 42) _ _ (λ _. comment_plain cs) (λ _. front_token_plain context cs first))))

abbrev HaveNoEnd : List Character → Type 0
HaveNoEnd cs = AllByRecursion (λ c. is_line_end (code c) ≡ false) cs

by_codes : (n : ℕ) (cs : List Character) → ArePlain (take n (codes_of cs)) → HaveNoEnd (take n cs)
by_codes zero cs h = tt
by_codes (suc n) [] h = tt
by_codes (suc n) (c ∷ cs) h = (h.0, by_codes n cs h.1)

front_plain : (context : Context) (c : Character) (cs : List Character) (kind : PpKind) → kind_of (front_of context c cs).class ≡ Some kind → HaveNoEnd (take (front_of context c cs).size (c ∷ cs))
front_plain context c cs kind = if_cases (λ (f : Front). kind_of f.class ≡ Some kind → HaveNoEnd (take f.size (c ∷ cs))) (is_front_mark c) _ _ (λ _ e. none_is kind e)
    (λ _ e. by_codes (first_front context (codes_of (c ∷ cs))).size (c ∷ cs) (first_plain context (codes_of (c ∷ cs)) kind e))

-- ---- places

abbrev pub EndsNamed : List ℕ → ℕ × ℕ → Type 0
EndsNamed text p = CanBeNamed text p.0 × CanBeNamed text p.1

module _ (text : List ℕ) where
  ends_named : (c : Character) (cs : List Character) → AreGood text (c ∷ cs) → HaveNoEnd (c ∷ cs) → CanBeNamed text (end_of c.to cs)
  ends_named c [] good free = record { boundary = good.0.to; apart = λ cr _. good.0.back free.0 cr }
  ends_named c (d ∷ cs) good free = ends_named d cs good.1 free.1

  good_front : (n : ℕ) (cs : List Character) → AreGood text cs → AreGood text (take n cs)
  good_front zero cs good = tt
  good_front (suc n) [] good = tt
  good_front (suc n) (c ∷ cs) good = (good.0, good_front n cs good.1)

  place_named : (n : ℕ) (c : Character) (cs : List Character) → 0 < n → AreGood text (c ∷ cs) → HaveNoEnd (take n (c ∷ cs)) → EndsNamed text (place (take n (c ∷ cs)))
  place_named zero c cs some good free = absurd (omega (arith, some))
  place_named (suc m) c cs some good free = (record { boundary = good.0.own; apart = λ _ lf. good.0.front free.0 lf }, ends_named c (take m cs) (good.0, good_front m cs good.1) free)

  piece_named : (o : Option PpKind) (p : Piece) (rest : List (ℕ × ℕ)) → ((kind : PpKind) → o ≡ Some kind → EndsNamed text (place p.characters)) → AllByRecursion (EndsNamed text) rest → AllByRecursion (EndsNamed text) (place_by o p ++ rest)
  piece_named None p rest one more = more
  piece_named (Some kind) p rest one more = (one kind refl, more)

  places_named : (context : Context) (spaced : Bool) (skip : ℕ) (cs : List Character) → AreGood text cs → AllByRecursion (EndsNamed text) (flat_map place_of (pieces context spaced skip cs))
  places_named context spaced skip [] good = tt
  places_named context spaced zero (c ∷ cs) good =
      let f : Front = front_of context c cs in
      let own : List Character = take f.size (c ∷ cs) in
      piece_named (kind_of f.class) (record { class = f.class; characters = own; context = context; spaced = spaced })
      (flat_map place_of (pieces (after_piece f.class context (spelling own)) (is_space f.class) (f.size - 1) cs))
      (λ kind e. place_named f.size c cs (sized_front context c cs).some good (front_plain context c cs kind e))
      (places_named (after_piece f.class context (spelling own)) (is_space f.class) (f.size - 1) cs good.1)
  places_named context spaced (suc skip) (c ∷ cs) good = places_named context spaced skip cs good.1

pub all_named : (text : List ℕ) → IsUtf8 text → AllByRecursion (EndsNamed text) (lexed text).places
all_named text utf8 = places_named text Fresh false 0 (logical text) (good_logical text utf8)

-- ---- in order

order_later : (at end : ℕ) (ps : List (ℕ × ℕ)) → at ≤ end → AreOrdered end ps → AreOrdered at ps
order_later at end [] on order = tt
order_later at end (p ∷ ps) on order = ((let a : end ≤ p.0 = order.0 in omega (arith, on, a)), order.1, order.2)

module _ (text : List ℕ) where
  -- a piece of so many characters, and the places behind it
  piece_ordered : (n : ℕ) (o : Option PpKind) (p : Piece) (c : Character) (cs : List Character) (at limit : ℕ) (rest : List (ℕ × ℕ)) → p.characters ≡ take n (c ∷ cs) → 0 < n → Follow at limit (c ∷ cs) → IsGood text c →
      ((kind : PpKind) → o ≡ Some kind → HaveNoEnd (take n (c ∷ cs))) → AreOrdered (end_of c.to (take (n - 1) cs)) rest → AreOrdered at (place_by o p ++ rest)
  piece_ordered zero o p c cs at limit rest is some follow good free behind = absurd (omega (arith, some))
  piece_ordered (suc m) None p c cs at limit rest is some follow good free behind =
      let e : suc m - 1 ≡ m = omega arith in
      let more : AreOrdered (end_of c.to (take m cs)) rest = subst (λ k. AreOrdered (end_of c.to (take k cs)) rest) e behind in
      order_later at (end_of c.to (take m cs)) rest (omega (arith, follow.0, follow.1, follow.2, end_of_from c.to limit m cs follow.3)) more
  piece_ordered (suc m) (Some kind) p c cs at limit rest is some follow good free behind =
      let e : suc m - 1 ≡ m = omega arith in
      let more : AreOrdered (end_of c.to (take m cs)) rest = subst (λ k. AreOrdered (end_of c.to (take k cs)) rest) e behind in
      let own : AreOrdered at ((c.own, end_of c.to (take m cs)) ∷ rest) = (
        omega (arith, follow.0, follow.1),
        (let wide : c.own < c.to = good.some (free kind refl).0 in omega (arith, wide, end_of_from c.to limit m cs follow.3)),
        more,
      ) in
      subst (λ (xs : List Character). AreOrdered at (place xs ∷ rest)) (sym is) own

  places_ordered : (context : Context) (spaced : Bool) (skip : ℕ) (cs : List Character) (at limit : ℕ) → Follow at limit cs → AreGood text cs →
      AreOrdered (end_of at (take skip cs)) (flat_map place_of (pieces context spaced skip cs))
  places_ordered context spaced skip [] at limit follow good = tt
  places_ordered context spaced zero (c ∷ cs) at limit follow good =
      let f : Front = front_of context c cs in
      let own : List Character = take f.size (c ∷ cs) in
      piece_ordered f.size (kind_of f.class) (record { class = f.class; characters = own; context = context; spaced = spaced }) c cs at limit
      (flat_map place_of (pieces (after_piece f.class context (spelling own)) (is_space f.class) (f.size - 1) cs)) refl (sized_front context c cs).some follow good.0
      (λ kind e. front_plain context c cs kind e)
      (places_ordered (after_piece f.class context (spelling own)) (is_space f.class) (f.size - 1) cs c.to limit follow.3 good.1)
  places_ordered context spaced (suc skip) (c ∷ cs) at limit follow good = places_ordered context spaced skip cs c.to limit follow.3 good.1

pub all_ordered : (text : List ℕ) → IsUtf8 text → AreOrdered 0 (lexed text).places
all_ordered text utf8 = places_ordered text Fresh false 0 (logical text) 0 (length text) (logical_follows text) (good_logical text utf8)
