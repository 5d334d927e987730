-- The starts of lines by one code point at a time.
use Rattle.std.proofs.Common.{◌≡◌, ◌⊎◌, inl, inr, ℕ, ◌+◌, ◌/◌, ◌<◌, ◌≤◌, ltb, ◌==◌, ◌&&◌, ◌||◌, not, Bool, true, false, cond, List, [], ◌∷◌, ◌++◌, length, slice_index, refl, ap, ap₂, sym, ◌∙◌, add_assoc, add-zero, arith}
use Rattle.std.proofs.lemmas.Str.{length-encode, encodes-chars}
use Rattle.std.specs.Str.{IsUtf8, chars}
use lib.Utf8.{encode, encodes, next}
use Rattle.std.specs.Char.{len_utf8}
use Rattle.text_lines.specs.Lines.{Lines, Last, Ended, lines, after_char, is_line_end}
use Rattle.text_lines.specs.Positions.{starts_after, line_starts}
use Rattle.text_lines.specs.Units.{units}
use Rattle.text_lines.specs.declared.encoding.Encoding.TheVariants.{Utf8}

-- the starts behind the byte `at`, where these code points follow
abbrev pub later_starts : ℕ → List ℕ → List ℕ
later_starts at [] = []
later_starts at (c ∷ rest) =
    cond (is_line_end c rest) ((at + len_utf8 c) ∷ later_starts (at + len_utf8 c) rest) (later_starts (at + len_utf8 c) rest)

starts_after_char : (at c : ℕ) (ls : Lines) → starts_after at (after_char c ls) ≡ starts_after (at + len_utf8 c) ls
starts_after_char at c (Last line) = refl
starts_after_char at c (Ended line more) = ap (λ n. n ∷ starts_after n more) (sym (add_assoc at (len_utf8 c) (units Utf8 line)))

pub starts-later : (at : ℕ) (cs : List ℕ) → starts_after at (lines cs) ≡ later_starts at cs
starts-later at [] = refl
starts-later at (c ∷ rest) =
    elim (is_line_end c rest) as (λ b. starts_after at (cond b (Ended (c ∷ []) (lines rest)) (after_char c (lines rest))) ≡ cond b ((at + len_utf8 c) ∷ later_starts (at + len_utf8 c) rest) (later_starts (at + len_utf8 c) rest)) [
      | true ↦ ap (λ n. (at + n) ∷ starts_after (at + n) (lines rest)) (add-zero (len_utf8 c)) ∙ ap (λ more. (at + len_utf8 c) ∷ more) (starts-later (at + len_utf8 c) rest)
      | false ↦ starts_after_char at c (lines rest) ∙ starts-later (at + len_utf8 c) rest
    ]

pub line_starts_later : (text : List ℕ) → line_starts text ≡ 0 ∷ later_starts 0 (chars text)
unfolding line_starts
line_starts_later text = ap (λ more. 0 ∷ more) (starts-later 0 (chars text))

-- ---- the same by one byte at a time

-- the starts behind the byte `at`, where these bytes follow
abbrev pub byte_starts : ℕ → List ℕ → List ℕ
byte_starts at [] = []
byte_starts at (b ∷ rest) = cond (is_line_end b rest) ((at + 1) ∷ byte_starts (at + 1) rest) (byte_starts (at + 1) rest)

abbrev AreHigh : List ℕ → Type 0
AreHigh [] = Unit {0}
AreHigh (b ∷ bs) = (128 ≤ b) × AreHigh bs

-- one byte, which is the code point, or more of which each is above ASCII
abbrev Coded : ℕ → List ℕ → Type 0
Coded c bs = (bs ≡ c ∷ []) ⊎ ((128 ≤ c) × (0 < length bs) × AreHigh bs)

either_coded : (c : ℕ) (bs : List ℕ) (b : Bool) → ltb c 128 ≡ b → (0 < length bs) → AreHigh bs → Coded c (cond b (c ∷ []) bs)
either_coded c bs true e l h = inl refl
either_coded c bs false e l h = inr (grind (arith, e), l, h)

abbrev Many : List ℕ → Type 0
Many bs = (0 < length bs) × AreHigh bs

either_many : (b : Bool) (xs ys : List ℕ) → Many xs → Many ys → Many (cond b xs ys)
either_many true xs ys h k = h
either_many false xs ys h k = k

next_high : (n : ℕ) → 128 ≤ next n
next_high n = omega arith

many : (c : ℕ) → Many (cond (ltb c 2048) ((192 + c / 64) ∷ next c ∷ []) (cond (ltb c 65536) ((224 + c / 4096) ∷ next (c / 64) ∷ next c ∷ []) ((240 + c / 262144) ∷ next (c / 4096) ∷ next (c / 64) ∷ next c ∷ [])))
many c =
    let two : Many ((192 + c / 64) ∷ next c ∷ []) = (omega arith, (omega arith, (next_high c, tt))) in
    let three : Many ((224 + c / 4096) ∷ next (c / 64) ∷ next c ∷ []) = (omega arith, (omega arith, (next_high (c / 64), (next_high c, tt)))) in
    let four : Many ((240 + c / 262144) ∷ next (c / 4096) ∷ next (c / 64) ∷ next c ∷ []) = (omega arith, (omega arith, (next_high (c / 4096), (next_high (c / 64), (next_high c, tt))))) in
    either_many (ltb c 2048) _ _ two (either_many (ltb c 65536) _ _ three four)

coded : (c : ℕ) → Coded c (encode c)
unfolding encode
coded c = either_coded c _ (ltb c 128) refl (many c).0 (many c).1

no_end : (b : ℕ) (rest : List ℕ) → 128 ≤ b → is_line_end b rest ≡ false
no_end b rest h =
    let feed : (b == 10) ≡ false = grind (arith, h) in
    let turn : (b == 13) ≡ false = grind (arith, h) in
    ap₂ (λ x y. x || (y && not (slice_index rest 0 == 10))) feed turn

past_high : (at : ℕ) (bs rest : List ℕ) → AreHigh bs → byte_starts at (bs ++ rest) ≡ byte_starts (at + length bs) rest
past_high at [] rest h = ap (λ n. byte_starts n rest) (sym (add-zero at))
past_high at (b ∷ bs) rest h =
    let further : (at + 1) + length bs ≡ at + length (b ∷ bs) = omega arith in
    ap (λ t. cond t ((at + 1) ∷ byte_starts (at + 1) (bs ++ rest)) (byte_starts (at + 1) (bs ++ rest))) (no_end b (bs ++ rest) h.0)
    ∙ past_high (at + 1) bs rest h.1 ∙ ap (λ n. byte_starts n rest) further

past_char : (at c : ℕ) (rest : List ℕ) → byte_starts at (encode c ++ rest) ≡ cond (is_line_end c rest) ((at + len_utf8 c) ∷ byte_starts (at + len_utf8 c) rest) (byte_starts (at + len_utf8 c) rest)
past_char at c rest = by_cases (coded c)
  where
    by_cases : Coded c (encode c) → byte_starts at (encode c ++ rest) ≡ cond (is_line_end c rest) ((at + len_utf8 c) ∷ byte_starts (at + len_utf8 c) rest) (byte_starts (at + len_utf8 c) rest)
    by_cases (inl e) =
        ap (λ bs. byte_starts at (bs ++ rest)) e
        ∙ ap (λ n. cond (is_line_end c rest) ((at + n) ∷ byte_starts (at + n) rest) (byte_starts (at + n) rest)) (sym (ap length e) ∙ length-encode c)
    by_cases (inr h) =
        past_high at (encode c) rest h.2 ∙ ap (λ n. byte_starts (at + n) rest) (length-encode c)
        ∙ sym (ap (λ b. cond b ((at + len_utf8 c) ∷ byte_starts (at + len_utf8 c) rest) (byte_starts (at + len_utf8 c) rest)) (no_end c rest h.0))

first_high : (bs rest : List ℕ) → 0 < length bs → AreHigh bs → (slice_index (bs ++ rest) 0 == 10) ≡ false
first_high [] rest l h = absurd (omega (arith, l))
first_high (b ∷ bs) rest l h = let k : 128 ≤ b = h.0 in grind (arith, k)

first_same : (cs : List ℕ) → (slice_index (encodes cs) 0 == 10) ≡ (slice_index cs 0 == 10)
first_same [] = refl
first_same (c ∷ cs) = by_cases (coded c)
  where
    by_cases : Coded c (encode c) → (slice_index (encode c ++ encodes cs) 0 == 10) ≡ (c == 10)
    by_cases (inl e) = ap (λ bs. slice_index (bs ++ encodes cs) 0 == 10) e
    by_cases (inr h) =
        let high : 128 ≤ c = h.0 in
        let other : (c == 10) ≡ false = grind (arith, high) in
        first_high (encode c) (encodes cs) h.1 h.2 ∙ sym other

bytes-later : (at : ℕ) (cs : List ℕ) → byte_starts at (encodes cs) ≡ later_starts at cs
bytes-later at [] = refl
bytes-later at (c ∷ rest) =
    past_char at c (encodes rest)
    ∙ ap (λ b. cond (c == 10 || (c == 13 && not b)) ((at + len_utf8 c) ∷ byte_starts (at + len_utf8 c) (encodes rest)) (byte_starts (at + len_utf8 c) (encodes rest))) (first_same rest)
    ∙ ap (λ more. cond (is_line_end c rest) ((at + len_utf8 c) ∷ more) more) (bytes-later (at + len_utf8 c) rest)

pub line_starts_bytes : (text : List ℕ) → IsUtf8 text → line_starts text ≡ 0 ∷ byte_starts 0 text
line_starts_bytes text utf8 =
    line_starts_later text ∙ ap (λ more. 0 ∷ more) (sym (bytes-later 0 (chars text)) ∙ ap (byte_starts 0) (encodes-chars text utf8))
