-- The same of literals and header names.
use Rattle.std.proofs.Common.{◌≡◌, ℕ, ◌+◌, inl, inr, Bool, true, false, ◌&&◌, ◌||◌, not, List, [], ◌∷◌, ◌++◌, append_assoc, drop, refl, ap, sym, subst, arith, Option, Some, slice_index, ◌==◌}
use Rattle.std.proofs.lemmas.Grind.{common_steps}
use Rattle.std.specs.List.{list_all}
use Rattle.c_tokens.specs.declared.pieces.Class.TheVariants.{Token}
use Rattle.c_tokens.specs.declared.classes.State.{State}
use Rattle.c_tokens.specs.declared.classes.State.TheVariants.{Text, Escape, TextEnd, HeaderFront, Header, HeaderEnd}
use Rattle.c_tokens.specs.Logical.{is_line_end}
use Rattle.c_tokens.specs.Classes.{next_state}
use Rattle.c_tokens.specs.Pieces.{is_quote, is_prefix, literal_kind, literal_prefix, closing_of}
use Rattle.c_tokens.specs.Languages.{IsChar, member, escape, AreChars, no_char, and_char, IsCharacterConstant, constant, constant_L, constant_u, constant_U, IsStringLiteral, string, string_u8, string_u, string_U, string_L, IsHeaderName, angled, quoted, IsMember}
use Rattle.c_tokens.proofs.Scanned.{closes, is_literal, is_header_name}
use Rattle.c_tokens.proofs.FrontLemmas.{if_cases}
use Rattle.c_tokens.proofs.LongestLemmas.{first_part, second_part, either_part}
use Rattle.c_tokens.proofs.LongestTokens.{same_test}
use Rattle.c_tokens.proofs.Productions.{Closed, no_or}

-- a sequence of characters between quotes is read, whatever follows
backslash_no_quote : (q : ℕ) → is_quote q ≡ true → 92 == q ≡ false
backslash_no_quote q e = grind (arith, common_steps, e)

char_closes : (q : ℕ) → is_quote q ≡ true → (w : List ℕ) → IsChar q w → (tail : List ℕ) → closes tail (Text q) ≡ true → closes (w ++ tail) (Text q) ≡ true
unfolding next_state
char_closes q is w (member c f g h) tail e = rw (h, f, g) e
char_closes q is w (escape c f) tail e = rw (backslash_no_quote q is, f) e

chars_close : (q : ℕ) → is_quote q ≡ true → (w : List ℕ) → AreChars q w → (tail : List ℕ) → closes tail (Text q) ≡ true → closes (w ++ tail) (Text q) ≡ true
chars_close q is w no_char tail e = e
chars_close q is w (and_char cs c a k) tail e = rw (append_assoc cs c tail) (chars_close q is cs a (c ++ tail) (char_closes q is c k tail e))

single_closes : closes (39 ∷ []) (Text 39) ≡ true
unfolding next_state
single_closes = refl

double_closes : closes (34 ∷ []) (Text 34) ≡ true
unfolding next_state
double_closes = refl

pub scans_constant : (w : List ℕ) → IsCharacterConstant w → is_literal w ≡ true
unfolding literal_prefix
scans_constant w (constant cs a) = chars_close 39 refl cs a (39 ∷ []) single_closes
scans_constant w (constant_L cs a) = chars_close 39 refl cs a (39 ∷ []) single_closes
scans_constant w (constant_u cs a) = chars_close 39 refl cs a (39 ∷ []) single_closes
scans_constant w (constant_U cs a) = chars_close 39 refl cs a (39 ∷ []) single_closes

pub scans_string : (w : List ℕ) → IsStringLiteral w → is_literal w ≡ true
unfolding literal_prefix
scans_string w (string cs a) = chars_close 34 refl cs a (34 ∷ []) double_closes
scans_string w (string_u8 cs a) = chars_close 34 refl cs a (34 ∷ []) double_closes
scans_string w (string_u cs a) = chars_close 34 refl cs a (34 ∷ []) double_closes
scans_string w (string_U cs a) = chars_close 34 refl cs a (34 ∷ []) double_closes
scans_string w (string_L cs a) = chars_close 34 refl cs a (34 ∷ []) double_closes

-- what is read up to the quote is such a sequence
abbrev EndsAt : ℕ → List ℕ → Type 0
EndsAt q w = (cs : List ℕ) × AreChars q cs × (w ≡ cs ++ q ∷ [])

quote_ends : (q c : ℕ) (v done : List ℕ) → AreChars q done → c == q ≡ true → closes v TextEnd ≡ true → EndsAt q (done ++ c ∷ v)
unfolding next_state
quote_ends q c [] done a e f = (done, a, rw (same_test c q e) refl)
quote_ends q c (d ∷ v) done a e f = cc f

mutual
  unfolding next_state

  text_ends : (v : List ℕ) (q : ℕ) (done : List ℕ) → AreChars q done → closes v (Text q) ≡ true → EndsAt q (done ++ v)
  text_ends [] q done a e = cc e
  text_ends (c ∷ v) q done a e =
      let P : Option State → Type 0 = λ o. Closed v (Text q) o → EndsAt q (done ++ c ∷ v) in
      if_cases P (is_line_end c) _ _ (λ _ k. cc k)
      (λ f. if_cases P (c == q) _ _ (λ g k. quote_ends q c v done a g k)
      (λ g. if_cases P (c == 92) _ _ (λ h k. rw (same_test c 92 h) (escape_ends v q done a k))
      (λ h k. subst (EndsAt q) (append_assoc done (c ∷ []) v) (text_ends v q (done ++ c ∷ []) (and_char done (c ∷ []) a (member c g h f)) k)))) e

  escape_ends : (v : List ℕ) (q : ℕ) (done : List ℕ) → AreChars q done → closes v (Escape q) ≡ true → EndsAt q (done ++ 92 ∷ v)
  escape_ends [] q done a e = cc e
  escape_ends (c ∷ v) q done a e =
      let P : Option State → Type 0 = λ o. Closed v (Escape q) o → EndsAt q (done ++ 92 ∷ c ∷ v) in
      if_cases P (is_line_end c) _ _ (λ _ k. cc k)
      (λ f k. subst (EndsAt q) (append_assoc done (92 ∷ c ∷ []) v) (text_ends v q (done ++ 92 ∷ c ∷ []) (and_char done (92 ∷ c ∷ []) a (escape c f)) k)) e

closed_by : (q : ℕ) (P : List ℕ → Type 0) → ((cs : List ℕ) → AreChars q cs → P (cs ++ q ∷ [])) → (v : List ℕ) → closes v (Text q) ≡ true → P v
closed_by q P make v e = let k = text_ends v q [] no_char e in subst P (sym k.2) (make k.0 k.1)

abbrev pub Quoted : ℕ → List ℕ → Type 0
Quoted p w = closes (drop (p + 1) w) (Text (slice_index w p)) ≡ true → IsMember (Token (literal_kind (slice_index w p))) w

-- with no prefix, one of one letter, and u8
plain_in : (w : List ℕ) → is_quote (slice_index w 0) ≡ true → Quoted 0 w
plain_in [] e = cc e
plain_in (a ∷ w) e = elim (either_part (a == 34) (a == 39) e) as (λ _. Quoted 0 (a ∷ w)) [
  | inl f ↦ rw (same_test a 34 f) (closed_by 34 (λ v. IsStringLiteral (34 ∷ v)) string w)
  | inr f ↦ rw (same_test a 39 f) (closed_by 39 (λ v. IsCharacterConstant (39 ∷ v)) constant w)
]

letter_in : (a b : ℕ) (w : List ℕ) → is_prefix a ≡ true → is_quote b ≡ true → Quoted 1 (a ∷ b ∷ w)
letter_in a b w e f = elim (either_part (b == 34) (b == 39) f) as (λ _. Quoted 1 (a ∷ b ∷ w)) [
  | inl g ↦ rw (same_test b 34 g) (string_in a w e)
  | inr g ↦ rw (same_test b 39 g) (constant_in a w e)
]
  where
    string_in : (a : ℕ) (w : List ℕ) → is_prefix a ≡ true → closes w (Text 34) ≡ true → IsStringLiteral (a ∷ 34 ∷ w)
    string_in a w e = elim (either_part (a == 76 || a == 117) (a == 85) e) as (λ _. closes w (Text 34) ≡ true → IsStringLiteral (a ∷ 34 ∷ w)) [
      | inr g ↦ rw (same_test a 85 g) (closed_by 34 (λ v. IsStringLiteral (85 ∷ 34 ∷ v)) string_U w)
      | inl g ↦ elim (either_part (a == 76) (a == 117) g) as (λ _. closes w (Text 34) ≡ true → IsStringLiteral (a ∷ 34 ∷ w)) [
        | inl h ↦ rw (same_test a 76 h) (closed_by 34 (λ v. IsStringLiteral (76 ∷ 34 ∷ v)) string_L w)
        | inr h ↦ rw (same_test a 117 h) (closed_by 34 (λ v. IsStringLiteral (117 ∷ 34 ∷ v)) string_u w)
      ]
    ]

    constant_in : (a : ℕ) (w : List ℕ) → is_prefix a ≡ true → closes w (Text 39) ≡ true → IsCharacterConstant (a ∷ 39 ∷ w)
    constant_in a w e = elim (either_part (a == 76 || a == 117) (a == 85) e) as (λ _. closes w (Text 39) ≡ true → IsCharacterConstant (a ∷ 39 ∷ w)) [
      | inr g ↦ rw (same_test a 85 g) (closed_by 39 (λ v. IsCharacterConstant (85 ∷ 39 ∷ v)) constant_U w)
      | inl g ↦ elim (either_part (a == 76) (a == 117) g) as (λ _. closes w (Text 39) ≡ true → IsCharacterConstant (a ∷ 39 ∷ w)) [
        | inl h ↦ rw (same_test a 76 h) (closed_by 39 (λ v. IsCharacterConstant (76 ∷ 39 ∷ v)) constant_L w)
        | inr h ↦ rw (same_test a 117 h) (closed_by 39 (λ v. IsCharacterConstant (117 ∷ 39 ∷ v)) constant_u w)
      ]
    ]

one_in : (w : List ℕ) → is_prefix (slice_index w 0) && is_quote (slice_index w 1) ≡ true → Quoted 1 w
one_in [] e = cc e
one_in (a ∷ []) e = cc (second_part (is_prefix a) false e)
one_in (a ∷ b ∷ w) e = letter_in a b w (first_part (is_prefix a) (is_quote b) e) (second_part (is_prefix a) (is_quote b) e)

eight_in : (a b c : ℕ) (w : List ℕ) → a == 117 ≡ true → b == 56 ≡ true → c == 34 ≡ true → Quoted 2 (a ∷ b ∷ c ∷ w)
eight_in a b c w e f g = rw (same_test a 117 e, same_test b 56 f, same_test c 34 g) (closed_by 34 (λ v. IsStringLiteral (117 ∷ 56 ∷ 34 ∷ v)) string_u8 w)

two_in : (w : List ℕ) → slice_index w 0 == 117 && slice_index w 1 == 56 && slice_index w 2 == 34 ≡ true → Quoted 2 w
two_in [] e = cc e
two_in (a ∷ []) e = cc (second_part (a == 117 && false) false e)
two_in (a ∷ b ∷ []) e = cc (second_part (a == 117 && b == 56) false e)
two_in (a ∷ b ∷ c ∷ w) e =
    let two : a == 117 && b == 56 ≡ true = first_part (a == 117 && b == 56) (c == 34) e in
    eight_in a b c w (first_part (a == 117) (b == 56) two) (second_part (a == 117) (b == 56) two) (second_part (a == 117 && b == 56) (c == 34) e)

pub literal_in : (p : ℕ) (w : List ℕ) → literal_prefix w ≡ Some p → Quoted p w
unfolding literal_prefix
literal_in p w =
    let P : Option ℕ → Type 0 = λ o. o ≡ Some p → Quoted p w in
    if_cases P (is_quote (slice_index w 0)) _ _ (λ e k. at 0 (plain_in w e) k)
    (λ _. if_cases P (is_prefix (slice_index w 0) && is_quote (slice_index w 1)) _ _ (λ e k. at 1 (one_in w e) k)
    (λ _. if_cases P (slice_index w 0 == 117 && slice_index w 1 == 56 && slice_index w 2 == 34) _ _ (λ e k. at 2 (two_in w e) k) (λ _ k. cc k)))
  where
    at : (n : ℕ) → Quoted n w → Some n ≡ Some p → Quoted p w
    at n q k = let same : n ≡ p = cc k in subst (λ (m : ℕ). Quoted m w) same q

-- header names
abbrev is_other : ℕ → ℕ → Bool
is_other q c = not (is_line_end c) && not (c == q)

turned : (b : Bool) → not b ≡ true → b ≡ false
turned true e = cc e
turned false e = refl

other_line : (q c : ℕ) → is_other q c ≡ true → is_line_end c ≡ false
other_line q c e = turned (is_line_end c) (first_part (not (is_line_end c)) (not (c == q)) e)

other_same : (q c : ℕ) → is_other q c ≡ true → c == q ≡ false
other_same q c e = turned (c == q) (second_part (not (is_line_end c)) (not (c == q)) e)

header_closes : (q : ℕ) → is_line_end q ≡ false → q == q ≡ true → (cs : List ℕ) → list_all (is_other q) cs ≡ true → closes (cs ++ q ∷ []) (Header q) ≡ true
unfolding next_state
header_closes q none same [] e = rw (none, same) refl
header_closes q none same (c ∷ cs) e =
    let here : is_other q c ≡ true = first_part (is_other q c) (list_all (is_other q) cs) e in
    rw (other_line q c here, other_same q c here) (header_closes q none same cs (second_part (is_other q c) (list_all (is_other q) cs) e))

front_closes : (q c : ℕ) (cs : List ℕ) → is_line_end q ≡ false → q == q ≡ true → list_all (is_other q) (c ∷ cs) ≡ true → closes (c ∷ cs ++ q ∷ []) (HeaderFront q) ≡ true
unfolding next_state
front_closes q c cs none same e =
    let here : is_other q c ≡ true = first_part (is_other q c) (list_all (is_other q) cs) e in
    rw (other_line q c here, other_same q c here) (header_closes q none same cs (second_part (is_other q c) (list_all (is_other q) cs) e))

pub scans_header : (w : List ℕ) → IsHeaderName w → is_header_name w ≡ true
scans_header w (angled c cs e) = front_closes 62 c cs refl refl e
scans_header w (quoted c cs e) = front_closes 34 c cs refl refl e

abbrev HeaderEnds : ℕ → List ℕ → Type 0
HeaderEnds q w = (cs : List ℕ) × (list_all (is_other q) cs ≡ true) × (w ≡ cs ++ q ∷ [])

delimiter_ends : (q c : ℕ) (v : List ℕ) → c == q ≡ true → closes v HeaderEnd ≡ true → HeaderEnds q (c ∷ v)
unfolding next_state
delimiter_ends q c [] e f = ([], refl, rw (same_test c q e) refl)
delimiter_ends q c (d ∷ v) e f = cc f

header_on : (q c : ℕ) (v : List ℕ) → is_line_end c ≡ false → c == q ≡ false → HeaderEnds q v → HeaderEnds q (c ∷ v)
header_on q c v e f s = (c ∷ s.0, rw (e, f) s.1, ap (λ (w : List ℕ). c ∷ w) s.2)

header_ends : (q : ℕ) (v : List ℕ) → closes v (Header q) ≡ true → HeaderEnds q v
unfolding next_state
header_ends q [] e = cc e
header_ends q (c ∷ v) e =
    let P : Option State → Type 0 = λ o. Closed v (Header q) o → HeaderEnds q (c ∷ v) in
    if_cases P (is_line_end c) _ _ (λ _ k. cc k) (λ f. if_cases P (c == q) _ _ (λ g k. delimiter_ends q c v g k) (λ g k. header_on q c v f g (header_ends q v k))) e

front_ends : (q : ℕ) (P : List ℕ → Type 0) → ((c : ℕ) (cs : List ℕ) → list_all (is_other q) (c ∷ cs) ≡ true → P (c ∷ cs ++ q ∷ [])) → (v : List ℕ) → closes v (HeaderFront q) ≡ true → P v
unfolding next_state
front_ends q P make [] e = cc e
front_ends q P make (c ∷ v) e = if_cases (λ (o : Option State). Closed v (HeaderFront q) o → P (c ∷ v)) (is_line_end c || c == q) _ _ (λ _ k. cc k)
    (λ f k. let s = header_ends q v k in subst (λ (w : List ℕ). P (c ∷ w)) (sym s.2) (make c s.0 (rw (no_or (is_line_end c) (c == q) f).0 (rw (no_or (is_line_end c) (c == q) f).1 s.1)))) e

pub header_is : (w : List ℕ) → is_header_name w ≡ true → IsHeaderName w
header_is [] e = cc e
header_is (a ∷ w) e = elim (either_part (a == 60) (a == 34) (first_part (a == 60 || a == 34) (closes w (HeaderFront (closing_of a))) e)) as (λ _. IsHeaderName (a ∷ w)) [
  | inl f ↦ angle a w f (second_part (a == 60 || a == 34) (closes w (HeaderFront (closing_of a))) e)
  | inr f ↦ double a w f (second_part (a == 60 || a == 34) (closes w (HeaderFront (closing_of a))) e)
]
  where
    angle : (a : ℕ) (w : List ℕ) → a == 60 ≡ true → closes w (HeaderFront (closing_of a)) ≡ true → IsHeaderName (a ∷ w)
    angle a w f = rw (same_test a 60 f) (front_ends 62 (λ v. IsHeaderName (60 ∷ v)) angled w)

    double : (a : ℕ) (w : List ℕ) → a == 34 ≡ true → closes w (HeaderFront (closing_of a)) ≡ true → IsHeaderName (a ∷ w)
    double a w f = rw (same_test a 34 f) (front_ends 34 (λ v. IsHeaderName (34 ∷ v)) quoted w)
