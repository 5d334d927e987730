-- The piece at the front is no shorter than a number, a literal, a header name, a punctuator, a comment or white space there.
use Rattle.std.proofs.Common.{◌≡◌, ℕ, zero, suc, ◌+◌, ◌-◌, ◌<◌, ◌≤◌, inl, inr, Bool, true, false, ◌&&◌, ◌||◌, not, List, [], ◌∷◌, length, take, drop, refl, ap, ◌∙◌, subst, arith, Option, Some, None, slice_index, nat_lt, ◌==◌, bytes_eq}
use Rattle.std.proofs.lemmas.Grind.{common_steps}
use Rattle.std.proofs.lemmas.List.{length-drop, length-take-le, get_or-take, drop-take}
use Rattle.tok_data.specs.declared.tokens.PpKind.TheVariants.{Number}
use Rattle.c_tokens.specs.declared.pieces.Class.TheVariants.{Token}
use Rattle.c_tokens.specs.declared.pieces.Context.{Context}
use Rattle.c_tokens.specs.declared.pieces.Context.TheVariants.{Fresh, Hash, Include, Later}
use Rattle.c_tokens.specs.declared.classes.State.TheVariants.{Blanks, Line, Block, Digits, Text, HeaderFront}
use Rattle.c_tokens.specs.Logical.{is_line_end}
use Rattle.c_tokens.specs.Classes.{run, is_blank, is_digit, is_nondigit, is_number_part, is_single, is_pair, is_triple, is_quadruple, longest_of_four, punctuator_size}
use Rattle.c_tokens.specs.Pieces.{Front, first_front, header_or_token, header_size, token_front, literal_prefix, literal_at, literal_or_plain, plain_front, punctuator_or_stray, block_comment, is_token, is_quote, is_prefix, closing_of}
use Rattle.c_tokens.specs.Languages.{is_punctuator, punctuators, is_among}
use Rattle.c_tokens.proofs.Scanned.{accepts, closes, is_identifier, is_number, is_literal, is_quoted, is_header_name, is_comment, is_white_space, may_be_header, is_piece, IsLongest}
use Rattle.c_tokens.proofs.FrontLemmas.{if_cases, run_first, digits_go, line_goes}
use Rattle.c_tokens.proofs.ClosedFronts.{PlaceWithin, prefix_within}
use Rattle.c_tokens.proofs.LongestLemmas.{accepts_within, Closes, closes_exactly, first_part, second_part, either_part, take_see, below_first, below_front_token, no_prefix, below_identifier}

pub same_test : (a b : ℕ) → a == b ≡ true → a ≡ b
same_test a b e = grind (arith, common_steps, e)

-- where no quote opens a literal
plain_token : (cs : List ℕ) → literal_prefix cs ≡ None → token_front cs ≡ plain_front cs
unfolding token_front
plain_token cs e = ap (λ (o : Option ℕ). literal_or_plain o cs) e

-- numbers
number_seen : (m c : ℕ) (xs : List ℕ) → is_digit c || (c == 46 && is_digit (slice_index (take m xs) 0)) ≡ true → is_digit c || (c == 46 && is_digit (slice_index xs 0)) ≡ true
number_seen m c xs e = by (is_digit c) (c == 46) e
  where
    by : (a b : Bool) → a || (b && is_digit (slice_index (take m xs) 0)) ≡ true → a || (b && is_digit (slice_index xs 0)) ≡ true
    by true b e = refl
    by false true e = take_see is_digit refl m xs 0 e
    by false false e = e

number_char : (c : ℕ) (d : Bool) → is_digit c || (c == 46 && d) ≡ true → is_digit c || c == 46 ≡ true
number_char c d e = by (is_digit c) (c == 46) e
  where
    by : (a b : Bool) → a || (b && d) ≡ true → a || b ≡ true
    by true b e = refl
    by false true e = refl
    by false false e = e

number_front : (c : ℕ) (xs : List ℕ) → is_digit c || (c == 46 && is_digit (slice_index xs 0)) ≡ true → token_front (c ∷ xs) ≡ record { class = Token Number; size = run (c ∷ xs) Digits }
unfolding plain_front
number_front c xs e =
    let starts : is_digit c || c == 46 ≡ true = number_char c (is_digit (slice_index xs 0)) e in
    let word : is_nondigit c ≡ false = grind (arith, common_steps, starts) in
    plain_token (c ∷ xs) (no_prefix c xs (grind (arith, common_steps, starts)) (grind (arith, common_steps, starts)) (grind (arith, common_steps, starts))) ∙ rw (word, e) refl

pub below_number : (m : ℕ) (context : Context) (c : ℕ) (xs : List ℕ) → suc m ≤ length (c ∷ xs) → is_number (take (suc m) (c ∷ xs)) ≡ true → suc m ≤ (first_front context (c ∷ xs)).size
below_number m context c xs within e =
    let first : is_digit c || (c == 46 && is_digit (slice_index (take m xs) 0)) ≡ true = first_part _ (accepts (c ∷ take m xs) Digits) e in
    let goes : accepts (c ∷ take m xs) Digits ≡ true = second_part (is_digit c || (c == 46 && is_digit (slice_index (take m xs) 0))) (accepts (c ∷ take m xs) Digits) e in
    let starts : is_digit c || c == 46 ≡ true = number_char c (is_digit (slice_index (take m xs) 0)) first in
    let front : token_front (c ∷ xs) ≡ record { class = Token Number; size = run (c ∷ xs) Digits } = number_front c xs (number_seen m c xs first) in
    let below : suc m ≤ (token_front (c ∷ xs)).size = rw front (accepts_within (suc m) (c ∷ xs) Digits within goes) in
    below_first (suc m) context (c ∷ xs)
    (λ f. absurd (grind (arith, common_steps, starts, f)))
    (λ _ f. absurd (grind (arith, common_steps, starts, f)))
    (λ _ _ f. absurd (grind (arith, common_steps, starts, f)))
    (λ _ _ _ f. absurd (grind (arith, common_steps, starts, f)))
    (λ _ _ _ _. below_front_token (suc m) context (c ∷ xs) below (inl (rw front refl)))

-- literals
prefix_taken : (m c p : ℕ) (xs : List ℕ) → literal_prefix (c ∷ take m xs) ≡ Some p → literal_prefix (c ∷ xs) ≡ Some p
unfolding literal_prefix
prefix_taken m c p xs =
    let x0 : ℕ = slice_index (take m xs) 0 in
    let x1 : ℕ = slice_index (take m xs) 1 in
    if_cases (λ (o : Option ℕ). o ≡ Some p → literal_prefix (c ∷ xs) ≡ Some p) (is_quote c) _ _ (λ e k. rw e k)
    (λ e. if_cases (λ (o : Option ℕ). o ≡ Some p → literal_prefix (c ∷ xs) ≡ Some p) (is_prefix c && is_quote x0) _ _
    (λ f k. rw (e, first_part (is_prefix c) (is_quote x0) f, take_see is_quote refl m xs 0 (second_part (is_prefix c) (is_quote x0) f)) k)
    (λ f. if_cases (λ (o : Option ℕ). o ≡ Some p → literal_prefix (c ∷ xs) ≡ Some p) (c == 117 && x0 == 56 && x1 == 34) _ _
    (λ g k.
    let u : c == 117 ≡ true = first_part (c == 117) (x0 == 56) (first_part (c == 117 && x0 == 56) (x1 == 34) g) in
    let eight : slice_index xs 0 == 56 ≡ true = take_see (λ v. v == 56) refl m xs 0 (second_part (c == 117) (x0 == 56) (first_part (c == 117 && x0 == 56) (x1 == 34) g)) in
    let double : slice_index xs 1 == 34 ≡ true = take_see (λ v. v == 34) refl m xs 1 (second_part (c == 117 && x0 == 56) (x1 == 34) g) in
    rw (same_test c 117 u, same_test (slice_index xs 0) 56 eight, double) k)
    (λ g k. cc k)))

prefix_start : (c p : ℕ) (xs : List ℕ) → literal_prefix (c ∷ xs) ≡ Some p → is_quote c || is_prefix c ≡ true
unfolding literal_prefix
prefix_start c p xs =
    if_cases (λ (o : Option ℕ). o ≡ Some p → is_quote c || is_prefix c ≡ true) (is_quote c) _ _ (λ e k. rw e refl)
    (λ e. if_cases (λ (o : Option ℕ). o ≡ Some p → is_quote c || is_prefix c ≡ true) (is_prefix c && is_quote (slice_index xs 0)) _ _
    (λ f k. rw (e, first_part (is_prefix c) (is_quote (slice_index xs 0)) f) refl)
    (λ f. if_cases (λ (o : Option ℕ). o ≡ Some p → is_quote c || is_prefix c ≡ true) (c == 117 && slice_index xs 0 == 56 && slice_index xs 1 == 34) _ _
    (λ g k. rw (same_test c 117 (first_part (c == 117) (slice_index xs 0 == 56) (first_part (c == 117 && slice_index xs 0 == 56) (slice_index xs 1 == 34) g))) refl)
    (λ g k. cc k)))

-- a literal whose quote stands at p
literal_size : (n p : ℕ) (cs : List ℕ) → n ≤ length cs → p < n → closes (drop (p + 1) (take n cs)) (Text (slice_index (take n cs) p)) ≡ true
    → (n ≡ (literal_at cs p).size) × (is_token (literal_at cs p).class ≡ true)
unfolding literal_at
literal_size n p cs within inside e =
    let k : ℕ = n - (p + 1) in
    let parts : n ≡ p + 1 + k = omega (arith, inside) in
    let behind : drop (p + 1) (take n cs) ≡ take k (drop (p + 1) cs) = ap (λ (j : ℕ). drop (p + 1) (take j cs)) parts ∙ drop-take (p + 1) k cs in
    let quote : slice_index (take n cs) p ≡ slice_index cs p = get_or-take n cs p 0 inside in
    let closing : closes (take k (drop (p + 1) cs)) (Text (slice_index cs p)) ≡ true =
    subst (λ (q : ℕ). closes (take k (drop (p + 1) cs)) (Text q) ≡ true) quote (subst (λ (ys : List ℕ). closes ys (Text (slice_index (take n cs) p)) ≡ true) behind e) in
    let k_is : Closes k (drop (p + 1) cs) (Text (slice_index cs p)) = closes_exactly k (drop (p + 1) cs) (Text (slice_index cs p)) (omega (arith, within, inside, length-drop (p + 1) cs)) closing in
    (omega (arith, parts, k_is.size), rw k_is.closed refl)

pub literal_by : (m c : ℕ) (xs : List ℕ) (o : Option ℕ) → literal_prefix (c ∷ take m xs) ≡ o → PlaceWithin (c ∷ take m xs) o → suc m ≤ length (c ∷ xs) → is_quoted o (c ∷ take m xs) ≡ true
    → (suc m ≤ (token_front (c ∷ xs)).size) × (is_token (token_front (c ∷ xs)).class ≡ true) × (is_quote c || is_prefix c ≡ true)
unfolding token_front
literal_by m c xs None e inside within quoted = cc quoted
literal_by m c xs (Some p) e inside within quoted =
    let front : literal_prefix (c ∷ xs) ≡ Some p = prefix_taken m c p xs e in
    let n_is = literal_size (suc m) p (c ∷ xs) within (omega (arith, inside, within, length-take-le (suc m) (c ∷ xs) within)) quoted in
    let size : suc m ≤ (literal_at (c ∷ xs) p).size = omega (arith, n_is.0) in
    (rw front size, rw front n_is.1, prefix_start c p (take m xs) e)

pub below_literal : (m : ℕ) (context : Context) (c : ℕ) (xs : List ℕ) → suc m ≤ length (c ∷ xs) → is_literal (take (suc m) (c ∷ xs)) ≡ true → suc m ≤ (first_front context (c ∷ xs)).size
below_literal m context c xs within e =
    let k = literal_by m c xs (literal_prefix (c ∷ take m xs)) refl (prefix_within (c ∷ take m xs)) within e in
    let starts : is_quote c || is_prefix c ≡ true = k.2 in
    below_first (suc m) context (c ∷ xs)
    (λ f. absurd (grind (arith, common_steps, starts, f)))
    (λ _ f. absurd (grind (arith, common_steps, starts, f)))
    (λ _ _ f. absurd (grind (arith, common_steps, starts, f)))
    (λ _ _ _ f. absurd (grind (arith, common_steps, starts, f)))
    (λ _ _ _ _. below_front_token (suc m) context (c ∷ xs) k.0 (inl k.1))

-- header names
header_counts : (n : ℕ) (cs : List ℕ) → 0 < n → n ≤ header_size cs → n ≤ (header_or_token cs).size
unfolding header_or_token
header_counts n cs some below = if_cases (λ (f : Front). n ≤ f.size) (nat_lt 0 (header_size cs) && not (is_token (token_front cs).class && nat_lt (header_size cs) (token_front cs).size)) _ _
    (λ _. below) (λ e. other (header_size cs) (token_front cs).size (is_token (token_front cs).class) below e)
  where
    other : (h s : ℕ) (b : Bool) → n ≤ h → nat_lt 0 h && not (b && nat_lt h s) ≡ false → n ≤ s
    other h s true below e = grind (arith, common_steps, some, below, e)
    other h s false below e = absurd (grind (arith, common_steps, some, below, e))

below_header_name : (m c : ℕ) (xs : List ℕ) → suc m ≤ length (c ∷ xs) → is_header_name (take (suc m) (c ∷ xs)) ≡ true → suc m ≤ (first_front Include (c ∷ xs)).size
unfolding header_size
below_header_name m c xs within e =
    let starts : c == 60 || c == 34 ≡ true = first_part (c == 60 || c == 34) (closes (take m xs) (HeaderFront (closing_of c))) e in
    let k : Closes m xs (HeaderFront (closing_of c)) = closes_exactly m xs (HeaderFront (closing_of c)) (omega arith) (second_part (c == 60 || c == 34) (closes (take m xs) (HeaderFront (closing_of c))) e) in
    let size : suc m ≤ header_size (c ∷ xs) = rw (starts, k.closed) (omega (arith, k.size)) in
    below_first (suc m) Include (c ∷ xs)
    (λ f. absurd (grind (arith, common_steps, starts, f)))
    (λ _ f. absurd (grind (arith, common_steps, starts, f)))
    (λ _ _ f. absurd (grind (arith, common_steps, starts, f)))
    (λ _ _ _ f. absurd (grind (arith, common_steps, starts, f)))
    (λ _ _ _ _. header_counts (suc m) (c ∷ xs) (omega arith) size)

pub below_header_in : (m : ℕ) (context : Context) (c : ℕ) (xs : List ℕ) → suc m ≤ length (c ∷ xs) → may_be_header context && is_header_name (take (suc m) (c ∷ xs)) ≡ true → suc m ≤ (first_front context (c ∷ xs)).size
below_header_in m Include c xs within e = below_header_name m c xs within e
below_header_in m Fresh c xs within e = cc e
below_header_in m Hash c xs within e = cc e
below_header_in m Later c xs within e = cc e

-- comments
block_by : (m c : ℕ) (xs : List ℕ) → suc m ≤ length (c ∷ xs) → slice_index (take m xs) 0 == 42 ≡ true → closes (drop 1 (take m xs)) Block ≡ true → suc m ≤ (block_comment (c ∷ xs)).size
unfolding block_comment
block_by zero c xs within star e = cc star
block_by (suc k) c [] within star e = absurd (omega arith)
block_by (suc k) c (d ∷ ys) within star e =
    let k_is : Closes k ys Block = closes_exactly k ys Block (omega arith) e in
    omega (arith, k_is.size)

pub below_comment : (m : ℕ) (context : Context) (c : ℕ) (xs : List ℕ) → suc m ≤ length (c ∷ xs) → is_comment (take (suc m) (c ∷ xs)) ≡ true → suc m ≤ (first_front context (c ∷ xs)).size
below_comment m context c xs within e =
    let x0 : ℕ = slice_index (take m xs) 0 in
    elim (either_part (c == 47 && x0 == 47 && accepts (c ∷ take m xs) Line) (c == 47 && x0 == 42 && closes (drop 2 (c ∷ take m xs)) Block) e) as (λ _. suc m ≤ (first_front context (c ∷ xs)).size) [
      | inl f ↦
          let both : c == 47 && x0 == 47 ≡ true = first_part (c == 47 && x0 == 47) (accepts (c ∷ take m xs) Line) f in
          let slash : c == 47 ≡ true = first_part (c == 47) (x0 == 47) both in
          let second : slice_index xs 0 == 47 ≡ true = take_see (λ v. v == 47) refl m xs 0 (second_part (c == 47) (x0 == 47) both) in
          let below : suc m ≤ run (c ∷ xs) Line = accepts_within (suc m) (c ∷ xs) Line within (second_part (c == 47 && x0 == 47) (accepts (c ∷ take m xs) Line) f) in
          below_first (suc m) context (c ∷ xs)
          (λ g. absurd (grind (arith, common_steps, slash, g)))
          (λ _ g. absurd (grind (arith, common_steps, slash, g)))
          (λ _ _ _. below)
          (λ _ _ g _. absurd (grind (arith, common_steps, slash, second, g)))
          (λ _ _ g _. absurd (grind (arith, common_steps, slash, second, g)))
      | inr f ↦
          let both : c == 47 && x0 == 42 ≡ true = first_part (c == 47 && x0 == 42) (closes (drop 2 (c ∷ take m xs)) Block) f in
          let slash : c == 47 ≡ true = first_part (c == 47) (x0 == 42) both in
          let second : slice_index xs 0 == 42 ≡ true = take_see (λ v. v == 42) refl m xs 0 (second_part (c == 47) (x0 == 42) both) in
          let below : suc m ≤ (block_comment (c ∷ xs)).size = block_by m c xs within (second_part (c == 47) (x0 == 42) both) (second_part (c == 47 && x0 == 42) (closes (drop 2 (c ∷ take m xs)) Block) f) in
          below_first (suc m) context (c ∷ xs)
          (λ g. absurd (grind (arith, common_steps, slash, g)))
          (λ _ g. absurd (grind (arith, common_steps, slash, g)))
          (λ _ _ g. absurd (grind (arith, common_steps, slash, second, g)))
          (λ _ _ _ _. below)
          (λ _ _ _ g. absurd (grind (arith, common_steps, slash, second, g)))
    ]

-- white space
pub below_white : (m : ℕ) (context : Context) (c : ℕ) (xs : List ℕ) → suc m ≤ length (c ∷ xs) → is_white_space (take (suc m) (c ∷ xs)) ≡ true → suc m ≤ (first_front context (c ∷ xs)).size
below_white m context c xs within e =
    elim (either_part (is_blank c && accepts (c ∷ take m xs) Blanks) (is_line_end c && length (c ∷ take m xs) == 1) e) as (λ _. suc m ≤ (first_front context (c ∷ xs)).size) [
      | inl f ↦
          let blank : is_blank c ≡ true = first_part (is_blank c) (accepts (c ∷ take m xs) Blanks) f in
          let below : suc m ≤ run (c ∷ xs) Blanks = accepts_within (suc m) (c ∷ xs) Blanks within (second_part (is_blank c) (accepts (c ∷ take m xs) Blanks) f) in
          below_first (suc m) context (c ∷ xs) (λ g. absurd (grind (arith, common_steps, blank, g))) (λ _ _. below) (λ _ g _. absurd (grind (arith, common_steps, blank, g))) (λ _ g _ _. absurd (grind (arith, common_steps, blank, g))) (λ _ g _ _. absurd (grind (arith, common_steps, blank, g)))
      | inr f ↦
          let end : is_line_end c ≡ true = first_part (is_line_end c) (length (c ∷ take m xs) == 1) f in
          let one : length (take (suc m) (c ∷ xs)) ≡ 1 = same_test _ 1 (second_part (is_line_end c) (length (c ∷ take m xs) == 1) f) in
          below_first (suc m) context (c ∷ xs) (λ _. omega (arith, one, length-take-le (suc m) (c ∷ xs) within)) (λ g _. absurd (grind (arith, common_steps, end, g))) (λ g _ _. absurd (grind (arith, common_steps, end, g))) (λ g _ _ _. absurd (grind (arith, common_steps, end, g))) (λ g _ _ _. absurd (grind (arith, common_steps, end, g)))
    ]

-- punctuators
abbrev agree : List ℕ → Bool
agree [] = false
agree (a ∷ []) = is_single a
agree (a ∷ b ∷ []) = is_pair a b
agree (a ∷ b ∷ c ∷ []) = is_triple a b c
agree (a ∷ b ∷ c ∷ d ∷ []) = is_quadruple a b c d
agree (a ∷ b ∷ c ∷ d ∷ e ∷ w) = false

abbrev all_agree : List (List ℕ) → Bool
all_agree [] = true
all_agree (p ∷ ps) = agree p && all_agree ps

table_agrees : all_agree punctuators ≡ true
unfolding is_pair
table_agrees = refl

same_bytes : (v w : List ℕ) → bytes_eq v w ≡ true → v ≡ w
same_bytes [] [] e = refl
same_bytes [] (b ∷ w) e = cc e
same_bytes (a ∷ v) [] e = cc e
same_bytes (a ∷ v) (b ∷ w) e =
    let head : a ≡ b = same_test a b (first_part (a == b) (bytes_eq v w) e) in
    let tail : v ≡ w = same_bytes v w (second_part (a == b) (bytes_eq v w) e) in
    rw (head, tail) refl

among_agrees : (w : List ℕ) (ps : List (List ℕ)) → all_agree ps ≡ true → is_among w ps ≡ true → agree w ≡ true
among_agrees w [] all e = cc e
among_agrees w (p ∷ ps) all e = elim (either_part (bytes_eq w p) (is_among w ps) e) as (λ _. agree w ≡ true) [
  | inl f ↦ ap agree (same_bytes w p f) ∙ first_part (agree p) (all_agree ps) all
  | inr f ↦ among_agrees w ps (second_part (agree p) (all_agree ps) all) f
]

pub punctuator_agrees : (w : List ℕ) → is_punctuator w ≡ true → agree w ≡ true
punctuator_agrees w e = among_agrees w punctuators table_agrees e

pub at_least_one : (a b c d : ℕ) → is_single a ≡ true → 1 ≤ longest_of_four a b c d
unfolding longest_of_four
at_least_one a b c d e = if_cases (λ (n : ℕ). 1 ≤ n) (is_quadruple a b c d) _ _ (λ _. omega arith) (λ _. if_cases (λ (n : ℕ). 1 ≤ n) (is_triple a b c) _ _ (λ _. omega arith) (λ _. if_cases (λ (n : ℕ). 1 ≤ n) (is_pair a b) _ _ (λ _. omega arith) (λ _. rw e (omega arith))))

at_least_two : (a b c d : ℕ) → is_pair a b ≡ true → 2 ≤ longest_of_four a b c d
unfolding longest_of_four
at_least_two a b c d e = if_cases (λ (n : ℕ). 2 ≤ n) (is_quadruple a b c d) _ _ (λ _. omega arith) (λ _. if_cases (λ (n : ℕ). 2 ≤ n) (is_triple a b c) _ _ (λ _. omega arith) (λ _. rw e (omega arith)))

at_least_three : (a b c d : ℕ) → is_triple a b c ≡ true → 3 ≤ longest_of_four a b c d
unfolding longest_of_four
at_least_three a b c d e = if_cases (λ (n : ℕ). 3 ≤ n) (is_quadruple a b c d) _ _ (λ _. omega arith) (λ _. rw e (omega arith))

at_least_four : (a b c d : ℕ) → is_quadruple a b c d ≡ true → 4 ≤ longest_of_four a b c d
unfolding longest_of_four
at_least_four a b c d e = rw e (omega arith)

punctuator_size_of : (m c : ℕ) (xs : List ℕ) → suc m ≤ length (c ∷ xs) → agree (c ∷ take m xs) ≡ true → suc m ≤ punctuator_size (c ∷ xs)
punctuator_size_of zero c xs within e = at_least_one c (slice_index xs 0) (slice_index xs 1) (slice_index xs 2) e
punctuator_size_of (suc m) c [] within e = absurd (omega arith)
punctuator_size_of (suc zero) c (d ∷ ys) within e = at_least_two c d (slice_index ys 0) (slice_index ys 1) e
punctuator_size_of (suc (suc m)) c (d ∷ []) within e = absurd (omega arith)
punctuator_size_of (suc (suc zero)) c (d ∷ f ∷ zs) within e = at_least_three c d f (slice_index zs 0) e
punctuator_size_of (suc (suc (suc m))) c (d ∷ f ∷ []) within e = absurd (omega arith)
punctuator_size_of (suc (suc (suc zero))) c (d ∷ f ∷ g ∷ rest) within e = at_least_four c d f g e
punctuator_size_of (suc (suc (suc (suc m)))) c (d ∷ f ∷ g ∷ []) within e = absurd (omega arith)
punctuator_size_of (suc (suc (suc (suc m)))) c (d ∷ f ∷ g ∷ h ∷ rest) within e = cc e

pair_single : (a b : ℕ) → is_pair a b ≡ true → is_single a ≡ true
unfolding is_pair
pair_single a b e = grind (arith, common_steps, e)

triple_single : (a b c : ℕ) → is_triple a b c ≡ true → is_single a ≡ true
triple_single a b c e = grind (arith, common_steps, e)

quadruple_single : (a b c d : ℕ) → is_quadruple a b c d ≡ true → is_single a ≡ true
quadruple_single a b c d e = grind (arith, common_steps, e)

pub single_first : (m c : ℕ) (xs : List ℕ) → agree (c ∷ take m xs) ≡ true → is_single c ≡ true
single_first zero c xs e = e
single_first (suc m) c [] e = e
single_first (suc zero) c (d ∷ ys) e = pair_single c d e
single_first (suc (suc m)) c (d ∷ []) e = pair_single c d e
single_first (suc (suc zero)) c (d ∷ f ∷ zs) e = triple_single c d f e
single_first (suc (suc (suc m))) c (d ∷ f ∷ []) e = triple_single c d f e
single_first (suc (suc (suc zero))) c (d ∷ f ∷ g ∷ rest) e = quadruple_single c d f g e
single_first (suc (suc (suc (suc m)))) c (d ∷ f ∷ g ∷ []) e = quadruple_single c d f g e
single_first (suc (suc (suc (suc m)))) c (d ∷ f ∷ g ∷ h ∷ rest) e = cc e

-- what the first character of a punctuator is not
abbrev is_other : ℕ → Bool
is_other c = is_line_end c || is_blank c || is_nondigit c || is_digit c || is_quote c || is_prefix c

single_no_other : (c : ℕ) → is_single c ≡ true → is_other c ≡ false
single_no_other c e = grind (arith, common_steps, e)

point_number : (a b c d : ℕ) → a == 46 ≡ true → is_digit b ≡ true → longest_of_four a b c d ≤ 1
unfolding longest_of_four is_pair
point_number a b c d e f = rw (same_test a 46 e) (if_cases (λ (n : ℕ). n ≤ 1) (is_triple 46 b c) _ _ (λ g. absurd (grind (arith, common_steps, f, g))) (λ _. omega arith))

slash_slash : (a b c d : ℕ) → a == 47 && b == 47 ≡ true → longest_of_four a b c d ≤ 1
unfolding longest_of_four is_pair
slash_slash a b c d e = rw (same_test a 47 (first_part (a == 47) (b == 47) e), same_test b 47 (second_part (a == 47) (b == 47) e)) (omega arith)

slash_star : (a b c d : ℕ) → a == 47 && b == 42 ≡ true → longest_of_four a b c d ≤ 1
unfolding longest_of_four is_pair
slash_star a b c d e = rw (same_test a 47 (first_part (a == 47) (b == 42) e), same_test b 42 (second_part (a == 47) (b == 42) e)) (omega arith)

-- a punctuator, or a number that begins with a point
punctuator_plain : (n c : ℕ) (xs : List ℕ) → 0 < n → n ≤ punctuator_size (c ∷ xs) → is_other c ≡ false → (n ≤ (plain_front (c ∷ xs)).size) × (is_token (plain_front (c ∷ xs)).class ≡ true)
unfolding plain_front punctuator_or_stray
punctuator_plain n c xs some below other =
    let P : Front → Type 0 = λ f. (n ≤ f.size) × (is_token f.class ≡ true) in
    if_cases P (is_nondigit c) _ _ (λ e. absurd (grind (arith, common_steps, other, e)))
    (λ _. if_cases P (is_digit c || (c == 46 && is_digit (slice_index xs 0))) _ _
    (λ e.
    let digit : is_digit c ≡ false = grind (arith, common_steps, other) in
    let point : c == 46 && is_digit (slice_index xs 0) ≡ true = rw digit at e in
    let few : longest_of_four c (slice_index xs 0) (slice_index xs 1) (slice_index xs 2) ≤ 1 = point_number c (slice_index xs 0) (slice_index xs 1) (slice_index xs 2) (first_part (c == 46) (is_digit (slice_index xs 0)) point) (second_part (c == 46) (is_digit (slice_index xs 0)) point) in
    let part : is_number_part c ≡ true = rw (same_test c 46 (first_part (c == 46) (is_digit (slice_index xs 0)) point)) refl in
    (omega (arith, below, few, run_first (c ∷ xs) Digits (omega arith) (digits_go c part)), refl))
    (λ _. if_cases P (nat_lt 0 (punctuator_size (c ∷ xs))) _ _ (λ _. (below, refl)) (λ e. (absurd (grind (arith, common_steps, some, below, e)), refl))))

comment_size : (n : ℕ) (cs : List ℕ) → n ≤ punctuator_size cs → punctuator_size cs ≤ 1 → n ≤ (block_comment cs).size
unfolding block_comment
comment_size n cs below few = omega (arith, below, few)

pub below_punctuator : (m : ℕ) (context : Context) (c : ℕ) (xs : List ℕ) → suc m ≤ length (c ∷ xs) → is_punctuator (take (suc m) (c ∷ xs)) ≡ true → suc m ≤ (first_front context (c ∷ xs)).size
below_punctuator m context c xs within e =
    let agreed : agree (c ∷ take m xs) ≡ true = punctuator_agrees (c ∷ take m xs) e in
    let other : is_other c ≡ false = single_no_other c (single_first m c xs agreed) in
    let below : suc m ≤ punctuator_size (c ∷ xs) = punctuator_size_of m c xs within agreed in
    let front : token_front (c ∷ xs) ≡ plain_front (c ∷ xs) = plain_token (c ∷ xs) (no_prefix c xs (grind (arith, common_steps, other)) (grind (arith, common_steps, other)) (grind (arith, common_steps, other))) in
    let k = punctuator_plain (suc m) c xs (omega arith) below other in
    below_first (suc m) context (c ∷ xs)
    (λ f. absurd (grind (arith, common_steps, other, f)))
    (λ _ f. absurd (grind (arith, common_steps, other, f)))
    (λ f _ g. omega (arith, below, slash_slash c (slice_index xs 0) (slice_index xs 1) (slice_index xs 2) g, run_first (c ∷ xs) Line (omega arith) (line_goes c f)))
    (λ _ _ _ g. comment_size (suc m) (c ∷ xs) below (slash_star c (slice_index xs 0) (slice_index xs 1) (slice_index xs 2) g))
    (λ _ _ _ _. below_front_token (suc m) context (c ∷ xs) (rw front k.0) (inl (rw front k.1)))

-- whatever piece stands at the front
pub below_piece : (m : ℕ) (context : Context) (c : ℕ) (xs : List ℕ) → suc m ≤ length (c ∷ xs) → is_piece context (take (suc m) (c ∷ xs)) ≡ true → suc m ≤ (first_front context (c ∷ xs)).size
below_piece m context c xs within e =
    let w : List ℕ = c ∷ take m xs in
    let P : ℕ → Type 0 = λ n. suc m ≤ n in
    let size : ℕ = (first_front context (c ∷ xs)).size in
    elim (either_part (is_identifier w || is_number w || is_literal w || (may_be_header context && is_header_name w) || is_punctuator w || is_comment w) (is_white_space w) e) as (λ _. P size) [
      | inr f ↦ below_white m context c xs within f
      | inl f ↦ elim (either_part (is_identifier w || is_number w || is_literal w || (may_be_header context && is_header_name w) || is_punctuator w) (is_comment w) f) as (λ _. P size) [
        | inr g ↦ below_comment m context c xs within g
        | inl g ↦ elim (either_part (is_identifier w || is_number w || is_literal w || (may_be_header context && is_header_name w)) (is_punctuator w) g) as (λ _. P size) [
          | inr h ↦ below_punctuator m context c xs within h
          | inl h ↦ elim (either_part (is_identifier w || is_number w || is_literal w) (may_be_header context && is_header_name w) h) as (λ _. P size) [
            | inr i ↦ below_header_in m context c xs within i
            | inl i ↦ elim (either_part (is_identifier w || is_number w) (is_literal w) i) as (λ _. P size) [
              | inr j ↦ below_literal m context c xs within j
              | inl j ↦ elim (either_part (is_identifier w) (is_number w) j) as (λ _. P size) [
                | inr k ↦ below_number m context c xs within k
                | inl k ↦ below_identifier m context c xs within k
              ]
            ]
          ]
        ]
      ]
    ]

pub not_true : (b : Bool) → (b ≡ true → ⊥) → b ≡ false
not_true true none = absurd (none refl)
not_true false none = refl

pub longest : (context : Context) (cs : List ℕ) → IsLongest context cs (first_front context cs).size
longest context cs zero more within = absurd (omega (arith, more))
longest context [] (suc m) more within = absurd (omega (arith, within))
longest context (c ∷ xs) (suc m) more within = not_true (is_piece context (take (suc m) (c ∷ xs))) (λ e. omega (arith, more, below_piece m context c xs within e))
