-- The piece at the front is a member of its class, unless it is open or a stray character.
use Rattle.std.proofs.Common.{◌≡◌, ℕ, suc, ◌+◌, ◌<◌, inl, inr, Bool, true, false, ◌&&◌, ◌||◌, not, List, [], ◌∷◌, length, take, drop, refl, ap, sym, subst, ◌∙◌, arith, Option, Some, None, slice_index, nat_lt, ◌==◌, codes}
use Rattle.std.proofs.lemmas.Grind.{common_steps}
use Rattle.std.proofs.lemmas.List.{get_or-take, drop-take}
use Rattle.std.specs.Option.{option_map_or}
use Rattle.c_tokens.specs.declared.pieces.Class.{Class}
use Rattle.c_tokens.specs.declared.pieces.Class.TheVariants.{Token}
use Rattle.c_tokens.specs.declared.pieces.Context.{Context}
use Rattle.c_tokens.specs.declared.pieces.Context.TheVariants.{Fresh, Hash, Include, Later}
use Rattle.c_tokens.specs.declared.classes.State.{State}
use Rattle.c_tokens.specs.declared.classes.State.TheVariants.{Blanks, Line, Block, Word, Digits, Text, HeaderFront}
use Rattle.c_tokens.specs.Logical.{is_line_end}
use Rattle.c_tokens.specs.Classes.{run, last_state, next_state, is_blank, is_digit, is_nondigit, is_single, is_pair, is_triple, is_quadruple, longest_of_four, punctuator_size}
use Rattle.c_tokens.specs.Pieces.{Front, first_front, front_token, header_or_token, header_size, token_front, literal_prefix, literal_at, literal_or_plain, plain_front, punctuator_or_stray, block_comment, is_token, literal_kind, is_closed, is_quote, is_prefix, closing_of}
use Rattle.tok_data.specs.declared.tokens.PpKind.{PpKind}
use Rattle.c_tokens.specs.Languages.{is_punctuator, is_whole, may_stand, IsMember, AreBlanks, line_end}
use Rattle.c_tokens.proofs.Scanned.{accepts, closes, is_identifier, is_number, is_header_name, is_comment}
use Rattle.c_tokens.proofs.Productions.{both, or_left, or_right, identifier_is, number_is, comment_is, blanks_are}
use Rattle.c_tokens.proofs.QuotedProductions.{literal_in, header_is}
use Rattle.c_tokens.proofs.FrontLemmas.{if_cases, run_first, digits_go, word_goes, blanks_go}
use Rattle.c_tokens.proofs.LongestLemmas.{first_part, second_part, either_part}
use Rattle.c_tokens.proofs.LongestTokens.{same_test}
use Rattle.c_tokens.proofs.ClosedFirst.{third_some, pair_some}

one_more : (n c : ℕ) (cs : List ℕ) → take (1 + n) (c ∷ cs) ≡ c ∷ take n cs
one_more n c cs = let e : 1 + n ≡ suc n = omega arith in rw e refl

-- a run is accepted
accepts_run_by : (c : ℕ) (cs : List ℕ) (s : State) (o : Option State) → o ≡ next_state s c → ((t : State) → accepts (take (run cs t) cs) t ≡ true)
    → accepts (take (option_map_or (λ t. 1 + run cs t) o 0) (c ∷ cs)) s ≡ true
accepts_run_by c cs s None e more = refl
accepts_run_by c cs s (Some t) e more = rw (one_more (run cs t) c cs) (ap (λ (o : Option State). option_map_or (λ k. accepts (take (run cs t) cs) k) o false) (sym e) ∙ more t)

accepts_run : (cs : List ℕ) (s : State) → accepts (take (run cs s) cs) s ≡ true
accepts_run [] s = refl
accepts_run (c ∷ cs) s = accepts_run_by c cs s (next_state s c) refl (accepts_run cs)

last_run_by : (c : ℕ) (cs : List ℕ) (s : State) (o : Option State) → o ≡ next_state s c → ((t : State) → last_state (take (run cs t) cs) t ≡ last_state cs t)
    → last_state (take (option_map_or (λ t. 1 + run cs t) o 0) (c ∷ cs)) s ≡ option_map_or (λ t. last_state cs t) o s
last_run_by c cs s None e more = refl
last_run_by c cs s (Some t) e more = rw (one_more (run cs t) c cs) (ap (λ (o : Option State). option_map_or (λ k. last_state (take (run cs t) cs) k) o s) (sym e) ∙ more t)

last_run : (cs : List ℕ) (s : State) → last_state (take (run cs s) cs) s ≡ last_state cs s
last_run [] s = refl
last_run (c ∷ cs) s = last_run_by c cs s (next_state s c) refl (last_run cs)

closes_run : (cs : List ℕ) (s : State) → is_closed (last_state cs s) ≡ true → closes (take (run cs s) cs) s ≡ true
closes_run cs s e = both (accepts (take (run cs s) cs) s) (is_closed (last_state (take (run cs s) cs) s)) (accepts_run cs s) (ap is_closed (last_run cs s) ∙ e)

identifier_member : (cs : List ℕ) → 0 < length cs → is_nondigit (slice_index cs 0) ≡ true → is_identifier (take (run cs Word) cs) ≡ true
identifier_member cs long e =
    let some : 0 < run cs Word = run_first cs Word long (word_goes (slice_index cs 0) e) in
    both (is_nondigit (slice_index (take (run cs Word) cs) 0)) _ (rw (get_or-take (run cs Word) cs 0 0 some) e) (accepts_run cs Word)

-- a number that begins with a point has two characters at least
point_run : (c : ℕ) (xs : List ℕ) → c == 46 ≡ true → is_digit (slice_index xs 0) ≡ true → 1 < run (c ∷ xs) Digits
unfolding next_state
point_run c [] e f = cc f
point_run c (d ∷ ys) e f =
    let some : 0 < run (d ∷ ys) Digits = run_first (d ∷ ys) Digits (omega arith) (digits_go d (grind (arith, common_steps, f))) in
    rw (same_test c 46 e) (omega (arith, some))

number_member : (c : ℕ) (xs : List ℕ) → is_digit c || (c == 46 && is_digit (slice_index xs 0)) ≡ true → is_number (take (run (c ∷ xs) Digits) (c ∷ xs)) ≡ true
number_member c xs e =
    let n : ℕ = run (c ∷ xs) Digits in
    let w : List ℕ = take n (c ∷ xs) in
    let starts : 0 < n = run_first (c ∷ xs) Digits (omega arith) (digits_go c (grind (arith, common_steps, e))) in
    both (is_digit (slice_index w 0) || (slice_index w 0 == 46 && is_digit (slice_index w 1))) (accepts w Digits)
    (rw (get_or-take n (c ∷ xs) 0 0 starts) (elim (either_part (is_digit c) (c == 46 && is_digit (slice_index xs 0)) e) as (λ _. is_digit c || (c == 46 && is_digit (slice_index w 1)) ≡ true) [
      | inl f ↦ or_left (is_digit c) _ f
      | inr f ↦
          let two : 1 < n = point_run c xs (first_part (c == 46) (is_digit (slice_index xs 0)) f) (second_part (c == 46) (is_digit (slice_index xs 0)) f) in
          or_right (is_digit c) _ (rw (get_or-take n (c ∷ xs) 1 0 two) f)
    ]))
    (accepts_run (c ∷ xs) Digits)

-- the prefix of a literal stays its prefix
prefix_kept : (n p : ℕ) (cs : List ℕ) → p < n → literal_prefix cs ≡ Some p → literal_prefix (take n cs) ≡ Some p
unfolding literal_prefix
prefix_kept n p cs inside =
    let P : Option ℕ → Type 0 = λ o. o ≡ Some p → literal_prefix (take n cs) ≡ Some p in
    let zero_in : 0 < n = omega (arith, inside) in
    let c0 : slice_index (take n cs) 0 ≡ slice_index cs 0 = get_or-take n cs 0 0 zero_in in
    if_cases P (is_quote (slice_index cs 0)) _ _ (λ e k. rw (c0, e) k)
    (λ e. if_cases P (is_prefix (slice_index cs 0) && is_quote (slice_index cs 1)) _ _
    (λ f k.
    let one : 1 ≡ p = cc k in
    let c1 : slice_index (take n cs) 1 ≡ slice_index cs 1 = get_or-take n cs 1 0 (omega (arith, one, inside)) in
    rw (c0, e, c1, f) k)
    (λ f. if_cases P (slice_index cs 0 == 117 && slice_index cs 1 == 56 && slice_index cs 2 == 34) _ _
    (λ g k.
    let two : 2 ≡ p = cc k in
    let c1 : slice_index (take n cs) 1 ≡ slice_index cs 1 = get_or-take n cs 1 0 (omega (arith, two, inside)) in
    let c2 : slice_index (take n cs) 2 ≡ slice_index cs 2 = get_or-take n cs 2 0 (omega (arith, two, inside)) in
    rw (c0, e, c1, f, c2, g) k)
    (λ g k. cc k)))

literal_member : (p : ℕ) (cs : List ℕ) → literal_prefix cs ≡ Some p → is_closed (last_state (drop (p + 1) cs) (Text (slice_index cs p))) ≡ true
    → IsMember (Token (literal_kind (slice_index cs p))) (take (p + 1 + run (drop (p + 1) cs) (Text (slice_index cs p))) cs)
literal_member p cs e closed =
    let k : ℕ = run (drop (p + 1) cs) (Text (slice_index cs p)) in
    let n : ℕ = p + 1 + k in
    let inside : p < n = omega arith in
    let quote : slice_index (take n cs) p ≡ slice_index cs p = get_or-take n cs p 0 inside in
    let closing : closes (drop (p + 1) (take n cs)) (Text (slice_index (take n cs) p)) ≡ true = rw (quote, drop-take (p + 1) k cs) (closes_run (drop (p + 1) cs) (Text (slice_index cs p)) closed) in
    subst (λ (q : ℕ). IsMember (Token (literal_kind q)) (take n cs)) quote (literal_in p (take n cs) (prefix_kept n p cs inside e) closing)

header_member : (c : ℕ) (xs : List ℕ) → (c == 60 || c == 34) && is_closed (last_state xs (HeaderFront (closing_of c))) ≡ true → is_header_name (take (1 + run xs (HeaderFront (closing_of c))) (c ∷ xs)) ≡ true
header_member c xs e = rw (one_more (run xs (HeaderFront (closing_of c))) c xs)
    (both (c == 60 || c == 34) _ (first_part (c == 60 || c == 34) (is_closed (last_state xs (HeaderFront (closing_of c)))) e)
    (closes_run xs (HeaderFront (closing_of c)) (second_part (c == 60 || c == 34) (is_closed (last_state xs (HeaderFront (closing_of c)))) e)))

line_member : (c : ℕ) (xs : List ℕ) → c == 47 && slice_index xs 0 == 47 ≡ true → is_comment (take (run (c ∷ xs) Line) (c ∷ xs)) ≡ true
unfolding next_state
line_member c [] e = cc (second_part (c == 47) false e)
line_member c (d ∷ ys) e =
    let n : ℕ = run (c ∷ d ∷ ys) Line in
    let two : 1 < n = rw (same_test c 47 (first_part (c == 47) (d == 47) e), same_test d 47 (second_part (c == 47) (d == 47) e)) (omega arith) in
    let one : 0 < n = omega (arith, two) in
    or_left _ _ (both (slice_index (take n (c ∷ d ∷ ys)) 0 == 47 && slice_index (take n (c ∷ d ∷ ys)) 1 == 47) _
    (rw (get_or-take n (c ∷ d ∷ ys) 0 0 one, get_or-take n (c ∷ d ∷ ys) 1 0 two) e) (accepts_run (c ∷ d ∷ ys) Line))

block_member : (c : ℕ) (xs : List ℕ) → c == 47 && slice_index xs 0 == 42 ≡ true → is_closed (last_state (drop 1 xs) Block) ≡ true → is_comment (take (2 + run (drop 1 xs) Block) (c ∷ xs)) ≡ true
block_member c [] e closed = cc (second_part (c == 47) false e)
block_member c (d ∷ ys) e closed =
    let k : ℕ = run ys Block in
    let parts : 2 + k ≡ suc (suc k) = omega arith in
    rw parts (or_right (c == 47 && d == 47 && accepts (c ∷ d ∷ take k ys) Line) _ (both (c == 47 && d == 42) _ e (closes_run ys Block closed)))

blank_member : (cs : List ℕ) → 0 < length cs → is_blank (slice_index cs 0) ≡ true → AreBlanks (take (run cs Blanks) cs)
blank_member cs long e =
    let some : 0 < run cs Blanks = run_first cs Blanks long (blanks_go (slice_index cs 0) e) in
    blanks_are (take (run cs Blanks) cs) (rw (get_or-take (run cs Blanks) cs 0 0 some) e) (accepts_run cs Blanks)

-- punctuators: the table has each
abbrev among : ℕ → List ℕ → Bool
among a [] = false
among a (x ∷ xs) = a == x || among a xs

abbrev all_pass : (ℕ → Bool) → List ℕ → Bool
all_pass p [] = true
all_pass p (x ∷ xs) = p x && all_pass p xs

among_passes : (p : ℕ → Bool) (a : ℕ) (xs : List ℕ) → all_pass p xs ≡ true → among a xs ≡ true → p a ≡ true
among_passes p a [] all e = cc e
among_passes p a (x ∷ xs) all e = elim (either_part (a == x) (among a xs) e) as (λ _. p a ≡ true) [
  | inl f ↦ ap p (same_test a x f) ∙ first_part (p x) (all_pass p xs) all
  | inr f ↦ among_passes p a xs (second_part (p x) (all_pass p xs) all) f
]

abbrev singles : List ℕ
singles = codes "[](){}.&*+-~!/%<>^|?:;=,#"

single_among : (a : ℕ) → is_single a ≡ true → among a singles ≡ true
single_among a e = grind (arith, common_steps, e)

single_member : (a : ℕ) → is_single a ≡ true → is_punctuator (a ∷ []) ≡ true
single_member a e = among_passes (λ v. is_punctuator (v ∷ [])) a singles refl (single_among a e)

pair_at : (k : ℕ) (bs : List ℕ) (a b : ℕ) → all_pass (λ v. is_punctuator (k ∷ v ∷ [])) bs ≡ true → a == k ≡ true → among b bs ≡ true → is_punctuator (a ∷ b ∷ []) ≡ true
pair_at k bs a b all e f = ap (λ (v : ℕ). is_punctuator (v ∷ b ∷ [])) (same_test a k e) ∙ among_passes (λ v. is_punctuator (k ∷ v ∷ [])) b bs all f

pair_member : (a b : ℕ) → is_pair a b ≡ true → is_punctuator (a ∷ b ∷ []) ≡ true
unfolding is_pair
pair_member a b =
    let P : Bool → Type 0 = λ v. v ≡ true → is_punctuator (a ∷ b ∷ []) ≡ true in
    (if_cases P (a == 45) _ _ (λ f g. pair_at 45 (62 ∷ 45 ∷ 61 ∷ []) a b refl f (grind (arith, common_steps, g))) (λ _.
    (if_cases P (a == 43) _ _ (λ f g. pair_at 43 (43 ∷ 61 ∷ []) a b refl f (grind (arith, common_steps, g))) (λ _.
    (if_cases P (a == 60) _ _ (λ f g. pair_at 60 (60 ∷ 61 ∷ 58 ∷ 37 ∷ []) a b refl f (grind (arith, common_steps, g))) (λ _.
    (if_cases P (a == 62) _ _ (λ f g. pair_at 62 (62 ∷ 61 ∷ []) a b refl f (grind (arith, common_steps, g))) (λ _.
    (if_cases P (a == 61) _ _ (λ f g. pair_at 61 (61 ∷ []) a b refl f (grind (arith, common_steps, g))) (λ _.
    (if_cases P (a == 33) _ _ (λ f g. pair_at 33 (61 ∷ []) a b refl f (grind (arith, common_steps, g))) (λ _.
    (if_cases P (a == 38) _ _ (λ f g. pair_at 38 (38 ∷ 61 ∷ []) a b refl f (grind (arith, common_steps, g))) (λ _.
    (if_cases P (a == 124) _ _ (λ f g. pair_at 124 (124 ∷ 61 ∷ []) a b refl f (grind (arith, common_steps, g))) (λ _.
    (if_cases P (a == 42) _ _ (λ f g. pair_at 42 (61 ∷ []) a b refl f (grind (arith, common_steps, g))) (λ _.
    (if_cases P (a == 47) _ _ (λ f g. pair_at 47 (61 ∷ []) a b refl f (grind (arith, common_steps, g))) (λ _.
    (if_cases P (a == 37) _ _ (λ f g. pair_at 37 (61 ∷ 62 ∷ 58 ∷ []) a b refl f (grind (arith, common_steps, g))) (λ _.
    (if_cases P (a == 94) _ _ (λ f g. pair_at 94 (61 ∷ []) a b refl f (grind (arith, common_steps, g))) (λ _.
    (if_cases P (a == 35) _ _ (λ f g. pair_at 35 (35 ∷ []) a b refl f (grind (arith, common_steps, g))) (λ _.
    (if_cases P (a == 58) _ _ (λ f g. pair_at 58 (62 ∷ []) a b refl f (grind (arith, common_steps, g))) (λ _. (λ g. cc g)))))))))))))))))))))))))))))

triple_member : (a b c : ℕ) → is_triple a b c ≡ true → is_punctuator (a ∷ b ∷ c ∷ []) ≡ true
triple_member a b c e = elim (either_part ((a == 46 && b == 46 && c == 46) || (a == 60 && b == 60 && c == 61)) (a == 62 && b == 62 && c == 61) e) as (λ _. is_punctuator (a ∷ b ∷ c ∷ []) ≡ true) [
  | inr f ↦ three 62 62 61 f refl
  | inl f ↦ elim (either_part (a == 46 && b == 46 && c == 46) (a == 60 && b == 60 && c == 61) f) as (λ _. is_punctuator (a ∷ b ∷ c ∷ []) ≡ true) [
    | inl g ↦ three 46 46 46 g refl
    | inr g ↦ three 60 60 61 g refl
  ]
]
  where
    three : (i j k : ℕ) → a == i && b == j && c == k ≡ true → is_punctuator (i ∷ j ∷ k ∷ []) ≡ true → is_punctuator (a ∷ b ∷ c ∷ []) ≡ true
    three i j k e f = rw (same_test a i (first_part (a == i) (b == j) (first_part (a == i && b == j) (c == k) e)), same_test b j (second_part (a == i) (b == j) (first_part (a == i && b == j) (c == k) e)), same_test c k (second_part (a == i && b == j) (c == k) e)) f

quadruple_member : (a b c d : ℕ) → is_quadruple a b c d ≡ true → is_punctuator (a ∷ b ∷ c ∷ d ∷ []) ≡ true
quadruple_member a b c d e =
    let front : a == 37 && b == 58 && c == 37 ≡ true = first_part (a == 37 && b == 58 && c == 37) (d == 58) e in
    let two : a == 37 && b == 58 ≡ true = first_part (a == 37 && b == 58) (c == 37) front in
    rw (same_test a 37 (first_part (a == 37) (b == 58) two), same_test b 58 (second_part (a == 37) (b == 58) two), same_test c 37 (second_part (a == 37 && b == 58) (c == 37) front), same_test d 58 (second_part (a == 37 && b == 58 && c == 37) (d == 58) e)) refl

lost : 0 < 0 → ⊥
lost h = omega (arith, h)

punctuator_member : (c : ℕ) (xs : List ℕ) → 0 < punctuator_size (c ∷ xs) → is_punctuator (take (punctuator_size (c ∷ xs)) (c ∷ xs)) ≡ true
unfolding longest_of_four
punctuator_member c xs =
    let P : ℕ → Type 0 = λ n. 0 < n → is_punctuator (take n (c ∷ xs)) ≡ true in
    if_cases P (is_quadruple c (slice_index xs 0) (slice_index xs 1) (slice_index xs 2)) _ _ (λ e _. four c xs e)
    (λ _. if_cases P (is_triple c (slice_index xs 0) (slice_index xs 1)) _ _ (λ e _. three c xs e)
    (λ _. if_cases P (is_pair c (slice_index xs 0)) _ _ (λ e _. two c xs e)
    (λ _. if_cases P (is_single c) _ _ (λ e _. single_member c e) (λ _ some. absurd (omega (arith, some))))))
  where
    four : (c : ℕ) (xs : List ℕ) → is_quadruple c (slice_index xs 0) (slice_index xs 1) (slice_index xs 2) ≡ true → is_punctuator (take 4 (c ∷ xs)) ≡ true
    four c [] e = cc (second_part _ false e)
    four c (d ∷ []) e = cc (second_part _ false e)
    four c (d ∷ f ∷ []) e = cc (second_part _ false e)
    four c (d ∷ f ∷ g ∷ ys) e = quadruple_member c d f g e

    three : (c : ℕ) (xs : List ℕ) → is_triple c (slice_index xs 0) (slice_index xs 1) ≡ true → is_punctuator (take 3 (c ∷ xs)) ≡ true
    three c [] e = absurd (lost (third_some c 0 0 e))
    three c (d ∷ []) e = absurd (lost (third_some c d 0 e))
    three c (d ∷ f ∷ ys) e = triple_member c d f e

    two : (c : ℕ) (xs : List ℕ) → is_pair c (slice_index xs 0) ≡ true → is_punctuator (take 2 (c ∷ xs)) ≡ true
    two c [] e = absurd (lost (pair_some c 0 e))
    two c (d ∷ ys) e = pair_member c d e

-- what is whole at the front, neither open nor stray, is a member of its class
abbrev FrontIs : Context → List ℕ → Front → Type 0
FrontIs context cs f = is_whole f.class ≡ true → (may_stand f.class context ≡ true) × IsMember f.class (take f.size cs)

other_member : (context : Context) (c : ℕ) (xs : List ℕ) → FrontIs context (c ∷ xs) (punctuator_or_stray (c ∷ xs))
unfolding punctuator_or_stray
other_member context c xs = if_cases (FrontIs context (c ∷ xs)) (nat_lt 0 (punctuator_size (c ∷ xs))) _ _
    (λ e _. (refl, punctuator_member c xs (grind (arith, common_steps, e)))) (λ _ whole. cc whole)

plain_member : (context : Context) (c : ℕ) (xs : List ℕ) → FrontIs context (c ∷ xs) (plain_front (c ∷ xs))
unfolding plain_front
plain_member context c xs = if_cases (FrontIs context (c ∷ xs)) (is_nondigit c) _ _ (λ e _. (refl, sym (identifier_is (take (run (c ∷ xs) Word) (c ∷ xs))) ∙ identifier_member (c ∷ xs) (omega arith) e))
    (λ _. if_cases (FrontIs context (c ∷ xs)) (is_digit c || (c == 46 && is_digit (slice_index xs 0))) _ _ (λ e _. (refl, number_is (take (run (c ∷ xs) Digits) (c ∷ xs)) (number_member c xs e)))
    (λ _. other_member context c xs))

literal_stands : (q : ℕ) (context : Context) → may_stand (Token (literal_kind q)) context ≡ true
literal_stands q context = if_cases (λ (kind : PpKind). may_stand (Token kind) context ≡ true) (q == 39) _ _ (λ _. refl) (λ _. refl)

literal_whole : (context : Context) (p : ℕ) (cs : List ℕ) → literal_prefix cs ≡ Some p → FrontIs context cs (literal_at cs p)
unfolding literal_at
literal_whole context p cs e =
    if_cases (λ (k : Class). is_whole k ≡ true → (may_stand k context ≡ true) × IsMember k (take (literal_at cs p).size cs)) (is_closed (last_state (drop (p + 1) cs) (Text (slice_index cs p)))) _ _
    (λ closed _. (literal_stands (slice_index cs p) context, literal_member p cs e closed)) (λ _ whole. cc whole)

token_by : (context : Context) (c : ℕ) (xs : List ℕ) (o : Option ℕ) → literal_prefix (c ∷ xs) ≡ o → FrontIs context (c ∷ xs) (literal_or_plain o (c ∷ xs))
token_by context c xs None e = plain_member context c xs
token_by context c xs (Some p) e = literal_whole context p (c ∷ xs) e

token_member : (context : Context) (c : ℕ) (xs : List ℕ) → FrontIs context (c ∷ xs) (token_front (c ∷ xs))
unfolding token_front
token_member context c xs = token_by context c xs (literal_prefix (c ∷ xs)) refl

header_size_member : (c : ℕ) (xs : List ℕ) → 0 < header_size (c ∷ xs) → is_header_name (take (header_size (c ∷ xs)) (c ∷ xs)) ≡ true
unfolding header_size
header_size_member c xs = if_cases (λ (n : ℕ). 0 < n → is_header_name (take n (c ∷ xs)) ≡ true) ((c == 60 || c == 34) && is_closed (last_state xs (HeaderFront (closing_of c)))) _ _
    (λ e _. header_member c xs e) (λ _ some. absurd (lost some))

header_or_token_member : (c : ℕ) (xs : List ℕ) → FrontIs Include (c ∷ xs) (header_or_token (c ∷ xs))
unfolding header_or_token
header_or_token_member c xs = if_cases (FrontIs Include (c ∷ xs)) (nat_lt 0 (header_size (c ∷ xs)) && not (is_token (token_front (c ∷ xs)).class && nat_lt (header_size (c ∷ xs)) (token_front (c ∷ xs)).size)) _ _
    (λ e _. (refl, header_is (take (header_size (c ∷ xs)) (c ∷ xs)) (header_size_member c xs (above (header_size (c ∷ xs)) (first_part (nat_lt 0 (header_size (c ∷ xs))) _ e))))) (λ _. token_member Include c xs)
  where
    above : (n : ℕ) → nat_lt 0 n ≡ true → 0 < n
    above n e = grind (arith, common_steps, e)

front_token_member : (context : Context) (c : ℕ) (xs : List ℕ) → FrontIs context (c ∷ xs) (front_token context (c ∷ xs))
front_token_member Include c xs = header_or_token_member c xs
front_token_member Fresh c xs = token_member Fresh c xs
front_token_member Hash c xs = token_member Hash c xs
front_token_member Later c xs = token_member Later c xs

comment_member : (context : Context) (c : ℕ) (xs : List ℕ) → c == 47 && slice_index xs 0 == 42 ≡ true → FrontIs context (c ∷ xs) (block_comment (c ∷ xs))
unfolding block_comment
comment_member context c xs e =
    if_cases (λ (k : Class). is_whole k ≡ true → (may_stand k context ≡ true) × IsMember k (take (block_comment (c ∷ xs)).size (c ∷ xs))) (is_closed (last_state (drop 1 xs) Block)) _ _
    (λ closed _. (refl, comment_is (take (2 + run (drop 1 xs) Block) (c ∷ xs)) (block_member c xs e closed))) (λ _ whole. cc whole)

pub member : (context : Context) (c : ℕ) (xs : List ℕ) → FrontIs context (c ∷ xs) (first_front context (c ∷ xs))
unfolding first_front
member context c xs =
    if_cases (FrontIs context (c ∷ xs)) (is_line_end c) _ _ (λ e _. (refl, line_end c e))
    (λ _. if_cases (FrontIs context (c ∷ xs)) (is_blank c) _ _ (λ e _. (refl, blank_member (c ∷ xs) (omega arith) e))
    (λ _. if_cases (FrontIs context (c ∷ xs)) (c == 47 && slice_index xs 0 == 47) _ _ (λ e _. (refl, comment_is (take (run (c ∷ xs) Line) (c ∷ xs)) (line_member c xs e)))
    (λ _. if_cases (FrontIs context (c ∷ xs)) (c == 47 && slice_index xs 0 == 42) _ _ (λ e. comment_member context c xs e)
    (λ _. front_token_member context c xs))))

pub whole_front : (context : Context) (cs : List ℕ) → 0 < length cs → FrontIs context cs (first_front context cs)
whole_front context [] long = absurd (omega (arith, long))
whole_front context (c ∷ xs) long = member context c xs
