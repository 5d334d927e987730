-- The first piece of some characters with a line end behind them.
use Rattle.std.proofs.Common.{◌≡◌, ℕ, ◌+◌, ◌<◌, ◌≤◌, ◌⊎◌, inl, inr, Bool, true, false, ◌&&◌, ◌||◌, not, List, [], ◌∷◌, ◌++◌, length, drop, refl, arith, Option, Some, None, slice_index, nat_lt, ◌==◌, if◌then◌else◌}
use Rattle.std.proofs.lemmas.Grind.{common_steps}
use Rattle.std.proofs.lemmas.List.{length-drop}
use Rattle.c_tokens.specs.declared.pieces.Context.{Context}
use Rattle.c_tokens.specs.declared.pieces.Context.TheVariants.{Fresh, Hash, Include, Later}
use Rattle.c_tokens.specs.declared.classes.State.TheVariants.{Blanks, Line, Block, Word, Digits, Text, HeaderFront}
use Rattle.c_tokens.specs.Logical.{is_line_end}
use Rattle.c_tokens.specs.Classes.{last_state, is_blank, is_digit, is_nondigit, is_quadruple, is_triple, is_pair, is_single, longest_of_four, punctuator_size}
use Rattle.c_tokens.specs.Pieces.{Front, first_front, front_token, header_or_token, header_size, token_front, literal_prefix, literal_at, literal_or_plain, plain_front, punctuator_or_stray, block_comment, is_token, is_closed, closing_of}
use Rattle.c_tokens.proofs.FrontLemmas.{if_cases}
use Rattle.c_tokens.proofs.FollowLemmas.{within_from_code}
use Rattle.c_tokens.proofs.Boundaries.{within_from_some}
use Rattle.c_tokens.proofs.ClosedRuns.{see, closed_run, closed_block, run_within}
use Rattle.c_tokens.proofs.ClosedFronts.{same_front_token, Takes, PlaceWithin, prefix_within}

pub if_both : {A : Type 0} (P : A → A → Type 0) (b : Bool) (x y x' y' : A) → (b ≡ true → P x x') → (b ≡ false → P y y') → P (if b then x else y) (if b then x' else y')
if_both P true x y x' y' holds fails = holds refl
if_both P false x y x' y' holds fails = fails refl

-- the first piece is the same, or an open comment that takes the line end
abbrev pub Closed : ℕ → Front → Front → Type 0
Closed n before after = (after ≡ before) ⊎ Takes before after n

closed_comment : (x y : ℕ) (ys : List ℕ) → Closed (length (x ∷ y ∷ ys)) (block_comment (x ∷ y ∷ ys)) (block_comment (x ∷ y ∷ ys ++ 10 ∷ []))
unfolding block_comment
closed_comment x y ys = elim (closed_block ys Block refl) as (λ _. Closed (length (x ∷ y ∷ ys)) (block_comment (x ∷ y ∷ ys)) (block_comment (x ∷ y ∷ ys ++ 10 ∷ []))) [
  | inl same ↦ inl (rw (same.size, same.last) refl)
  | inr on ↦ inr (record {
    open_before = rw on.open_before refl;
    all_before = omega (arith, on.all_before);
    open_after = rw on.open_after refl;
    all_after = omega (arith, on.all_after);
  })
]

comment_at : (x : ℕ) (xs : List ℕ) → x == 47 && slice_index xs 0 == 42 ≡ true → Closed (length (x ∷ xs)) (block_comment (x ∷ xs)) (block_comment (x ∷ xs ++ 10 ∷ []))
comment_at x [] e = absurd (none (x == 47) e)
  where
    none : (b : Bool) → b && false ≡ true → ⊥
    none true e = cc e
    none false e = cc e
comment_at x (y ∷ ys) e = closed_comment x y ys

pub closed_first : (context : Context) (x : ℕ) (xs : List ℕ) → Closed (length (x ∷ xs)) (first_front context (x ∷ xs)) (first_front context (x ∷ xs ++ 10 ∷ []))
unfolding first_front
closed_first context x xs =
    let P : Front → Front → Type 0 = Closed (length (x ∷ xs)) in
    rw (see (λ v. v == 47) xs 0 refl, see (λ v. v == 42) xs 0 refl)
    (if_both P (is_line_end x) _ _ _ _ (λ _. inl refl)
    (λ _. if_both P (is_blank x) _ _ _ _ (λ _. inl (rw (closed_run (x ∷ xs) Blanks refl) refl))
    (λ _. if_both P (x == 47 && slice_index xs 0 == 47) _ _ _ _ (λ _. inl (rw (closed_run (x ∷ xs) Line refl) refl))
    (λ _. if_both P (x == 47 && slice_index xs 0 == 42) _ _ _ _ (λ e. comment_at x xs e)
    (λ _. inl (same_front_token context x xs))))))

-- a piece is within the characters
second : (a b : Bool) → a && b ≡ true → b ≡ true
second true b e = e
second false b e = cc e

pub third_some : (a b c : ℕ) → is_triple a b c ≡ true → 0 < c
third_some a b c e = grind (arith, common_steps, e)

pub pair_some : (a b : ℕ) → is_pair a b ≡ true → 0 < b
unfolding is_pair
pair_some a b e = grind (arith, common_steps, e)

punctuator_within : (cs : List ℕ) → 0 < length cs → punctuator_size cs ≤ length cs
unfolding longest_of_four
punctuator_within cs long =
    let P : ℕ → Type 0 = λ n. n ≤ length cs in
    if_cases P (is_quadruple (slice_index cs 0) (slice_index cs 1) (slice_index cs 2) (slice_index cs 3)) _ _
    (λ e. omega (arith, within_from_code cs 3 58 (omega arith) (second _ (slice_index cs 3 == 58) e)))
    (λ _. if_cases P (is_triple (slice_index cs 0) (slice_index cs 1) (slice_index cs 2)) _ _
    (λ e. omega (arith, within_from_some cs 2 (third_some (slice_index cs 0) (slice_index cs 1) (slice_index cs 2) e)))
    (λ _. if_cases P (is_pair (slice_index cs 0) (slice_index cs 1)) _ _
    (λ e. omega (arith, within_from_some cs 1 (pair_some (slice_index cs 0) (slice_index cs 1) e)))
    (λ _. if_cases P (is_single (slice_index cs 0)) _ _ (λ _. omega (arith, long)) (λ _. omega arith))))

SizeWithin : List ℕ → Front → Type 0
SizeWithin cs f = f.size ≤ length cs

other_within : (cs : List ℕ) → 0 < length cs → (punctuator_or_stray cs).size ≤ length cs
unfolding punctuator_or_stray
other_within cs long = if_cases (λ (f : Front). f.size ≤ length cs) (nat_lt 0 (punctuator_size cs)) _ _ (λ _. punctuator_within cs long) (λ _. omega (arith, long))

plain_front_within : (cs : List ℕ) → 0 < length cs → (plain_front cs).size ≤ length cs
unfolding plain_front
plain_front_within cs long = if_cases (λ (f : Front). f.size ≤ length cs) (is_nondigit (slice_index cs 0)) _ _ (λ _. run_within cs Word)
    (λ _. if_cases (λ (f : Front). f.size ≤ length cs) (is_digit (slice_index cs 0) || (slice_index cs 0 == 46 && is_digit (slice_index cs 1))) _ _ (λ _. run_within cs Digits) (λ _. other_within cs long))

literal_within : (cs : List ℕ) (place : ℕ) → place < length cs → (literal_at cs place).size ≤ length cs
unfolding literal_at
literal_within cs place within = omega (arith, within, run_within (drop (place + 1) cs) (Text (slice_index cs place)), length-drop (place + 1) cs)

token_by : (cs : List ℕ) (o : Option ℕ) → 0 < length cs → PlaceWithin cs o → (literal_or_plain o cs).size ≤ length cs
token_by cs None long within = plain_front_within cs long
token_by cs (Some place) long within = literal_within cs place within

token_within : (cs : List ℕ) → 0 < length cs → (token_front cs).size ≤ length cs
unfolding token_front
token_within cs long = token_by cs (literal_prefix cs) long (prefix_within cs)

header_within : (cs : List ℕ) → 0 < length cs → header_size cs ≤ length cs
unfolding header_size
header_within cs long = if_cases (λ (n : ℕ). n ≤ length cs) ((slice_index cs 0 == 60 || slice_index cs 0 == 34) && is_closed (last_state (drop 1 cs) (HeaderFront (closing_of (slice_index cs 0))))) _ _
    (λ _. omega (arith, long, run_within (drop 1 cs) (HeaderFront (closing_of (slice_index cs 0))), length-drop 1 cs)) (λ _. omega arith)

header_or_token_within : (cs : List ℕ) → 0 < length cs → (header_or_token cs).size ≤ length cs
unfolding header_or_token
header_or_token_within cs long = if_cases (λ (f : Front). f.size ≤ length cs) (nat_lt 0 (header_size cs) && not (is_token (token_front cs).class && nat_lt (header_size cs) (token_front cs).size)) _ _
    (λ _. header_within cs long) (λ _. token_within cs long)

front_token_within : (context : Context) (cs : List ℕ) → 0 < length cs → (front_token context cs).size ≤ length cs
front_token_within Include cs long = header_or_token_within cs long
front_token_within Fresh cs long = token_within cs long
front_token_within Hash cs long = token_within cs long
front_token_within Later cs long = token_within cs long

comment_within : (cs : List ℕ) → 1 < length cs → (block_comment cs).size ≤ length cs
unfolding block_comment
comment_within cs long = omega (arith, long, run_within (drop 2 cs) Block, length-drop 2 cs)

pub first_within : (context : Context) (cs : List ℕ) → 0 < length cs → (first_front context cs).size ≤ length cs
unfolding first_front
first_within context cs long =
    let P : Front → Type 0 = λ f. f.size ≤ length cs in
    if_cases P (is_line_end (slice_index cs 0)) _ _ (λ _. omega (arith, long))
    (λ _. if_cases P (is_blank (slice_index cs 0)) _ _ (λ _. run_within cs Blanks)
    (λ _. if_cases P (slice_index cs 0 == 47 && slice_index cs 1 == 47) _ _ (λ _. run_within cs Line)
    (λ _. if_cases P (slice_index cs 0 == 47 && slice_index cs 1 == 42) _ _
    (λ e. comment_within cs (within_from_code cs 1 42 (omega arith) (second (slice_index cs 0 == 47) (slice_index cs 1 == 42) e)))
    (λ _. front_token_within context cs long))))
