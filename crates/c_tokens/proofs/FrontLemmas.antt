-- A piece has at least one character, and an open comment at least two.
use Rattle.std.proofs.Common.{◌≡◌, ℕ, ◌+◌, ◌<◌, ◌≤◌, Bool, true, false, ◌&&◌, ◌||◌, not, List, [], ◌∷◌, length, drop, refl, arith, Option, Some, None, IsSome, slice_index, nat_lt, ◌==◌, if◌then◌else◌}
use Rattle.std.proofs.lemmas.Grind.{common_steps}
use Rattle.std.specs.Option.{option_map_or}
use Rattle.c_tokens.specs.declared.pieces.Class.{Class}
use Rattle.c_tokens.specs.declared.pieces.Class.TheVariants.{OpenComment}
use Rattle.c_tokens.specs.declared.pieces.Context.{Context}
use Rattle.c_tokens.specs.declared.pieces.Context.TheVariants.{Fresh, Hash, Include, Later}
use Rattle.c_tokens.specs.declared.classes.State.{State}
use Rattle.c_tokens.specs.declared.classes.State.TheVariants.{Blanks, Line, Word, Digits, Text}
use Rattle.c_tokens.specs.Logical.{Character, codes_of, is_line_end}
use Rattle.c_tokens.specs.Classes.{run, last_state, next_state, is_blank, is_digit, is_nondigit, is_exponent, is_number_part, punctuator_size}
use Rattle.c_tokens.specs.Pieces.{Front, is_front_mark, front_of, first_front, front_token, header_or_token, header_size, token_front, literal_prefix, literal_at, literal_or_plain, plain_front, punctuator_or_stray, block_comment, is_token, is_closed}

pub record Sized (f : Front) : Type 0 where
  pub some : 0 < f.size
  pub two : f.class ≡ OpenComment → 2 ≤ f.size

pub if_cases : {A : Type 0} (P : A → Type 0) (b : Bool) (x y : A) → (b ≡ true → P x) → (b ≡ false → P y) → P (if b then x else y)
if_cases P true x y holds fails = holds refl
if_cases P false x y holds fails = fails refl

pub run_first : (cs : List ℕ) (s : State) → 0 < length cs → IsSome (next_state s (slice_index cs 0)) → 0 < run cs s
run_first [] s long goes = absurd (omega arith)
run_first (c ∷ cs) s long goes = run_by (next_state s c) goes
  where
    run_by : (o : Option State) → IsSome o → 0 < option_map_or (λ t. 1 + run cs t) o 0
    run_by None goes = cc goes
    run_by (Some t) goes = omega arith

pub blanks_go : (c : ℕ) → is_blank c ≡ true → IsSome (next_state Blanks c)
unfolding next_state
blanks_go c e = rw e refl

pub line_goes : (c : ℕ) → is_line_end c ≡ false → IsSome (next_state Line c)
unfolding next_state
line_goes c e = rw e refl

pub word_goes : (c : ℕ) → is_nondigit c ≡ true → IsSome (next_state Word c)
unfolding next_state
word_goes c e = rw e refl

pub digits_go : (c : ℕ) → is_number_part c ≡ true → IsSome (next_state Digits c)
unfolding next_state
digits_go c e = if_cases (λ (o : Option State). IsSome o) (is_exponent c) _ _ (λ _. refl) (λ _. rw e refl)

sized_punctuator : (cs : List ℕ) → Sized (punctuator_or_stray cs)
unfolding punctuator_or_stray
sized_punctuator cs = if_cases Sized (nat_lt 0 (punctuator_size cs)) _ _
    (λ e. record { some = grind (arith, common_steps, e); two = λ k. cc k })
    (λ e. record { some = omega arith; two = λ k. cc k })

sized_plain : (cs : List ℕ) → 0 < length cs → Sized (plain_front cs)
unfolding plain_front
sized_plain cs long = if_cases Sized (is_nondigit (slice_index cs 0)) _ _
    (λ e. record { some = run_first cs Word long (word_goes _ e); two = λ k. cc k })
    (λ _. if_cases Sized (is_digit (slice_index cs 0) || (slice_index cs 0 == 46 && is_digit (slice_index cs 1))) _ _
    (λ e. record { some = run_first cs Digits long (digits_go _ (grind (arith, common_steps, e))); two = λ k. cc k })
    (λ _. sized_punctuator cs))

sized_literal : (cs : List ℕ) (place : ℕ) → Sized (literal_at cs place)
unfolding literal_at
sized_literal cs place = record {
  some = omega arith;
  two = if_cases (λ (k : Class). k ≡ OpenComment → 2 ≤ (literal_at cs place).size) (is_closed (last_state (drop (place + 1) cs) (Text (slice_index cs place)))) _ _ (λ _ k. cc k) (λ _ k. cc k);
}

sized_token : (cs : List ℕ) → 0 < length cs → Sized (token_front cs)
unfolding token_front
sized_token cs long = by (literal_prefix cs)
  where
    by : (o : Option ℕ) → Sized (literal_or_plain o cs)
    by None = sized_plain cs long
    by (Some place) = sized_literal cs place

sized_header : (cs : List ℕ) → 0 < length cs → Sized (header_or_token cs)
unfolding header_or_token
sized_header cs long = if_cases Sized (nat_lt 0 (header_size cs) && not (is_token (token_front cs).class && nat_lt (header_size cs) (token_front cs).size)) _ _
    (λ e. record { some = grind (arith, common_steps, e); two = λ k. cc k })
    (λ _. sized_token cs long)

sized_front_token : (context : Context) (cs : List ℕ) → 0 < length cs → Sized (front_token context cs)
sized_front_token Include cs long = sized_header cs long
sized_front_token Fresh cs long = sized_token cs long
sized_front_token Hash cs long = sized_token cs long
sized_front_token Later cs long = sized_token cs long

sized_comment : (cs : List ℕ) → Sized (block_comment cs)
unfolding block_comment
sized_comment cs = record { some = omega arith; two = λ _. omega arith }

sized_first : (context : Context) (cs : List ℕ) → 0 < length cs → Sized (first_front context cs)
unfolding first_front
sized_first context cs long =
    if_cases Sized (is_line_end (slice_index cs 0)) _ _ (λ _. record { some = omega arith; two = λ k. cc k }) (λ inside.
    if_cases Sized (is_blank (slice_index cs 0)) _ _ (λ e. record { some = run_first cs Blanks long (blanks_go _ e); two = λ k. cc k }) (λ _.
    if_cases Sized (slice_index cs 0 == 47 && slice_index cs 1 == 47) _ _ (λ _. record { some = run_first cs Line long (line_goes _ inside); two = λ k. cc k }) (λ _.
    if_cases Sized (slice_index cs 0 == 47 && slice_index cs 1 == 42) _ _ (λ _. sized_comment cs) (λ _. sized_front_token context cs long))))

pub sized_front : (context : Context) (c : Character) (cs : List Character) → Sized (front_of context c cs)
sized_front context c cs = if_cases Sized (is_front_mark c) _ _ (λ _. record { some = omega arith; two = λ k. cc k }) (λ _. sized_first context (codes_of (c ∷ cs)) (omega arith))
