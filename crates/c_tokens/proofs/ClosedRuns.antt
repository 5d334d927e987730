-- A line end behind some characters ends each run of a line, and prolongs an open comment alone.
use Rattle.std.proofs.Common.{◌≡◌, ℕ, zero, suc, ◌+◌, ◌≤◌, ◌⊎◌, inl, inr, Bool, true, false, not, List, [], ◌∷◌, ◌++◌, length, refl, ap, sym, ◌∙◌, arith, Option, Some, None, slice_index}
use Rattle.std.specs.Option.{option_map_or}
use Rattle.c_tokens.specs.declared.classes.State.{State}
use Rattle.c_tokens.specs.declared.classes.State.TheVariants.{Blanks, Line, Block, Star, BlockEnd, Word, Digits, Exponent, Text, Escape, TextEnd, HeaderFront, Header, HeaderEnd}
use Rattle.c_tokens.specs.Logical.{is_line_end}
use Rattle.c_tokens.specs.Classes.{run, last_state, next_state, is_blank, is_word_part}
use Rattle.c_tokens.specs.Pieces.{is_closed}
use Rattle.c_tokens.proofs.FrontLemmas.{if_cases}

-- what is read at a place, where a line end counts as nothing
pub see : {A : Type 0} (g : ℕ → A) (xs : List ℕ) (k : ℕ) → g 10 ≡ g 0 → g (slice_index (xs ++ 10 ∷ []) k) ≡ g (slice_index xs k)
see g [] zero e = e
see g [] (suc k) e = refl
see g (x ∷ xs) zero e = refl
see g (x ∷ xs) (suc k) e = see g xs k e

-- the states that go past no line end
abbrev pub in_line : State → Bool
in_line Block = false
in_line Star = false
in_line BlockEnd = false
in_line _ = true

abbrev in_line_if : Option State → Bool
in_line_if None = true
in_line_if (Some s) = in_line s

in_line_next : (s : State) (c : ℕ) → in_line s ≡ true → in_line_if (next_state s c) ≡ true
unfolding next_state
in_line_next Blanks c e = if_cases (λ (o : Option State). in_line_if o ≡ true) (is_blank c) _ _ (λ _. refl) (λ _. refl)
in_line_next Line c e = if_cases (λ (o : Option State). in_line_if o ≡ true) (is_line_end c) _ _ (λ _. refl) (λ _. refl)
in_line_next Block c e = cc e
in_line_next Star c e = cc e
in_line_next BlockEnd c e = refl
in_line_next Word c e = if_cases (λ (o : Option State). in_line_if o ≡ true) (is_word_part c) _ _ (λ _. refl) (λ _. refl)
in_line_next Digits c e = grind arith
in_line_next Exponent c e = grind arith
in_line_next (Text quote) c e = grind arith
in_line_next (Escape quote) c e = grind arith
in_line_next TextEnd c e = refl
in_line_next (HeaderFront quote) c e = grind arith
in_line_next (Header quote) c e = grind arith
in_line_next HeaderEnd c e = refl

in_line_stops : (s : State) → in_line s ≡ true → next_state s 10 ≡ None
unfolding next_state
in_line_stops Blanks e = refl
in_line_stops Line e = refl
in_line_stops Block e = cc e
in_line_stops Star e = cc e
in_line_stops BlockEnd e = refl
in_line_stops Word e = refl
in_line_stops Digits e = refl
in_line_stops Exponent e = refl
in_line_stops (Text quote) e = refl
in_line_stops (Escape quote) e = refl
in_line_stops TextEnd e = refl
in_line_stops (HeaderFront quote) e = refl
in_line_stops (Header quote) e = refl
in_line_stops HeaderEnd e = refl

run_by : (xs ys : List ℕ) (o : Option State) → ((s : State) → in_line s ≡ true → run xs s ≡ run ys s) → in_line_if o ≡ true → option_map_or (λ t. 1 + run xs t) o 0 ≡ option_map_or (λ t. 1 + run ys t) o 0
run_by xs ys None same e = refl
run_by xs ys (Some s) same e = ap (λ (n : ℕ). 1 + n) (same s e)

last_by : (xs ys : List ℕ) (state : State) (o : Option State) → ((s : State) → in_line s ≡ true → last_state xs s ≡ last_state ys s) → in_line_if o ≡ true → option_map_or (λ t. last_state xs t) o state ≡ option_map_or (λ t. last_state ys t) o state
last_by xs ys state None same e = refl
last_by xs ys state (Some s) same e = same s e

pub closed_run : (xs : List ℕ) (s : State) → in_line s ≡ true → run (xs ++ 10 ∷ []) s ≡ run xs s
closed_run [] s e = ap (λ (o : Option State). option_map_or (λ t. 1 + run [] t) o 0) (in_line_stops s e)
closed_run (c ∷ xs) s e = run_by (xs ++ 10 ∷ []) xs (next_state s c) (closed_run xs) (in_line_next s c e)

pub closed_last : (xs : List ℕ) (s : State) → in_line s ≡ true → last_state (xs ++ 10 ∷ []) s ≡ last_state xs s
closed_last [] s e = ap (λ (o : Option State). option_map_or (λ t. last_state [] t) o s) (in_line_stops s e)
closed_last (c ∷ xs) s e = last_by (xs ++ 10 ∷ []) xs s (next_state s c) (closed_last xs) (in_line_next s c e)

within_by : (xs : List ℕ) (o : Option State) → ((s : State) → run xs s ≤ length xs) → option_map_or (λ t. 1 + run xs t) o 0 ≤ suc (length xs)
within_by xs None within = omega arith
within_by xs (Some s) within = omega (arith, within s)

-- a run is within the characters
pub run_within : (xs : List ℕ) (s : State) → run xs s ≤ length xs
run_within [] s = omega arith
run_within (c ∷ xs) s = within_by xs (next_state s c) (run_within xs)

-- behind `/*`: a line end more changes nothing, or the comment is open
pub record Prolonged (xs : List ℕ) (s : State) : Type 0 where
  pub open_before : is_closed (last_state xs s) ≡ false
  pub all_before : run xs s ≡ length xs
  pub open_after : is_closed (last_state (xs ++ 10 ∷ []) s) ≡ false
  pub all_after : run (xs ++ 10 ∷ []) s ≡ length xs + 1

pub record Same (xs : List ℕ) (s : State) : Type 0 where
  pub size : run (xs ++ 10 ∷ []) s ≡ run xs s
  pub last : last_state (xs ++ 10 ∷ []) s ≡ last_state xs s

in_block_if : Option State → Bool
in_block_if None = true
in_block_if (Some s) = not (in_line s)

in_block_next : (s : State) (c : ℕ) → in_line s ≡ false → in_block_if (next_state s c) ≡ true
unfolding next_state in_block_if
in_block_next Blanks c e = cc e
in_block_next Line c e = cc e
in_block_next Block c e = grind arith
in_block_next Star c e = grind arith
in_block_next BlockEnd c e = refl
in_block_next Word c e = cc e
in_block_next Digits c e = cc e
in_block_next Exponent c e = cc e
in_block_next (Text quote) c e = cc e
in_block_next (Escape quote) c e = cc e
in_block_next TextEnd c e = cc e
in_block_next (HeaderFront quote) c e = cc e
in_block_next (Header quote) c e = cc e
in_block_next HeaderEnd c e = cc e

block_by : (c : ℕ) (xs : List ℕ) (s : State) (o : Option State) → o ≡ next_state s c → in_block_if o ≡ true
    → ((t : State) → in_line t ≡ false → Same xs t ⊎ Prolonged xs t) → Same (c ∷ xs) s ⊎ Prolonged (c ∷ xs) s
unfolding in_block_if
block_by c xs s None e block more = inl (record {
  size = ap (λ (o : Option State). option_map_or (λ t. 1 + run (xs ++ 10 ∷ []) t) o 0) (sym e) ∙ ap (λ (o : Option State). option_map_or (λ t. 1 + run xs t) o 0) e;
  last = ap (λ (o : Option State). option_map_or (λ t. last_state (xs ++ 10 ∷ []) t) o s) (sym e) ∙ ap (λ (o : Option State). option_map_or (λ t. last_state xs t) o s) e;
})
block_by c xs s (Some t) e block more =
    let size_before : run (c ∷ xs) s ≡ 1 + run xs t = ap (λ (o : Option State). option_map_or (λ t. 1 + run xs t) o 0) (sym e) in
    let size_after : run (c ∷ xs ++ 10 ∷ []) s ≡ 1 + run (xs ++ 10 ∷ []) t = ap (λ (o : Option State). option_map_or (λ t. 1 + run (xs ++ 10 ∷ []) t) o 0) (sym e) in
    let last_before : last_state (c ∷ xs) s ≡ last_state xs t = ap (λ (o : Option State). option_map_or (λ t. last_state xs t) o s) (sym e) in
    let last_after : last_state (c ∷ xs ++ 10 ∷ []) s ≡ last_state (xs ++ 10 ∷ []) t = ap (λ (o : Option State). option_map_or (λ t. last_state (xs ++ 10 ∷ []) t) o s) (sym e) in
    elim (more t (not_true t block)) as (λ _. Same (c ∷ xs) s ⊎ Prolonged (c ∷ xs) s) [
      | inl same ↦ inl (record {
        size = size_after ∙ (ap (λ (n : ℕ). 1 + n) same.size ∙ sym size_before);
        last = last_after ∙ (same.last ∙ sym last_before);
      })
      | inr on ↦ inr (record {
        open_before = ap is_closed last_before ∙ on.open_before;
        all_before = omega (arith, size_before, on.all_before);
        open_after = ap is_closed last_after ∙ on.open_after;
        all_after = omega (arith, size_after, on.all_after);
      })
    ]
  where
    not_true : (t : State) → not (in_line t) ≡ true → in_line t ≡ false
    not_true t e = not_not (in_line t) e
      where
        not_not : (b : Bool) → not b ≡ true → b ≡ false
        not_not true e = cc e
        not_not false e = refl

pub closed_block : (xs : List ℕ) (s : State) → in_line s ≡ false → Same xs s ⊎ Prolonged xs s
unfolding next_state
closed_block [] Block e = inr (record { open_before = refl; all_before = refl; open_after = refl; all_after = refl })
closed_block [] Star e = inr (record { open_before = refl; all_before = refl; open_after = refl; all_after = refl })
closed_block [] BlockEnd e = inl (record { size = refl; last = refl })
closed_block [] Blanks e = cc e
closed_block [] Line e = cc e
closed_block [] Word e = cc e
closed_block [] Digits e = cc e
closed_block [] Exponent e = cc e
closed_block [] (Text quote) e = cc e
closed_block [] (Escape quote) e = cc e
closed_block [] TextEnd e = cc e
closed_block [] (HeaderFront quote) e = cc e
closed_block [] (Header quote) e = cc e
closed_block [] HeaderEnd e = cc e
closed_block (c ∷ xs) s e = block_by c xs s (next_state s c) refl (in_block_next s c e) (closed_block xs)
