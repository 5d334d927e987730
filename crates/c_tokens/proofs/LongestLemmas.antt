-- The piece at the front of some characters is the longest.
use Rattle.std.proofs.Common.{◌≡◌, ℕ, zero, suc, ◌+◌, ◌≤◌, ◌⊎◌, inl, inr, Bool, true, false, ◌&&◌, ◌||◌, not, List, [], ◌∷◌, length, take, refl, ap, sym, ◌∙◌, arith, Option, Some, None, slice_index, nat_lt, ◌==◌}
use Rattle.std.specs.Prelude.{⊤}
use Rattle.std.proofs.lemmas.Grind.{common_steps}
use Rattle.std.specs.Option.{option_map_or}
use Rattle.c_tokens.specs.declared.pieces.Context.{Context}
use Rattle.c_tokens.specs.declared.pieces.Context.TheVariants.{Fresh, Hash, Include, Later}
use Rattle.c_tokens.specs.declared.classes.State.{State}
use Rattle.c_tokens.specs.declared.classes.State.TheVariants.{Blanks, Line, Block, Star, BlockEnd, Word, Digits, Exponent, Text, Escape, TextEnd, HeaderFront, Header, HeaderEnd}
use Rattle.c_tokens.specs.Logical.{is_line_end}
use Rattle.c_tokens.specs.Classes.{run, last_state, next_state, is_blank, is_nondigit, is_word_part}
use Rattle.c_tokens.specs.Pieces.{Front, first_front, front_token, header_or_token, header_size, token_front, literal_prefix, literal_at, literal_or_plain, plain_front, block_comment, is_token, is_closed, is_quote, is_prefix}
use Rattle.c_tokens.proofs.Scanned.{accepts, closes, is_identifier}
use Rattle.c_tokens.proofs.FrontLemmas.{if_cases}

-- a language by states: no more characters than a run has
accepts_by : (n : ℕ) (cs : List ℕ) (o : Option State) → ((t : State) → accepts (take n cs) t ≡ true → n ≤ run cs t)
    → option_map_or (λ t. accepts (take n cs) t) o false ≡ true → suc n ≤ option_map_or (λ t. 1 + run cs t) o 0
accepts_by n cs None more e = cc e
accepts_by n cs (Some t) more e = omega (arith, more t e)

pub accepts_within : (n : ℕ) (cs : List ℕ) (s : State) → n ≤ length cs → accepts (take n cs) s ≡ true → n ≤ run cs s
accepts_within zero cs s within e = omega arith
accepts_within (suc n) [] s within e = absurd (omega arith)
accepts_within (suc n) (c ∷ cs) s within e = accepts_by n cs (next_state s c) (λ t. accepts_within n cs t (omega arith)) e

pub closed_stops : (s : State) (c : ℕ) → is_closed s ≡ true → next_state s c ≡ None
unfolding next_state
closed_stops Blanks c e = cc e
closed_stops Line c e = cc e
closed_stops Block c e = cc e
closed_stops Star c e = cc e
closed_stops BlockEnd c e = refl
closed_stops Word c e = cc e
closed_stops Digits c e = cc e
closed_stops Exponent c e = cc e
closed_stops (Text quote) c e = cc e
closed_stops (Escape quote) c e = cc e
closed_stops TextEnd c e = refl
closed_stops (HeaderFront quote) c e = cc e
closed_stops (Header quote) c e = cc e
closed_stops HeaderEnd c e = refl

-- a language that ends in a closed state: exactly as many characters as a run has
pub record Closes (n : ℕ) (cs : List ℕ) (s : State) : Type 0 where
  pub size : n ≡ run cs s
  pub closed : is_closed (last_state cs s) ≡ true

pub first_part : (a b : Bool) → a && b ≡ true → a ≡ true
first_part true b e = refl
first_part false b e = e

pub second_part : (a b : Bool) → a && b ≡ true → b ≡ true
second_part true b e = e
second_part false b e = cc e

pub either_part : (a b : Bool) → a || b ≡ true → (a ≡ true) ⊎ (b ≡ true)
either_part true b e = inl refl
either_part false b e = inr e

closed_now : (cs : List ℕ) (s : State) → is_closed s ≡ true → Closes 0 cs s
closed_now [] s e = record { size = refl; closed = e }
closed_now (c ∷ cs) s e = record {
  size = ap (λ (o : Option State). option_map_or (λ t. 1 + run cs t) o 0) (sym (closed_stops s c e));
  closed = ap (λ (o : Option State). is_closed (option_map_or (λ t. last_state cs t) o s)) (closed_stops s c e) ∙ e;
}

closes_by : (n : ℕ) (cs : List ℕ) (s : State) (o : Option State) → ((t : State) → closes (take n cs) t ≡ true → Closes n cs t)
    → option_map_or (λ t. accepts (take n cs) t) o false && is_closed (option_map_or (λ t. last_state (take n cs) t) o s) ≡ true
    → (suc n ≡ option_map_or (λ t. 1 + run cs t) o 0) × (is_closed (option_map_or (λ t. last_state cs t) o s) ≡ true)
closes_by n cs s None more e = cc e
closes_by n cs s (Some t) more e = let k = more t e in (omega (arith, k.size), k.closed)

pub closes_exactly : (n : ℕ) (cs : List ℕ) (s : State) → n ≤ length cs → closes (take n cs) s ≡ true → Closes n cs s
closes_exactly zero cs s within e = closed_now cs s e
closes_exactly (suc n) [] s within e = absurd (omega arith)
closes_exactly (suc n) (c ∷ cs) s within e =
    let k = closes_by n cs s (next_state s c) (λ t. closes_exactly n cs t (omega arith)) e in
    record { size = k.0; closed = k.1 }

-- what a test sees in the front it sees in the whole
pub take_see : (g : ℕ → Bool) → g 0 ≡ false → (m : ℕ) (xs : List ℕ) (k : ℕ) → g (slice_index (take m xs) k) ≡ true → g (slice_index xs k) ≡ true
take_see g none zero xs k e = cc (none, e)
take_see g none (suc m) [] k e = e
take_see g none (suc m) (x ∷ xs) zero e = e
take_see g none (suc m) (x ∷ xs) (suc k) e = take_see g none m xs k e

-- through the cases of the first piece
pub below_first : (n : ℕ) (context : Context) (cs : List ℕ)
    → (is_line_end (slice_index cs 0) ≡ true → n ≤ 1)
    → (is_line_end (slice_index cs 0) ≡ false → is_blank (slice_index cs 0) ≡ true → n ≤ run cs Blanks)
    → (is_line_end (slice_index cs 0) ≡ false → is_blank (slice_index cs 0) ≡ false → slice_index cs 0 == 47 && slice_index cs 1 == 47 ≡ true → n ≤ run cs Line)
    → (is_line_end (slice_index cs 0) ≡ false → is_blank (slice_index cs 0) ≡ false → slice_index cs 0 == 47 && slice_index cs 1 == 47 ≡ false → slice_index cs 0 == 47 && slice_index cs 1 == 42 ≡ true → n ≤ (block_comment cs).size)
    → (is_line_end (slice_index cs 0) ≡ false → is_blank (slice_index cs 0) ≡ false → slice_index cs 0 == 47 && slice_index cs 1 == 47 ≡ false → slice_index cs 0 == 47 && slice_index cs 1 == 42 ≡ false → n ≤ (front_token context cs).size)
    → n ≤ (first_front context cs).size
unfolding first_front
below_first n context cs at_line_end at_blank at_line at_block at_token =
    let P : Front → Type 0 = λ f. n ≤ f.size in
    if_cases P (is_line_end (slice_index cs 0)) _ _ at_line_end
    (λ a. if_cases P (is_blank (slice_index cs 0)) _ _ (at_blank a)
    (λ b. if_cases P (slice_index cs 0 == 47 && slice_index cs 1 == 47) _ _ (at_line a b)
    (λ d. if_cases P (slice_index cs 0 == 47 && slice_index cs 1 == 42) _ _ (at_block a b d) (at_token a b d))))

-- where a header name may stand, the longer one counts
pub below_header : (n : ℕ) (cs : List ℕ) → n ≤ (token_front cs).size → (is_token (token_front cs).class ≡ true) ⊎ (header_size cs ≡ 0) → n ≤ (header_or_token cs).size
unfolding header_or_token
below_header n cs below sure = if_cases (λ (f : Front). n ≤ f.size) (nat_lt 0 (header_size cs) && not (is_token (token_front cs).class && nat_lt (header_size cs) (token_front cs).size)) _ _
    (λ e. chosen (header_size cs) (token_front cs).size (is_token (token_front cs).class) below sure e) (λ _. below)
  where
    chosen : (h s : ℕ) (b : Bool) → n ≤ s → (b ≡ true) ⊎ (h ≡ 0) → nat_lt 0 h && not (b && nat_lt h s) ≡ true → n ≤ h
    chosen h s true below sure e = grind (arith, common_steps, below, e)
    chosen h s false below (inl k) e = cc k
    chosen h s false below (inr k) e = grind (arith, common_steps, k, e)

pub below_front_token : (n : ℕ) (context : Context) (cs : List ℕ) → n ≤ (token_front cs).size → (is_token (token_front cs).class ≡ true) ⊎ (header_size cs ≡ 0) → n ≤ (front_token context cs).size
below_front_token n Include cs below sure = below_header n cs below sure
below_front_token n Fresh cs below sure = below
below_front_token n Hash cs below sure = below
below_front_token n Later cs below sure = below

pub no_header : (c : ℕ) (xs : List ℕ) → c == 60 || c == 34 ≡ false → header_size (c ∷ xs) ≡ 0
unfolding header_size
no_header c xs e = rw e refl

pub no_prefix : (c : ℕ) (xs : List ℕ) → is_quote c ≡ false → is_prefix c ≡ false → c == 117 ≡ false → literal_prefix (c ∷ xs) ≡ None
unfolding literal_prefix
no_prefix c xs e f g = rw (e, f, g) refl

-- identifiers
word_stops : (k : ℕ) (cs : List ℕ) → is_word_part (slice_index cs k) ≡ false → run cs Word ≤ k
unfolding next_state
word_stops k [] e = omega arith
word_stops zero (c ∷ cs) e = rw e (omega arith)
word_stops (suc k) (c ∷ cs) e = if_cases (λ (o : Option State). option_map_or (λ t. 1 + run cs t) o 0 ≤ suc k) (is_word_part c) _ _ (λ _. omega (arith, word_stops k cs e)) (λ _. omega arith)

quote_no_word : (q : ℕ) → is_quote q ≡ true → is_word_part q ≡ false
quote_no_word q e = elim (either_part (q == 34) (q == 39) e) as (λ _. is_word_part q ≡ false) [ inl f ↦ rw (same q 34 f) refl | inr f ↦ rw (same q 39 f) refl ]
  where
    same : (a b : ℕ) → a == b ≡ true → a ≡ b
    same a b e = grind (arith, common_steps, e)

-- a quote stands behind the prefix
abbrev pub QuoteAt : List ℕ → Option ℕ → Type 0
QuoteAt cs None = ⊤
QuoteAt cs (Some place) = is_quote (slice_index cs place) ≡ true

pub prefix_quote : (cs : List ℕ) → QuoteAt cs (literal_prefix cs)
unfolding literal_prefix
prefix_quote cs = if_cases (QuoteAt cs) (is_quote (slice_index cs 0)) _ _ (λ e. e)
    (λ _. if_cases (QuoteAt cs) (is_prefix (slice_index cs 0) && is_quote (slice_index cs 1)) _ _ (λ e. second_part (is_prefix (slice_index cs 0)) (is_quote (slice_index cs 1)) e)
    (λ _. if_cases (QuoteAt cs) (slice_index cs 0 == 117 && slice_index cs 1 == 56 && slice_index cs 2 == 34) _ _
    (λ e. double (slice_index cs 2) (second_part (slice_index cs 0 == 117 && slice_index cs 1 == 56) (slice_index cs 2 == 34) e)) (λ _. tt)))
  where
    double : (c : ℕ) → c == 34 ≡ true → is_quote c ≡ true
    double c e = rw e refl

word_by : (n : ℕ) (cs : List ℕ) (o : Option ℕ) → QuoteAt cs o → is_nondigit (slice_index cs 0) ≡ true → n ≤ run cs Word → n ≤ (literal_or_plain o cs).size
unfolding literal_at plain_front
word_by n cs None quote e below = rw e below
word_by n cs (Some place) quote e below = omega (arith, below, word_stops place cs (quote_no_word (slice_index cs place) quote))

word_token : (n : ℕ) (cs : List ℕ) → is_nondigit (slice_index cs 0) ≡ true → n ≤ run cs Word → n ≤ (token_front cs).size
unfolding token_front
word_token n cs e below = word_by n cs (literal_prefix cs) (prefix_quote cs) e below

pub below_identifier : (m : ℕ) (context : Context) (c : ℕ) (xs : List ℕ) → suc m ≤ length (c ∷ xs) → is_identifier (take (suc m) (c ∷ xs)) ≡ true → suc m ≤ (first_front context (c ∷ xs)).size
below_identifier m context c xs within e =
    let starts : is_nondigit c ≡ true = first_part (is_nondigit c) (accepts (c ∷ take m xs) Word) e in
    let goes : accepts (c ∷ take m xs) Word ≡ true = second_part (is_nondigit c) (accepts (c ∷ take m xs) Word) e in
    let below : suc m ≤ run (c ∷ xs) Word = accepts_within (suc m) (c ∷ xs) Word within goes in
    below_first (suc m) context (c ∷ xs)
    (λ f. absurd (grind (arith, common_steps, starts, f)))
    (λ _ f. absurd (grind (arith, common_steps, starts, f)))
    (λ _ _ f. absurd (grind (arith, common_steps, starts, f)))
    (λ _ _ _ f. absurd (grind (arith, common_steps, starts, f)))
    (λ _ _ _ _. below_front_token (suc m) context (c ∷ xs) (word_token (suc m) (c ∷ xs) starts below) (inr (no_header c xs (grind (arith, common_steps, starts)))))
