-- Which tokens are enumeration constants is the same where typedef names are hidden, and what the code keeps of them gives what the tokens are in a part.
use Rattle.std.proofs.Common.{◌≡◌, refl, ap, sym, ◌∙◌, subst, ℕ, zero, suc, ◌+◌, ◌-◌, ◌≤◌, ◌<◌, List, [], ◌∷◌, ◌++◌, length, map, arith, ◌⊎◌, inl, inr, eq-or-lt_of_le, Bool, true, false, true≢false, ◌&&◌, ◌||◌, ◌==◌, if◌then◌else◌, slice_index_or, nat_lt}
use Rattle.std.proofs.lemmas.Bool.{eqb-true, lt-ltb, ltb-true}
use Rattle.c_parser.specs.declared.kinds.Kind.{Kind}
use Rattle.c_parser.specs.declared.kinds.Kind.TheVariants.{Identifier, TypeName, End}
use Rattle.c_parser.specs.Brackets.{opens, closes}
use Rattle.c_parser.specs.Enumerations.{known, bars, is_enum, is_comma, opens_list, outer, open_behind, open_at, innermost, is_constant, enumerates, is_name, declared_in, in_force, settle_on, settle, last_of, earlier_by, earlier}
use Rattle.c_parser.specs.Kinds.{kind_at, IsInside, level_of, is_brace, is_typedef, is_word, hidden_one, hide_word}
use Rattle.c_parser.specs.Scopes.{shade, force, forced}
use Rattle.c_parser.specs.Numbers.{Spans}
use Rattle.c_parser.specs.Words.{Words, declared, past_one, past_numbers, past_range}
use Rattle.c_parser.proofs.Numbers.{spans_forth}
use Rattle.c_parser.proofs.Hiding.{IsBlind, word_at, word_length}
use Rattle.c_parser.proofs.ScopeLemmas.{shaded_at, shaded_length, one_more}

-- tokens that differ in typedef names alone
abbrev pub Alike : List Kind → List Kind → Type 0
Alike ks us = (f : Kind → Bool) → IsBlind f → (at : ℕ) → f (kind_at ks at) ≡ f (kind_at us at)

opens_alike : (ks us : List Kind) → Alike ks us → (at : ℕ) → opens_list ks at ≡ opens_list us at
unfolding opens_list
opens_alike ks us h at =
    ap (λ b. b && (is_enum (kind_at ks (at - 1)) || (is_word (kind_at ks (at - 1)) && is_enum (kind_at ks (at - 2))))) (h is_brace (λ n. refl) at)
    ∙ ap (λ b. is_brace (kind_at us at) && (b || (is_word (kind_at ks (at - 1)) && is_enum (kind_at ks (at - 2))))) (h is_enum (λ n. refl) (at - 1))
    ∙ ap (λ b. is_brace (kind_at us at) && (is_enum (kind_at us (at - 1)) || (b && is_enum (kind_at ks (at - 2))))) (h is_word (λ n. refl) (at - 1))
    ∙ ap (λ b. is_brace (kind_at us at) && (is_enum (kind_at us (at - 1)) || (is_word (kind_at us (at - 1)) && b))) (h is_enum (λ n. refl) (at - 2))

behind_alike : (xs ys : List Bool) → (k j : Kind) → (b d : Bool) → xs ≡ ys → opens k ≡ opens j → closes k ≡ closes j → b ≡ d
    → open_behind xs k b ≡ open_behind ys j d
unfolding open_behind
behind_alike xs ys k j b d e o c l =
    ap (λ x. if x then xs ++ b ∷ [] else (if closes k then outer xs else xs)) o
    ∙ ap (λ x. if opens j then xs ++ b ∷ [] else (if x then outer xs else xs)) c
    ∙ ap (λ x. if opens j then xs ++ x ∷ [] else (if closes j then outer xs else xs)) l
    ∙ ap (λ x. if opens j then x ++ d ∷ [] else (if closes j then outer x else x)) e

open_alike : (ks us : List Kind) → Alike ks us → (at : ℕ) → open_at ks at ≡ open_at us at
open_alike ks us h zero = refl
open_alike ks us h (suc at) =
    behind_alike (open_at ks at) (open_at us at) (kind_at ks at) (kind_at us at) (opens_list ks at) (opens_list us at) (open_alike ks us h at)
    (h opens (λ n. refl) at) (h closes (λ n. refl) at) (opens_alike ks us h at)

pub enumerates_alike : (ks us : List Kind) → Alike ks us → (at : ℕ) → enumerates ks at ≡ enumerates us at
unfolding is_constant
enumerates_alike ks us h at =
    ap (λ xs. innermost xs && (is_word (kind_at ks at) && (is_brace (kind_at ks (at - 1)) || is_comma (kind_at ks (at - 1))))) (open_alike ks us h at)
    ∙ ap (λ b. innermost (open_at us at) && (b && (is_brace (kind_at ks (at - 1)) || is_comma (kind_at ks (at - 1))))) (h is_word (λ n. refl) at)
    ∙ ap (λ b. innermost (open_at us at) && (is_word (kind_at us at) && (b || is_comma (kind_at ks (at - 1))))) (h is_brace (λ n. refl) (at - 1))
    ∙ ap (λ b. innermost (open_at us at) && (is_word (kind_at us at) && (is_brace (kind_at us (at - 1)) || b))) (h is_comma (λ n. refl) (at - 1))

-- what a settled list has at a place
settle_on_at : (ks : List Kind) → (from start : ℕ) → (us : List Kind) → (at : ℕ)
    → kind_at (settle_on ks from start us) at ≡ in_force ks from (start + at) (kind_at us at)
settle_on_at ks from start [] at = refl
settle_on_at ks from start (u ∷ us) zero = ap (λ x. in_force ks from x u) (omega arith)
settle_on_at ks from start (u ∷ us) (suc at) =
    settle_on_at ks from (start + 1) us at ∙ ap (λ x. in_force ks from x (kind_at us at)) (omega arith)

pub settle_at : (ks : List Kind) → (from at : ℕ) → kind_at (settle ks from) at ≡ in_force ks from at (kind_at ks at)
unfolding settle
settle_at ks from at = settle_on_at ks from 0 ks at ∙ ap (λ x. in_force ks from x (kind_at ks at)) (omega arith)

settle_on_length : (ks : List Kind) → (from start : ℕ) → (us : List Kind) → length (settle_on ks from start us) ≡ length us
settle_on_length ks from start [] = refl
settle_on_length ks from start (u ∷ us) = ap suc (settle_on_length ks from (start + 1) us)

pub settle_length : (ks : List Kind) → (from : ℕ) → length (settle ks from) ≡ length ks
unfolding settle
settle_length ks from = settle_on_length ks from 0 ks

pub blind_forced : (f : Kind → Bool) → IsBlind f → (ks : List Kind) → (from at : ℕ) → (k : Kind) → f (in_force ks from at k) ≡ f k
blind_forced f u ks from at (TypeName n) = either (declared_in ks n from at)
  where
    either : (b : Bool) → f (if b then Identifier else TypeName n) ≡ f (TypeName n)
    either true = sym (u n)
    either false = refl
blind_forced f u ks from at _ = refl

pub settled_alike : (ks : List Kind) → (from : ℕ) → Alike (settle ks from) ks
settled_alike ks from f u at = ap f (settle_at ks from at) ∙ blind_forced f u ks from at (kind_at ks at)

blind_shade : (f : Kind → Bool) → IsBlind f → (hidden : List Bool) → (k : Kind) → f (shade hidden k) ≡ f k
blind_shade f u hidden (TypeName n) = either (slice_index_or hidden n false)
  where
    either : (b : Bool) → f (if b then Identifier else TypeName n) ≡ f (TypeName n)
    either true = sym (u n)
    either false = refl
blind_shade f u hidden _ = refl

pub shaded_alike : (hidden : List Bool) → (ks : List Kind) → Alike (map (shade hidden) ks) ks
shaded_alike hidden ks f u at = ap f (shaded_at hidden ks at) ∙ blind_shade f u hidden (kind_at ks at)

-- the last enumerator of a name
chosen_le : (b : Bool) → (l at : ℕ) → l ≤ at → (if b then at + 1 else l) ≤ at + 1
chosen_le true l at h = omega arith
chosen_le false l at h = omega (arith, h)

last_le : (ks : List Kind) → (n at : ℕ) → last_of ks n at ≤ at
last_le ks n zero = omega arith
last_le ks n (suc at) =
    let one = chosen_le (enumerates ks at && is_name n (kind_at ks at)) (last_of ks n at) at (last_le ks n at) in omega (arith, one)

last_step : (from at l : ℕ) → (hit d : Bool) → l ≤ at → d ≡ nat_lt from l → ((nat_lt from (at + 1) && hit) || d) ≡ nat_lt from (if hit then at + 1 else l)
last_step from at l true d le e = both (nat_lt from (at + 1)) refl d e
  where
    both : (c : Bool) → c ≡ nat_lt from (at + 1) → (d : Bool) → d ≡ nat_lt from l → ((c && true) || d) ≡ c
    both true h d e = refl
    both false h false e = refl
    both false h true e = absurd (true≢false (sym (h ∙ lt-ltb from (at + 1) (omega (arith, ltb-true from l (sym e), le)))))
last_step from at l false d le e = none (nat_lt from (at + 1)) ∙ e
  where
    none : (c : Bool) → ((c && false) || d) ≡ d
    none true = refl
    none false = refl

none_before : (from : ℕ) → false ≡ nat_lt from 0
none_before from = by (nat_lt from 0) refl
  where
    by : (b : Bool) → b ≡ nat_lt from 0 → false ≡ b
    by false e = refl
    by true e = absurd (omega (arith, ltb-true from 0 (sym e)))

declared_last : (ks : List Kind) → (n from at : ℕ) → declared_in ks n from at ≡ nat_lt from (last_of ks n at)
declared_last ks n from zero = none_before from
declared_last ks n from (suc at) =
    last_step from at (last_of ks n at) (enumerates ks at && is_name n (kind_at ks at)) (declared_in ks n from at) (last_le ks n at)
    (declared_last ks n from at)

-- of a name that isn't hidden it is the same under flags
name_shaded : (hidden : List Bool) → (n : ℕ) → slice_index_or hidden n false ≡ false → (k : Kind) → is_name n (shade hidden k) ≡ is_name n k
name_shaded hidden n h (TypeName m) = by (slice_index_or hidden m false) refl (m == n) refl
  where
    by : (b : Bool) → b ≡ slice_index_or hidden m false → (c : Bool) → c ≡ (m == n) → is_name n (if b then Identifier else TypeName m) ≡ (m == n)
    by false e c d = refl
    by true e false d = d
    by true e true d =
        let same : m ≡ n = eqb-true m n (sym d) in
        absurd (true≢false (e ∙ ap (λ x. slice_index_or hidden x false) same ∙ h))
name_shaded hidden n h _ = refl

last_shaded : (hidden : List Bool) → (ks : List Kind) → (n : ℕ) → slice_index_or hidden n false ≡ false → (at : ℕ)
    → last_of (map (shade hidden) ks) n at ≡ last_of ks n at
last_shaded hidden ks n h zero = refl
last_shaded hidden ks n h (suc at) =
    ap (λ b. if b && is_name n (kind_at (map (shade hidden) ks) at) then at + 1 else last_of (map (shade hidden) ks) n at)
    (enumerates_alike (map (shade hidden) ks) ks (shaded_alike hidden ks) at)
    ∙ ap (λ b. if enumerates ks at && b then at + 1 else last_of (map (shade hidden) ks) n at)
    (ap (is_name n) (shaded_at hidden ks at) ∙ name_shaded hidden n h (kind_at ks at))
    ∙ ap (λ l. if enumerates ks at && is_name n (kind_at ks at) then at + 1 else l) (last_shaded hidden ks n h at)

-- what a token is in a part, by what the code keeps
kind_forced : (hidden : List Bool) → (ks : List Kind) → (from at : ℕ) → (k : Kind)
    → in_force (map (shade hidden) ks) from at (shade hidden k) ≡ forced hidden (earlier_by ks k at) from k
kind_forced hidden ks from at (TypeName n) = by (slice_index_or hidden n false) refl
  where
    by : (b : Bool) → b ≡ slice_index_or hidden n false
        → in_force (map (shade hidden) ks) from at (if b then Identifier else TypeName n) ≡ force (last_of ks n at) from (if b then Identifier else TypeName n)
    by true e = refl
    by false e =
        ap (λ c. if c then Identifier else TypeName n)
        (declared_last (map (shade hidden) ks) n from at ∙ ap (nat_lt from) (last_shaded hidden ks n (sym e) at))
kind_forced hidden ks from at _ = refl

pub view_at : (hidden : List Bool) → (ks : List Kind) → (from at : ℕ)
    → kind_at (settle (map (shade hidden) ks) from) at ≡ forced hidden (earlier ks at) from (kind_at ks at)
view_at hidden ks from at =
    settle_at (map (shade hidden) ks) from at
    ∙ ap (in_force (map (shade hidden) ks) from at) (shaded_at hidden ks at)
    ∙ kind_forced hidden ks from at (kind_at ks at)

pub view_enumerates : (hidden : List Bool) → (ks : List Kind) → (from at : ℕ) → enumerates (settle (map (shade hidden) ks) from) at ≡ enumerates ks at
view_enumerates hidden ks from at =
    enumerates_alike (settle (map (shade hidden) ks) from) (map (shade hidden) ks) (settled_alike (map (shade hidden) ks) from) at
    ∙ enumerates_alike (map (shade hidden) ks) ks (shaded_alike hidden ks) at

-- lists of the same length that have the same at each place
pub same_list : (ks us : List Kind) → length ks ≡ length us → ((at : ℕ) → kind_at ks at ≡ kind_at us at) → ks ≡ us
same_list [] [] e h = refl
same_list [] (u ∷ us) e h = absurd (omega (arith, e))
same_list (k ∷ ks) [] e h = absurd (omega (arith, e))
same_list (k ∷ ks) (u ∷ us) e h =
    ap (λ x. x ∷ ks) (h 0) ∙ ap (λ xs. u ∷ xs) (same_list ks us (omega (arith, e)) (λ at. h (suc at)))

force_under : (earlier from n : ℕ) → (b : Bool)
    → force earlier from (if b then Identifier else TypeName n) ≡ (if b then Identifier else (if nat_lt from earlier then Identifier else TypeName n))
force_under earlier from n true = refl
force_under earlier from n false = refl

hidden_under : (w n : ℕ) → (c : Bool)
    → (if c then Identifier else (if n == w then Identifier else TypeName n)) ≡ hidden_one w (if c then Identifier else TypeName n)
hidden_under w n true = refl
hidden_under w n false = refl

swapped : (n : ℕ) → (b c : Bool)
    → (if b then Identifier else (if c then Identifier else TypeName n)) ≡ (if c then Identifier else (if b then Identifier else TypeName n))
swapped n true true = refl
swapped n true false = refl
swapped n false true = refl
swapped n false false = refl

force_hidden : (earlier from w : ℕ) → (k : Kind) → force earlier from (hidden_one w k) ≡ hidden_one w (force earlier from k)
force_hidden earlier from w (TypeName n) =
    force_under earlier from n (n == w) ∙ swapped n (n == w) (nat_lt from earlier) ∙ hidden_under w n (nat_lt from earlier)
force_hidden earlier from w _ = refl

-- one more name is hidden
pub view_hides : (old new : List Bool) → (w : ℕ) → ((n : ℕ) → slice_index_or new n false ≡ ((n == w) || slice_index_or old n false)) → (ks : List Kind)
    → (from : ℕ) → settle (map (shade new) ks) from ≡ hide_word (settle (map (shade old) ks) from) w
view_hides old new w h ks from =
    let before = settle (map (shade old) ks) from in
    let long : length (settle (map (shade new) ks) from) ≡ length (hide_word before w) =
    settle_length (map (shade new) ks) from
    ∙ shaded_length new ks
    ∙ sym (shaded_length old ks)
    ∙ sym (settle_length (map (shade old) ks) from)
    ∙ sym (word_length before w) in
    same_list (settle (map (shade new) ks) from) (hide_word before w) long
    (λ at.
    view_at new ks from at
    ∙ ap (force (earlier ks at) from) (one_more old new w h (kind_at ks at))
    ∙ force_hidden (earlier ks at) from w (shade old (kind_at ks at))
    ∙ ap (hidden_one w) (sym (view_at old ks from at))
    ∙ sym (word_at before w at))

-- behind a part
room : (at to : ℕ) → at < to → to - at ≡ suc (to - (at + 1))
room at to h = omega (arith, h)

no_room : (at to : ℕ) → (at < to → ⊥) → to - at ≡ 0
no_room at to n = omega (arith, n)

-- by its numbers as by its places
pub numbers_range : (w : Words) → (ns : List ℕ) → (a b : ℕ) → Spans ns a b → past_numbers w ns ≡ past_range w a (b - a)
numbers_range w [] a b h = ap (past_range w a) (sym (no_room a b (λ l. omega (arith, l, h))))
numbers_range w (n ∷ ns) a b h =
    ap (λ x. past_numbers (past_one w x) ns) h.0
    ∙ numbers_range (past_one w a) ns (a + 1) b h.1
    ∙ ap (past_range w a) (sym (room a b (omega (arith, spans_forth ns (a + 1) b h.1))))

-- what the loop over the tokens of a part keeps
abbrev pub Passes : Words → ℕ → ℕ → Words → ℕ → Type 0
Passes start from to w at = past_range start from (to - from) ≡ past_range w at (to - at)

pub passes_turn : (start w next : Words) → (from to at : ℕ) → at < to → Passes start from to w at → next ≡ past_one w at → Passes start from to next (at + 1)
passes_turn start w next from to at i loop is =
    loop ∙ ap (past_range w at) (room at to i) ∙ ap (λ x. past_range x (at + 1) (to - (at + 1))) (sym is)

pub passes_end : (start w : Words) → (from to at : ℕ) → (at < to → ⊥) → Passes start from to w at → w ≡ past_range start from (to - from)
passes_end start w from to at n loop = sym (loop ∙ ap (past_range w at) (no_room at to n))

pub past_here : (w next : Words) → (at : ℕ) → enumerates w.kinds at ≡ true → next ≡ declared w false at → next ≡ past_one w at
past_here w next at e is = is ∙ ap (λ b. if b then declared w false at else w) (sym e)

pub past_there : (w : Words) → (at : ℕ) → enumerates w.kinds at ≡ false → w ≡ past_one w at
past_there w at e = ap (λ b. if b then declared w false at else w) (sym e)

-- lists that grow at their end
front_kept : {A : Type 0} → (xs : List A) → (x d : A) → (i : ℕ) → i < length xs → slice_index_or (xs ++ x ∷ []) i d ≡ slice_index_or xs i d
front_kept [] x d i h = absurd (omega (arith, h))
front_kept (y ∷ ys) x d zero h = refl
front_kept (y ∷ ys) x d (suc i) h = front_kept ys x d i (omega (arith, h))

last_is : {A : Type 0} → (xs : List A) → (x d : A) → slice_index_or (xs ++ x ∷ []) (length xs) d ≡ x
last_is [] x d = refl
last_is (y ∷ ys) x d = last_is ys x d

none_behind : {A : Type 0} → (xs : List A) → (d : A) → (i : ℕ) → length xs ≤ i → slice_index_or xs i d ≡ d
none_behind [] d i h = refl
none_behind (y ∷ ys) d zero h = absurd (omega (arith, h))
none_behind (y ∷ ys) d (suc i) h = none_behind ys d i (omega (arith, h))

-- one more of a list that has f i at each i
upto : (i at : ℕ) → i < at + 1 → i ≤ at
upto i at h = omega (arith, h)

grown : {A : Type 0} → (f : ℕ → A) → (xs more : List A) → (x d : A) → (at : ℕ) → length xs ≡ at → ((i : ℕ) → i < at → slice_index_or xs i d ≡ f i) → x ≡ f at
    → more ≡ xs ++ x ∷ [] → (i : ℕ) → i < at + 1 → slice_index_or more i d ≡ f i
grown f xs more x d at c h e g i l =
    elim (eq-or-lt_of_le (upto i at l)) [
      | inl same ↦ ap (λ ys. slice_index_or ys i d) g ∙ ap (λ j. slice_index_or (xs ++ x ∷ []) j d) (same ∙ sym c) ∙ last_is xs x d ∙ e ∙ ap f (sym same)
      | inr less ↦ ap (λ ys. slice_index_or ys i d) g ∙ front_kept xs x d i (omega (arith, less, c)) ∙ h i less
    ]

grown_length : {A : Type 0} → (xs more : List A) → (x : A) → (at : ℕ) → length xs ≡ at → more ≡ xs ++ x ∷ [] → length more ≡ at + 1
grown_length xs more x at c g = ap length g ∙ length-snoc xs x ∙ ap suc c ∙ omega arith
  where
    length-snoc : {A : Type 0} → (xs : List A) → (x : A) → length (xs ++ x ∷ []) ≡ suc (length xs)
    length-snoc [] x = refl
    length-snoc (y ∷ ys) x = ap suc (length-snoc ys x)

whole : {A : Type 0} → (f : ℕ → A) → (xs : List A) → (d : A) → (at long : ℕ) → length xs ≡ at → at ≡ long → ((i : ℕ) → i < at → slice_index_or xs i d ≡ f i)
    → ((i : ℕ) → long ≤ i → f i ≡ d) → (i : ℕ) → slice_index_or xs i d ≡ f i
whole f xs d at long c e h n i =
    elim (lt-or-le i at) [
      | inl less ↦ h i less
      | inr le ↦ none_behind xs d i (omega (arith, le, c)) ∙ sym (n i (omega (arith, le, e)))
    ]
  where
    lt-or-le : (i at : ℕ) → (i < at) ⊎ (at ≤ i)
    lt-or-le i zero = inr (omega arith)
    lt-or-le zero (suc at) = inl (omega arith)
    lt-or-le (suc i) (suc at) =
        elim (lt-or-le i at) [
          | inl a ↦ inl (omega (arith, a))
          | inr b ↦ inr (omega (arith, b))
        ]

-- behind all tokens
behind_all : (ks : List Kind) → (at : ℕ) → length ks ≤ at → kind_at ks at ≡ End
behind_all [] at h = refl
behind_all (k ∷ ks) zero h = absurd (omega (arith, h))
behind_all (k ∷ ks) (suc at) h = behind_all ks at (omega (arith, h))

no_word : (b c : Bool) → (b && (false && c)) ≡ false
no_word true c = refl
no_word false c = refl

enumerates_behind : (ks : List Kind) → (at : ℕ) → length ks ≤ at → enumerates ks at ≡ false
unfolding is_constant
enumerates_behind ks at h =
    ap (λ k. innermost (open_at ks at) && (is_word k && (is_brace (kind_at ks (at - 1)) || is_comma (kind_at ks (at - 1))))) (behind_all ks at h)
    ∙ no_word (innermost (open_at ks at)) (is_brace (kind_at ks (at - 1)) || is_comma (kind_at ks (at - 1)))

earlier_behind : (ks : List Kind) → (at : ℕ) → length ks ≤ at → earlier ks at ≡ 0
earlier_behind ks at h = ap (λ k. earlier_by ks k at) (behind_all ks at h)

-- the next token
next_is : (at : ℕ) → suc at ≡ at + 1
next_is at = omega arith

-- what the loops over all tokens keep
pub record Marked (ks : List Kind) (constants levels : List Bool) (at : ℕ) : Type 0 where
  pub count : length constants ≡ at
  pub each : (i : ℕ) → i < at → slice_index_or constants i false ≡ enumerates ks i
  pub stands : levels ≡ open_at ks at
  pub within : at ≤ length ks

pub marked_start : (ks : List Kind) → Marked ks [] [] 0
marked_start ks = record { count = refl; each = λ i l. absurd (omega (arith, l)); stands = refl; within = omega arith }

pub marked_turn : (ks : List Kind) → (constants more levels next : List Bool) → (at : ℕ) → Marked ks constants levels at → at < length ks → (b : Bool)
    → b ≡ enumerates ks at → more ≡ constants ++ b ∷ [] → next ≡ open_behind levels (kind_at ks at) (opens_list ks at) → Marked ks more next (at + 1)
marked_turn ks constants more levels next at loop i b e g s = record {
  count = grown_length constants more b at loop.count g;
  each = grown (enumerates ks) constants more b false at loop.count loop.each e g;
  stands = s ∙ ap (λ xs. open_behind xs (kind_at ks at) (opens_list ks at)) loop.stands ∙ ap (open_at ks) (next_is at);
  within = omega (arith, i);
}

pub marked_end : (ks : List Kind) → (constants levels : List Bool) → (at : ℕ) → Marked ks constants levels at → (at < length ks → ⊥) → (i : ℕ)
    → slice_index_or constants i false ≡ enumerates ks i
marked_end ks constants levels at loop n =
    whole (enumerates ks) constants false at (length ks) loop.count (omega (arith, n, loop.within)) loop.each (enumerates_behind ks)

pub record Knowing (ks : List Kind) (behind latest : List ℕ) (at : ℕ) : Type 0 where
  pub count : length behind ≡ at
  pub each : (i : ℕ) → i < at → slice_index_or behind i 0 ≡ earlier ks i
  pub names : (n : ℕ) → slice_index_or latest n 0 ≡ last_of ks n at
  pub within : at ≤ length ks

pub knowing_start : (ks : List Kind) → Knowing ks [] [] 0
knowing_start ks = record { count = refl; each = λ i l. absurd (omega (arith, l)); names = λ n. refl; within = omega arith }

known_is : (ks : List Kind) → (latest : List ℕ) → (at : ℕ) → ((n : ℕ) → slice_index_or latest n 0 ≡ last_of ks n at) → (k : Kind) → known latest k ≡ earlier_by ks k at
known_is ks latest at h (TypeName n) = h n
known_is ks latest at h _ = refl

pub knowing_turn : (ks : List Kind) → (behind more latest next : List ℕ) → (at : ℕ) → Knowing ks behind latest at → at < length ks → (b : Bool)
    → b ≡ enumerates ks at → (x : ℕ) → x ≡ known latest (kind_at ks at)
    → ((n : ℕ) → slice_index_or next n 0 ≡ (if b && is_name n (kind_at ks at) then at + 1 else slice_index_or latest n 0)) → more ≡ behind ++ x ∷ []
    → Knowing ks more next (at + 1)
knowing_turn ks behind more latest next at loop i b e x k s g = record {
  count = grown_length behind more x at loop.count g;
  each = grown (earlier ks) behind more x 0 at loop.count loop.each (k ∙ known_is ks latest at loop.names (kind_at ks at)) g;
  names = λ n.
      s n
      ∙ ap (λ c. if c && is_name n (kind_at ks at) then at + 1 else slice_index_or latest n 0) e
      ∙ ap (λ y. if enumerates ks at && is_name n (kind_at ks at) then at + 1 else y) (loop.names n)
      ∙ ap (last_of ks n) (next_is at);
  within = omega (arith, i);
}

pub knowing_end : (ks : List Kind) → (behind latest : List ℕ) → (at : ℕ) → Knowing ks behind latest at → (at < length ks → ⊥) → (i : ℕ)
    → slice_index_or behind i 0 ≡ earlier ks i
knowing_end ks behind latest at loop n =
    whole (earlier ks) behind 0 at (length ks) loop.count (omega (arith, n, loop.within)) loop.each (earlier_behind ks)

-- no flag turns back
plus_none : (at : ℕ) → at ≡ at + zero
plus_none at = omega arith

plus_next : (at more : ℕ) → suc (at + more) ≡ at + suc more
plus_next at more = omega arith

or_right : (b c : Bool) → c ≡ true → (b || c) ≡ true
or_right true c h = refl
or_right false c h = h

bars_more : (ks : List Kind) → (from at more : ℕ) → bars ks from at ≡ true → bars ks from (at + more) ≡ true
bars_more ks from at zero h = ap (bars ks from) (sym (plus_none at)) ∙ h
bars_more ks from at (suc more) h =
    ap (bars ks from) (sym (plus_next at more))
    ∙ or_right
    (nat_lt from (at + more + 1) && (enumerates ks (at + more) && is_typedef (kind_at ks (at + more))))
    (bars ks from (at + more))
    (bars_more ks from at more h)

pub bars_here : (ks : List Kind) → (from at to : ℕ) → from ≤ at → at < to → (enumerates ks at && is_typedef (kind_at ks at)) ≡ true → true ≡ bars ks from to
bars_here ks from at to le lt h =
    let first : nat_lt from (at + 1) ≡ true = lt-ltb from (at + 1) (omega (arith, le)) in
    let here : bars ks from (suc at) ≡ true =
    ap (λ b. (b && (enumerates ks at && is_typedef (kind_at ks at))) || bars ks from at) first
    ∙ ap (λ b. (true && b) || bars ks from at) h in
    let long : suc at + (to - (at + 1)) ≡ to = omega (arith, lt) in
    sym (sym (ap (bars ks from) long) ∙ bars_more ks from (suc at) (to - (at + 1)) here)

-- none so far
pub bars_not : (ks : List Kind) → (from at : ℕ) → bars ks from at ≡ false → (enumerates ks at && is_typedef (kind_at ks at)) ≡ false
    → bars ks from (at + 1) ≡ false
bars_not ks from at h n =
    ap (bars ks from) (sym (next_is at))
    ∙ ap (λ b. (nat_lt from (at + 1) && b) || bars ks from at) n
    ∙ none (nat_lt from (at + 1))
    ∙ h
  where
    none : (c : Bool) → ((c && false) || bars ks from at) ≡ bars ks from at
    none true = refl
    none false = refl

-- and none at the end
pub bars_end : (ks : List Kind) → (from at to : ℕ) → bars ks from at ≡ false → (at < to → ⊥) → false ≡ bars ks from to
bars_end ks from at to h n = by (bars ks from to) refl
  where
    by : (b : Bool) → b ≡ bars ks from to → false ≡ b
    by false e = refl
    by true e =
        let long : to + (at - to) ≡ at = omega (arith, n) in
        absurd (true≢false (sym (bars_more ks from to (at - to) (sym e)) ∙ ap (bars ks from) long ∙ h))

pub bars_start : (ks : List Kind) → (from : ℕ) → (at : ℕ) → at ≤ from → bars ks from at ≡ false
bars_start ks from zero le = refl
bars_start ks from (suc at) le = early (nat_lt from (at + 1)) refl ∙ bars_start ks from at (omega (arith, le))
  where
    early : (b : Bool) → b ≡ nat_lt from (at + 1) → ((b && (enumerates ks at && is_typedef (kind_at ks at))) || bars ks from at) ≡ bars ks from at
    early false e = refl
    early true e = absurd (omega (arith, ltb-true from (at + 1) (sym e), le))

pub view_length : (hidden : List Bool) → (ks : List Kind) → (from : ℕ) → length ks ≡ length (settle (map (shade hidden) ks) from)
view_length hidden ks from = sym (settle_length (map (shade hidden) ks) from ∙ shaded_length hidden ks)

pub marked_start_with : (ks : List Kind) → (constants levels : List Bool) → constants ≡ [] → levels ≡ [] → Marked ks constants levels 0
marked_start_with ks constants levels c l =
    subst (λ xs. Marked ks xs levels 0) (sym c) (subst (λ xs. Marked ks [] xs 0) (sym l) (marked_start ks))

pub knowing_start_with : (ks : List Kind) → (behind latest : List ℕ) → behind ≡ [] → latest ≡ [] → Knowing ks behind latest 0
knowing_start_with ks behind latest b l =
    subst (λ xs. Knowing ks xs latest 0) (sym b) (subst (λ xs. Knowing ks [] xs 0) (sym l) (knowing_start ks))

-- where a part begins nothing is hidden yet
not_yet : (ks : List Kind) → (n from at : ℕ) → at ≤ from → declared_in ks n from at ≡ false
not_yet ks n from zero le = refl
not_yet ks n from (suc at) le = early (nat_lt from (at + 1)) refl ∙ not_yet ks n from at (omega (arith, le))
  where
    early : (b : Bool) → b ≡ nat_lt from (at + 1)
        → ((b && (enumerates ks at && is_name n (kind_at ks at))) || declared_in ks n from at) ≡ declared_in ks n from at
    early false e = refl
    early true e = absurd (omega (arith, ltb-true from (at + 1) (sym e), le))

own_kind : (ks : List Kind) → (at : ℕ) → (k : Kind) → in_force ks at at k ≡ k
own_kind ks at (TypeName n) = ap (λ b. if b then Identifier else TypeName n) (not_yet ks n at at (omega arith))
own_kind ks at _ = refl

pub own_start : (ks : List Kind) → (at : ℕ) → kind_at (settle ks at) at ≡ kind_at ks at
own_start ks at = settle_at ks at at ∙ own_kind ks at (kind_at ks at)

level_forced : (ks : List Kind) → (from at : ℕ) → (k : Kind) → level_of (in_force ks from at k) ≡ level_of k
level_forced ks from at (TypeName n) = either (declared_in ks n from at)
  where
    either : (b : Bool) → level_of (if b then Identifier else TypeName n) ≡ 0
    either true = refl
    either false = refl
level_forced ks from at _ = refl

pub level_settled : (ks : List Kind) → (from at : ℕ) → level_of (kind_at (settle ks from) at) ≡ level_of (kind_at ks at)
level_settled ks from at = ap level_of (settle_at ks from at) ∙ level_forced ks from at (kind_at ks at)

-- a token that may be a typedef name, and one that isn't
pub plain_forced : (hidden : List Bool) → (e from : ℕ) → (k : Kind) → ((n : ℕ) → k ≡ TypeName n → ⊥) → k ≡ forced hidden e from k
plain_forced hidden e from (TypeName n) u = absurd (u n refl)
plain_forced hidden e from _ u = refl

pub inside_as : (ks us : List Kind) → length us ≡ length ks → (at : ℕ) → (k : Kind) → IsInside us at k → IsInside ks at k
inside_as ks us e at End h = tt
inside_as ks us e at _ h = subst (λ n. at < n) e h

pub forced_inside : (hidden : List Bool) → (e from : ℕ) → (us : List Kind) → (at : ℕ) → (k : Kind) → IsInside us at k → IsInside us at (forced hidden e from k)
forced_inside hidden e from us at (TypeName n) h = either (slice_index_or hidden n false)
  where
    late : (c : Bool) → IsInside us at (if c then Identifier else TypeName n)
    late true = h
    late false = h

    either : (b : Bool) → IsInside us at (force e from (if b then Identifier else TypeName n))
    either true = h
    either false = late (nat_lt from e)
forced_inside hidden e from us at _ h = h
