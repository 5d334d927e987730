-- A line end behind some characters changes no piece at their front, but for an open comment, which takes it.
use Rattle.std.proofs.Common.{◌≡◌, ℕ, zero, suc, ◌+◌, ◌<◌, ◌≤◌, Bool, true, false, ◌&&◌, List, [], ◌∷◌, ◌++◌, length, drop, refl, ap, ◌∙◌, arith, Option, Some, None, slice_index, ◌==◌}
use Rattle.std.specs.Prelude.{⊤}
use Rattle.std.proofs.lemmas.List.{drop-append-le, get_or_append_left}
use Rattle.c_tokens.specs.declared.pieces.Class.TheVariants.{OpenComment}
use Rattle.c_tokens.specs.declared.pieces.Context.{Context}
use Rattle.c_tokens.specs.declared.pieces.Context.TheVariants.{Fresh, Hash, Include, Later}
use Rattle.c_tokens.specs.declared.classes.State.TheVariants.{Word, Digits, Text, HeaderFront}
use Rattle.c_tokens.specs.Classes.{is_digit, is_pair, longest_of_four, punctuator_size}
use Rattle.c_tokens.specs.Pieces.{Front, front_token, header_or_token, header_size, token_front, literal_prefix, literal_at, literal_or_plain, plain_front, punctuator_or_stray, is_quote, is_prefix, closing_of}
use Rattle.c_tokens.proofs.FrontLemmas.{if_cases}
use Rattle.c_tokens.proofs.Boundaries.{within_from_some}
use Rattle.c_tokens.proofs.ClosedRuns.{see, closed_run, closed_last}

same_punctuator : (x : ℕ) (xs : List ℕ) → punctuator_size (x ∷ xs ++ 10 ∷ []) ≡ punctuator_size (x ∷ xs)
unfolding longest_of_four is_pair
same_punctuator x xs =
    let b : ℕ = slice_index xs 0 in
    let c : ℕ = slice_index xs 1 in
    let c' : ℕ = slice_index (xs ++ 10 ∷ []) 1 in
    let d' : ℕ = slice_index (xs ++ 10 ∷ []) 2 in
    see (λ v. longest_of_four x v c' d') xs 0 refl ∙ (see (λ v. longest_of_four x b v d') xs 1 refl ∙ see (λ v. longest_of_four x b c v) xs 2 refl)

same_other : (x : ℕ) (xs : List ℕ) → punctuator_or_stray (x ∷ xs ++ 10 ∷ []) ≡ punctuator_or_stray (x ∷ xs)
unfolding punctuator_or_stray
same_other x xs = rw (same_punctuator x xs) refl

same_plain : (x : ℕ) (xs : List ℕ) → plain_front (x ∷ xs ++ 10 ∷ []) ≡ plain_front (x ∷ xs)
unfolding plain_front
same_plain x xs = rw (closed_run (x ∷ xs) Word refl, closed_run (x ∷ xs) Digits refl, see is_digit xs 0 refl, same_other x xs) refl

same_prefix : (x : ℕ) (xs : List ℕ) → literal_prefix (x ∷ xs ++ 10 ∷ []) ≡ literal_prefix (x ∷ xs)
unfolding literal_prefix
same_prefix x xs = rw (see is_quote xs 0 refl, see (λ v. v == 56) xs 0 refl, see (λ v. v == 34) xs 1 refl) refl

-- a quote stands within the characters
abbrev pub PlaceWithin : List ℕ → Option ℕ → Type 0
PlaceWithin cs None = ⊤
PlaceWithin cs (Some place) = place < length cs

quote_within : (cs : List ℕ) (k : ℕ) → is_quote (slice_index cs k) ≡ true → k < length cs
quote_within cs k e = within_from_some cs k (some (slice_index cs k) e)
  where
    some : (c : ℕ) → is_quote c ≡ true → 0 < c
    some zero e = cc e
    some (suc c) e = omega arith

pub prefix_within : (cs : List ℕ) → PlaceWithin cs (literal_prefix cs)
unfolding literal_prefix
prefix_within cs = if_cases (PlaceWithin cs) (is_quote (slice_index cs 0)) _ _ (λ e. quote_within cs 0 e)
    (λ _. if_cases (PlaceWithin cs) (is_prefix (slice_index cs 0) && is_quote (slice_index cs 1)) _ _ (λ e. quote_within cs 1 (second (is_prefix (slice_index cs 0)) (is_quote (slice_index cs 1)) e))
    (λ _. if_cases (PlaceWithin cs) (slice_index cs 0 == 117 && slice_index cs 1 == 56 && slice_index cs 2 == 34) _ _
    (λ e. within_from_some cs 2 (some (slice_index cs 2) (second (slice_index cs 0 == 117 && slice_index cs 1 == 56) (slice_index cs 2 == 34) e))) (λ _. tt)))
  where
    second : (a b : Bool) → a && b ≡ true → b ≡ true
    second true b e = e
    second false b e = cc e

    some : (c : ℕ) → c == 34 ≡ true → 0 < c
    some zero e = cc e
    some (suc c) e = omega arith

same_literal : (cs : List ℕ) (place : ℕ) → place < length cs → literal_at (cs ++ 10 ∷ []) place ≡ literal_at cs place
unfolding literal_at
same_literal cs place within =
    let less : place + 1 ≤ length cs = omega (arith, within) in
    rw (
      get_or_append_left cs (10 ∷ []) 0 place within,
      drop-append-le (place + 1) cs (10 ∷ []) less,
      closed_run (drop (place + 1) cs) (Text (slice_index cs place)) refl,
      closed_last (drop (place + 1) cs) (Text (slice_index cs place)) refl,
    ) refl

token_by : (x : ℕ) (xs : List ℕ) (o : Option ℕ) → PlaceWithin (x ∷ xs) o → literal_or_plain o (x ∷ xs ++ 10 ∷ []) ≡ literal_or_plain o (x ∷ xs)
token_by x xs None within = same_plain x xs
token_by x xs (Some place) within = same_literal (x ∷ xs) place within

same_token : (x : ℕ) (xs : List ℕ) → token_front (x ∷ xs ++ 10 ∷ []) ≡ token_front (x ∷ xs)
unfolding token_front
same_token x xs = ap (λ (o : Option ℕ). literal_or_plain o (x ∷ xs ++ 10 ∷ [])) (same_prefix x xs) ∙ token_by x xs (literal_prefix (x ∷ xs)) (prefix_within (x ∷ xs))

same_header_size : (x : ℕ) (xs : List ℕ) → header_size (x ∷ xs ++ 10 ∷ []) ≡ header_size (x ∷ xs)
unfolding header_size
same_header_size x xs = rw (closed_run xs (HeaderFront (closing_of x)) refl, closed_last xs (HeaderFront (closing_of x)) refl) refl

same_header : (x : ℕ) (xs : List ℕ) → header_or_token (x ∷ xs ++ 10 ∷ []) ≡ header_or_token (x ∷ xs)
unfolding header_or_token
same_header x xs = rw (same_header_size x xs, same_token x xs) refl

pub same_front_token : (context : Context) (x : ℕ) (xs : List ℕ) → front_token context (x ∷ xs ++ 10 ∷ []) ≡ front_token context (x ∷ xs)
same_front_token Include x xs = same_header x xs
same_front_token Fresh x xs = same_token x xs
same_front_token Hash x xs = same_token x xs
same_front_token Later x xs = same_token x xs

-- an open comment takes the line end too
pub record Takes (before after : Front) (n : ℕ) : Type 0 where
  pub open_before : before.class ≡ OpenComment
  pub all_before : before.size ≡ n
  pub open_after : after.class ≡ OpenComment
  pub all_after : after.size ≡ n + 1
