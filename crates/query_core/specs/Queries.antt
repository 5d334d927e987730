-- Queries: what the value of each key is, what a run of it reads, and the laws that tie the two.
use Rattle.std.specs.Prelude.{◌≡◌, ℕ, ◌<◌, Bool, true, false, List, [], ◌∷◌, ◌++◌, length, map, Option, Some, None, Result, Ok, Err}
use Rattle.query_core.specs.Lists.{Has}
use Rattle.query_core.specs.declared.rules.Step.{Step}
use Rattle.query_core.specs.declared.rules.Step.TheVariants.{Ask, Done}

-- A definition of queries over keys K and values V. `val`, `asks` and `rank` speak of any inputs, K → V.
pub record Queries (K V : Type 0) : Type 0 where
  -- whether two keys are the same
  pub same : K → K → Bool
  -- whether the key is an input: its value is set from outside, and it has no run
  pub is_input : K → Bool
  -- the value of an input that isn't set
  pub unset : K → V
  -- what the run of a key does next, after these answers in the order of asking
  pub step : K → List (K × V) → Step K V
  -- the value of a key
  pub val : (K → V) → K → V
  -- the keys that the run of a key reads, in the order of asking
  pub asks : (K → V) → K → List K
  -- how far a key stands above what it reads
  pub rank : (K → V) → K → ℕ

module _ {K V : Type 0} where
  -- the key that the step asks for first
  abbrev pub next_key : Step K V → Option K
  next_key (Ask []) = None
  next_key (Ask (k ∷ ks)) = Some k
  next_key (Done v) = None

  -- the value with which the step is done
  abbrev pub done_with : Step K V → Option V
  done_with (Ask ks) = None
  done_with (Done v) = Some v

  -- these keys, each with its value
  abbrev pub answers : (K → V) → List K → List (K × V)
  answers value keys = map (λ k. (k, value k)) keys

  -- with these keys left to read, the step asks for the next ones, at least one, or, where none is left, is done with the value
  abbrev pub GoesOn : List K → V → Step K V → Type 0
  GoesOn left value (Ask keys) = (0 < length keys) × ((more : List K) × (left ≡ keys ++ more))
  GoesOn left value (Done v) = (left ≡ []) × (v ≡ value)

  -- the run of the key has read the first of these answers
  abbrev pub HasReadFirst : {S : Type 0} → (K → S → List (K × V) → Type 0) → K → S → List (K × V) → Type 0
  HasReadFirst has_read k run had = (first more : List (K × V)) × ((had ≡ first ++ more) × has_read k run first)

  -- how often a call of `next` with this result counts: once where it is done
  abbrev pub ticks : {E : Type 0} → Result (Step K V) E → ℕ
  ticks (Ok (Ask keys)) = 0
  ticks (Ok (Done value)) = 1
  ticks (Err e) = 0

-- The laws of queries.
pub record AreLawful {K V : Type 0} (q : Queries K V) : Type 0 where
  -- keys that are the same by the test are the same
  pub same : (a b : K) → q.same a b ≡ true → a ≡ b
  pub same_self : (a : K) → q.same a a ≡ true
  -- an input has the value that it was given, and reads nothing
  pub inputs : (given : K → V) (k : K) → q.is_input k ≡ true → q.val given k ≡ given k
  pub inputs_read : (given : K → V) (k : K) → q.is_input k ≡ true → q.asks given k ≡ []
  -- over the values of the first keys of its list, a run goes on with the next ones, wherever the list is cut
  pub steps : (given : K → V) (k : K) → q.is_input k ≡ false → (first left : List K) → q.asks given k ≡ first ++ left
      → GoesOn left (q.val given k) (q.step k (answers (q.val given) first))
  -- what a key reads has a smaller rank
  pub ranks : (given : K → V) (k d : K) → Has (q.asks given k) d → q.rank given d < q.rank given k
