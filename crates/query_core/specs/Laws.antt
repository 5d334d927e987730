-- Laws of a graph: what its records hold, and what several demands of one revision do.
use Rattle.std.specs.Prelude.{◌≡◌, ℕ, true, false, List, [], ◌∷◌, ◌++◌, Some}
use Rattle.query_core.specs.Lists.{Has}
use Rattle.query_core.specs.Queries.{Queries}
use Rattle.query_core.specs.Graph.{Held, record_of, inputs, is_verified}
use Rattle.query_core.specs.Soundness.{IsSound, IsUnswept}
use Rattle.query_core.specs.Due.{IsDue}
use Rattle.query_core.specs.Changes.{IsReached, IsHolding, Walked, WalkedBy}
use Rattle.query_core.specs.Node.{Node}

-- one of the roots reaches the key by what runs read
abbrev pub IsReachedFrom : {K : Type 0} → (K → List K) → List K → K → Type 0
IsReachedFrom {K = K} asks roots k = (root : K) × (Has roots root × IsReached asks root k)

module _ {K V : Type 0} where
  -- What demands of these roots have done, one after the other in one revision, refused ones too: what `demand` says of one root, by
  -- all of them. So each key that ran is reached from one of them, and wasn't verified and was due before the first.
  abbrev pub Demanded : Queries K V → Held K V → List K → Held K V → Type 0
  Demanded q old roots new = WalkedBy q old (IsReachedFrom (q.asks (inputs q old)) roots) new

module _ {K V : Type 0} (q : Queries K V) where
  -- what is verified now holds its value over the inputs
  abbrev pub VerifiedHolds : Type 0
  VerifiedHolds = (g : Held K V) → IsSound q g → (k : K) → is_verified q g k ≡ true → (r : Node K V) × ((record_of q g k ≡ Some r) × (r.value ≡ q.val (inputs q g) k))

  -- no demand has done nothing
  abbrev pub DemandsBegin : Type 0
  DemandsBegin = (g : Held K V) → IsSound q g → IsUnswept q g → Demanded q g [] g

  -- one more demand
  abbrev pub DemandsGoOn : Type 0
  DemandsGoOn = (g0 g1 g2 : Held K V) (roots : List K) (root : K) → IsSound q g0 → Demanded q g0 roots g1 → Walked q g1 root g2 → Demanded q g0 (roots ++ root ∷ []) g2

  -- what isn't verified and is due after demands was due before them
  abbrev pub DueBefore : Type 0
  DueBefore = (g0 g1 : Held K V) (roots : List K) → IsSound q g0 → Demanded q g0 roots g1 → (k : K) → q.is_input k ≡ false → is_verified q g1 k ≡ false → IsDue q g1 (inputs q g1) k
      → IsDue q g0 (inputs q g0) k

  -- what is verified now stays so in the demands behind it
  abbrev pub VerifiedOn : Type 0
  VerifiedOn = (g1 g2 : Held K V) (root : K) → IsSound q g1 → Walked q g1 root g2 → (k : K) → is_verified q g1 k ≡ true → is_verified q g2 k ≡ true

  -- what a demand holds, stays held in the demands behind it
  abbrev pub HeldOn : Type 0
  HeldOn = (g0 g1 g2 : Held K V) (root : K) (k : K) (node : ℕ) → IsSound q g1 → inputs q g1 ≡ inputs q g0 → Walked q g1 root g2 → IsHolding q g0 g1 k node → IsHolding q g0 g2 k node
