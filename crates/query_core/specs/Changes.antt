-- What the calls of a graph do to it.
use Rattle.std.specs.Prelude.{◌≡◌, ◌≢◌, ℕ, ◌<◌, true, false, List, [], ◌++◌, length, drop, cond, Option, Some, None, ◌⊎◌, MatchOption}
use Rattle.query_core.specs.Lists.{Has, Each}
use Rattle.query_core.specs.Queries.{Queries}
use Rattle.query_core.specs.Graph.{Held, at, node_of, record_of, inputs, is_current, is_verified}
use Rattle.query_core.specs.Soundness.{IsSound, IsUnswept}
use Rattle.query_core.specs.Due.{IsDue}
use Rattle.query_core.specs.Node.{Node}

-- the key is reached from the root by what runs read
pub data IsReached {K : Type 0} (asks : K → List K) (root : K) : K → Type 0 where
  itself : IsReached asks root root
  along : (k d : K) → IsReached asks root k → Has (asks k) d → IsReached asks root d

module _ {K V : Type 0} where
  -- no record but inputs was verified in this revision
  abbrev pub IsFresh : Queries K V → Held K V → Type 0
  IsFresh q g = (i : ℕ) (r : Node K V) → at g i ≡ Some r → q.is_input r.key ≡ false → r.verified_at < g.revision

  -- the keys that were added to the runs
  abbrev pub ran : Held K V → Held K V → List K
  ran old new = drop (length old.runs) new.runs

  -- a key that ran: it is reached, and at entry it wasn't verified and was due
  pub record IsRunBy (q : Queries K V) (g : Held K V) (reached_by : K → Type 0) (k : K) : Type 0 where
    pub reached : reached_by k
    pub stale : is_verified q g k ≡ false
    pub due : IsDue q g (inputs q g) k

  -- it is reached from the demanded key
  abbrev pub IsRun : Queries K V → Held K V → K → K → Type 0
  IsRun q g root k = IsRunBy q g (IsReached (q.asks (inputs q g)) root) k

  -- the stamp of change moves to now exactly where the value differs
  abbrev pub Moves : ℕ → Node K V → Node K V → Type 0
  Moves now r s = ((s.value ≡ r.value) × (s.changed_at ≡ r.changed_at)) ⊎ ((s.value ≢ r.value) × (s.changed_at ≡ now))

  -- the record is as it was, but that it may have been verified now
  abbrev pub IsLeft : ℕ → Node K V → Option (Node K V) → Type 0
  IsLeft now r new = (new ≡ Some r) ⊎ (new ≡ Some (record r { verified_at = now }))

  -- the stamp of change of a new record is now, and that of a kept one moves by `Moves`
  abbrev pub IsStamped : ℕ → Option (Node K V) → Node K V → Type 0
  IsStamped now before s = MatchOption before (s.changed_at ≡ now) (λ r. Moves now r s)

  -- `new` is `old` with the record r at the node i, which is the node of its key or was free
  pub record Puts (q : Queries K V) (old new : Held K V) (i : ℕ) (r : Node K V) : Type 0 where
    pub here : at new i ≡ Some r
    pub others : (j : ℕ) → j ≢ i → at new j ≡ at old j
    pub numbers : (k : K) → node_of q new k ≡ cond (q.same r.key k) (Some i) (node_of q old k)
    pub place : (node_of q old r.key ≡ Some i) ⊎ ((at old i ≡ None) × (node_of q old r.key ≡ None))
    pub revision : new.revision ≡ old.revision

  -- What setting an input does: its record alone is put, with the value and stamped by `IsStamped`. So the inputs are as before but for this one.
  pub record SetsInput (q : Queries K V) (old new : Held K V) (k : K) (v : V) : Type 0 where
    pub node : ℕ
    pub entry : Node K V
    pub puts : Puts q old new node entry
    pub key : entry.key ≡ k
    pub value : entry.value ≡ v
    pub reads : entry.reads ≡ []
    pub stamped : IsStamped old.revision (record_of q old k) entry
    pub runs : new.runs ≡ old.runs
    pub given : (x : K) → inputs q new x ≡ cond (q.same k x) v (inputs q old x)

  -- What is left where these keys ran: they have their nodes, all other records stay, and the only other new records are those of
  -- inputs that are reached and that aren't set.
  pub record LeavesBy (q : Queries K V) (old new : Held K V) (reached : K → Type 0) (added : List K) : Type 0 where
    pub revision : new.revision ≡ old.revision
    pub runs : new.runs ≡ old.runs ++ added
    pub inputs_stay : inputs q new ≡ inputs q old
    pub rest : (i : ℕ) (r : Node K V) → at old i ≡ Some r → ¬ Has added r.key → IsLeft old.revision r (at new i)
    pub run : (i : ℕ) (r : Node K V) → at old i ≡ Some r → Has added r.key
        → (s : Node K V) × ((at new i ≡ Some s) × (s.key ≡ r.key) × Moves old.revision r s)
    pub fresh : (i : ℕ) (s : Node K V) → at old i ≡ None → at new i ≡ Some s
        → (s.changed_at ≡ old.revision) × (Has added s.key ⊎ ((q.is_input s.key ≡ true) × (s.value ≡ q.unset s.key) × reached s.key))

  -- what a demand of the root leaves
  abbrev pub Leaves : Queries K V → Held K V → Held K V → K → List K → Type 0
  Leaves q old new root added = LeavesBy q old new (IsReached (q.asks (inputs q old)) root) added

  -- the node holds the key's record: it was verified now, and has the value of the key
  abbrev pub IsHolding : Queries K V → Held K V → Held K V → K → ℕ → Type 0
  IsHolding q old new k node = (r : Node K V) × ((node_of q new k ≡ Some node) × (at new node ≡ Some r) × (r.key ≡ k) × (is_current q new r ≡ true) × (r.value ≡ q.val (inputs q old) k))

  -- what was done to the graph, by what was reached
  pub record WalkedBy (q : Queries K V) (g0 : Held K V) (reached : K → Type 0) (g : Held K V) : Type 0 where
    pub sound : IsSound q g
    pub unswept : IsUnswept q g
    pub leaves : LeavesBy q g0 g reached (ran g0 g)
    pub due : Each (IsRunBy q g0 reached) (ran g0 g)

  -- what a demand of the root has done, whether it was refused memory or not
  abbrev pub Walked : Queries K V → Held K V → K → Held K V → Type 0
  Walked q g0 root g = WalkedBy q g0 (IsReached (q.asks (inputs q g0)) root) g
