-- Records that count as verified now without a look at them: what they read counts so too, and hasn't changed.
use Rattle.std.specs.Prelude.{◌≡◌, ℕ, ◌<◌, ◌≤◌, Bool, true, false, List, slice_index_or, Some, None, ◌⊎◌}
use Rattle.query_core.specs.Lists.{Has}
use Rattle.query_core.specs.Queries.{Queries}
use Rattle.query_core.specs.Graph.{Held, at, node_of}
use Rattle.query_core.specs.Soundness.{IsSound}
use Rattle.query_core.specs.Cycles.{HasNoCycle}
use Rattle.query_core.specs.Node.{Node}

-- the record at the node is clean by these marks
abbrev pub mark_at : List Bool → ℕ → Bool
mark_at clean i = slice_index_or clean i false

module _ {K V : Type 0} where
  -- what a clean record reads is an input's record or clean, and didn't change after the clean record was verified
  pub record AreClean (q : Queries K V) (g : Held K V) (clean : ℕ → Bool) : Type 0 where
    pub reads : (i j : ℕ) (r d : Node K V) → at g i ≡ Some r → clean i ≡ true → Has r.reads j → at g j ≡ Some d
        → ((q.is_input d.key ≡ true) ⊎ (clean j ≡ true)) × (d.changed_at ≤ r.verified_at)

  -- The marks of a graph: the clean records were verified in the revision of the last demand, and each other one that is no input's
  -- before this revision.
  pub record AreMarked (q : Queries K V) (g : Held K V) (clean : ℕ → Bool) : Type 0 where
    pub are_clean : AreClean q g clean
    pub with_all : (i : ℕ) (r : Node K V) → at g i ≡ Some r → clean i ≡ true → r.verified_at ≡ g.demanded_at
    pub before : (i : ℕ) (r : Node K V) → at g i ≡ Some r → clean i ≡ false → q.is_input r.key ≡ false → r.verified_at < g.revision

  -- what a graph keeps
  pub record IsKept (q : Queries K V) (g : Held K V) (clean : ℕ → Bool) : Type 0 where
    pub sound : IsSound q g
    pub marked : AreMarked q g clean
    pub acyclic : HasNoCycle g.nodes

  -- the clean records count as verified now, and nothing else is touched
  pub record Freshened (q : Queries K V) (clean : ℕ → Bool) (old new : Held K V) : Type 0 where
    pub here : (i : ℕ) (r : Node K V) → at old i ≡ Some r → clean i ≡ true → at new i ≡ Some (record r { verified_at = old.revision })
    pub others : (i : ℕ) → clean i ≡ false → at new i ≡ at old i
    pub free : (i : ℕ) → at old i ≡ None → at new i ≡ None
    pub numbers : (k : K) → node_of q new k ≡ node_of q old k
    pub revision : new.revision ≡ old.revision
    pub runs : new.runs ≡ old.runs
