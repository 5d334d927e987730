-- How many reads name each node, and the nodes that nothing reads any more.
use Rattle.std.specs.Prelude.{◌≡◌, ℕ, ◌+◌, ◌-◌, ◌<◌, ◌≤◌, true, false, cond, List, [], ◌∷◌, length, nat_eq, slice_index_or, Option, Some, None, ◌⊎◌}
use Rattle.std.specs.Option.{option_map_or}
use Rattle.query_core.specs.Lists.{Has}
use Rattle.query_core.specs.declared.tallies.Tally.{Tally}
use Rattle.query_core.specs.declared.record.Record.{Record}

-- the tally of each node, and the nodes that are listed, each found without a reader once
pub record Tallied : Type 0 where
  pub tallies : List Tally
  pub unread : List ℕ

-- the tally of a node
abbrev pub tally_at : List Tally → ℕ → Tally
tally_at tallies j = slice_index_or tallies j (record { reads = 0; listed = false })

-- how many reads name the node
abbrev pub reads_of : Tallied → ℕ → ℕ
reads_of t j = (tally_at t.tallies j).reads

-- how often the node is one of these
abbrev pub occurs : List ℕ → ℕ → ℕ
occurs [] j = 0
occurs (x ∷ xs) j = cond (nat_eq x j) (occurs xs j + 1) (occurs xs j)

-- how many are marked as listed
abbrev pub listed_in : List Tally → ℕ
listed_in [] = 0
listed_in (t ∷ ts) = cond t.listed (listed_in ts + 1) (listed_in ts)

-- a node that is marked as listed is, and the list has room for one more wherever a node isn't marked
pub record AreListed (tallies : List Tally) (unread : List ℕ) (capacity : ℕ) : Type 0 where
  pub listed : (j : ℕ) → (tally_at tallies j).listed ≡ true → Has unread j
  pub fits : length unread ≤ listed_in tallies
  pub room : length tallies ≤ capacity

-- these reads were taken away, and each node is listed that had some and has none now
pub record Lowers (old new : Tallied) (nodes : List ℕ) : Type 0 where
  pub counts : (j : ℕ) → reads_of new j ≡ reads_of old j - occurs nodes j
  pub kept : (j : ℕ) → Has old.unread j → Has new.unread j
  pub listed : (j : ℕ) → 0 < reads_of old j → reads_of new j ≡ 0 → Has new.unread j
  pub long : length new.tallies ≡ length old.tallies
  pub bounded : length old.unread ≤ length old.tallies → length new.unread ≤ length new.tallies

-- these reads were taken away, and those were added; each node is listed that has none now, where it had or got one
pub record Exchanges (old new : Tallied) (before after : List ℕ) : Type 0 where
  pub counts : (j : ℕ) → reads_of new j ≡ reads_of old j + occurs after j - occurs before j
  pub kept : (j : ℕ) → Has old.unread j → Has new.unread j
  pub listed : (j : ℕ) → 0 < reads_of old j + occurs after j → reads_of new j ≡ 0 → Has new.unread j ⊎ (reads_of old j ≡ 0)

module _ {K V : Type 0} where
  -- what a slot's record reads
  abbrev pub reads_in : Option (Record K V) → List ℕ
  reads_in o = option_map_or (λ r. r.reads) o []

  -- how often the records read the node
  abbrev pub times_read : List (Option (Record K V)) → ℕ → ℕ
  times_read [] j = 0
  times_read (o ∷ os) j = occurs (reads_in o) j + times_read os j

  -- The tallies are those of the records, with these roots as further reads, and what nothing reads is listed, but for inputs.
  pub record AreTallied (slots : List (Option (Record K V))) (t : Tallied) (roots : List ℕ) : Type 0 where
    pub counted : (j : ℕ) → reads_of t j ≡ times_read slots j + occurs roots j
    pub unread : (j : ℕ) (r : Record K V) → slice_index_or slots j None ≡ Some r → r.input ≡ false → reads_of t j ≡ 0 → Has t.unread j
