-- The readers of each node, as they are kept.
use Rattle.std.specs.Prelude.{◌≡◌, ℕ, Bool, true, ◌&&◌, nat_le, cond, List, [], ◌∷◌, slice_index_or}
use Rattle.query_core.specs.Lists.{Has}
use Rattle.query_core.specs.declared.readers.Reader.{Reader}

-- the number of the last run of the record at a node, and the entries of its readers
pub record Entries : Type 0 where
  pub run : ℕ
  pub readers : List Reader

-- the row of a node
abbrev pub row_at : List Entries → ℕ → Entries
row_at rows i = slice_index_or rows i (record { run = 0; readers = [] })

abbrev pub run_of : List Entries → ℕ → ℕ
run_of rows i = (row_at rows i).run

-- an entry isn't stale
abbrev pub is_live : List Entries → Reader → Bool
is_live rows e = nat_le (run_of rows e.node) e.run

-- an entry among those of the node j, not stale, names the record at the node i
pub record Names (rows : List Entries) (j i : ℕ) : Type 0 where
  pub entry : Reader
  pub stands : Has (row_at rows j).readers entry
  pub node : entry.node ≡ i
  pub live : is_live rows entry ≡ true

-- each entry that isn't stale still stands, and no run has changed
pub record KeepsLive (old new : List Entries) : Type 0 where
  pub runs : (i : ℕ) → run_of new i ≡ run_of old i
  pub live : (j : ℕ) (e : Reader) → Has (row_at old j).readers e → is_live old e ≡ true → Has (row_at new j).readers e

-- the record at the node i is named where it was
abbrev pub KeepsNames : List Entries → List Entries → Type 0
KeepsNames old new = (i j : ℕ) → Names old j i → Names new j i

module _ (rows : List Entries) (clean : ℕ → Bool) where
  -- the nodes of these entries that aren't stale, whose records are clean
  abbrev pub clean_of : List Reader → List ℕ
  clean_of [] = []
  clean_of (e ∷ es) = cond (is_live rows e && clean e.node) (e.node ∷ clean_of es) (clean_of es)

  -- the clean readers of a node
  abbrev pub clean_readers : ℕ → List ℕ
  clean_readers j = clean_of (row_at rows j).readers

  -- what these nodes reach along clean readers from the clean readers of one, all of it
  pub record Reaches (node : ℕ) (list : List ℕ) : Type 0 where
    pub begun : (i : ℕ) → Has (clean_readers node) i → Has list i
    pub closed : (a i : ℕ) → Has list a → Has (clean_readers a) i → Has list i
