-- The nodes with their records, and the node of each key, as they are kept.
use Rattle.std.specs.Prelude.{◌≡◌, ◌≢◌, ℕ, Bool, true, false, cond, List, map, Option, Some, None, slice_index_or, ◌⊎◌}
use Rattle.std.specs.Map.{lookup}
use Rattle.std.specs.Option.{option_map, option_map_or}
use Rattle.query_core.specs.Lists.{Has}
use Rattle.query_core.specs.Node.{Node}
use Rattle.query_core.specs.Readers.{Entries, Names}
use Rattle.query_core.specs.declared.record.Record.{Record}
use Rattle.query_core.specs.declared.record.Seen.{Seen}

-- the records by node, the node of each key, which of the records are clean, and the revision in which the clean ones were last verified
pub record Stored (K V : Type 0) : Type 0 where
  pub nodes : List (Option (Node K V))
  pub numbers : List (K × ℕ)
  pub clean : List Bool
  pub clean_at : ℕ

module _ {K V : Type 0} where
  -- a record as it is seen: a clean one was verified with all clean ones
  abbrev pub shown : ℕ → Record K V → Node K V
  shown clean_at r = record { key = r.key; value = r.value; reads = r.reads; input = r.input; verified_at = cond r.clean clean_at r.verified_at; changed_at = r.changed_at }

  abbrev pub marked_clean : Option (Record K V) → Bool
  marked_clean o = option_map_or (λ r. r.clean) o false

  abbrev pub clean_in : List (Option (Record K V)) → ℕ → Bool
  clean_in slots i = marked_clean (slice_index_or slots i None)

  -- each record is named among the readers of what it reads
  abbrev pub AreNamed : List Entries → List (Option (Record K V)) → Type 0
  AreNamed rows slots = (i j : ℕ) (r : Record K V) → slice_index_or slots i None ≡ Some r → Has r.reads j → Names rows j i

  -- the records at these nodes aren't clean any more, and nothing else is seen to change
  pub record Opens (old new : List (Option (Record K V))) (list : List ℕ) (clean_at : ℕ) : Type 0 where
    pub seen : (i : ℕ) → option_map (shown clean_at) (slice_index_or new i None) ≡ option_map (shown clean_at) (slice_index_or old i None)
    pub less : (i : ℕ) → clean_in new i ≡ true → clean_in old i ≡ true
    pub opened : (i : ℕ) → Has list i → clean_in new i ≡ false
    pub listed : (i : ℕ) → clean_in old i ≡ true → clean_in new i ≡ false → Has list i

  -- what is seen of the records that are kept
  abbrev pub stored : List (Option (Record K V)) → List (K × ℕ) → ℕ → Stored K V
  stored slots numbers clean_at = record { nodes = map (option_map (shown clean_at)) slots; numbers = numbers; clean = map marked_clean slots; clean_at = clean_at }

  -- what a look at a record sees
  abbrev pub seen : Seen K V → Node K V
  seen s = record { key = s.key.now; value = s.value.now; reads = s.reads.now; input = s.input; verified_at = s.verified_at; changed_at = s.changed_at }

module _ {K V : Type 0} where
  -- the record at a node
  abbrev pub node_at : Stored K V → ℕ → Option (Node K V)
  node_at s node = slice_index_or s.nodes node None

  -- the record at a node is clean
  abbrev pub is_clean : Stored K V → ℕ → Bool
  is_clean s node = slice_index_or s.clean node false

  -- the mark at the node i alone was set
  pub record SetsMark (old new : Stored K V) (i : ℕ) (clean : Bool) : Type 0 where
    pub here : is_clean new i ≡ clean
    pub others : (j : ℕ) → j ≢ i → is_clean new j ≡ is_clean old j

  -- the clean records count as verified in the revision `now`, and nothing else is touched
  pub record Freshens (old new : Stored K V) (now : ℕ) : Type 0 where
    pub here : (i : ℕ) (r : Node K V) → node_at old i ≡ Some r → is_clean old i ≡ true → node_at new i ≡ Some (record r { verified_at = now })
    pub others : (i : ℕ) → is_clean old i ≡ false → node_at new i ≡ node_at old i
    pub free : (i : ℕ) → node_at old i ≡ None → node_at new i ≡ None
    pub numbers : new.numbers ≡ old.numbers
    pub clean : new.clean ≡ old.clean
    pub clean_at : new.clean_at ≡ now

  -- No record changes that is seen. But fewer are clean: one that still is reads the node i only where that record has the value, and
  -- reads nothing else that was clean and isn't any more.
  pub record Prepares (same : V → V → Bool) (old new : Stored K V) (i : ℕ) (value : V) : Type 0 where
    pub nodes : (j : ℕ) → node_at new j ≡ node_at old j
    pub numbers : new.numbers ≡ old.numbers
    pub clean_at : new.clean_at ≡ old.clean_at
    pub less : (a : ℕ) → is_clean new a ≡ true → is_clean old a ≡ true
    pub closed : (a j : ℕ) (e : Node K V) → node_at old a ≡ Some e → is_clean new a ≡ true → Has e.reads j
        → ((j ≢ i) ⊎ ((r : Node K V) → node_at old i ≡ Some r → same r.value value ≡ true)) × (is_clean old j ≡ true → is_clean new j ≡ true)

  -- the node i alone was changed, to the record r
  pub record Changes (old new : Stored K V) (i : ℕ) (r : Node K V) : Type 0 where
    pub here : node_at new i ≡ Some r
    pub others : (j : ℕ) → j ≢ i → node_at new j ≡ node_at old j
    pub numbers : new.numbers ≡ old.numbers

  -- the record r was added at the free node i, for its key
  pub record Adds (eq : K → K → Bool) (old new : Stored K V) (i : ℕ) (r : Node K V) : Type 0 where
    pub free : node_at old i ≡ None
    pub here : node_at new i ≡ Some r
    pub others : (j : ℕ) → j ≢ i → node_at new j ≡ node_at old j
    pub numbers : (k : K) → lookup (eq k) new.numbers ≡ cond (eq r.key k) (Some i) (lookup (eq k) old.numbers)
