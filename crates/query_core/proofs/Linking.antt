-- How the readers of nodes are kept.
use Rattle.std.proofs.Common.{◌≡◌, ◌≢◌, ℕ, zero, suc, ◌<◌, ◌≤◌, true, List, [], ◌∷◌, ◌++◌, length, refl, ap, sym, ◌∙◌, subst, inl, inr, ◌⊎◌, slice_index_or, slice_set, nat_le, Result, Ok, Err, OnOk, arith}
use Rattle.std.proofs.lemmas.Bool.{cases_eq}
use Rattle.std.proofs.lemmas.List.{get_or-set_same, get_or-set_other}
use Rattle.query_core.specs.Lists.{Has}
use Rattle.query_core.specs.Readers.{Entries, Names, KeepsLive, KeepsNames, row_at, run_of, is_live}
use Rattle.query_core.specs.declared.readers.Reader.{Reader}
use Rattle.query_core.proofs.Words.{Has-left, Has-middle}

pub row_behind : (rows : List Entries) (i : ℕ) → row_at (rows ++ (record { run = 0; readers = [] }) ∷ []) i ≡ row_at rows i
row_behind [] zero = refl
row_behind [] (suc i) = refl
row_behind (x ∷ xs) zero = refl
row_behind (x ∷ xs) (suc i) = row_behind xs i

-- a row that was written
pub row_set : (rows : List Entries) (j : ℕ) (row : Entries) → j < length rows → row_at (slice_set rows j row) j ≡ row
row_set rows j row lt = get_or-set_same rows j row (record { run = 0; readers = [] }) lt

pub row_other : (rows : List Entries) (j i : ℕ) (row : Entries) → i ≢ j → row_at (slice_set rows j row) i ≡ row_at rows i
row_other rows j i row n = get_or-set_other rows j i row (record { run = 0; readers = [] }) n

-- rows that are the same at each node keep all
pub keeps_same : (old new : List Entries) → ((i : ℕ) → row_at new i ≡ row_at old i) → KeepsLive old new
keeps_same old new same = record { runs = λ i. ap (λ (r : Entries). r.run) (same i); live = λ j e h l. subst (λ (r : Entries). Has r.readers e) (sym (same j)) h }

pub keeps_on : (a b c : List Entries) → KeepsLive a b → KeepsLive b c → KeepsLive a c
keeps_on a b c f g = record {
  runs = λ i. g.runs i ∙ f.runs i;
  live = λ j e h l. g.live j e (f.live j e h l) (ap (λ n. nat_le n e.run) (f.runs e.node) ∙ l);
}

-- one row's entries were exchanged, and none is missing that isn't stale
pub keeps_row : (old : List Entries) (j : ℕ) (readers : List Reader) → j < length old → ((e : Reader) → Has (row_at old j).readers e → is_live old e ≡ true → Has readers e)
    → KeepsLive old (slice_set old j (record { run = (row_at old j).run; readers = readers }))
keeps_row old j readers lt f = record {
  runs = λ i. elim (cases_eq i j) [
    | inl ij ↦ ap (λ m. run_of (slice_set old j (record { run = (row_at old j).run; readers = readers })) m) ij
        ∙ ap (λ (r : Entries). r.run) (row_set old j (record { run = (row_at old j).run; readers = readers }) lt) ∙ sym (ap (run_of old) ij)
    | inr n ↦ ap (λ (r : Entries). r.run) (row_other old j i (record { run = (row_at old j).run; readers = readers }) n)
  ];
  live = λ i e h l. elim (cases_eq i j) [
    | inl ij ↦ subst (λ m. Has (row_at (slice_set old j (record { run = (row_at old j).run; readers = readers })) m).readers e) (sym ij)
        (subst (λ (r : Entries). Has r.readers e) (sym (row_set old j (record { run = (row_at old j).run; readers = readers }) lt)) (f e (subst (λ m. Has (row_at old m).readers e) ij h) l))
    | inr n ↦ subst (λ (r : Entries). Has r.readers e) (sym (row_other old j i (record { run = (row_at old j).run; readers = readers }) n)) h
  ];
}

-- names stand where live entries do
pub keeps_names : (old new : List Entries) → KeepsLive old new → KeepsNames old new
keeps_names old new k i j n = record { entry = n.entry; stands = k.live j n.entry n.stands n.live; node = n.node; live = ap (λ m. nat_le m n.entry.run) (k.runs n.entry.node) ∙ n.live }

-- the reads so far are named, by an entry that is of the next run
pub record Linking (old rows : List Entries) (entry : Reader) (rest reads : List ℕ) : Type 0 where
  pub kept : KeepsLive old rows
  pub named : (j : ℕ) → Has reads j → Has rest j ⊎ Has (row_at rows j).readers entry
  pub pending : run_of old entry.node ≤ entry.run
  pub covered : entry.node < length rows

le_true : (m n : ℕ) → m ≤ n → nat_le m n ≡ true
le_true m n le = grind arith

le_self : (m : ℕ) → nat_le m m ≡ true
le_self m = le_true m m (omega arith)

module _ (old rows : List Entries) (entry : Reader) where
  pub linking_begins : (start reads : List ℕ) → start ≡ reads → ((i : ℕ) → row_at rows i ≡ row_at old i) → run_of rows entry.node ≤ entry.run → entry.node < length rows → Linking old rows entry start reads
  linking_begins start reads is same le lt = record {
    kept = keeps_same old rows same;
    named = λ j h. inl (subst (λ l. Has l j) (sym is) h);
    pending = subst (λ (r : Entries). r.run ≤ entry.run) (same entry.node) le;
    covered = lt;
  }

  module _ (rest reads : List ℕ) (k : Linking old rows entry rest reads) where
    is_pending : is_live rows entry ≡ true
    is_pending = ap (λ m. nat_le m entry.run) (k.kept.runs entry.node) ∙ le_true (run_of old entry.node) entry.run k.pending

    pub linking_turns : (rows' : List Entries) (read : ℕ) (behind : List ℕ) → rest ≡ read ∷ behind → KeepsLive rows rows' → length rows ≤ length rows' → Has (row_at rows' read).readers entry → Linking old rows' entry behind reads
    linking_turns rows' read behind is kept long added = record {
      kept = keeps_on old rows rows' k.kept kept;
      named = λ j h. elim (k.named j h) [
        | inl r ↦ elim (subst (λ l. Has l j) is r) [ inl e ↦ inr (subst (λ m. Has (row_at rows' m).readers entry) e added) | inr b ↦ inl b ]
        | inr s ↦ inr (kept.live j entry s is_pending)
      ];
      pending = k.pending;
      covered = (let c = k.covered in omega arith);
    }

    -- the run is counted, and with it the entries are the last
    module _ (rows' : List Entries) (row row' : Entries) (is_row : row ≡ row_at rows entry.node) (is_next : row' ≡ record row { run = entry.run }) (put : rows' ≡ slice_set rows entry.node row') (none : rest ≡ []) where
      written : rows' ≡ slice_set rows entry.node (record { run = entry.run; readers = (row_at rows entry.node).readers })
      written = put ∙ ap (slice_set rows entry.node) (is_next ∙ ap (λ (r : Entries). record r { run = entry.run }) is_row)

      same_readers : (j : ℕ) → (row_at rows' j).readers ≡ (row_at rows j).readers
      same_readers j =
          ap (λ l. (row_at l j).readers) written
          ∙ elim (cases_eq j entry.node) [
            | inl e ↦ ap (λ m. (row_at (slice_set rows entry.node (record { run = entry.run; readers = (row_at rows entry.node).readers })) m).readers) e
                ∙ ap (λ (r : Entries). r.readers) (row_set rows entry.node (record { run = entry.run; readers = (row_at rows entry.node).readers }) k.covered) ∙ sym (ap (λ m. (row_at rows m).readers) e)
            | inr n ↦ ap (λ (r : Entries). r.readers) (row_other rows entry.node j (record { run = entry.run; readers = (row_at rows entry.node).readers }) n)
          ]

      own_run : run_of rows' entry.node ≡ entry.run
      own_run = ap (λ l. run_of l entry.node) written ∙ ap (λ (r : Entries). r.run) (row_set rows entry.node (record { run = entry.run; readers = (row_at rows entry.node).readers }) k.covered)

      pub linking_named : (j : ℕ) → Has reads j → Names rows' j entry.node
      linking_named j h =
          let stands : Has (row_at rows j).readers entry = elim (k.named j h) [ inl r ↦ absurd (subst (λ l. Has l j) none r) | inr s ↦ s ] in
          record { entry = entry; stands = subst (λ l. Has l entry) (sym (same_readers j)) stands; node = refl; live = ap (λ m. nat_le m entry.run) own_run ∙ le_self entry.run }

      pub linking_others : (i j : ℕ) → i ≢ entry.node → Names old j i → Names rows' j i
      linking_others i j n m =
          let m' = keeps_names old rows k.kept i j m in
          record {
            entry = m'.entry;
            stands = subst (λ l. Has l m'.entry) (sym (same_readers j)) m'.stands;
            node = m'.node;
            live =
                ap (λ l. nat_le (run_of l m'.entry.node) m'.entry.run) written
                ∙ ap (λ (r : Entries). nat_le r.run m'.entry.run)
                (row_other rows entry.node m'.entry.node (record { run = entry.run; readers = (row_at rows entry.node).readers }) (λ e. n (sym m'.node ∙ e)))
                ∙ m'.live;
          }

-- an entry that isn't stale was taken over
pub live_turns : (rest behind live live' : List Reader) (x e : Reader) → rest ≡ x ∷ behind → live' ≡ live ++ x ∷ [] → Has rest e ⊎ Has live e → Has behind e ⊎ Has live' e
live_turns rest behind live live' x e is made h =
    elim h [
      | inl r ↦ elim (subst (λ l. Has l e) is r) [ inl s ↦ inr (subst (λ l. Has l e) (sym made) (subst (Has (live ++ x ∷ [])) s (Has-middle live [] x))) | inr b ↦ inl b ]
      | inr m ↦ inr (subst (λ l. Has l e) (sym made) (Has-left live (x ∷ []) e m))
    ]

-- an entry was put behind those of one row
pub keeps_push : (old : List Entries) (j : ℕ) (row row' : Entries) → j < length old → row ≡ row_at old j → row'.run ≡ row.run → ((e : Reader) → Has row.readers e → Has row'.readers e) → KeepsLive old (slice_set old j row')
keeps_push old j row row' lt is run more =
    let same_run : (row_at old j).run ≡ row'.run = ap (λ (r : Entries). r.run) (sym is) ∙ sym run in
    subst (λ n. KeepsLive old (slice_set old j (record { run = n; readers = row'.readers }))) same_run
    (keeps_row old j row'.readers lt (λ e h l. more e (subst (λ (r : Entries). Has r.readers e) (sym is) h)))

-- a row that is there doesn't depend on what stands in for one that isn't
pub row_is : (rows : List Entries) (i : ℕ) (row : Entries) → i < length rows → row ≡ slice_index_or rows i row → row ≡ row_at rows i
row_is rows i row lt e = e ∙ other rows i lt
  where
    other : (xs : List Entries) (k : ℕ) → k < length xs → slice_index_or xs k row ≡ row_at xs k
    other [] k l = absurd (omega arith)
    other (x ∷ xs) zero l = refl
    other (x ∷ xs) (suc k) l = other xs k (omega arith)

on_ok_map : {A E : Type 0} (r : Result A E) (P Q : Type 0) → (P → Q) → OnOk r P → OnOk r Q
on_ok_map (Ok a) P Q f h = f h
on_ok_map (Err e) P Q f h = h

pub added_push : {A E : Type 0} (r : Result A E) (old : List Entries) (j : ℕ) (row : Entries) (entry : Reader) → j < length old → OnOk r (Has row.readers entry) → OnOk r (Has (row_at (slice_set old j row) j).readers entry)
added_push r old j row entry lt h = on_ok_map r (Has row.readers entry) (Has (row_at (slice_set old j row) j).readers entry) (λ m. subst (λ (x : Entries). Has x.readers entry) (sym (row_set old j row lt)) m) h
