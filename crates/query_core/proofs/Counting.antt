-- How the tallies of nodes go up and down, and how nodes are listed.
use Rattle.std.proofs.Common.{◌≡◌, ◌≢◌, ℕ, zero, suc, ◌+◌, ◌-◌, ◌<◌, ◌≤◌, ◌^◌, Bool, true, false, cond, nat_eq, List, [], ◌∷◌, ◌++◌, length, refl, ap, sym, ◌∙◌, subst, inl, inr, ◌⊎◌, slice_index_or, slice_set, arith}
use Rattle.std.proofs.lemmas.Bool.{cases_eq}
use Rattle.std.proofs.lemmas.List.{get_or-set_same, get_or-set_other}
use Rattle.query_core.specs.Lists.{Has}
use Rattle.query_core.specs.Tallies.{Tallied, AreListed, Lowers, Exchanges, tally_at, reads_of, occurs, listed_in}
use Rattle.query_core.specs.declared.tallies.Tally.{Tally}
use Rattle.query_core.proofs.Words.{Has-left, Has-middle, Has-append}

pub tally_behind : (tallies : List Tally) (j : ℕ) → tally_at (tallies ++ (record { reads = 0; listed = false }) ∷ []) j ≡ tally_at tallies j
tally_behind [] zero = refl
tally_behind [] (suc j) = refl
tally_behind (x ∷ xs) zero = refl
tally_behind (x ∷ xs) (suc j) = tally_behind xs j

listed_behind : (tallies : List Tally) (t : Tally) → t.listed ≡ false → listed_in (tallies ++ t ∷ []) ≡ listed_in tallies
listed_behind [] t e = ap (λ (b : Bool). cond b 1 0) e
listed_behind (x ∷ xs) t e = ap (λ n. cond x.listed (n + 1) n) (listed_behind xs t e)

pub listed_most : (tallies : List Tally) → listed_in tallies ≤ length tallies
listed_most [] = omega arith
listed_most (x ∷ xs) = let h = listed_most xs in elim (x.listed) as (λ b. cond b (listed_in xs + 1) (listed_in xs) ≤ suc (length xs)) [ true ↦ (omega arith) | false ↦ (omega arith) ]

-- where one isn't marked as listed, there is room
pub listed_less : (tallies : List Tally) (j : ℕ) → j < length tallies → (tally_at tallies j).listed ≡ false → listed_in tallies < length tallies
listed_less [] j lt e = absurd (omega arith)
listed_less (x ∷ xs) zero lt e = let h = listed_most xs in subst (λ (b : Bool). cond b (listed_in xs + 1) (listed_in xs) < suc (length xs)) (sym e) (omega arith)
listed_less (x ∷ xs) (suc j) lt e = let h = listed_less xs j (omega arith) e in elim (x.listed) as (λ b. cond b (listed_in xs + 1) (listed_in xs) < suc (length xs)) [ true ↦ (omega arith) | false ↦ (omega arith) ]

-- one was marked
pub listed_set : (tallies : List Tally) (j : ℕ) (t : Tally) → j < length tallies → (tally_at tallies j).listed ≡ false → t.listed ≡ true → listed_in (slice_set tallies j t) ≡ listed_in tallies + 1
listed_set [] j t lt e m = absurd (omega arith)
listed_set (x ∷ xs) zero t lt e m = ap (λ (b : Bool). cond b (listed_in xs + 1) (listed_in xs)) m ∙ ap (λ (b : Bool). cond b (listed_in xs + 1) (listed_in xs) + 1) (sym e)
listed_set (x ∷ xs) (suc j) t lt e m =
    ap (λ n. cond x.listed (n + 1) n) (listed_set xs j t (omega arith) e m)
    ∙ elim (x.listed) as (λ b. cond b (listed_in xs + 1 + 1) (listed_in xs + 1) ≡ cond b (listed_in xs + 1) (listed_in xs) + 1) [ true ↦ refl | false ↦ refl ]

-- one was unmarked, where it was marked
pub listed_unset : (tallies : List Tally) (j : ℕ) (t : Tally) → listed_in tallies ≤ listed_in (slice_set tallies j t) + 1
listed_unset [] j t = omega arith
listed_unset (x ∷ xs) zero t =
    elim (x.listed) as (λ b. cond b (listed_in xs + 1) (listed_in xs) ≤ cond t.listed (listed_in xs + 1) (listed_in xs) + 1) [
      | true ↦ elim (t.listed) as (λ b. listed_in xs + 1 ≤ cond b (listed_in xs + 1) (listed_in xs) + 1) [ true ↦ (omega arith) | false ↦ (omega arith) ]
      | false ↦ elim (t.listed) as (λ b. listed_in xs ≤ cond b (listed_in xs + 1) (listed_in xs) + 1) [ true ↦ (omega arith) | false ↦ (omega arith) ]
    ]
listed_unset (x ∷ xs) (suc j) t =
    let h = listed_unset xs j t in
    elim (x.listed) as (λ b. cond b (listed_in xs + 1) (listed_in xs) ≤ cond b (listed_in (slice_set xs j t) + 1) (listed_in (slice_set xs j t)) + 1) [ true ↦ (omega arith) | false ↦ (omega arith) ]

-- the mark of one stays
listed_same : (tallies : List Tally) (j : ℕ) (t : Tally) → j < length tallies → t.listed ≡ (tally_at tallies j).listed → listed_in (slice_set tallies j t) ≡ listed_in tallies
listed_same [] j t lt e = refl
listed_same (x ∷ xs) zero t lt e = ap (λ (b : Bool). cond b (listed_in xs + 1) (listed_in xs)) e
listed_same (x ∷ xs) (suc j) t lt e = ap (λ n. cond x.listed (n + 1) n) (listed_same xs j t (omega arith) e)

pub tally_set : (tallies : List Tally) (j : ℕ) (t : Tally) → j < length tallies → tally_at (slice_set tallies j t) j ≡ t
tally_set tallies j t lt = get_or-set_same tallies j t (record { reads = 0; listed = false }) lt

pub tally_other : (tallies : List Tally) (j i : ℕ) (t : Tally) → i ≢ j → tally_at (slice_set tallies j t) i ≡ tally_at tallies i
tally_other tallies j i t n = get_or-set_other tallies j i t (record { reads = 0; listed = false }) n

pub tally_past : (tallies : List Tally) (j : ℕ) → length tallies ≤ j → tally_at tallies j ≡ record { reads = 0; listed = false }
tally_past [] j le = refl
tally_past (x ∷ xs) zero le = absurd (omega arith)
tally_past (x ∷ xs) (suc j) le = tally_past xs j (omega arith)

pub occurs_most : (nodes : List ℕ) (j : ℕ) → occurs nodes j ≤ length nodes
occurs_most [] j = omega arith
occurs_most (x ∷ xs) j = let h = occurs_most xs j in elim (nat_eq x j) as (λ b. cond b (occurs xs j + 1) (occurs xs j) ≤ suc (length xs)) [ true ↦ (omega arith) | false ↦ (omega arith) ]

eq_self : (j : ℕ) → nat_eq j j ≡ true
eq_self j = grind arith

eq_other : (a b : ℕ) → a ≢ b → nat_eq a b ≡ false
eq_other a b n = elim (nat_eq a b) as (λ x. nat_eq a b ≡ x → x ≡ false) [ true ↦ (λ e. absurd (n (grind (arith, e)))) | false ↦ (λ e. refl) ] refl

pub occurs_has : (nodes : List ℕ) (j : ℕ) → Has nodes j → 0 < occurs nodes j
occurs_has [] j h = absurd h
occurs_has (x ∷ xs) j h =
    elim h [
      | inl e ↦ subst (λ (b : Bool). 0 < cond b (occurs xs j + 1) (occurs xs j)) (sym (subst (λ y. nat_eq y j ≡ true) (sym e) (eq_self j))) (omega arith)
      | inr m ↦ (let r = occurs_has xs j m in elim (nat_eq x j) as (λ b. 0 < cond b (occurs xs j + 1) (occurs xs j)) [ true ↦ (omega arith) | false ↦ r ])
    ]

pub has_occurs : (nodes : List ℕ) (j : ℕ) → 0 < occurs nodes j → Has nodes j
has_occurs [] j lt = absurd (omega arith)
has_occurs (x ∷ xs) j lt =
    elim (nat_eq x j) as (λ b. nat_eq x j ≡ b → 0 < cond b (occurs xs j + 1) (occurs xs j) → Has (x ∷ xs) j) [
      | true ↦ (λ e _. inl (grind (arith, e)))
      | false ↦ (λ e m. inr (has_occurs xs j m))
    ] refl lt

-- one more tally, which isn't marked
pub grown : (tallies : List Tally) (unread : List ℕ) (capacity capacity' : ℕ) → AreListed tallies unread capacity → length tallies + 1 ≤ capacity' → AreListed (tallies ++ (record { reads = 0; listed = false }) ∷ []) unread capacity'
grown tallies unread capacity capacity' a le = record {
  listed = λ j e. a.listed j (sym (ap (λ (t : Tally). t.listed) (tally_behind tallies j)) ∙ e);
  fits = subst (λ n. length unread ≤ n) (sym (listed_behind tallies (record { reads = 0; listed = false }) refl)) a.fits;
  room = subst (λ n. n ≤ capacity') (sym (length_one tallies)) le;
}
  where
    length_one : (xs : List Tally) → length (xs ++ (record { reads = 0; listed = false }) ∷ []) ≡ length xs + 1
    length_one [] = refl
    length_one (x ∷ xs) = let h = length_one xs in omega arith

-- the reads of one were written
pub rewritten : (tallies : List Tally) (unread : List ℕ) (capacity : ℕ) (j : ℕ) (t : Tally) → AreListed tallies unread capacity → j < length tallies → t.listed ≡ (tally_at tallies j).listed → length (slice_set tallies j t) ≡ length tallies → AreListed (slice_set tallies j t) unread capacity
rewritten tallies unread capacity j t a lt e long = record {
  listed = λ i m. elim (cases_eq i j) [
    | inl ij ↦ a.listed i (ap (λ k. (tally_at tallies k).listed) ij ∙ sym e ∙ sym (ap (λ (x : Tally). x.listed) (tally_set tallies j t lt)) ∙ ap (λ k. (tally_at (slice_set tallies j t) k).listed) (sym ij) ∙ m)
    | inr n ↦ a.listed i (sym (ap (λ (x : Tally). x.listed) (tally_other tallies j i t n)) ∙ m)
  ];
  fits = subst (λ n. length unread ≤ n) (sym (listed_same tallies j t lt e)) a.fits;
  room = subst (λ n. n ≤ capacity) (sym long) a.room;
}

-- one was listed
pub put_on : (tallies : List Tally) (unread unread' : List ℕ) (capacity : ℕ) (j : ℕ) (t : Tally) → AreListed tallies unread capacity → j < length tallies → (tally_at tallies j).listed ≡ false → t.listed ≡ true → unread' ≡ unread ++ j ∷ []
    → length unread' ≡ length unread + 1 → length (slice_set tallies j t) ≡ length tallies → AreListed (slice_set tallies j t) unread' capacity
put_on tallies unread unread' capacity j t a lt off on is more long = record {
  listed = λ i m. subst (λ l. Has l i) (sym is)
      (elim (cases_eq i j) [
        | inl ij ↦ subst (λ k. Has (unread ++ j ∷ []) k) (sym ij) (Has-middle unread [] j)
        | inr n ↦ Has-left unread (j ∷ []) i (a.listed i (sym (ap (λ (x : Tally). x.listed) (tally_other tallies j i t n)) ∙ m))
      ]);
  fits = (let f = a.fits in let s = listed_set tallies j t lt off on in omega arith);
  room = subst (λ n. n ≤ capacity) (sym long) a.room;
}

-- one was taken off
pub taken_off : (tallies : List Tally) (unread unread' : List ℕ) (capacity : ℕ) (j : ℕ) (t : Tally) → AreListed tallies unread capacity → j < length tallies → t.listed ≡ false → unread ≡ unread' ++ j ∷ [] → length unread' + 1 ≡ length unread
    → length (slice_set tallies j t) ≡ length tallies → AreListed (slice_set tallies j t) unread' capacity
taken_off tallies unread unread' capacity j t a lt off is less long = record {
  listed = λ i m. elim (cases_eq i j) [
    | inl ij ↦ absurd (let own : (tally_at (slice_set tallies j t) j).listed ≡ false = ap (λ (x : Tally). x.listed) (tally_set tallies j t lt) ∙ off in
        let on : (tally_at (slice_set tallies j t) j).listed ≡ true = subst (λ k. (tally_at (slice_set tallies j t) k).listed ≡ true) ij m in let bad : ⊥ = cc in bad)
    | inr n ↦ off_other i n (a.listed i (sym (ap (λ (x : Tally). x.listed) (tally_other tallies j i t n)) ∙ m))
  ];
  fits = (let f = a.fits in let s = listed_unset tallies j t in omega arith);
  room = subst (λ n. n ≤ capacity) (sym long) a.room;
}
  where
    off_other : (i : ℕ) → i ≢ j → Has unread i → Has unread' i
    off_other i n h = elim (Has-append unread' (j ∷ []) i (subst (λ l. Has l i) is h)) [ inl x ↦ x | inr x ↦ elim x [ inl e ↦ absurd (n (sym e)) | inr c ↦ absurd c ] ]

-- one without a tally was taken off
pub taken_past : (tallies : List Tally) (unread unread' : List ℕ) (capacity : ℕ) (j : ℕ) → AreListed tallies unread capacity → length tallies ≤ j → unread ≡ unread' ++ j ∷ [] → length unread' + 1 ≡ length unread → AreListed tallies unread' capacity
taken_past tallies unread unread' capacity j a past is less = record {
  listed = λ i m. elim (Has-append unread' (j ∷ []) i (subst (λ l. Has l i) is (a.listed i m))) [
    | inl x ↦ x
    | inr x ↦ elim x [
      | inl e ↦ absurd (let off : (tally_at tallies j).listed ≡ false = ap (λ (t : Tally). t.listed) (tally_past tallies j past) in
          let on : (tally_at tallies j).listed ≡ true = subst (λ k. (tally_at tallies k).listed ≡ true) (sym e) m in let bad : ⊥ = cc in bad)
      | inr n ↦ absurd n
    ]
  ];
  fits = (let f = a.fits in omega arith);
  room = a.room;
}

-- a tally that is there doesn't depend on what stands in for one that isn't
pub tally_is : (tallies : List Tally) (j : ℕ) (t : Tally) → j < length tallies → t ≡ slice_index_or tallies j t → t ≡ tally_at tallies j
tally_is tallies j t lt e = e ∙ other tallies j lt
  where
    other : (xs : List Tally) (k : ℕ) → k < length xs → slice_index_or xs k t ≡ tally_at xs k
    other [] k l = absurd (omega arith)
    other (x ∷ xs) zero l = refl
    other (x ∷ xs) (suc k) l = other xs k (omega arith)

pub set_long : (tallies : List Tally) (j : ℕ) (t : Tally) → length (slice_set tallies j t) ≡ length tallies
set_long [] j t = refl
set_long (x ∷ xs) zero t = refl
set_long (x ∷ xs) (suc j) t = ap suc (set_long xs j t)

pub popped : (old new : List ℕ) (node : ℕ) → old ≡ new ++ node ∷ [] → (j : ℕ) → Has old j → (j ≡ node) ⊎ Has new j
popped old new node is j h = elim (Has-append new (node ∷ []) j (subst (λ l. Has l j) is h)) [ inl x ↦ inr x | inr x ↦ elim x [ inl e ↦ inl (sym e) | inr n ↦ absurd n ] ]

-- The turns of the loops.
pub record Raising (old t : Tallied) (nodes rest : List ℕ) : Type 0 where
  pub counts : (j : ℕ) → reads_of t j + occurs rest j ≡ reads_of old j + occurs nodes j
  pub unread : t.unread ≡ old.unread
  pub ready : (j : ℕ) → Has nodes j → (j < length t.tallies) × (reads_of old j + length nodes < 2 ^ 32)
  pub part : (j : ℕ) → Has rest j → Has nodes j

module _ (old t : Tallied) (nodes rest : List ℕ) (r : Raising old t nodes rest) (node : ℕ) (behind : List ℕ) (is : rest ≡ node ∷ behind) where
  head : Has rest node
  head = subst (λ l. Has l node) (sym is) (inl refl)

  pub raising_covered : node < length t.tallies
  raising_covered = (r.ready node (r.part node head)).0

  pub raising_fits : reads_of t node + 1 < 2 ^ 32
  raising_fits =
      let m = (r.ready node (r.part node head)).1 in
      let c = r.counts node in
      let o = occurs_has rest node head in
      let p = occurs_most nodes node in
      omega arith

  pub raising_turns : (t' : Tallied) → ((j : ℕ) → reads_of t' j ≡ cond (nat_eq node j) (reads_of t j + 1) (reads_of t j)) → t'.unread ≡ t.unread → length t'.tallies ≡ length t.tallies → Raising old t' nodes behind
  raising_turns t' counts unread long = record {
    counts = λ j. let c = r.counts j in
        let c' : reads_of t j + cond (nat_eq node j) (occurs behind j + 1) (occurs behind j) ≡ reads_of old j + occurs nodes j = subst (λ l. reads_of t j + occurs l j ≡ reads_of old j + occurs nodes j) is c in
        ap (λ n. n + occurs behind j) (counts j) ∙ (elim (nat_eq node j) as (λ b. cond b (reads_of t j + 1) (reads_of t j) + occurs behind j ≡ reads_of t j + cond b (occurs behind j + 1) (occurs behind j)) [ true ↦ (omega arith) | false ↦ refl ]) ∙ c';
    unread = unread ∙ r.unread;
    ready = λ j h. let m = r.ready j h in (subst (λ n. j < n) (sym long) m.0, m.1);
    part = λ j h. r.part j (subst (λ l. Has l j) (sym is) (inr h));
  }

pub record Lowering (old t : Tallied) (nodes rest : List ℕ) : Type 0 where
  pub counts : (j : ℕ) → reads_of t j - occurs rest j ≡ reads_of old j - occurs nodes j
  pub kept : (j : ℕ) → Has old.unread j → Has t.unread j
  pub listed : (j : ℕ) → 0 < reads_of old j → reads_of t j ≡ 0 → Has t.unread j
  pub long : length t.tallies ≡ length old.tallies
  pub bounded : length old.unread ≤ length old.tallies → length t.unread ≤ length t.tallies

pub lowering_begins : (t : Tallied) (nodes : List ℕ) → Lowering t t nodes nodes
lowering_begins t nodes = record { counts = λ j. refl; kept = λ j h. h; listed = λ j lt e. absurd (omega arith); long = refl; bounded = λ h. h }

module _ (old t : Tallied) (nodes rest : List ℕ) (r : Lowering old t nodes rest) where
  pub lowering_turns : (node : ℕ) (behind : List ℕ) → rest ≡ node ∷ behind → (t' : Tallied) → ((j : ℕ) → reads_of t' j ≡ cond (nat_eq node j) (reads_of t j - 1) (reads_of t j)) → ((j : ℕ) → Has t.unread j → Has t'.unread j)
      → (0 < reads_of t node → reads_of t' node ≡ 0 → Has t'.unread node) → length t'.tallies ≡ length t.tallies → (length t.unread ≤ length t.tallies → length t'.unread ≤ length t'.tallies) → Lowering old t' nodes behind
  lowering_turns node behind is t' counts kept listed long bounded = record {
    counts = λ j.
        let c' : reads_of t j - cond (nat_eq node j) (occurs behind j + 1) (occurs behind j) ≡ reads_of old j - occurs nodes j = subst (λ l. reads_of t j - occurs l j ≡ reads_of old j - occurs nodes j) is (r.counts j) in
        ap (λ n. n - occurs behind j) (counts j) ∙ (elim (nat_eq node j) as (λ b. cond b (reads_of t j - 1) (reads_of t j) - occurs behind j ≡ reads_of t j - cond b (occurs behind j + 1) (occurs behind j)) [ true ↦ (omega arith) | false ↦ refl ]) ∙ c';
    kept = λ j h. kept j (r.kept j h);
    listed = λ j lt e. elim (cases_eq j node) [
      | inl jn ↦ elim (cases_eq (reads_of t node) 0) [
        | inl z ↦ subst (Has t'.unread) (sym jn) (kept node (r.listed node (subst (λ k. 0 < reads_of old k) jn lt) z))
        | inr z ↦ subst (Has t'.unread) (sym jn) (listed (omega arith) (subst (λ k. reads_of t' k ≡ 0) jn e))
      ]
      | inr n ↦ kept j (r.listed j lt (sym (counts j ∙ ap (λ b. cond b (reads_of t j - 1) (reads_of t j)) (eq_other node j (λ x. n (sym x)))) ∙ e))
    ];
    long = long ∙ r.long;
    bounded = λ h. bounded (r.bounded h);
  }

  pub lowering_ends : rest ≡ [] → Lowers old t nodes
  lowering_ends none = record {
    counts = λ j. (let h : reads_of t j - 0 ≡ reads_of old j - occurs nodes j = ap (λ l. reads_of t j - occurs l j) (sym none) ∙ r.counts j in omega arith);
    kept = r.kept;
    listed = r.listed;
    long = r.long;
    bounded = r.bounded;
  }

pub raising_begins : (old t : Tallied) (nodes : List ℕ) → ((j : ℕ) → tally_at t.tallies j ≡ tally_at old.tallies j) → t.unread ≡ old.unread → ((j : ℕ) → Has nodes j → (j < length t.tallies) × (reads_of t j + length nodes < 2 ^ 32)) → Raising old t nodes nodes
raising_begins old t nodes same unread ready = record {
  counts = λ j. ap (λ (x : Tally). x.reads + occurs nodes j) (same j);
  unread = unread;
  ready = λ j h. let m = ready j h in (m.0, subst (λ (x : Tally). x.reads + length nodes < 2 ^ 32) (same j) m.1);
  part = λ j h. h;
}

-- each of the first was made ready
pub record Readying (t : Tallied) (nodes rest : List ℕ) (more : ℕ) : Type 0 where
  pub ready : (j : ℕ) → Has nodes j → Has rest j ⊎ ((j < length t.tallies) × (reads_of t j + more < 2 ^ 32))

pub readying_turns : (t t' : Tallied) (nodes rest : List ℕ) (more : ℕ) → Readying t nodes rest more → (node : ℕ) (behind : List ℕ) → rest ≡ node ∷ behind → ((j : ℕ) → tally_at t'.tallies j ≡ tally_at t.tallies j) → length t.tallies ≤ length t'.tallies
    → node < length t'.tallies → reads_of t' node + more < 2 ^ 32 → Readying t' nodes behind more
readying_turns t t' nodes rest more r node behind is same long covered fits = record {
  ready = λ j h. elim (r.ready j h) [
    | inl m ↦ elim (subst (λ l. Has l j) is m) [ inl e ↦ inr (subst (λ k. (k < length t'.tallies) × (reads_of t' k + more < 2 ^ 32)) e (covered, fits)) | inr b ↦ inl b ]
    | inr m ↦ inr (omega arith, subst (λ (x : Tally). x.reads + more < 2 ^ 32) (sym (same j)) m.1)
  ];
}

-- what was raised and lowered again is as it was
pub taken_back : (t t1 t2 : Tallied) (nodes : List ℕ) → ((j : ℕ) → reads_of t1 j ≡ reads_of t j + occurs nodes j) → Lowers t1 t2 nodes → (j : ℕ) → reads_of t2 j ≡ reads_of t j
taken_back t t1 t2 nodes raised lowers j = let r = raised j in let l = lowers.counts j in omega arith

-- the same nodes take each other's place
pub exchanged_same : (t : Tallied) (before after : List ℕ) → before ≡ after → Exchanges t t before after
exchanged_same t before after same = record {
  counts = λ j. let e : occurs before j ≡ occurs after j = ap (λ l. occurs l j) same in omega arith;
  kept = λ j h. h;
  listed = λ j lt z. inr z;
}

-- raised, and then lowered
pub exchanged : (t t1 t2 : Tallied) (before after : List ℕ) → ((j : ℕ) → reads_of t1 j ≡ reads_of t j + occurs after j) → t1.unread ≡ t.unread → Lowers t1 t2 before → Exchanges t t2 before after
exchanged t t1 t2 before after raised same lowers = record {
  counts = λ j. let r = raised j in let l = lowers.counts j in omega arith;
  kept = λ j h. lowers.kept j (subst (λ l. Has l j) (sym same) h);
  listed = λ j lt z. inl (lowers.listed j (let r = raised j in omega arith) z);
}
