-- A graph stays sound where its clean records count as verified now, and that is what a walk does that runs nothing.
use Rattle.std.proofs.Common.{if◌then◌else◌, ◌≡◌, ℕ, Bool, true, false, ◌||◌, ◌==◌, List, [], ◌∷◌, ◌++◌, refl, ap, sym, ◌∙◌, subst, inl, inr, ◌⊎◌, Option, Some, None, append-nil, slice_index_or, arith}
use Rattle.std.specs.Option.{option_map, option_map_or}
use Rattle.std.specs.Map.{lookup}
use Rattle.query_core.specs.Lists.{Has, Each, IsOnce}
use Rattle.query_core.specs.Queries.{Queries}
use Rattle.query_core.specs.Graph.{Held, at, node_of, record_of, inputs, is_current}
use Rattle.query_core.specs.Soundness.{kept, IsUnchanged, Replays, IsSound, IsUnswept}
use Rattle.query_core.specs.Changes.{IsRunBy, WalkedBy, ran}
use Rattle.query_core.specs.Freshening.{AreClean, AreMarked, IsKept, Freshened, mark_at}
use Rattle.query_core.specs.Node.{Node}
use Rattle.query_core.specs.Stored.{Stored, Freshens}
use Rattle.query_core.specs.declared.rules.Step.{Step}
use Rattle.query_core.proofs.Words.{Has-left, Each-from, Each-map, filter_map-same}
use Rattle.query_core.proofs.Puts.{pair_of}
use Rattle.query_core.proofs.Calls.{held}
use Rattle.query_core.proofs.Steps.{stamped_current}
use Rattle.query_core.proofs.Leaving.{Left, IsLeftOrRan}
use Rattle.query_core.proofs.Ending.{walked_from}
use Rattle.query_core.proofs.Cycles.{no_cycle_same, empty_no_cycle}

module _ {K V : Type 0} (q : Queries K V) (clean : ℕ → Bool) (old new : Held K V) (sound : IsSound q old) (are : AreClean q old clean) (f : Freshened q clean old new) where
  -- a record that stood, and what became of it
  pub record Came (j : ℕ) (d : Node K V) : Type 0 where
    pub was : Node K V
    pub stood : at old j ≡ Some was
    pub how : ((clean j ≡ true) × (d ≡ record was { verified_at = old.revision })) ⊎ ((clean j ≡ false) × (d ≡ was))

  came : (j : ℕ) (d : Node K V) → at new j ≡ Some d → Came j d
  came j d e =
      elim (at old j) as (λ o. at old j ≡ o → Came j d) [
        | None ↦ (λ n. let gone = f.free j n in let bad : ⊥ = cc in absurd bad)
        | Some s ↦ (λ at_j.
            elim (clean j) as (λ b. clean j ≡ b → Came j d) [
              | true ↦ (λ c. let h = f.here j s at_j c in let same : record s { verified_at = old.revision } ≡ d = cc in record { was = s; stood = at_j; how = inl (c, sym same) })
              | false ↦ (λ c. let h = f.others j c in let same : s ≡ d = cc in record { was = s; stood = at_j; how = inr (c, sym same) })
            ] refl)
      ] refl

  becomes : (j : ℕ) (s : Node K V) → at old j ≡ Some s → (d : Node K V) × (at new j ≡ Some d)
  becomes j s e =
      elim (clean j) as (λ b. clean j ≡ b → (d : Node K V) × (at new j ≡ Some d)) [
        | true ↦ (λ c. (record s { verified_at = old.revision }, f.here j s e c))
        | false ↦ (λ c. (s, f.others j c ∙ e))
      ] refl

  -- what is the same of it
  same_key : (j : ℕ) (d : Node K V) (c : Came j d) → d.key ≡ c.was.key
  same_key j d c = elim c.how [ inl h ↦ ap (λ (x : Node K V). x.key) h.1 | inr h ↦ ap (λ (x : Node K V). x.key) h.1 ]

  same_value : (j : ℕ) (d : Node K V) (c : Came j d) → d.value ≡ c.was.value
  same_value j d c = elim c.how [ inl h ↦ ap (λ (x : Node K V). x.value) h.1 | inr h ↦ ap (λ (x : Node K V). x.value) h.1 ]

  same_reads : (j : ℕ) (d : Node K V) (c : Came j d) → d.reads ≡ c.was.reads
  same_reads j d c = elim c.how [ inl h ↦ ap (λ (x : Node K V). x.reads) h.1 | inr h ↦ ap (λ (x : Node K V). x.reads) h.1 ]

  same_input : (j : ℕ) (d : Node K V) (c : Came j d) → d.input ≡ c.was.input
  same_input j d c = elim c.how [ inl h ↦ ap (λ (x : Node K V). x.input) h.1 | inr h ↦ ap (λ (x : Node K V). x.input) h.1 ]

  same_changed : (j : ℕ) (d : Node K V) (c : Came j d) → d.changed_at ≡ c.was.changed_at
  same_changed j d c = elim c.how [ inl h ↦ ap (λ (x : Node K V). x.changed_at) h.1 | inr h ↦ ap (λ (x : Node K V). x.changed_at) h.1 ]

  -- what was verified now still is, and so is what is clean
  still_current : (j : ℕ) (d : Node K V) (c : Came j d) → is_current q old c.was ≡ true → is_current q new d ≡ true
  still_current j d c cur =
      elim c.how [
        | inl h ↦ stamped_current q new d (ap (λ (x : Node K V). x.verified_at) h.1 ∙ sym f.revision)
        | inr h ↦ ap (is_current q new) h.1 ∙ ap (λ n. q.is_input c.was.key || (c.was.verified_at == n)) f.revision ∙ cur
      ]

  input_current : (d : Node K V) → q.is_input d.key ≡ true → is_current q new d ≡ true
  input_current d is = ap (λ b. b || (d.verified_at == new.revision)) is

  clean_current : (j : ℕ) (d : Node K V) (c : Came j d) → clean j ≡ true → is_current q new d ≡ true
  clean_current j d c is =
      elim c.how [
        | inl h ↦ stamped_current q new d (ap (λ (x : Node K V). x.verified_at) h.1 ∙ sym f.revision)
        | inr h ↦ (let no = h.0 in let bad : ⊥ = cc in absurd bad)
      ]

  read_current : (i j : ℕ) (e d : Node K V) → at new i ≡ Some e → is_current q new e ≡ true → Has e.reads j → at new j ≡ Some d → is_current q new d ≡ true
  read_current i j e d at_e cur has at_d =
      let a = came i e at_e in
      let b = came j d at_d in
      let has' : Has a.was.reads j = subst (λ l. Has l j) (same_reads i e a) has in
      elim a.how [
        | inl h ↦ elim (are.reads i j a.was b.was a.stood h.0 has' b.stood).0 [
          | inl is ↦ input_current d (subst (λ x. q.is_input x ≡ true) (sym (same_key j d b)) is)
          | inr c ↦ clean_current j d b c
        ]
        | inr h ↦ still_current j d b (sound.verified i j a.was b.was a.stood (sym (ap (is_current q new) h.1 ∙ ap (λ n. q.is_input a.was.key || (a.was.verified_at == n)) f.revision) ∙ cur) has' b.stood)
      ]

  pair_same : (j : ℕ) → option_map pair_of (at new j) ≡ option_map pair_of (at old j)
  pair_same j =
      elim (at old j) as (λ o. at old j ≡ o → option_map pair_of (at new j) ≡ option_map pair_of o) [
        | None ↦ (λ n. ap (option_map pair_of) (f.free j n))
        | Some s ↦ (λ e.
            elim (clean j) as (λ b. clean j ≡ b → option_map pair_of (at new j) ≡ Some (pair_of s)) [
              | true ↦ (λ c. ap (option_map pair_of) (f.here j s e c))
              | false ↦ (λ c. ap (option_map pair_of) (f.others j c ∙ e))
            ] refl)
      ] refl

  kept_stays : (nodes : List ℕ) → kept new nodes ≡ kept old nodes
  kept_stays nodes = filter_map-same (λ node. option_map pair_of (at new node)) (λ node. option_map pair_of (at old node)) nodes (λ j h. pair_same j)

  replays_stay : (left : List ℕ) (v : V) (st : Step K V) → Replays old left v st → Replays new left v st
  replays_stay [] v st h = h
  replays_stay (j ∷ left) v st h = λ d e. let c = came j d e in h c.was c.stood ∙ ap Some (sym (same_key j d c))

  -- what didn't change after a record was verified, didn't in the old graph
  unchanged_was : (i : ℕ) (e : Node K V) (a : Came i e) (first left : List ℕ) → a.was.reads ≡ first ++ left → Each (IsUnchanged new e.verified_at) first → Each (IsUnchanged old a.was.verified_at) first
  unchanged_was i e a first left s un =
      elim a.how [
        | inl h ↦ Each-from (IsUnchanged old a.was.verified_at) first
            (λ j m d at_d. (are.reads i j a.was d a.stood h.0 (subst (λ l. Has l j) (sym s) (Has-left first left j m)) at_d).1)
        | inr h ↦ Each-map (IsUnchanged new e.verified_at) (IsUnchanged old a.was.verified_at) first
            (λ j m p d at_d.
            let b = becomes j d at_d in
            let c = came j b.0 b.1 in
            let stood = c.stood in
            let same : c.was ≡ d = cc in
            let le = p b.0 b.1 in
            let changed : b.0.changed_at ≡ d.changed_at = same_changed j b.0 c ∙ ap (λ (x : Node K V). x.changed_at) same in
            let since : e.verified_at ≡ a.was.verified_at = ap (λ (x : Node K V). x.verified_at) h.1 in omega arith) un
      ]

  pub sound_freshens : IsSound q new
  sound_freshens = record {
    stands = λ i j e at_e has. let a = came i e at_e in let d = sound.stands i j a.was a.stood (subst (λ l. Has l j) (same_reads i e a) has) in becomes j d.0 d.1;
    verified = read_current;
    replays = λ i e at_e isnt first left s un.
        let a = came i e at_e in
        let s' : a.was.reads ≡ first ++ left = sym (same_reads i e a) ∙ s in
        let base = sound.replays i a.was a.stood (subst (λ x. q.is_input x ≡ false) (same_key i e a) isnt) first left s' (unchanged_was i e a first left s' un) in
        subst (λ v. Replays new left v (q.step e.key (kept new first))) (sym (same_value i e a))
        (subst (λ x. Replays new left a.was.value (q.step x (kept new first))) (sym (same_key i e a))
        (subst (λ l. Replays new left a.was.value (q.step a.was.key l)) (sym (kept_stays first))
        (replays_stay left a.was.value (q.step a.was.key (kept old first)) base)));
    inputs = λ i e at_e is. let a = came i e at_e in same_reads i e a ∙ sound.inputs i a.was a.stood (subst (λ x. q.is_input x ≡ true) (same_key i e a) is);
    stamps = λ i e at_e.
        let a = came i e at_e in
        let s = sound.stamps i a.was a.stood in
        let rev = f.revision in
        let changed = same_changed i e a in (
          elim a.how [
            | inl h ↦ (let v : e.verified_at ≡ old.revision = ap (λ (x : Node K V). x.verified_at) h.1 in omega arith)
            | inr h ↦ (let v : e.verified_at ≡ a.was.verified_at = ap (λ (x : Node K V). x.verified_at) h.1 in let le = s.0 in omega arith)
          ],
          (let le = s.1 in omega arith),
        );
    numbered = λ i e at_e. let a = came i e at_e in f.numbers e.key ∙ subst (λ x. node_of q old x ≡ Some i) (sym (same_key i e a)) (sound.numbered i a.was a.stood);
    numbers = λ k i n.
        let st = sound.numbers k i (sym (f.numbers k) ∙ n) in
        let b = becomes i st.0 st.1 in
        let c = came i b.0 b.1 in
        let stood = c.stood in
        let at_i = st.1 in
        let same : c.was ≡ st.0 = cc in
        (b.0, b.1, same_key i b.0 c ∙ ap (λ (x : Node K V). x.key) same ∙ st.2);
    once = subst IsOnce (sym f.runs) sound.once;
    flagged = λ i e at_e. let a = came i e at_e in same_input i e a ∙ sound.flagged i a.was a.stood ∙ ap q.is_input (sym (same_key i e a));
  }

  abbrev IsRunNow : Held K V → K → Type 0
  IsRunNow g k = (n : ℕ) × ((e : Node K V) × ((node_of q g k ≡ Some n) × (at g n ≡ Some e) × (q.is_input k ≡ false) × (e.verified_at ≡ g.revision)))

  run_stays : (k : K) → IsRunNow old k → IsRunNow new k
  run_stays k h =
      let b = becomes h.0 h.1.0 h.1.1.1 in
      let c = came h.0 b.0 b.1 in
      let stood = c.stood in
      let at_h = h.1.1.1 in
      let same : c.was ≡ h.1.0 = cc in
      let stamp : b.0.verified_at ≡ new.revision =
      elim c.how [
        | inl m ↦ ap (λ (x : Node K V). x.verified_at) m.1 ∙ sym f.revision
        | inr m ↦ ap (λ (x : Node K V). x.verified_at) (m.1 ∙ same) ∙ h.1.1.3 ∙ sym f.revision
      ] in
      (h.0, (b.0, (f.numbers k ∙ h.1.1.0, b.1, h.1.1.2, stamp)))

  pub unswept_freshens : IsUnswept q old → IsUnswept q new
  unswept_freshens u = subst (Each (IsRunNow new)) (sym f.runs) (Each-map (IsRunNow old) (IsRunNow new) old.runs (λ k m h. run_stays k h) u)

  value_at_node : (i : ℕ) (v : V) → option_map_or (λ (r : Node K V). r.value) (at new i) v ≡ option_map_or (λ (r : Node K V). r.value) (at old i) v
  value_at_node i v =
      elim (at old i) as (λ o. at old i ≡ o → option_map_or (λ (r : Node K V). r.value) (at new i) v ≡ option_map_or (λ (r : Node K V). r.value) o v) [
        | None ↦ (λ n. ap (λ o. option_map_or (λ (r : Node K V). r.value) o v) (f.free i n))
        | Some s ↦ (λ e. let b = becomes i s e in let c = came i b.0 b.1 in let stood = c.stood in let same : c.was ≡ s = cc in
            ap (λ o. option_map_or (λ (r : Node K V). r.value) o v) b.1 ∙ same_value i b.0 c ∙ ap (λ (x : Node K V). x.value) same)
      ] refl

  value_stays : (k : K) → option_map_or (λ (r : Node K V). r.value) (record_of q new k) (q.unset k) ≡ option_map_or (λ (r : Node K V). r.value) (record_of q old k) (q.unset k)
  value_stays k =
      ap (λ o. option_map_or (λ (r : Node K V). r.value) (option_map_or (at new) o None) (q.unset k)) (f.numbers k)
      ∙ elim (node_of q old k) as (λ o. option_map_or (λ (r : Node K V). r.value) (option_map_or (at new) o None) (q.unset k) ≡ option_map_or (λ (r : Node K V). r.value) (option_map_or (at old) o None) (q.unset k)) [
        | None ↦ refl
        | Some i ↦ value_at_node i (q.unset k)
      ]

  input_at : (k : K) → inputs q new k ≡ inputs q old k
  input_at k =
      elim (q.is_input k) as (λ b. (if b then option_map_or (λ (r : Node K V). r.value) (record_of q new k) (q.unset k) else q.unset k)
      ≡ (if b then option_map_or (λ (r : Node K V). r.value) (record_of q old k) (q.unset k) else q.unset k)) [ true ↦ value_stays k | false ↦ refl ]

  pub inputs_freshen : inputs q new ≡ inputs q old
  inputs_freshen = λ t k. input_at k t

  left_all : (reached : K → Type 0) → Left q old new reached []
  left_all reached = record {
    revision = f.revision;
    runs = f.runs ∙ sym (append-nil old.runs);
    inputs_same = inputs_freshen;
    kept = λ i r e. elim (clean i) as (λ b. clean i ≡ b → IsLeftOrRan old.revision [] r (at new i)) [ true ↦ (λ c. inl (inr (f.here i r e c))) | false ↦ (λ c. inl (inl (f.others i c ∙ e))) ] refl;
    fresh = λ i s none e. let gone = f.free i none in let bad : ⊥ = cc in absurd bad;
  }

  -- a demand of nothing could have done it
  pub walked_freshens : IsUnswept q old → (reached : K → Type 0) → WalkedBy q old reached new
  walked_freshens u reached = walked_from q old reached new [] sound_freshens (unswept_freshens u) (left_all reached) tt

  -- the marks stand, and the clean records were verified in this revision
  pub marked_freshens : AreMarked q old clean → (clean' : ℕ → Bool) → ((a : ℕ) → clean' a ≡ clean a) → new.demanded_at ≡ old.revision → AreMarked q new clean'
  marked_freshens marked clean' same demanded = record {
    are_clean = record {
      reads = λ i j r d at_i c has at_j.
          let a = came i r at_i in
          let b = came j d at_j in
          let has' : Has a.was.reads j = subst (λ l. Has l j) (same_reads i r a) has in
          let c' = sym (same i) ∙ c in
          let h = are.reads i j a.was b.was a.stood c' has' b.stood in
          let le = (sound.stamps j b.was b.stood).1 in
          let changed = same_changed j d b in (
            elim h.0 [ inl is ↦ inl (subst (λ x. q.is_input x ≡ true) (sym (same_key j d b)) is) | inr y ↦ inr (same j ∙ y) ],
            elim a.how [
              | inl m ↦ (let v : r.verified_at ≡ old.revision = ap (λ (x : Node K V). x.verified_at) m.1 in omega arith)
              | inr m ↦ (let no = m.0 in let bad : ⊥ = cc in absurd bad)
            ],
          );
    };
    with_all = λ i r at_i c.
        let a = came i r at_i in
        elim a.how [
          | inl m ↦ ap (λ (x : Node K V). x.verified_at) m.1 ∙ sym demanded
          | inr m ↦ (let no = m.0 in let yes = sym (same i) ∙ c in let bad : ⊥ = cc in absurd bad)
        ];
    before = λ i r at_i c isnt.
        let a = came i r at_i in
        elim a.how [
          | inl m ↦ (let yes = m.0 in let no = sym (same i) ∙ c in let bad : ⊥ = cc in absurd bad)
          | inr m ↦ (let key = ap (λ (x : Node K V). x.key) m.1 in
              let lt = marked.before i a.was a.stood (sym (same i) ∙ c) (subst (λ x. q.is_input x ≡ false) key isnt) in
              let v : r.verified_at ≡ a.was.verified_at = ap (λ (x : Node K V). x.verified_at) m.1 in
              let rev = f.revision in omega arith)
        ];
  }

-- what a call of the store that lets the clean records count as verified now leaves
pub record FreshenDone {K V : Type 0} (q : Queries K V) (old new : Held K V) (clean' : ℕ → Bool) : Type 0 where
  pub kept : IsKept q new clean'
  pub walked : WalkedBy q old (λ k. ⊥) new
  pub numbers : (k : K) → node_of q new k ≡ node_of q old k

pub freshen_done : {K V : Type 0} (q : Queries K V) (s s' : Stored K V) (n : ℕ) (rs : List K) → IsKept q (held s n rs) (mark_at s.clean) → IsUnswept q (held s n rs) → Freshens s s' n
    → FreshenDone q (held s n rs) (held s' n rs) (mark_at s'.clean)
freshen_done {K} {V} q s s' n rs kept unswept f =
    let f' : Freshened q (mark_at s.clean) (held s n rs) (held s' n rs) = record {
      here = f.here;
      others = f.others;
      free = f.free;
      numbers = λ k. ap (lookup (q.same k)) f.numbers;
      revision = refl;
      runs = refl;
    } in
    record {
      kept = record {
        sound = sound_freshens q (mark_at s.clean) (held s n rs) (held s' n rs) kept.sound kept.marked.are_clean f';
        marked = marked_freshens q (mark_at s.clean) (held s n rs) (held s' n rs) kept.sound kept.marked.are_clean f' kept.marked (mark_at s'.clean) (λ a. ap (λ l. mark_at l a) f.clean) f.clean_at;
        acyclic = no_cycle_same s.nodes s'.nodes (λ i j r e h. let c = came q (mark_at s.clean) (held s n rs) (held s' n rs) kept.sound kept.marked.are_clean f' i r e in
            (c.was, (c.stood, subst (λ l. Has l j) (same_reads q (mark_at s.clean) (held s n rs) (held s' n rs) kept.sound kept.marked.are_clean f' i r c) h))) kept.acyclic;
      };
      walked = walked_freshens q (mark_at s.clean) (held s n rs) (held s' n rs) kept.sound kept.marked.are_clean f' unswept (λ k. ⊥);
      numbers = λ k. ap (lookup (q.same k)) f.numbers;
    }

none_at : {K V X : Type 0} (g : Held K V) → g.nodes ≡ [] → (i : ℕ) (r : Node K V) → at g i ≡ Some r → X
none_at {K} {V} {X} g nodes i r e = absurd (let n : at g i ≡ None = ap (λ (l : List (Option (Node K V))). slice_index_or l i None) nodes in let bad : ⊥ = cc in bad)

-- a graph without records
pub empty_kept : {K V : Type 0} (q : Queries K V) (g : Held K V) (clean : ℕ → Bool) → g.nodes ≡ [] → g.numbers ≡ [] → g.runs ≡ [] → IsKept q g clean
empty_kept {K} {V} q g clean nodes numbers runs =
    let unknown : (k : K) → node_of q g k ≡ None = λ k. ap (lookup (q.same k)) numbers in
    record {
      sound = record {
        stands = λ i j r e. none_at g nodes i r e;
        verified = λ i j r d e. none_at g nodes i r e;
        replays = λ i r e. none_at g nodes i r e;
        inputs = λ i r e. none_at g nodes i r e;
        stamps = λ i r e. none_at g nodes i r e;
        numbered = λ i r e. none_at g nodes i r e;
        numbers = λ k i e. absurd (let n = unknown k in let bad : ⊥ = cc in bad);
        once = subst IsOnce (sym runs) tt;
        flagged = λ i r e. none_at g nodes i r e;
      };
      marked = record { are_clean = record { reads = λ i j r d e. none_at g nodes i r e }; with_all = λ i r e. none_at g nodes i r e; before = λ i r e. none_at g nodes i r e };
      acyclic = empty_no_cycle g.nodes nodes;
    }

-- what was done by what one predicate reaches was done by what a wider one reaches
pub walked_wider : {K V : Type 0} (q : Queries K V) (g0 g : Held K V) (P R : K → Type 0) → ((k : K) → P k → R k) → WalkedBy q g0 P g → WalkedBy q g0 R g
walked_wider {K} {V} q g0 g P R f w = record {
  sound = w.sound;
  unswept = w.unswept;
  leaves = record {
    revision = w.leaves.revision;
    runs = w.leaves.runs;
    inputs_stay = w.leaves.inputs_stay;
    rest = w.leaves.rest;
    run = w.leaves.run;
    fresh = λ i s none e. let h = w.leaves.fresh i s none e in (h.0, elim h.1 [ inl a ↦ inl a | inr b ↦ inr (b.0, b.1, f s.key b.2) ]);
  };
  due = Each-map (IsRunBy q g0 P) (IsRunBy q g0 R) (ran g0 g) (λ k m h. record { reached = f k h.reached; stale = h.stale; due = h.due }) w.due;
}
