-- How a key is finished, over the store of a graph.
use Rattle.std.proofs.Common.{◌≡◌, ℕ, ◌≤◌, Bool, true, false, cond, List, [], ◌∷◌, ◌++◌, length, refl, sym, ◌∙◌, subst, inl, inr, ◌⊎◌, Some, None, arith}
use Rattle.std.proofs.lemmas.List.{take_all}
use Rattle.std.specs.Map.{lookup}
use Rattle.query_core.specs.Lists.{Has, Each}
use Rattle.query_core.specs.Queries.{Queries, AreLawful}
use Rattle.query_core.specs.Graph.{Held, at, node_of, record_of, is_verified}
use Rattle.query_core.specs.Stored.{Stored, Changes, Adds, node_at}
use Rattle.query_core.specs.Soundness.{IsSound, IsUnswept}
use Rattle.query_core.specs.Changes.{Puts, IsStamped, Moves}
use Rattle.query_core.specs.Walk.{IsSettled, IsSettledTo, IsOutdated, IsEntry, Finishes}
use Rattle.query_core.specs.Node.{Node}
use Rattle.query_core.proofs.Words.{Each-at}
use Rattle.query_core.proofs.Reading.{record_is, verified_is, record_none}
use Rattle.query_core.proofs.Puts.{Keeps, sound_puts, unswept_puts}
use Rattle.query_core.proofs.Calls.{held, stored_node, puts_changes, puts_adds, moves_if, lookup_same}
use Rattle.query_core.proofs.Steps.{stamped_current, touch_keeps, enter_keeps, unset_keeps}

-- what a step that finishes a key has to show
pub record FinishDone {K V : Type 0} (q : Queries K V) (old new : Held K V) (k : K) (i : ℕ) : Type 0 where
  pub sound : IsSound q new
  pub unswept : IsUnswept q new
  pub finishes : Finishes q old new k i
  pub keeps : Keeps q old i finishes.entry

module _ {K V : Type 0} where
  -- a key that isn't verified didn't run in this revision
  pub not_ran : (q : Queries K V) (g : Held K V) → IsUnswept q g → (k : K) → is_verified q g k ≡ false → ¬ Has g.runs k
  not_ran q g unswept k stale has =
      let h = Each-at (λ x. (i : ℕ) × ((r : Node K V) × ((node_of q g x ≡ Some i) × (at g i ≡ Some r) × (q.is_input x ≡ false) × (r.verified_at ≡ g.revision)))) g.runs k unswept has in
      let cur = stamped_current q g h.1.0 h.1.1.3 in
      let v = verified_is q g k h.0 h.1.0 h.1.1.0 h.1.1.1 in
      let bad : ⊥ = cc in bad

  module _ (q : Queries K V) (laws : AreLawful q) (eq : K → K → Bool) (same : (a b : K) → eq a b ≡ q.same a b) (s s' : Stored K V) (n : ℕ) (rs rs' : List K) (sound : IsSound q (held s n rs)) (unswept : IsUnswept q (held s n rs)) (same_at : s'.clean_at ≡ s.clean_at) (k : K) where
    pub touch_done : (i : ℕ) → rs' ≡ rs → node_of q (held s n rs) k ≡ Some i → q.is_input k ≡ false → is_verified q (held s n rs) k ≡ false
        → ((r : Node K V) → node_at s i ≡ Some r → IsSettledTo q (held s n rs) r (length r.reads))
        → ((r : Node K V) → node_at s i ≡ Some r → Changes s s' i (record r { verified_at = n })) → FinishDone q (held s n rs) (held s' n rs') k i
    touch_done i runs found isnt stale settled ch =
        let st = sound.numbers k i found in
        let r = st.0 in
        let all : Each (IsSettled q (held s n rs) r.verified_at) r.reads = subst (Each (IsSettled q (held s n rs) r.verified_at)) (take_all (length r.reads) r.reads (omega arith)) (settled r st.1).1 in
        let keeps = touch_keeps q laws (held s n rs) sound k i r st.1 st.2 isnt stale all in
        let puts = puts_changes q laws s s' n rs rs' sound i r (record r { verified_at = n }) st.1 refl (ch r st.1) in
        record {
          sound = sound_puts q laws (held s n rs) (held s' n rs') i (record r { verified_at = n }) sound puts keeps (inl runs);
          unswept = unswept_puts q laws (held s n rs) (held s' n rs') i (record r { verified_at = n }) sound puts keeps unswept (inl runs);
          keeps = keeps;
          finishes = record { entry = record r { verified_at = n }; puts = puts; demanded_at = same_at; key = st.2; current = keeps.current; how = inl (runs, (r, (st.1, refl))) };
        }

    pub unset_done : (i : ℕ) (v : V) (reads : List ℕ) → rs' ≡ rs → record_of q (held s n rs) k ≡ None → lookup (eq k) s.numbers ≡ None → q.is_input k ≡ true → v ≡ q.unset k → reads ≡ []
        → Adds eq s s' i (record { key = k; value = v; reads = reads; input = true; verified_at = n; changed_at = n }) → FinishDone q (held s n rs) (held s' n rs') k i
    unset_done i v reads runs absent missing is value none ad =
        let r : Node K V = record { key = k; value = v; reads = reads; input = true; verified_at = n; changed_at = n } in
        let puts = puts_adds q eq same s s' n rs rs' i r missing ad in
        let keeps = unset_keeps q laws (held s n rs) sound i r ad.free is refl none (omega arith) (omega arith) in
        record {
          sound = sound_puts q laws (held s n rs) (held s' n rs') i r sound puts keeps (inl runs);
          unswept = unswept_puts q laws (held s n rs) (held s' n rs') i r sound puts keeps unswept (inl runs);
          keeps = keeps;
          finishes = record { entry = r; puts = puts; demanded_at = same_at; key = refl; current = keeps.current; how = inr (inr (runs, is, ad.free, value, refl)) };
        }

    enter_done : (i : ℕ) (r : Node K V) (v : V) (reads : List ℕ) → rs' ≡ rs ++ k ∷ [] → IsEntry q (held s n rs) k v reads → Puts q (held s n rs) (held s' n rs') i r
        → r.key ≡ k → r.value ≡ v → r.reads ≡ reads → r.input ≡ false → r.verified_at ≡ n → r.changed_at ≤ n → IsStamped n (record_of q (held s n rs) k) r
        → ((e : Node K V) → at (held s n rs) i ≡ Some e → (e.key ≡ k) × (((r.value ≡ e.value) × (r.changed_at ≡ e.changed_at)) ⊎ (r.changed_at ≡ n)))
        → FinishDone q (held s n rs) (held s' n rs') k i
    enter_done i r v reads runs entry puts key value reads_is flag va ca stamped was =
        let keeps = enter_keeps q laws (held s n rs) sound k i r reads v entry key value reads_is flag va ca was in
        let runs_r : rs' ≡ rs ++ r.key ∷ [] = subst (λ x. rs' ≡ rs ++ x ∷ []) (sym key) runs in
        let isnt_r : q.is_input r.key ≡ false = subst (λ x. q.is_input x ≡ false) (sym key) entry.no_input in
        let on = inr (runs_r, isnt_r, subst (λ x. ¬ Has rs x) (sym key) (not_ran q (held s n rs) unswept k entry.stale)) in
        record {
          sound = sound_puts q laws (held s n rs) (held s' n rs') i r sound puts keeps on;
          unswept = unswept_puts q laws (held s n rs) (held s' n rs') i r sound puts keeps unswept on;
          keeps = keeps;
          finishes = record {
            entry = r;
            puts = puts;
            demanded_at = same_at;
            key = key;
            current = keeps.current;
            how = inr (inl (runs_r, isnt_r, subst (IsOutdated q (held s n rs)) (sym key) entry.outdated, subst (λ x. IsStamped n (record_of q (held s n rs) x) r) (sym key) stamped));
          };
        }

    pub enter_old : (veq : V → V → Bool) → ((a b : V) → veq a b ≡ true → a ≡ b) → ((a : V) → veq a a ≡ true) → (i : ℕ) (v : V) (reads : List ℕ) → rs' ≡ rs ++ k ∷ [] → IsEntry q (held s n rs) k v reads
        → lookup (eq k) s.numbers ≡ Some i
        → ((r : Node K V) → node_at s i ≡ Some r → Changes s s' i (record { key = r.key; value = v; reads = reads; input = r.input; verified_at = n; changed_at = cond (veq r.value v) r.changed_at n }))
        → FinishDone q (held s n rs) (held s' n rs') k i
    enter_old veq means itself i v reads runs entry found ch =
        let st = stored_node q eq same s n rs sound k i found in
        let new : Node K V = record { key = st.0.key; value = v; reads = reads; input = st.0.input; verified_at = n; changed_at = cond (veq st.0.value v) st.0.changed_at n } in
        let puts = puts_changes q laws s s' n rs rs' sound i st.0 new st.1 refl (ch st.0 st.1) in
        let moves : Moves n st.0 new = moves_if veq means itself n st.0 new refl in
        let was : record_of q (held s n rs) k ≡ Some st.0 = record_is q (held s n rs) k i st.0 (sym (lookup_same eq q.same same k s.numbers) ∙ found) st.1 in
        let small : cond (veq st.0.value v) st.0.changed_at n ≤ n = elim moves [ inl p ↦ (let le = (sound.stamps i st.0 st.1).1 in let e = p.1 in omega arith) | inr p ↦ (let e = p.1 in omega arith) ] in
        enter_done i new v reads runs entry puts st.2 refl refl (sound.flagged i st.0 st.1 ∙ subst (λ x. q.is_input x ≡ false) (sym st.2) entry.no_input) refl small (subst (λ o. IsStamped n o new) (sym was) moves)
        (λ e at_e. let same_e : st.0 ≡ e = (let h = st.1 in cc) in
        subst (λ (x : Node K V). (x.key ≡ k) × (((new.value ≡ x.value) × (new.changed_at ≡ x.changed_at)) ⊎ (new.changed_at ≡ n))) same_e
        (st.2, elim moves [ inl p ↦ inl p | inr p ↦ inr p.1 ]))

    pub enter_new : (i : ℕ) (v : V) (reads : List ℕ) → rs' ≡ rs ++ k ∷ [] → IsEntry q (held s n rs) k v reads → lookup (eq k) s.numbers ≡ None → s.clean_at ≡ n
        → Adds eq s s' i (record { key = k; value = v; reads = reads; input = false; verified_at = s.clean_at; changed_at = n }) → FinishDone q (held s n rs) (held s' n rs') k i
    enter_new i v reads runs entry absent fresh added =
        let ad = subst (λ m. Adds eq s s' i (record { key = k; value = v; reads = reads; input = false; verified_at = m; changed_at = n })) fresh added in
        let new : Node K V = record { key = k; value = v; reads = reads; input = false; verified_at = n; changed_at = n } in
        let puts = puts_adds q eq same s s' n rs rs' i new absent ad in
        let was : record_of q (held s n rs) k ≡ None = record_none q (held s n rs) k (sym (lookup_same eq q.same same k s.numbers) ∙ absent) in
        enter_done i new v reads runs entry puts refl refl refl refl refl (omega arith) (subst (λ o. IsStamped n o new) (sym was) refl)
        (λ e at_e. let free = ad.free in let bad : ⊥ = cc in absurd bad)
