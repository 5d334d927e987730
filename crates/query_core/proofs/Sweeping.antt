-- What a sweep leaves: a store from which some records went, and its graph.
use Rattle.std.proofs.Common.{if◌then◌else◌, ◌≡◌, ℕ, ◌+◌, Bool, true, false, List, [], ◌∷◌, refl, ap, sym, ◌∙◌, subst, inl, inr, ◌⊎◌, Option, Some, None, count_by, is_some, length}
use Rattle.std.specs.List.{cons_option}
use Rattle.std.specs.Option.{option_map, option_map_or}
use Rattle.query_core.specs.Lists.{Has, Each}
use Rattle.query_core.specs.Queries.{Queries, AreLawful}
use Rattle.query_core.specs.Graph.{Held, at, node_of, record_of, inputs}
use Rattle.query_core.specs.Stored.{Stored}
use Rattle.query_core.specs.Removal.{Leaves}
use Rattle.query_core.specs.Marking.{root_nodes}
use Rattle.query_core.specs.Soundness.{kept, IsUnchanged, Replays, IsSound}
use Rattle.query_core.specs.Cycles.{IsBelow}
use Rattle.query_core.specs.Cycles.IsBelow.{at_once}
use Rattle.query_core.specs.Sweeping.{IsUsed, Sweeps}
use Rattle.query_core.specs.Sweeping.IsUsed.{by_root, by_read}
use Rattle.query_core.specs.Freshening.{AreMarked, IsKept, mark_at}
use Rattle.query_core.specs.Node.{Node}
use Rattle.query_core.specs.declared.rules.Step.{Step}
use Rattle.query_core.proofs.Words.{Has-left, Has-right, Each-map, kept-same}
use Rattle.query_core.proofs.Reading.{record_is, record_none}
use Rattle.query_core.proofs.Marking.{at_within}
use Rattle.query_core.proofs.Cycles.{climb, below_trans, no_cycle_same}
use Rattle.query_core.proofs.Calls.{held, lookup_same}

module _ {K V : Type 0} where
  -- what a sweep has to show
  pub record SweepDone (q : Queries K V) (old new : Held K V) (clean : ℕ → Bool) (roots : List K) (count : ℕ) : Type 0 where
    pub kept : IsKept q new clean
    pub sweeps : Sweeps q old new roots count

  replays_same : (old new : Held K V) (left : List ℕ) (v : V) (st : Step K V) → ((j : ℕ) → Has left j → at new j ≡ at old j) → Replays old left v st → Replays new left v st
  replays_same old new [] v st f h = h
  replays_same old new (j ∷ left) v st f h = λ d e. h d (sym (f j (inl refl)) ∙ e)

  -- the nodes of the roots are those of their keys
  root_has : (q : Queries K V) (g : Held K V) (roots : List K) (k : K) (i : ℕ) → Has roots k → node_of q g k ≡ Some i → Has (root_nodes q g roots) i
  root_has q g [] k i h e = absurd h
  root_has q g (x ∷ xs) k i h e =
      elim h [
        | inl s ↦ (let e' : node_of q g x ≡ Some i = subst (λ y. node_of q g y ≡ Some i) (sym s) e in in_front (node_of q g x) e')
        | inr m ↦ behind (node_of q g x) (root_has q g xs k i m e)
      ]
    where
      in_front : (o : Option ℕ) → o ≡ Some i → Has (cons_option o (root_nodes q g xs)) i
      in_front None e = absurd (let bad : ⊥ = cc in bad)
      in_front (Some n) e = inl (let s : n ≡ i = cc in s)

      behind : (o : Option ℕ) → Has (root_nodes q g xs) i → Has (cons_option o (root_nodes q g xs)) i
      behind None h = h
      behind (Some n) h = inr h

  root_from : (q : Queries K V) (g : Held K V) (roots : List K) (i : ℕ) → Has (root_nodes q g roots) i → (k : K) × (Has roots k × (node_of q g k ≡ Some i))
  root_from q g [] i h = absurd h
  root_from q g (x ∷ xs) i h =
      elim (node_of q g x) as (λ o. node_of q g x ≡ o → Has (cons_option o (root_nodes q g xs)) i → (k : K) × (Has (x ∷ xs) k × (node_of q g k ≡ Some i))) [
        | None ↦ (λ e m. let r = root_from q g xs i m in (r.0, (inr r.1.0, r.1.1)))
        | Some n ↦ (λ e m. elim m [ inl s ↦ (x, (inl refl, e ∙ ap Some s)) | inr t ↦ (let r = root_from q g xs i t in (r.0, (inr r.1.0, r.1.1))) ])
      ] refl h

  module _ (q : Queries K V) (laws : AreLawful q) (eq : K → K → Bool) (same : (a b : K) → eq a b ≡ q.same a b) (s s' : Stored K V) (n : ℕ) (rs : List K) (is_kept : IsKept q (held s n rs) (mark_at s.clean))
      (roots : List K) (left : Leaves eq (root_nodes q (held s n rs) roots) s s') where
    abbrev old : Held K V
    old = held s n rs

    abbrev new : Held K V
    new = held s' n rs

    abbrev sound : IsSound q old
    sound = is_kept.sound

    -- a record stays, or it went
    stays_or : (i : ℕ) (r : Node K V) → at old i ≡ Some r → (at new i ≡ Some r) ⊎ (at new i ≡ None)
    stays_or i r e =
        elim (at new i) as (λ o. at new i ≡ o → (at new i ≡ Some r) ⊎ (at new i ≡ None)) [
          | None ↦ (λ f. inr f)
          | Some x ↦ (λ f. let w = left.was i x f in let same_x : x ≡ r = cc in inl (f ∙ ap Some same_x))
        ] refl

    free_new : (i : ℕ) → at old i ≡ None → at new i ≡ None
    free_new i e =
        elim (at new i) as (λ o. at new i ≡ o → o ≡ None) [
          | None ↦ (λ _. refl)
          | Some x ↦ (λ f. absurd (let w = left.was i x f in let bad : ⊥ = cc in bad))
        ] refl

    -- what a record reads that is left, is left as it was
    read_stays : (i j : ℕ) (r : Node K V) → at new i ≡ Some r → Has r.reads j → at new j ≡ at old j
    read_stays i j r e h =
        let d = sound.stands i j r (left.was i r e) h in
        elim (stays_or j d.0 d.1) [
          | inl y ↦ y ∙ sym d.1
          | inr none ↦ absurd ((left.gone j d.0 d.1 none).2 i r e h)
        ]

    pub sound_left : IsSound q new
    sound_left = record {
      stands = λ i j r e h. let d = sound.stands i j r (left.was i r e) h in (d.0, read_stays i j r e h ∙ d.1);
      verified = λ i j r d e c h at_j. sound.verified i j r d (left.was i r e) c h (sym (read_stays i j r e h) ∙ at_j);
      replays = λ i r e isnt first left_reads s un.
          let apart : (j : ℕ) → Has r.reads j → at new j ≡ at old j = λ j h. read_stays i j r e h in
          let in_first : (j : ℕ) → Has first j → at new j ≡ at old j = λ j h. apart j (subst (λ l. Has l j) (sym s) (Has-left first left_reads j h)) in
          let in_left : (j : ℕ) → Has left_reads j → at new j ≡ at old j = λ j h. apart j (subst (λ l. Has l j) (sym s) (Has-right first left_reads j h)) in
          let un_old : Each (IsUnchanged old r.verified_at) first =
          Each-map (IsUnchanged new r.verified_at) (IsUnchanged old r.verified_at) first (λ j h p d at_d. p d (in_first j h ∙ at_d)) un in
          let base = sound.replays i r (left.was i r e) isnt first left_reads s un_old in
          subst (λ l. Replays new left_reads r.value (q.step r.key l)) (sym (kept-same old new first in_first))
          (replays_same old new left_reads r.value (q.step r.key (kept old first)) in_left base);
      inputs = λ i r e is. sound.inputs i r (left.was i r e) is;
      stamps = λ i r e. sound.stamps i r (left.was i r e);
      numbered = λ i r e. sym (lookup_same eq q.same same r.key s'.numbers) ∙ left.numbered.only r.key i r e (same r.key r.key ∙ laws.same_self r.key);
      numbers = λ k i e. let st = left.numbered.stands k i (lookup_same eq q.same same k s'.numbers ∙ e) in (st.0, st.1.0, sym (laws.same k st.0.key (sym (same k st.0.key) ∙ st.1.1)));
      once = sound.once;
      flagged = λ i r e. sound.flagged i r (left.was i r e);
    }

    -- the marks of what is left
    marked_left : AreMarked q new (mark_at s'.clean)
    marked_left =
        let marked = is_kept.marked in
        record {
          are_clean = record {
            reads = λ i j r d e c h at_j.
                let m = marked.are_clean.reads i j r d (left.was i r e) (left.less i c) h (left.was j d at_j) in (elim m.0 [ inl is ↦ inl is | inr cj ↦ inr (left.stay j d at_j ∙ cj) ], m.1);
          };
          with_all = λ i r e c. marked.with_all i r (left.was i r e) (left.less i c) ∙ sym left.clean_at;
          before = λ i r e c isnt. marked.before i r (left.was i r e) (sym (left.stay i r e) ∙ c) isnt;
        }

    kept_left : IsKept q new (mark_at s'.clean)
    kept_left = record { sound = sound_left; marked = marked_left; acyclic = no_cycle_same s.nodes s'.nodes (λ i j r e h. (r, (left.was i r e, h))) is_kept.acyclic }

    -- what the roots use stays
    used_stays : (i : ℕ) → IsUsed q old roots i → (r : Node K V) → at old i ≡ Some r → at new i ≡ Some r
    used_stays i (by_root k j h e) r at_i = elim (stays_or i r at_i) [ inl y ↦ y | inr none ↦ absurd ((left.gone i r at_i none).1 (root_has q old roots k i h e)) ]
    used_stays i (by_read a j d u at_a h) r at_i = read_stays a i d (used_stays a u d at_a) h ∙ at_i

    -- a record that is left, though the roots don't use it
    record IsOver (i : ℕ) : Type 0 where
      pub over : Node K V
      pub stands : at new i ≡ Some over
      pub no_input : q.is_input over.key ≡ false
      pub unused : ¬ IsUsed q old roots i

    -- such a record is read by another one
    next_over : (i : ℕ) → IsOver i → ((p : ℕ) → IsOver p → ¬ IsBelow s.nodes p i) → ⊥
    next_over i o top =
        elim (left.read i o.over o.stands (sound.flagged i o.over (left.was i o.over o.stands) ∙ o.no_input)) [
          | inl h ↦ (let r = root_from q old roots i h in o.unused (by_root r.0 i r.1.0 r.1.1))
          | inr h ↦
              (let e = h.1.0 in
              let at_a = left.was h.0 e h.1.1.0 in
              let isnt : q.is_input e.key ≡ false =
              (elim (q.is_input e.key) as (λ b. q.is_input e.key ≡ b → b ≡ false) [ true ↦ (λ y. absurd (subst (λ l. Has l i) (sound.inputs h.0 e at_a y) h.1.1.1)) | false ↦ (λ _. refl) ] refl) in
              top h.0 (record { over = e; stands = h.1.1.0; no_input = isnt; unused = λ u. o.unused (by_read h.0 i e u at_a h.1.1.1) }) (at_once i e at_a h.1.1.1))
        ]

    unused_goes : (i : ℕ) (r : Node K V) → at old i ≡ Some r → q.is_input r.key ≡ false → ¬ IsUsed q old roots i → at new i ≡ None
    unused_goes i r e isnt none_uses =
        elim (stays_or i r e) [
          | inr none ↦ none
          | inl y ↦ absurd
              (climb IsOver (IsBelow s.nodes) (below_trans s.nodes) is_kept.acyclic (length s'.nodes) i (record { over = r; stands = y; no_input = isnt; unused = none_uses })
              (λ m pm top. next_over m pm (λ p pp b. top p (at_within s'.nodes p pp.over pp.stands) pp b)))
        ]

    -- a node that a key has now is the one that it had
    node_was : (k : K) (i : ℕ) → node_of q new k ≡ Some i → node_of q old k ≡ Some i
    node_was k i e = let st = sound_left.numbers k i e in subst (λ x. node_of q old x ≡ Some i) st.2 (sound.numbered i st.0 (left.was i st.0 st.1))

    no_node : (k : K) → ((i : ℕ) → node_of q new k ≡ Some i → ⊥) → node_of q new k ≡ None
    no_node k f = elim (node_of q new k) as (λ o. node_of q new k ≡ o → o ≡ None) [ None ↦ (λ _. refl) | Some i ↦ (λ e. absurd (f i e)) ] refl

    unknown_stays : (k : K) → node_of q old k ≡ None → node_of q new k ≡ None
    unknown_stays k e = no_node k (λ i h. let w = node_was k i h in let bad : ⊥ = cc in bad)

    node_left : (k : K) (i : ℕ) → node_of q old k ≡ Some i → node_of q new k ≡ option_map (λ (r : Node K V). i) (at new i)
    node_left k i e =
        elim (at new i) as (λ o. at new i ≡ o → node_of q new k ≡ option_map (λ (r : Node K V). i) o) [
          | None ↦ (λ f. no_node k (λ j h.
              let w = node_was k j h in
              let st = sound_left.numbers k j h in
              let ij : j ≡ i = cc in
              let here = subst (λ m. at new m ≡ Some st.0) ij st.1 in let bad : ⊥ = cc in bad))
          | Some x ↦ (λ f.
              let st = sound.numbers k i e in
              let w = left.was i x f in
              let at_i = st.1 in
              let s : st.0 ≡ x = cc in
              let key : x.key ≡ k = subst (λ (y : Node K V). y.key ≡ k) s st.2 in
              subst (λ y. node_of q new y ≡ Some i) key (sound_left.numbered i x f))
        ] refl

    input_left : (i : ℕ) (r : Node K V) → at old i ≡ Some r → q.is_input r.key ≡ true → at new i ≡ Some r
    input_left i r e is =
        elim (stays_or i r e) [ inl y ↦ y | inr none ↦ absurd (let no = (left.gone i r e none).0 in let yes = sound.flagged i r e ∙ is in let bad : ⊥ = cc in bad) ]

    record_left : (k : K) → q.is_input k ≡ true → record_of q new k ≡ record_of q old k
    record_left k is =
        elim (node_of q old k) as (λ o. node_of q old k ≡ o → record_of q new k ≡ record_of q old k) [
          | None ↦ (λ e. record_none q new k (unknown_stays k e) ∙ sym (record_none q old k e))
          | Some i ↦ (λ e.
              let st = sound.numbers k i e in
              let here = input_left i st.0 st.1 (subst (λ x. q.is_input x ≡ true) (sym st.2) is) in
              let num = subst (λ x. node_of q new x ≡ Some i) st.2 (sound_left.numbered i st.0 here) in
              record_is q new k i st.0 num here ∙ sym (record_is q old k i st.0 e st.1))
        ] refl

    input_at : (k : K) → inputs q new k ≡ inputs q old k
    input_at k =
        elim (q.is_input k) as (λ b. q.is_input k ≡ b
        → (if b then option_map_or (λ (r : Node K V). r.value) (record_of q new k) (q.unset k) else q.unset k) ≡ (if b then option_map_or (λ (r : Node K V). r.value) (record_of q old k) (q.unset k) else q.unset k)) [
          | true ↦ (λ is. ap (λ o. option_map_or (λ (r : Node K V). r.value) o (q.unset k)) (record_left k is))
          | false ↦ (λ _. refl)
        ] refl

    pub sweep_done : (count : ℕ) → count_by is_some s'.nodes + count ≡ count_by is_some s.nodes → SweepDone q old new (mark_at s'.clean) roots count
    sweep_done count counted = record {
      kept = kept_left;
      sweeps = record {
        inputs_at = input_left;
        used = λ i r e u. used_stays i u r e;
        unused = unused_goes;
        free = free_new;
        numbered = node_left;
        unknown = unknown_stays;
        counted = counted;
        inputs_stay = λ t k. input_at k t;
        revision = refl;
        runs = refl;
      };
    }
