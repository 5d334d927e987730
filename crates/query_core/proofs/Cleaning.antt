-- The marks of a graph after an input was set, and after a key was finished.
use Rattle.std.proofs.Common.{◌≡◌, ◌≢◌, ℕ, ◌<◌, Bool, true, false, ◌||◌, ◌==◌, List, [], refl, ap, sym, ◌∙◌, subst, inl, inr, ◌⊎◌, Some, None, arith}
use Rattle.std.proofs.lemmas.Bool.{cases_eq}
use Rattle.query_core.specs.Lists.{Has}
use Rattle.query_core.specs.Queries.{Queries, AreLawful}
use Rattle.query_core.specs.Graph.{Held, at, node_of, record_of, is_current, is_verified}
use Rattle.query_core.specs.Soundness.{IsSound}
use Rattle.query_core.specs.Changes.{Puts, IsFresh, IsStamped, Moves}
use Rattle.query_core.specs.Stored.{Stored, Prepares, is_clean}
use Rattle.query_core.specs.Freshening.{AreClean, AreMarked, IsKept, mark_at}
use Rattle.query_core.specs.Node.{Node}
use Rattle.query_core.proofs.Values.{current_stamp}
use Rattle.query_core.proofs.Steps.{not_current, stamped_current}
use Rattle.query_core.proofs.Puts.{Keeps, same_key}
use Rattle.query_core.proofs.Reading.{record_is}
use Rattle.query_core.proofs.Calls.{held, SetDone}
use Rattle.query_core.proofs.Finishing.{FinishDone}
use Rattle.query_core.proofs.Cycles.{no_cycle_input, no_cycle_puts}

module _ {K V : Type 0} (q : Queries K V) (laws : AreLawful q) (old new : Held K V) (clean clean' : ℕ → Bool) (i : ℕ) (r : Node K V) (sound : IsSound q old) (puts : Puts q old new i r) (are : AreClean q old clean) where
  -- what may still be clean once the record of an input was put
  abbrev pub StayClean : Type 0
  StayClean =
      (a j : ℕ) (e : Node K V) → at old a ≡ Some e → clean' a ≡ true → Has e.reads j
      → ((j ≢ i) ⊎ ((s : Node K V) → at old i ≡ Some s → r.changed_at ≡ s.changed_at)) × (j ≢ i → clean j ≡ true → clean' j ≡ true)

  -- An input was set, and what reaches it was opened: what is still clean was, and reads neither what has changed nor what was opened.
  pub opens_clean : q.is_input r.key ≡ true → r.reads ≡ [] → ((a : ℕ) → clean' a ≡ true → clean a ≡ true) → StayClean → AreClean q new clean'
  opens_clean is none less closed = record {
    reads = λ a j e d at_e c has at_d.
        elim (cases_eq a i) [
          | inl ai ↦ absurd (let here : at new i ≡ Some e = subst (λ n. at new n ≡ Some e) ai at_e in let p = puts.here in let same : r ≡ e = cc in
              let bad : ⊥ = subst (λ l. Has l j) (ap (λ (x : Node K V). x.reads) (sym same) ∙ none) has in bad)
          | inr na ↦
              (let was = sym (puts.others a na) ∙ at_e in
              let cl = closed a j e was c has in
              elim (cases_eq j i) [
                | inr nj ↦ (let h = are.reads a j e d was (less a c) has (sym (puts.others j nj) ∙ at_d) in
                    (elim h.0 [ inl x ↦ inl x | inr y ↦ inr (cl.1 nj y) ], h.1))
                | inl ji ↦ (let here : at new i ≡ Some d = subst (λ n. at new n ≡ Some d) ji at_d in
                    let p = puts.here in
                    let same : r ≡ d = cc in
                    let st = sound.stands a j e was has in
                    let at_i : at old i ≡ Some st.0 = subst (λ n. at old n ≡ Some st.0) ji st.1 in
                    let h = are.reads a j e st.0 was (less a c) has st.1 in
                    let ch : r.changed_at ≡ st.0.changed_at = elim cl.0 [ inl nj ↦ absurd (nj ji) | inr f ↦ f st.0 at_i ] in
                    let rd : d.changed_at ≡ r.changed_at = ap (λ (x : Node K V). x.changed_at) (sym same) in
                    let le = h.1 in
                    (inl (subst (λ (x : Node K V). q.is_input x.key ≡ true) same is), omega arith))
              ])
        ];
  }

  -- the marks then
  pub opens_marked : AreMarked q old clean → q.is_input r.key ≡ true → r.reads ≡ [] → clean' i ≡ false → ((a : ℕ) → clean' a ≡ true → clean a ≡ true) → StayClean → new.demanded_at ≡ old.demanded_at
      → ((a : ℕ) (e : Node K V) → at old a ≡ Some e → a ≢ i → clean' a ≡ false → q.is_input e.key ≡ false → e.verified_at < old.revision) → AreMarked q new clean'
  opens_marked marked is none own less closed demanded before = record {
    are_clean = opens_clean is none less closed;
    with_all = λ a e at_e c.
        elim (cases_eq a i) [
          | inl ai ↦ (let c' : clean' i ≡ true = subst (λ n. clean' n ≡ true) ai c in let bad : ⊥ = cc in absurd bad)
          | inr na ↦ marked.with_all a e (sym (puts.others a na) ∙ at_e) (less a c) ∙ sym demanded
        ];
    before = λ a e at_e c isnt.
        elim (cases_eq a i) [
          | inl ai ↦ absurd (let here : at new i ≡ Some e = subst (λ n. at new n ≡ Some e) ai at_e in let p = puts.here in let same : r ≡ e = cc in
              let yes : q.is_input e.key ≡ true = subst (λ (x : Node K V). q.is_input x.key ≡ true) same is in let bad : ⊥ = cc in bad)
          | inr na ↦ (let lt = before a e (sym (puts.others a na) ∙ at_e) na c isnt in let rev = puts.revision in omega arith)
        ];
  }

  -- A key was finished, where all that is verified now is an input's or clean: its record is clean too, and no other mark has changed.
  pub finish_clean : Keeps q old i r → r.verified_at ≡ old.revision → clean' i ≡ true → ((a : ℕ) → a ≢ i → clean' a ≡ clean a)
      → ((j : ℕ) (d : Node K V) → at old j ≡ Some d → is_current q old d ≡ true → (q.is_input d.key ≡ true) ⊎ (clean j ≡ true))
      → ((j : ℕ) (d : Node K V) → at old j ≡ Some d → clean j ≡ true → is_current q old d ≡ true)
      → ((s : Node K V) → at old i ≡ Some s → is_current q old s ≡ false) → AreClean q new clean'
  finish_clean keeps stamp own others currents cleans stale = record {
    reads = λ a j e d at_e c has at_d.
        elim (cases_eq a i) [
          | inl ai ↦
              (let here : at new i ≡ Some e = subst (λ n. at new n ≡ Some e) ai at_e in
              let p = puts.here in
              let same : r ≡ e = cc in
              let k = keeps.reads j (subst (λ (x : Node K V). Has x.reads j) (sym same) has) in
              let at_j = k.1.1.0 in
              let at_j' = sym (puts.others j k.0) ∙ at_d in
              let same_d : k.1.0 ≡ d = cc in
              let cur : is_current q old d ≡ true = subst (λ (x : Node K V). is_current q old x ≡ true) same_d k.1.1.1 in
              let le = (sound.stamps j d at_j').1 in
              let v : e.verified_at ≡ old.revision = ap (λ (x : Node K V). x.verified_at) (sym same) ∙ stamp in
              (elim (currents j d at_j' cur) [ inl x ↦ inl x | inr y ↦ inr (others j k.0 ∙ y) ], (omega arith)))
          | inr na ↦
              (let was = sym (puts.others a na) ∙ at_e in
              let clean_a : clean a ≡ true = sym (others a na) ∙ c in
              let st = sound.stands a j e was has in
              let nj : j ≢ i = (λ ji.
              let at_i = subst (λ n. at old n ≡ Some st.0) ji st.1 in
              let no = stale st.0 at_i in
              let h = (are.reads a j e st.0 was clean_a has st.1).0 in
              elim h [
                | inl is ↦ (let yes : is_current q old st.0 ≡ true = ap (λ b. b || (st.0.verified_at == old.revision)) is in let bad : ⊥ = cc in bad)
                | inr cj ↦ (let yes = cleans j st.0 st.1 cj in let bad : ⊥ = cc in bad)
              ]) in
              let h = are.reads a j e d was clean_a has (sym (puts.others j nj) ∙ at_d) in
              (elim h.0 [ inl x ↦ inl x | inr y ↦ inr (others j nj ∙ y) ], h.1))
        ];
  }

  -- the marks then
  pub finish_marked : AreMarked q old clean → old.demanded_at ≡ old.revision → new.demanded_at ≡ old.demanded_at → Keeps q old i r → q.is_input r.key ≡ false → clean' i ≡ true → ((a : ℕ) → a ≢ i → clean' a ≡ clean a)
      → ((s : Node K V) → at old i ≡ Some s → is_current q old s ≡ false) → AreMarked q new clean'
  finish_marked marked fresh demanded keeps isnt own others stale =
      let stamp = current_stamp q old r keeps.current isnt in
      let cleans : (j : ℕ) (d : Node K V) → at old j ≡ Some d → clean j ≡ true → is_current q old d ≡ true = λ j d at_j c. stamped_current q old d (marked.with_all j d at_j c ∙ fresh) in
      let currents : (j : ℕ) (d : Node K V) → at old j ≡ Some d → is_current q old d ≡ true → (q.is_input d.key ≡ true) ⊎ (clean j ≡ true) =
      (λ j d at_j cur.
      elim (q.is_input d.key) as (λ b. q.is_input d.key ≡ b → (b ≡ true) ⊎ (clean j ≡ true)) [
        | true ↦ (λ _. inl refl)
        | false ↦ (λ no. elim (clean j) as (λ b. clean j ≡ b → (false ≡ true) ⊎ (b ≡ true)) [
          | true ↦ (λ _. inr refl)
          | false ↦ (λ c. let lt = marked.before j d at_j c no in let now = current_stamp q old d cur no in absurd (omega arith))
        ] refl)
      ] refl) in
      record {
        are_clean = finish_clean keeps stamp own others currents cleans stale;
        with_all = λ a e at_e c.
            elim (cases_eq a i) [
              | inl ai ↦ (let here : at new i ≡ Some e = subst (λ n. at new n ≡ Some e) ai at_e in let p = puts.here in let same : r ≡ e = cc in
                  ap (λ (x : Node K V). x.verified_at) (sym same) ∙ stamp ∙ sym fresh ∙ sym demanded)
              | inr na ↦ marked.with_all a e (sym (puts.others a na) ∙ at_e) (sym (others a na) ∙ c) ∙ sym demanded
            ];
        before = λ a e at_e c no.
            elim (cases_eq a i) [
              | inl ai ↦ (let c' : clean' i ≡ false = subst (λ n. clean' n ≡ false) ai c in let bad : ⊥ = cc in absurd bad)
              | inr na ↦ (let lt = marked.before a e (sym (puts.others a na) ∙ at_e) (sym (others a na) ∙ c) no in let rev = puts.revision in omega arith)
            ];
      }

module _ {K V : Type 0} (q : Queries K V) (laws : AreLawful q) (old new : Held K V) (clean clean' : ℕ → Bool) (kept : IsKept q old clean) (k : K) (i : ℕ) (done : FinishDone q old new k i) (others : (a : ℕ) → a ≢ i → clean' a ≡ clean a) where
  -- a key was finished that is no input, and its record is clean
  pub finish_kept : q.is_input k ≡ false → is_verified q old k ≡ false → old.demanded_at ≡ old.revision → clean' i ≡ true → IsKept q new clean'
  finish_kept isnt stale fresh own =
      let f = done.finishes in record {
        sound = done.sound;
        marked = finish_marked q laws old new clean clean' i f.entry kept.sound f.puts kept.marked.are_clean kept.marked fresh f.demanded_at done.keeps (subst (λ x. q.is_input x ≡ false) (sym f.key) isnt) own others
            (λ s at_i. not_current q old kept.sound k i s stale at_i (same_key q laws old new i f.entry kept.sound f.puts s at_i ∙ f.key));
        acyclic = no_cycle_puts q old new i f.entry f.puts kept.sound (λ j h. (done.keeps.reads j h).1)
            (λ s at_i. not_current q old kept.sound k i s stale at_i (same_key q laws old new i f.entry kept.sound f.puts s at_i ∙ f.key)) kept.acyclic;
      }

  -- an input was added that isn't set
  pub unset_kept : q.is_input k ≡ true → at old i ≡ None → clean' i ≡ false → IsKept q new clean'
  unset_kept is free own =
      let f = done.finishes in
      let is' : q.is_input f.entry.key ≡ true = subst (λ x. q.is_input x ≡ true) (sym f.key) is in
      let none = done.keeps.inputs is' in
      record {
        sound = done.sound;
        marked = opens_marked q laws old new clean clean' i f.entry kept.sound f.puts kept.marked.are_clean kept.marked is' none own
            (λ a c. elim (cases_eq a i) [ inl ai ↦ (let c' : clean' i ≡ true = subst (λ n. clean' n ≡ true) ai c in let bad : ⊥ = cc in absurd bad) | inr na ↦ sym (others a na) ∙ c ])
            (λ a j e at_a c has. (
              inr (λ s at_i. let bad : ⊥ = cc in absurd bad),
              λ nj cj. others j nj ∙ cj,
            ))
            f.demanded_at
            (λ a e at_a na c no. kept.marked.before a e at_a (sym (others a na) ∙ c) no);
        acyclic = no_cycle_input q old new i f.entry f.puts none kept.acyclic;
      }

module _ {K V : Type 0} (q : Queries K V) (laws : AreLawful q) (s s' : Stored K V) (n : ℕ) (rs : List K) (kept : IsKept q (held s n rs) (mark_at s.clean)) (fresh : IsFresh q (held s n rs)) (k : K) (v : V) (i : ℕ)
    (done : SetDone q (held s n rs) (held s' n rs) k v i) (is : q.is_input k ≡ true) (mark : is_clean s' i ≡ false) (same_at : s'.clean_at ≡ s.clean_at) where
  set_is : q.is_input done.sets.entry.key ≡ true
  set_is = subst (λ x. q.is_input x ≡ true) (sym done.sets.key) is

  puts_at : Puts q (held s n rs) (held s' n rs) i done.sets.entry
  puts_at = subst (λ m. Puts q (held s n rs) (held s' n rs) m done.sets.entry) done.node_is done.sets.puts

  not_own : (a : ℕ) → is_clean s' a ≡ true → a ≢ i
  not_own a c ai = let c' : is_clean s' i ≡ true = subst (λ m. is_clean s' m ≡ true) ai c in let bad : ⊥ = cc in bad

  -- an input was added
  pub added_kept : at (held s n rs) i ≡ None → ((j : ℕ) → j ≢ i → is_clean s' j ≡ is_clean s j) → IsKept q (held s' n rs) (mark_at s'.clean)
  added_kept free others = record {
    sound = done.sound;
    marked = opens_marked q laws (held s n rs) (held s' n rs) (mark_at s.clean) (mark_at s'.clean) i done.sets.entry kept.sound puts_at kept.marked.are_clean kept.marked set_is done.sets.reads mark
        (λ a c. sym (others a (not_own a c)) ∙ c)
        (λ a j e at_a c has. (inr (λ x at_i. let bad : ⊥ = cc in absurd bad), λ nj cj. others j nj ∙ cj))
        same_at
        (λ a e at_a na c no. fresh a e at_a no);
    acyclic = no_cycle_input q (held s n rs) (held s' n rs) i done.sets.entry puts_at done.sets.reads kept.acyclic;
  }

  -- an input's value was set, in a store that was prepared for it
  pub prepared_kept : (same : V → V → Bool) → ((a b : V) → same a b ≡ true → a ≡ b) → (s1 : Stored K V) → Prepares same s s1 i v → ((j : ℕ) → j ≢ i → is_clean s' j ≡ is_clean s1 j) → IsKept q (held s' n rs) (mark_at s'.clean)
  prepared_kept same means s1 p others = record {
    sound = done.sound;
    marked = opens_marked q laws (held s n rs) (held s' n rs) (mark_at s.clean) (mark_at s'.clean) i done.sets.entry kept.sound puts_at kept.marked.are_clean kept.marked set_is done.sets.reads mark
        (λ a c. p.less a (sym (others a (not_own a c)) ∙ c))
        (λ a j e at_a c has.
        let cl = p.closed a j e at_a (sym (others a (not_own a c)) ∙ c) has in (
          elim cl.0 [
            | inl nj ↦ inl nj
            | inr f ↦ inr (λ x at_i.
                let key : x.key ≡ k = same_key q laws (held s n rs) (held s' n rs) i done.sets.entry kept.sound puts_at x at_i ∙ done.sets.key in
                let rec : record_of q (held s n rs) k ≡ Some x = record_is q (held s n rs) k i x (subst (λ y. node_of q (held s n rs) y ≡ Some i) key (kept.sound.numbered i x at_i)) at_i in
                let moves : Moves n x done.sets.entry = subst (λ o. IsStamped n o done.sets.entry) rec done.sets.stamped in
                elim moves [ inl m ↦ m.1 | inr m ↦ absurd (m.0 (done.sets.value ∙ sym (means x.value v (f x at_i)))) ])
          ],
          λ nj cj. others j nj ∙ cl.1 cj,
        ))
        same_at
        (λ a e at_a na c no. fresh a e at_a no);
    acyclic = no_cycle_input q (held s n rs) (held s' n rs) i done.sets.entry puts_at done.sets.reads kept.acyclic;
  }
