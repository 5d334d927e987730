-- The tallies of records that are written, added and removed, and the removal of those that nothing reads.
use Rattle.std.proofs.Common.{◌≡◌, ◌≢◌, ℕ, zero, suc, ◌+◌, ◌<◌, ◌==◌, Bool, true, false, not, ◌&&◌, cond, List, [], ◌∷◌, map, refl, ap, sym, ◌∙◌, subst, inl, inr, ◌⊎◌, Option, Some, None, slice_index_or, count_by, is_some, arith}
use Rattle.std.proofs.lemmas.Bool.{cases_eq}
use Rattle.std.specs.List.{fold}
use Rattle.std.specs.Map.{lookup}
use Rattle.std.specs.Option.{option_map, option_map_or}
use Rattle.query_core.specs.Lists.{Has}
use Rattle.query_core.specs.Node.{Node}
use Rattle.query_core.specs.Answering.{IsNumbered}
use Rattle.query_core.specs.Stored.{Stored, AreNamed, stored, shown, node_at, is_clean, marked_clean}
use Rattle.query_core.specs.Readers.{Entries, Names, KeepsNames}
use Rattle.query_core.specs.Tallies.{Tallied, AreTallied, Exchanges, Lowers, reads_of, occurs, reads_in, times_read}
use Rattle.query_core.specs.Known.{AreKnown}
use Rattle.query_core.specs.Removal.{goes, IsGone, Removing, Removes, Leaves}
use Rattle.query_core.specs.declared.record.Record.{Record}
use Rattle.query_core.proofs.Counting.{occurs_has, has_occurs}
use Rattle.query_core.proofs.Slots.{seen_at, mark_is, kept_of}
use Rattle.query_core.proofs.Reached.{named_written, named_linked, named_free}

module _ {K V : Type 0} where
  abbrev slot : List (Option (Record K V)) → ℕ → Option (Record K V)
  slot slots i = slice_index_or slots i None

  -- slots that hold the same are read as often
  times_none : (slots : List (Option (Record K V))) (j : ℕ) → ((i : ℕ) → slot slots i ≡ None) → times_read slots j ≡ 0
  times_none [] j f = refl
  times_none (o ∷ os) j f = let h = times_none os j (λ i. f (suc i)) in let g : occurs (reads_in o) j ≡ 0 = ap (λ x. occurs (reads_in x) j) (f 0) in omega arith

  times_same : (slots slots' : List (Option (Record K V))) (j : ℕ) → ((i : ℕ) → slot slots' i ≡ slot slots i) → times_read slots' j ≡ times_read slots j
  times_same [] slots' j f = times_none slots' j f
  times_same (o ∷ os) [] j f = sym (times_none (o ∷ os) j (λ i. sym (f i)))
  times_same (o ∷ os) (o' ∷ os') j f = let h = times_same os os' j (λ i. f (suc i)) in let g : occurs (reads_in o') j ≡ occurs (reads_in o) j = ap (λ x. occurs (reads_in x) j) (f 0) in omega arith

  -- one slot was written
  pub times_written : (slots slots' : List (Option (Record K V))) (i j : ℕ) → ((k : ℕ) → k ≢ i → slot slots' k ≡ slot slots k) → times_read slots' j + occurs (reads_in (slot slots i)) j ≡ times_read slots j + occurs (reads_in (slot slots' i)) j
  times_written [] [] i j f = refl
  times_written [] (o ∷ os) zero j f = let h = times_none os j (λ i. f (suc i) (λ e. absurd (omega arith))) in omega arith
  times_written [] (o ∷ os) (suc i) j f =
      let h = times_written [] os i j (λ k n. f (suc k) (λ e. n (omega arith))) in let g : occurs (reads_in o) j ≡ 0 = ap (λ x. occurs (reads_in x) j) (f 0 (λ e. absurd (omega arith))) in omega arith
  times_written (o ∷ os) [] zero j f = let h = times_none os j (λ i. sym (f (suc i) (λ e. absurd (omega arith)))) in omega arith
  times_written (o ∷ os) [] (suc i) j f =
      let h = times_written os [] i j (λ k n. f (suc k) (λ e. n (omega arith))) in let g : 0 ≡ occurs (reads_in o) j = ap (λ x. occurs (reads_in x) j) (f 0 (λ e. absurd (omega arith))) in omega arith
  times_written (o ∷ os) (o' ∷ os') zero j f = let h = times_same os os' j (λ i. f (suc i) (λ e. absurd (omega arith))) in omega arith
  times_written (o ∷ os) (o' ∷ os') (suc i) j f =
      let h = times_written os os' i j (λ k n. f (suc k) (λ e. n (omega arith))) in let g : occurs (reads_in o') j ≡ occurs (reads_in o) j = ap (λ x. occurs (reads_in x) j) (f 0 (λ e. absurd (omega arith))) in omega arith

  -- a node that a record reads is read, and one that is read some record reads
  pub times_has : (slots : List (Option (Record K V))) (i j : ℕ) (r : Record K V) → slot slots i ≡ Some r → Has r.reads j → 0 < times_read slots j
  times_has [] i j r e h = absurd (let bad : ⊥ = cc in bad)
  times_has (o ∷ os) zero j r e h = let g : 0 < occurs (reads_in o) j = subst (λ x. 0 < occurs (reads_in x) j) (sym e) (occurs_has r.reads j h) in omega arith
  times_has (o ∷ os) (suc i) j r e h = let g = times_has os i j r e h in omega arith

  reader_in : (o : Option (Record K V)) (j : ℕ) → 0 < occurs (reads_in o) j → (r : Record K V) × ((o ≡ Some r) × Has r.reads j)
  reader_in None j lt = absurd (omega arith)
  reader_in (Some r) j lt = (r, (refl, has_occurs r.reads j lt))

  pub reader_of : (slots : List (Option (Record K V))) (j : ℕ) → 0 < times_read slots j → (i : ℕ) × ((r : Record K V) × ((slot slots i ≡ Some r) × Has r.reads j))
  reader_of [] j lt = absurd (omega arith)
  reader_of (o ∷ os) j lt =
      elim (cases_eq (occurs (reads_in o) j) 0) [
        | inl z ↦ (let g = reader_of os j (omega arith) in (suc g.0, g.1))
        | inr n ↦ (0, reader_in o j (omega arith))
      ]

  -- a slot was written, whose new reads were raised and old reads lowered
  pub tallied_written : (slots slots' : List (Option (Record K V))) (t t1 t2 : Tallied) (roots : List ℕ) (i : ℕ) (before after : List ℕ) (x : Record K V) → AreTallied slots t roots → ((k : ℕ) → k ≢ i → slot slots' k ≡ slot slots k)
      → reads_in (slot slots i) ≡ before → slot slots' i ≡ Some x → x.reads ≡ after → ((r : Record K V) → slot slots i ≡ Some r → r.input ≡ x.input) → (slot slots i ≡ None → Has t2.unread i)
      → ((j : ℕ) → reads_of t1 j ≡ reads_of t j + occurs after j) → ((j : ℕ) → Has t.unread j → Has t1.unread j) → Lowers t1 t2 before → AreTallied slots' t2 roots
  tallied_written slots slots' t t1 t2 roots i before after x a others was here reads input free raised kept lowers = record {
    counted = λ j.
        let c = a.counted j in
        let w = times_written slots slots' i j others in
        let w1 : occurs (reads_in (slot slots i)) j ≡ occurs before j = ap (λ l. occurs l j) was in
        let w2 : occurs (reads_in (slot slots' i)) j ≡ occurs after j = ap (λ o. occurs (reads_in o) j) here ∙ ap (λ l. occurs l j) reads in
        let r = raised j in let l = lowers.counts j in omega arith;
    unread = λ j r e isnt z.
        let old : (0 < reads_of t1 j) ⊎ (reads_of t j ≡ 0) = elim (cases_eq (reads_of t1 j) 0) [ inl y ↦ inr (let d = raised j in omega arith) | inr n ↦ inl (omega arith) ] in
        elim old [
          | inl lt ↦ lowers.listed j lt z
          | inr z0 ↦
              elim (cases_eq j i) [
                | inl ji ↦ subst (Has t2.unread) (sym ji)
                    (elim (slot slots i) as (λ o. slot slots i ≡ o → Has t2.unread i) [
                      | None ↦ (λ n. free n)
                      | Some y ↦ (λ s. let e' : slot slots' i ≡ Some r = subst (λ k. slot slots' k ≡ Some r) ji e in let same : x ≡ r = cc in
                          lowers.kept i (kept i (a.unread i y s (input y s ∙ ap (λ (q : Record K V). q.input) same ∙ isnt) (subst (λ k. reads_of t k ≡ 0) ji z0))))
                    ] refl)
                | inr n ↦ lowers.kept j (kept j (a.unread j r (sym (others j n) ∙ e) isnt z0))
              ]
        ];
  }

  -- a slot was written that reads what it read, and is an input's where it was
  pub tallied_same : (slots slots' : List (Option (Record K V))) (t : Tallied) (roots : List ℕ) → AreTallied slots t roots
      → ((i : ℕ) → reads_in (slot slots' i) ≡ reads_in (slot slots i)) → ((i : ℕ) (r : Record K V) → slot slots' i ≡ Some r → (s : Record K V) × ((slot slots i ≡ Some s) × (s.input ≡ r.input))) → AreTallied slots' t roots
  tallied_same slots slots' t roots a reads was = record {
    counted = λ j. a.counted j ∙ ap (λ n. n + occurs roots j) (sym (times_alike slots slots' j reads));
    unread = λ j r e isnt z. let w = was j r e in a.unread j w.0 w.1.0 (w.1.1 ∙ isnt) z;
  }
    where
      nothing : (slots : List (Option (Record K V))) (j : ℕ) → ((i : ℕ) → reads_in (slot slots i) ≡ []) → times_read slots j ≡ 0
      nothing [] j f = refl
      nothing (o ∷ os) j f = let h = nothing os j (λ i. f (suc i)) in let g : occurs (reads_in o) j ≡ 0 = ap (λ l. occurs l j) (f 0) in omega arith

      times_alike : (slots slots' : List (Option (Record K V))) (j : ℕ) → ((i : ℕ) → reads_in (slot slots' i) ≡ reads_in (slot slots i)) → times_read slots' j ≡ times_read slots j
      times_alike [] slots' j f = nothing slots' j f
      times_alike (o ∷ os) [] j f = sym (nothing (o ∷ os) j (λ i. sym (f i)))
      times_alike (o ∷ os) (o' ∷ os') j f = let h = times_alike os os' j (λ i. f (suc i)) in let g : occurs (reads_in o') j ≡ occurs (reads_in o) j = ap (λ l. occurs l j) (f 0) in omega arith

  -- other roots took the place of these
  pub tallied_exchanged : (slots : List (Option (Record K V))) (t t' : Tallied) (before after : List ℕ) → AreTallied slots t before → Exchanges t t' before after → AreTallied slots t' after
  tallied_exchanged slots t t' before after a e = record {
    counted = λ j. let c = a.counted j in let x = e.counts j in omega arith;
    unread = λ j r at_j isnt z.
        elim (cases_eq (reads_of t j + occurs after j) 0) [
          | inl y ↦ e.kept j (a.unread j r at_j isnt (omega arith))
          | inr n ↦ elim (e.listed j (omega arith) z) [ inl h ↦ h | inr y ↦ e.kept j (a.unread j r at_j isnt y) ]
        ];
  }

  -- nothing but what a caller sees as the same has changed
  pub tallied_kept : (slots : List (Option (Record K V))) (t t' : Tallied) (roots : List ℕ) → AreTallied slots t roots → ((j : ℕ) → reads_of t' j ≡ reads_of t j) → ((j : ℕ) → Has t.unread j → Has t'.unread j) → AreTallied slots t' roots
  tallied_kept slots t t' roots a same kept = record { counted = λ j. same j ∙ a.counted j; unread = λ j r e isnt z. kept j (a.unread j r e isnt (sym (same j) ∙ z)) }

  -- one record is removed: the others keep their numbers
  pub numbers_left : (eq : K → K → Bool) (s s' : Stored K V) (i : ℕ) (r : Node K V) → IsNumbered eq s → node_at s i ≡ Some r → ((a b : K) → eq a b ≡ eq b a)
      → node_at s' i ≡ None → ((j : ℕ) → j ≢ i → node_at s' j ≡ node_at s j) → ((k : K) → lookup (eq k) s'.numbers ≡ cond (eq r.key k) None (lookup (eq k) s.numbers)) → IsNumbered eq s'
  numbers_left eq s s' i r num e turn gone others numbers = record {
    stands = λ k j h.
        elim (eq r.key k) as (λ b. eq r.key k ≡ b → (d : Node K V) × ((node_at s' j ≡ Some d) × (eq k d.key ≡ true))) [
          | true ↦ (λ y. let none : lookup (eq k) s'.numbers ≡ None = numbers k ∙ ap (λ (b : Bool). cond b None (lookup (eq k) s.numbers)) y in let bad : ⊥ = cc in absurd bad)
          | false ↦ (λ y.
              let was : lookup (eq k) s.numbers ≡ Some j = sym (numbers k ∙ ap (λ (b : Bool). cond b None (lookup (eq k) s.numbers)) y) ∙ h in
              let st = num.stands k j was in
              elim (cases_eq j i) [
                | inl ji ↦ absurd (let here = subst (λ m. node_at s m ≡ Some st.0) ji st.1.0 in let d : st.0 ≡ r = cc in
                    let yes = turn r.key k ∙ subst (λ (x : Node K V). eq k x.key ≡ true) d st.1.1 in let bad : ⊥ = cc in bad)
                | inr ne ↦ (st.0, (others j ne ∙ st.1.0, st.1.1))
              ])
        ] refl;
    only = λ k j d at_j is.
        elim (cases_eq j i) [
          | inl ji ↦ absurd (let here = subst (λ m. node_at s' m ≡ Some d) ji at_j in let bad : ⊥ = cc in bad)
          | inr ne ↦
              (let was = num.only k j d (sym (others j ne) ∙ at_j) is in
              elim (eq r.key k) as (λ b. eq r.key k ≡ b → lookup (eq k) s'.numbers ≡ Some j) [
                | true ↦ (λ y. let own = num.only k i r e (turn k r.key ∙ y) in absurd (ne (let x : j ≡ i = cc in x)))
                | false ↦ (λ y. numbers k ∙ ap (λ (b : Bool). cond b None (lookup (eq k) s.numbers)) y ∙ was)
              ] refl)
        ];
  }

  module _ (eq : K → K → Bool) (roots : List ℕ) (c : ℕ) (old : List (Option (Record K V))) where
    pub removing_begins : (numbers : List (K × ℕ)) (t : Tallied) → AreTallied old t roots → IsNumbered eq (stored old numbers c) → Removing eq roots c old old numbers t
    removing_begins numbers t a num = record {
      tallied = a;
      was = λ i r e. e;
      gone = λ i r e n. absurd (let bad : ⊥ = cc in bad);
      numbered = num;
      fewer = omega arith;
    }

    -- a node whose record goes
    pub goes_record : (slots : List (Option (Record K V))) (t : Tallied) (node : ℕ) → goes slots t node ≡ true → (r : Record K V) × ((slot slots node ≡ Some r) × (r.input ≡ false) × (reads_of t node ≡ 0))
    goes_record slots t node g = of_slot (slot slots node) refl g
      where
        of_slot : (o : Option (Record K V)) → slot slots node ≡ o → option_map_or (λ (r : Record K V). not r.input && (reads_of t node == 0)) o false ≡ true → (r : Record K V) × ((slot slots node ≡ Some r) × (r.input ≡ false) × (reads_of t node ≡ 0))
        of_slot None e y = absurd (let bad : ⊥ = cc in bad)
        of_slot (Some r) e y =
            elim (r.input) as (λ b. r.input ≡ b → (not b && (reads_of t node == 0)) ≡ true → (x : Record K V) × ((slot slots node ≡ Some x) × (x.input ≡ false) × (reads_of t node ≡ 0))) [
              | true ↦ (λ _ m. absurd (let bad : ⊥ = cc in bad))
              | false ↦ (λ f m. (r, (e, f, grind (arith, m))))
            ] refl y

    goes_not : (slots : List (Option (Record K V))) (t : Tallied) (node : ℕ) (r : Record K V) → goes slots t node ≡ false → slot slots node ≡ Some r → r.input ≡ false → reads_of t node ≡ 0 → ⊥
    goes_not slots t node r g e f z =
        let h : goes slots t node ≡ (not r.input && (reads_of t node == 0)) = ap (λ o. option_map_or (λ (x : Record K V). not x.input && (reads_of t node == 0)) o false) e in
        let h2 : (not r.input && (reads_of t node == 0)) ≡ (reads_of t node == 0) = ap (λ b. not b && (reads_of t node == 0)) f in
        let h3 : (reads_of t node == 0) ≡ true = grind (arith, z) in let bad : ⊥ = cc in bad

    module _ (slots : List (Option (Record K V))) (numbers : List (K × ℕ)) (t t1 : Tallied) (p : Removing eq roots c old slots numbers t) (node : ℕ) (popped : (j : ℕ) → Has t.unread j → (j ≡ node) ⊎ Has t1.unread j) (same : (j : ℕ) → reads_of t1 j ≡ reads_of t j) where
      -- a node that was listed, and whose record stays
      pub removing_stays : goes slots t1 node ≡ false → Removing eq roots c old slots numbers t1
      removing_stays g = record {
        tallied = record {
          counted = λ j. same j ∙ p.tallied.counted j;
          unread = λ j r e isnt z. elim (popped j (p.tallied.unread j r e isnt (sym (same j) ∙ z))) [
            | inl s ↦ absurd (goes_not slots t1 node r g (subst (λ k. slot slots k ≡ Some r) s e) isnt (subst (λ k. reads_of t1 k ≡ 0) s z))
            | inr h ↦ h
          ];
        };
        was = p.was;
        gone = p.gone;
        numbered = p.numbered;
        fewer = p.fewer;
      }

      module _ (r : Record K V) (at_node : slot slots node ≡ Some r) (isnt : r.input ≡ false) (z : reads_of t1 node ≡ 0) where
        unread_by : (a : ℕ) (s : Record K V) → slot slots a ≡ Some s → ¬ Has s.reads node
        unread_by a s e h = let lt = times_has slots a node s e h in let k = p.tallied.counted node in let m = same node in absurd (omega arith)

        no_root : ¬ Has roots node
        no_root h = let lt = occurs_has roots node h in let k = p.tallied.counted node in let m = same node in absurd (omega arith)

        -- one whose record goes
        pub removing_turns : (slots' : List (Option (Record K V))) (numbers' : List (K × ℕ)) (t2 : Tallied) → slot slots' node ≡ None → ((j : ℕ) → j ≢ node → slot slots' j ≡ slot slots j) → Lowers t1 t2 r.reads
            → IsNumbered eq (stored slots' numbers' c) → count_by is_some slots' + 1 ≡ count_by is_some slots → Removing eq roots c old slots' numbers' t2
        removing_turns slots' numbers' t2 none others lowers num len =
            let was : (i : ℕ) (x : Record K V) → slot slots' i ≡ Some x → slot slots i ≡ Some x =
            (λ i x e. elim (cases_eq i node) [
              | inl s ↦ absurd (let e' : slot slots' node ≡ Some x = subst (λ k. slot slots' k ≡ Some x) s e in let bad : ⊥ = cc in bad)
              | inr n ↦ sym (others i n) ∙ e
            ]) in
            record {
              tallied = record {
                counted = λ j.
                    let k = p.tallied.counted j in
                    let m = same j in
                    let w = times_written slots slots' node j others in
                    let w1 : occurs (reads_in (slot slots node)) j ≡ occurs r.reads j = ap (λ o. occurs (reads_in o) j) at_node in
                    let w2 : occurs (reads_in (slot slots' node)) j ≡ 0 = ap (λ o. occurs (reads_in o) j) none in
                    let l = lowers.counts j in omega arith;
                unread = λ j x e isn z'.
                    elim (cases_eq (reads_of t1 j) 0) [
                      | inl y ↦ elim (popped j (p.tallied.unread j x (was j x e) isn (sym (same j) ∙ y))) [
                        | inl s ↦ absurd (let e' : slot slots' node ≡ Some x = subst (λ k. slot slots' k ≡ Some x) s e in let bad : ⊥ = cc in bad)
                        | inr h ↦ lowers.kept j h
                      ]
                      | inr n ↦ lowers.listed j (omega arith) z'
                    ];
              };
              was = λ i x e. p.was i x (was i x e);
              gone = λ i x e n.
                  elim (slot slots i) as (λ o. slot slots i ≡ o → IsGone roots slots' i x) [
                    | None ↦ (λ s. let g = p.gone i x e s in (g.0, g.1, λ a y at_a. g.2 a y (was a y at_a)))
                    | Some y ↦ (λ s.
                        elim (cases_eq i node) [
                          | inr d ↦ absurd (let o = others i d in let bad : ⊥ = cc in bad)
                          | inl d ↦ (let s' : slot slots node ≡ Some y = subst (λ k. slot slots k ≡ Some y) d s in
                              let ry : r ≡ y = cc in
                              let old_y = p.was i y s in
                              let xy : y ≡ x = cc in (
                                subst (λ (q : Record K V). q.input ≡ false) (ry ∙ xy) isnt,
                                subst (λ k. ¬ Has roots k) (sym d) no_root,
                                λ a q at_a. subst (λ k. ¬ Has q.reads k) (sym d) (unread_by a q (was a q at_a)),
                              ))
                        ])
                  ] refl;
              numbered = num;
              fewer = (let f = p.fewer in omega arith);
            }

    -- nothing is listed any more
    pub removing_ends : (slots : List (Option (Record K V))) (numbers : List (K × ℕ)) (t t1 : Tallied) → Removing eq roots c old slots numbers t → t.unread ≡ [] → ((j : ℕ) → Has t.unread j → Has t1.unread j) → ((j : ℕ) → reads_of t1 j ≡ reads_of t j)
        → Removes eq roots c old slots numbers t1
    removing_ends slots numbers t t1 p none kept same = record {
      removing = record { tallied = tallied_kept slots t t1 roots p.tallied same kept; was = p.was; gone = p.gone; numbered = p.numbered; fewer = p.fewer };
      read = λ i r e isnt.
          elim (cases_eq (reads_of t i) 0) [
            | inl z ↦ absurd (subst (λ l. Has l i) none (p.tallied.unread i r e isnt z))
            | inr n ↦ (let k = p.tallied.counted i in
                elim (cases_eq (times_read slots i) 0) [
                  | inl y ↦ inl (has_occurs roots i (omega arith))
                  | inr m ↦ inr (reader_of slots i (omega arith))
                ])
          ];
    }

  -- what is seen of that
  pub removed_seen : (eq : K → K → Bool) (roots : List ℕ) (c : ℕ) (slots slots' : List (Option (Record K V))) (numbers numbers' : List (K × ℕ)) (t : Tallied) → Removes eq roots c slots slots' numbers' t
      → Leaves eq roots (stored slots numbers c) (stored slots' numbers' c)
  removed_seen eq roots c slots slots' numbers numbers' t p =
      let back : (i : ℕ) (r : Record K V) → slot slots' i ≡ Some r → slot slots' i ≡ slot slots i = λ i r e. e ∙ sym (p.removing.was i r e) in
      record {
        was = λ i r e. let k = kept_of slots' numbers' c i r e in seen_at slots numbers c i ∙ ap (option_map (shown c)) (p.removing.was i k.0 k.1.0) ∙ ap Some k.1.1;
        gone = λ i r e n.
            let k = kept_of slots numbers c i r e in
            let none : slot slots' i ≡ None = no_slot (slot slots' i) (sym (seen_at slots' numbers' c i) ∙ n) in
            let g = p.removing.gone i k.0 k.1.0 none in (
              ap (λ (x : Node K V). x.input) (sym k.1.1) ∙ g.0,
              g.1,
              λ a s at_a h. let m = kept_of slots' numbers' c a s at_a in g.2 a m.0 m.1.0 (subst (λ (x : Node K V). Has x.reads i) (sym m.1.1) h),
            );
        read = λ i r e isnt.
            let k = kept_of slots' numbers' c i r e in
            elim (p.read i k.0 k.1.0 (ap (λ (x : Node K V). x.input) k.1.1 ∙ isnt)) [
              | inl h ↦ inl h
              | inr h ↦ inr (h.0, (shown c h.1.0, (seen_at slots' numbers' c h.0 ∙ ap (option_map (shown c)) h.1.1.0, h.1.1.1)))
            ];
        numbered = p.removing.numbered;
        less = λ i m.
            elim (slot slots' i) as (λ o. slot slots' i ≡ o → is_clean (stored slots numbers c) i ≡ true) [
              | None ↦ (λ e. absurd (let off : is_clean (stored slots' numbers' c) i ≡ false = mark_is slots' numbers' c i ∙ ap marked_clean e in let bad : ⊥ = cc in bad))
              | Some r ↦ (λ e. mark_is slots numbers c i ∙ ap marked_clean (sym (back i r e)) ∙ sym (mark_is slots' numbers' c i) ∙ m)
            ] refl;
        stay = λ i r e. let k = kept_of slots' numbers' c i r e in mark_is slots' numbers' c i ∙ ap marked_clean (back i k.0 k.1.0) ∙ sym (mark_is slots numbers c i);
        clean_at = refl;
      }
    where
      no_slot : (o : Option (Record K V)) → option_map (shown c) o ≡ None → o ≡ None
      no_slot None e = refl
      no_slot (Some r) e = absurd (let bad : ⊥ = cc in bad)

  -- what is left is named as it was
  pub named_left : (rows : List Entries) (slots slots' : List (Option (Record K V))) → AreNamed rows slots → ((i : ℕ) (r : Record K V) → slot slots' i ≡ Some r → slot slots i ≡ Some r) → AreNamed rows slots'
  named_left rows slots slots' named was i j r e h = named i j r (was i r e) h

  -- what is seen the same reads the same, and is an input's where it was
  seen_reads : (c : ℕ) (o o' : Option (Record K V)) → option_map (shown c) o' ≡ option_map (shown c) o → reads_in o' ≡ reads_in o
  seen_reads c o o' e = same o' ∙ ap (λ x. option_map_or (λ (n : Node K V). n.reads) x []) e ∙ sym (same o)
    where
      same : (o : Option (Record K V)) → reads_in o ≡ option_map_or (λ (n : Node K V). n.reads) (option_map (shown c) o) []
      same None = refl
      same (Some r) = refl

  seen_input : (c : ℕ) (o : Option (Record K V)) (r : Record K V) → option_map (shown c) (Some r) ≡ option_map (shown c) o → (s : Record K V) × ((o ≡ Some s) × (s.input ≡ r.input))
  seen_input c None r e = absurd (let bad : ⊥ = cc in bad)
  seen_input c (Some s) r e = (s, (refl, (let h : shown c r ≡ shown c s = cc in ap (λ (n : Node K V). n.input) (sym h))))

  pub tallied_seen : (c : ℕ) (slots slots' : List (Option (Record K V))) (t : Tallied) (roots : List ℕ) → AreTallied slots t roots → ((i : ℕ) → option_map (shown c) (slot slots' i) ≡ option_map (shown c) (slot slots i)) → AreTallied slots' t roots
  tallied_seen c slots slots' t roots a seen =
      tallied_same slots slots' t roots a (λ i. seen_reads c (slot slots i) (slot slots' i) (seen i)) (λ i r e. seen_input c (slot slots i) r (ap (option_map (shown c)) (sym e) ∙ seen i))

  module _ (rows : List Entries) (t : Tallied) (slots slots' : List (Option (Record K V))) (node : ℕ) (roots : List ℕ) (known : AreKnown rows t slots roots) where
    -- one record was written that reads the same, and is an input's where it was
    tallied_to : (x y : Record K V) → slot slots node ≡ Some x → slot slots' node ≡ Some y → y.reads ≡ x.reads → y.input ≡ x.input → ((k : ℕ) → k ≢ node → slot slots' k ≡ slot slots k) → AreTallied slots' t roots
    tallied_to x y was here reads input apart =
        tallied_same slots slots' t roots known.tallied
        (λ i. elim (cases_eq i node) [
          | inl e ↦ subst (λ k. reads_in (slot slots' k) ≡ reads_in (slot slots k)) (sym e) (ap reads_in here ∙ reads ∙ sym (ap reads_in was))
          | inr n ↦ ap reads_in (apart i n)
        ])
        (λ i r e. elim (cases_eq i node) [
          | inl d ↦ (let e' : slot slots' node ≡ Some r = subst (λ k. slot slots' k ≡ Some r) d e in let same : y ≡ r = cc in
              (x, (subst (λ k. slot slots k ≡ Some x) (sym d) was, sym input ∙ ap (λ (z : Record K V). z.input) same)))
          | inr n ↦ (r, (sym (apart i n) ∙ e, refl))
        ])

    pub known_written : (to : Record K V → Record K V) → ((x : Record K V) → (to x).reads ≡ x.reads) → ((x : Record K V) → (to x).input ≡ x.input) → ((x : Record K V) → slot slots node ≡ Some x → slot slots' node ≡ Some (to x))
        → (slot slots node ≡ None → slots' ≡ slots) → ((x : Record K V) → slot slots node ≡ Some x → (k : ℕ) → k ≢ node → slot slots' k ≡ slot slots k) → AreKnown rows t slots' roots
    known_written to reads input here none apart = record {
      named = named_written rows slots slots' node known.named to reads here none apart;
      tallied =
          elim (slot slots node) as (λ o. slot slots node ≡ o → AreTallied slots' t roots) [
            | None ↦ (λ n. subst (λ l. AreTallied l t roots) (sym (none n)) known.tallied)
            | Some x ↦ (λ at_x. tallied_to x (to x) at_x (here x at_x) (reads x) (input x) (apart x at_x))
          ] refl;
    }

    -- a run read what the last one read
    pub known_same : (x y : Record K V) → slot slots node ≡ Some x → slot slots' node ≡ Some y → y.reads ≡ x.reads → y.input ≡ x.input → ((k : ℕ) → k ≢ node → slot slots' k ≡ slot slots k) → AreKnown rows t slots' roots
    known_same x y was here reads input apart = record {
      named = named_linked rows slots slots' node known.named rows y here apart (λ j h. known.named node j x was (subst (λ l. Has l j) reads h)) (λ i j n m. m);
      tallied = tallied_to x y was here reads input apart;
    }

    -- a run read something else
    pub known_renewed : (rows' : List Entries) (t1 t2 : Tallied) (x y : Record K V) → slot slots node ≡ Some x → slot slots' node ≡ Some y → y.input ≡ x.input → ((k : ℕ) → k ≢ node → slot slots' k ≡ slot slots k)
        → ((j : ℕ) → Has y.reads j → Names rows' j node) → ((i j : ℕ) → i ≢ node → Names rows j i → Names rows' j i) → ((j : ℕ) → reads_of t1 j ≡ reads_of t j + occurs y.reads j) → t1.unread ≡ t.unread → Lowers t1 t2 x.reads → AreKnown rows' t2 slots' roots
    known_renewed rows' t1 t2 x y was here input apart links others raised same lowers = record {
      named = named_linked rows slots slots' node known.named rows' y here apart links others;
      tallied = tallied_written slots slots' t t1 t2 roots node x.reads y.reads y known.tallied apart (ap reads_in was) here refl
          (λ r e. let xr : x ≡ r = cc in ap (λ (z : Record K V). z.input) (sym xr) ∙ sym input)
          (λ n. absurd (let bad : ⊥ = cc in bad)) raised (λ j h. subst (λ l. Has l j) (sym same) h) lowers;
    }

    -- a record was added, and listed
    pub known_added : (rows' : List Entries) (t2 : Tallied) (y : Record K V) → slot slots node ≡ None → slot slots' node ≡ Some y → ((k : ℕ) → k ≢ node → slot slots' k ≡ slot slots k)
        → ((j : ℕ) → Has y.reads j → Names rows' j node) → ((i j : ℕ) → i ≢ node → Names rows j i → Names rows' j i) → ((j : ℕ) → reads_of t2 j ≡ reads_of t j + occurs y.reads j) → ((j : ℕ) → Has t.unread j → Has t2.unread j)
        → Has t2.unread node → AreKnown rows' t2 slots' roots
    known_added rows' t2 y was here apart links others raised kept listed = record {
      named = named_linked rows slots slots' node known.named rows' y here apart links others;
      tallied = record {
        counted = λ j.
            let c = known.tallied.counted j in
            let w = times_written slots slots' node j apart in
            let w1 : occurs (reads_in (slot slots node)) j ≡ 0 = ap (λ o. occurs (reads_in o) j) was in
            let w2 : occurs (reads_in (slot slots' node)) j ≡ occurs y.reads j = ap (λ o. occurs (reads_in o) j) here in
            let r = raised j in omega arith;
        unread = λ j r e isnt z.
            elim (cases_eq j node) [
              | inl d ↦ subst (Has t2.unread) (sym d) listed
              | inr n ↦ kept j (known.tallied.unread j r (sym (apart j n) ∙ e) isnt (let a = raised j in omega arith))
            ];
      };
    }

  -- it was refused memory
  pub known_refused : (rows rows' : List Entries) (t t' : Tallied) (slots slots' : List (Option (Record K V))) (roots : List ℕ) → AreKnown rows t slots roots → slots' ≡ slots → KeepsNames rows rows' → ((j : ℕ) → reads_of t' j ≡ reads_of t j) → ((j : ℕ) → Has t.unread j → Has t'.unread j) → AreKnown rows' t' slots' roots
  known_refused rows rows' t t' slots slots' roots known same names counts kept = record {
    named = λ i j r e h. names i j (known.named i j r (ap (λ l. slot l i) (sym same) ∙ e) h);
    tallied = subst (λ l. AreTallied l t' roots) (sym same) (tallied_kept slots t t' roots known.tallied counts kept);
  }

  pub known_free : (rows rows' : List Entries) (t t' : Tallied) (slots slots' : List (Option (Record K V))) (node : ℕ) (roots : List ℕ) → AreKnown rows t slots roots → slots' ≡ slots → slot slots node ≡ None → ((i j : ℕ) → i ≢ node → Names rows j i → Names rows' j i)
      → ((j : ℕ) → reads_of t' j ≡ reads_of t j) → ((j : ℕ) → Has t.unread j → Has t'.unread j) → AreKnown rows' t' slots' roots
  known_free rows rows' t t' slots slots' node roots known same free others counts kept = record {
    named = named_free rows slots slots' node known.named rows' same free others;
    tallied = subst (λ l. AreTallied l t' roots) (sym same) (tallied_kept slots t t' roots known.tallied counts kept);
  }

  -- how many records are seen
  pub count_seen : (c : ℕ) (slots : List (Option (Record K V))) → count_by is_some (map (option_map (shown c)) slots) ≡ count_by is_some slots
  count_seen c slots = folded 0 slots
    where
      folded : (n : ℕ) (xs : List (Option (Record K V))) → fold (λ a (x : Option (Node K V)). a + cond (is_some x) 1 0) n (map (option_map (shown c)) xs) ≡ fold (λ a (x : Option (Record K V)). a + cond (is_some x) 1 0) n xs
      folded n [] = refl
      folded n (None ∷ xs) = folded (n + 0) xs
      folded n (Some r ∷ xs) = folded (n + 1) xs
