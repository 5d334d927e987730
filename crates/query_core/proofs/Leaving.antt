-- What a walk has left of the graph at entry, and why each of its runs was due.
use Rattle.std.proofs.Common.{◌≡◌, ◌≢◌, ℕ, true, false, ◌||◌, ◌==◌, List, [], ◌∷◌, ◌++◌, refl, ap, sym, ◌∙◌, subst, inl, inr, ◌⊎◌, Option, Some, None, append_assoc, append-nil, arith}
use Rattle.std.proofs.lemmas.Bool.{cases_eq}
use Rattle.std.specs.Option.{option_map_or}
use Rattle.query_core.specs.Lists.{Has}
use Rattle.query_core.specs.Queries.{Queries, AreLawful}
use Rattle.query_core.specs.Graph.{Held, at, node_of, record_of, inputs, is_current, is_verified}
use Rattle.query_core.specs.Soundness.{IsSound, IsUnswept}
use Rattle.query_core.specs.Due.{IsDue}
use Rattle.query_core.specs.Changes.{IsStamped, Moves, IsLeft}
use Rattle.query_core.specs.Walk.{IsOutdated, Finishes}
use Rattle.query_core.specs.Node.{Node}
use Rattle.query_core.proofs.Words.{Has-left, Has-right, Has-middle}
use Rattle.query_core.proofs.Reading.{record_is, verified_is, record_none}
use Rattle.query_core.proofs.Values.{current_value}
use Rattle.query_core.proofs.Steps.{not_current, stamped_current}
use Rattle.query_core.proofs.Finishing.{not_ran}
use Rattle.query_core.proofs.Walking.{inputs_stay, key_there}

module _ {K V : Type 0} where
  -- a record at entry is left, or its key ran
  abbrev pub IsLeftOrRan : ℕ → List K → Node K V → Option (Node K V) → Type 0
  IsLeftOrRan now added r new = IsLeft now r new ⊎ (Has added r.key × ((s : Node K V) × ((new ≡ Some s) × (s.key ≡ r.key) × Moves now r s)))

  -- `Leaves`, with one fact for each record at entry
  pub record Left (q : Queries K V) (old new : Held K V) (reached : K → Type 0) (added : List K) : Type 0 where
    pub revision : new.revision ≡ old.revision
    pub runs : new.runs ≡ old.runs ++ added
    pub inputs_same : inputs q new ≡ inputs q old
    pub kept : (i : ℕ) (r : Node K V) → at old i ≡ Some r → IsLeftOrRan old.revision added r (at new i)
    pub fresh : (i : ℕ) (s : Node K V) → at old i ≡ None → at new i ≡ Some s
        → (s.changed_at ≡ old.revision) × (Has added s.key ⊎ ((q.is_input s.key ≡ true) × (s.value ≡ q.unset s.key) × reached s.key))

  pub left_none : (q : Queries K V) (g : Held K V) (reached : K → Type 0) → Left q g g reached []
  left_none q g reached = record {
    revision = refl;
    runs = sym (append-nil g.runs);
    inputs_same = refl;
    kept = λ i r e. inl (inl e);
    fresh = λ i s n e. let bad : ⊥ = cc in absurd bad;
  }

  -- what a record has become, by `Left`: one with its key, value and stamp of change, or a run of its key
  abbrev pub Became : List K → ℕ → Node K V → Node K V → Type 0
  Became added now r s = (s.key ≡ r.key) × (Moves now r s × (((s.verified_at ≡ r.verified_at) × (s ≡ r)) ⊎ ((s.verified_at ≡ now) ⊎ Has added r.key)))

  pub became : (now : ℕ) (added : List K) (r : Node K V) (new : Option (Node K V)) → IsLeftOrRan now added r new → (s : Node K V) × ((new ≡ Some s) × Became added now r s)
  became now added r new h =
      elim h [
        | inl a ↦ elim a [
          | inl e ↦ (r, (e, (refl, (inl (refl, refl), inl (refl, refl)))))
          | inr e ↦ (record r { verified_at = now }, (e, (refl, (inl (refl, refl), inr (inl refl)))))
        ]
        | inr b ↦ (b.1.0, (b.1.1.0, (b.1.1.1, (b.1.1.2, inr (inr b.0)))))
      ]

  module _ (q : Queries K V) (laws : AreLawful q) (g0 g : Held K V) (sound0 : IsSound q g0) (sound : IsSound q g) (unswept : IsUnswept q g) (reached : K → Type 0) (added : List K) (left : Left q g0 g reached added) where
    not_added : (k : K) → is_verified q g k ≡ false → ¬ Has added k
    not_added k stale h = not_ran q g unswept k stale (subst (λ l. Has l k) (sym left.runs) (Has-right g0.runs added k h))

    -- the record of a key that isn't verified, and no input, is that at entry
    pub stale_record : (k : K) → is_verified q g k ≡ false → q.is_input k ≡ false → (i : ℕ) (r : Node K V) → at g i ≡ Some r → r.key ≡ k → at g0 i ≡ Some r
    stale_record k stale isnt i r e key =
        elim (at g0 i) as (λ o. at g0 i ≡ o → o ≡ Some r) [
          | None ↦ (λ n. let h = (left.fresh i r n e).1 in
              elim h [
                | inl a ↦ absurd (not_added k stale (subst (Has added) key a))
                | inr b ↦ (let no = subst (λ x. q.is_input x ≡ false) (sym key) isnt in let yes = b.0 in let bad : ⊥ = cc in absurd bad)
              ])
          | Some r0 ↦ (λ e0. let b = became g0.revision added r0 (at g i) (left.kept i r0 e0) in
              let same : b.0 ≡ r = (let x = b.1.0 in cc) in
              let key0 : r0.key ≡ k = sym b.1.1.0 ∙ ap (λ (x : Node K V). x.key) same ∙ key in
              elim b.1.1.1.1 [
                | inl u ↦ ap Some (sym u.1 ∙ same)
                | inr u ↦ elim u [
                  | inl v ↦ (let no = not_current q g sound k i r stale e key in
                      let yes = stamped_current q g r (ap (λ (x : Node K V). x.verified_at) (sym same) ∙ v ∙ sym left.revision) in let bad : ⊥ = cc in absurd bad)
                  | inr w ↦ absurd (not_added k stale (subst (Has added) key0 w))
                ]
              ])
        ] refl

    -- a key without a record had none
    pub no_record_before : (k : K) → record_of q g k ≡ None → record_of q g0 k ≡ None
    no_record_before k none =
        elim (node_of q g0 k) as (λ o. node_of q g0 k ≡ o → record_of q g0 k ≡ None) [
          | None ↦ (λ n. record_none q g0 k n)
          | Some i ↦ (λ n. let st = sound0.numbers k i n in
              let b = became g0.revision added st.0 (at g i) (left.kept i st.0 st.1) in
              let num : node_of q g k ≡ Some i = subst (λ x. node_of q g x ≡ Some i) (b.1.1.0 ∙ st.2) (sound.numbered i b.0 b.1.0) in
              let rec = record_is q g k i b.0 num b.1.0 in let bad : ⊥ = cc in absurd bad)
        ] refl

    -- a run of an outdated key was due at entry
    pub due_before : (k : K) → is_verified q g k ≡ false → q.is_input k ≡ false → IsOutdated q g k → IsDue q g0 (inputs q g0) k
    due_before k stale isnt out =
        elim out [
          | inl none ↦ inl (no_record_before k none)
          | inr h ↦
              elim (node_of q g k) as (λ o. node_of q g k ≡ o → IsDue q g0 (inputs q g0) k) [
                | None ↦ (λ n. let e = record_none q g k n in let e' = h.1.0 in let bad : ⊥ = cc in absurd bad)
                | Some i ↦ (λ n.
                    let r = h.0 in
                    let st = sound.numbers k i n in
                    let rec = record_is q g k i st.0 n st.1 in
                    let same : st.0 ≡ r = (let e' = h.1.0 in cc) in
                    let at_i : at g i ≡ Some r = st.1 ∙ ap Some same in
                    let key : r.key ≡ k = sym (ap (λ (x : Node K V). x.key) same) ∙ st.2 in
                    let before = stale_record k stale isnt i r at_i key in
                    let num0 : node_of q g0 k ≡ Some i = subst (λ x. node_of q g0 x ≡ Some i) key (sound0.numbered i r before) in
                    let j = h.1.1.0 in let has = h.1.1.1.0 in let d = h.1.1.1.1.0 in let at_j = h.1.1.1.1.1.0 in let cur = h.1.1.1.1.1.1 in let lt = h.1.1.1.1.1.2 in
                    let d0 = sound0.stands i j r before has in
                    let b = became g0.revision added d0.0 (at g j) (left.kept j d0.0 d0.1) in
                    let same_d : b.0 ≡ d = (let x = b.1.0 in cc) in
                    let key_d : d.key ≡ d0.0.key = sym (ap (λ (x : Node K V). x.key) same_d) ∙ b.1.1.0 in
                    inr (
                      r,
                      (
                        record_is q g0 k i r num0 before,
                        record {
                          node = j;
                          read = d0.0;
                          is_read = has;
                          stands = d0.1;
                          changed =
                              elim b.1.1.1.0 [
                                | inl u ↦ inl (let s = ap (λ (x : Node K V). x.changed_at) same_d in let e = u.1 in omega arith)
                                | inr u ↦ inr (λ v. u.0 (ap (λ (x : Node K V). x.value) same_d ∙ current_value q g laws sound j d at_j cur ∙ ap (λ I. q.val I d.key) left.inputs_same
                                    ∙ ap (q.val (inputs q g0)) key_d ∙ sym v))
                              ];
                        },
                      ),
                    ))
              ] refl
        ]

    -- it wasn't verified at entry
    pub stale_before : (k : K) → is_verified q g k ≡ false → is_verified q g0 k ≡ false
    stale_before k stale =
        elim (is_verified q g0 k) as (λ o. is_verified q g0 k ≡ o → o ≡ false) [
          | false ↦ (λ _. refl)
          | true ↦ (λ yes.
              elim (node_of q g0 k) as (λ o. node_of q g0 k ≡ o → true ≡ false) [
                | None ↦ (λ n. let e : is_verified q g0 k ≡ false = ap (λ o. option_map_or (is_current q g0) o false) (record_none q g0 k n) in cc)
                | Some i ↦ (λ n.
                    let st = sound0.numbers k i n in
                    let cur : is_current q g0 st.0 ≡ true = sym (verified_is q g0 k i st.0 n st.1) ∙ yes in
                    let b = became g0.revision added st.0 (at g i) (left.kept i st.0 st.1) in
                    let key : b.0.key ≡ k = b.1.1.0 ∙ st.2 in
                    let no = not_current q g sound k i b.0 stale b.1.0 key in
                    elim b.1.1.1.1 [
                      | inl u ↦ (let c : is_current q g b.0 ≡ true = ap (is_current q g) u.1 ∙ ap (λ m. q.is_input st.0.key || (st.0.verified_at == m)) left.revision ∙ cur in cc)
                      | inr u ↦ elim u [
                        | inl v ↦ (let c = stamped_current q g b.0 (v ∙ sym left.revision) in cc)
                        | inr w ↦ absurd (not_added k stale (subst (Has added) st.2 w))
                      ]
                    ])
              ] refl)
        ] refl

    -- one more key was finished
    module _ (g' : Held K V) (k : K) (i : ℕ) (stale : is_verified q g k ≡ false) (f : Finishes q g g' k i) where
      same_inputs : inputs q g' ≡ inputs q g0
      same_inputs = inputs_stay q laws g g' sound k i stale f ∙ left.inputs_same

      same_revision : g'.revision ≡ g0.revision
      same_revision = f.puts.revision ∙ left.revision

      -- at the other nodes nothing has changed
      kept_other : (added' : List K) → ((x : K) → Has added x → Has added' x) → (j : ℕ) (r : Node K V) → at g0 j ≡ Some r → j ≢ i → IsLeftOrRan g0.revision added' r (at g' j)
      kept_other added' more j r e n =
          let same = f.puts.others j n in
          elim (left.kept j r e) [
            | inl a ↦ inl (elim a [ inl x ↦ inl (same ∙ x) | inr x ↦ inr (same ∙ x) ])
            | inr b ↦ inr (more r.key b.0, (b.1.0, (same ∙ b.1.1.0, b.1.1.1, b.1.1.2)))
          ]

      fresh_other : (added' : List K) → ((x : K) → Has added x → Has added' x) → (j : ℕ) (s : Node K V) → at g0 j ≡ None → at g' j ≡ Some s → j ≢ i
          → (s.changed_at ≡ g0.revision) × (Has added' s.key ⊎ ((q.is_input s.key ≡ true) × (s.value ≡ q.unset s.key) × reached s.key))
      fresh_other added' more j s none e n =
          let h = left.fresh j s none (sym (f.puts.others j n) ∙ e) in
          (h.0, elim h.1 [ inl a ↦ inl (more s.key a) | inr b ↦ inr b ])

      left_by : (added' : List K) → g'.runs ≡ g0.runs ++ added' → ((x : K) → Has added x → Has added' x)
          → ((r : Node K V) → at g0 i ≡ Some r → IsLeftOrRan g0.revision added' r (Some f.entry))
          → (at g0 i ≡ None → (f.entry.changed_at ≡ g0.revision) × (Has added' f.entry.key ⊎ ((q.is_input f.entry.key ≡ true) × (f.entry.value ≡ q.unset f.entry.key) × reached f.entry.key)))
          → Left q g0 g' reached added'
      left_by added' runs more here new = record {
        revision = same_revision;
        runs = runs;
        inputs_same = same_inputs;
        kept = λ j r e. elim (cases_eq j i) [
          | inl ji ↦ subst (λ o. IsLeftOrRan g0.revision added' r o) (sym f.puts.here ∙ ap (at g') (sym ji)) (here r (subst (λ n. at g0 n ≡ Some r) ji e))
          | inr n ↦ kept_other added' more j r e n
        ];
        fresh = λ j s none e. elim (cases_eq j i) [
          | inl ji ↦ (let at_i : at g' i ≡ Some s = subst (λ n. at g' n ≡ Some s) ji e in let h = f.puts.here in let same : f.entry ≡ s = cc in
              subst (λ (x : Node K V). (x.changed_at ≡ g0.revision) × (Has added' x.key ⊎ ((q.is_input x.key ≡ true) × (x.value ≡ q.unset x.key) × reached x.key))) same (new (subst (λ n. at g0 n ≡ None) ji none)))
          | inr n ↦ fresh_other added' more j s none e n
        ];
      }

      pub left_touched : g'.runs ≡ g.runs → (s : Node K V) → at g i ≡ Some s → f.entry ≡ record s { verified_at = g.revision } → Left q g0 g' reached added
      left_touched runs s e is =
          let t : Node K V = record s { verified_at = g.revision } in
          left_by added (runs ∙ left.runs) (λ x h. h)
          (λ r e0. subst (λ (x : Node K V). IsLeftOrRan g0.revision added r (Some x)) (sym is)
          (elim (left.kept i r e0) [
            | inl a ↦ inl (elim a [
              | inl x ↦ inr (let same : r ≡ s = cc in ap Some (ap (λ (y : Node K V). record y { verified_at = g.revision }) (sym same) ∙ ap (λ n. record r { verified_at = n }) left.revision))
              | inr x ↦ inr (let same : record r { verified_at = g0.revision } ≡ s = cc in
                  ap Some (ap (λ (y : Node K V). record y { verified_at = g.revision }) (sym same) ∙ ap (λ n. record r { verified_at = n }) left.revision))
            ])
            | inr b ↦ inr (
              b.0,
              (
                t,
                (
                  refl,
                  (let x = b.1.1.0 in let same : b.1.0 ≡ s = cc in
                      (ap (λ (y : Node K V). y.key) (sym same) ∙ b.1.1.1)),
                  (let x = b.1.1.0 in let same : b.1.0 ≡ s = cc in subst (λ (y : Node K V). Moves g0.revision r (record y { verified_at = g.revision })) same b.1.1.2),
                ),
              ),
            )
          ]))
          (λ none. subst (λ (x : Node K V). (x.changed_at ≡ g0.revision) × (Has added x.key ⊎ ((q.is_input x.key ≡ true) × (x.value ≡ q.unset x.key) × reached x.key))) (sym is) (left.fresh i s none e))

      pub left_ran : g'.runs ≡ g.runs ++ f.entry.key ∷ [] → q.is_input f.entry.key ≡ false → IsStamped g.revision (record_of q g f.entry.key) f.entry → Left q g0 g' reached (added ++ k ∷ [])
      left_ran runs isnt stamped =
          let isnt_k : q.is_input k ≡ false = subst (λ x. q.is_input x ≡ false) f.key isnt in
          let has : Has (added ++ k ∷ []) f.entry.key = subst (Has (added ++ k ∷ [])) (sym f.key) (Has-middle added [] k) in
          left_by (added ++ k ∷ []) (runs ∙ ap (λ x. g.runs ++ x ∷ []) f.key ∙ ap (λ l. l ++ k ∷ []) left.runs ∙ append_assoc g0.runs added (k ∷ [])) (λ x h. Has-left added (k ∷ []) x h)
          (λ r e0.
          let b = became g0.revision added r (at g i) (left.kept i r e0) in
          let key_s : b.0.key ≡ k = key_there q laws g g' sound k i stale f b.0 b.1.0 in
          let key_r : r.key ≡ k = sym b.1.1.0 ∙ key_s in
          let num : node_of q g f.entry.key ≡ Some i = subst (λ x. node_of q g x ≡ Some i) (key_s ∙ sym f.key) (sound.numbered i b.0 b.1.0) in
          let moved : Moves g.revision b.0 f.entry = subst (λ o. IsStamped g.revision o f.entry) (record_is q g f.entry.key i b.0 num b.1.0) stamped in
          let as_r : (b.0.value ≡ r.value) × (b.0.changed_at ≡ r.changed_at) =
          elim (left.kept i r e0) [
            | inl a ↦ elim a [
              | inl x ↦ (let at_b = b.1.0 in let same : r ≡ b.0 = cc in (ap (λ (y : Node K V). y.value) (sym same), ap (λ (y : Node K V). y.changed_at) (sym same)))
              | inr x ↦ (let at_b = b.1.0 in let same : record r { verified_at = g0.revision } ≡ b.0 = cc in (ap (λ (y : Node K V). y.value) (sym same), ap (λ (y : Node K V). y.changed_at) (sym same)))
            ]
            | inr c ↦ absurd (not_added k stale (subst (Has added) key_r c.0))
          ] in
          inr (
            subst (Has (added ++ k ∷ [])) (sym key_r) (Has-middle added [] k),
            (
              f.entry,
              (
                refl,
                f.key ∙ sym key_r,
                elim moved [
                  | inl u ↦ inl (u.0 ∙ as_r.0, u.1 ∙ as_r.1)
                  | inr u ↦ inr ((λ v. u.0 (v ∙ sym as_r.0)), u.1 ∙ left.revision)
                ],
              ),
            ),
          ))
          (λ none. (
            elim (at g i) as (λ o. at g i ≡ o → f.entry.changed_at ≡ g0.revision) [
              | None ↦ (λ n.
                  let free : record_of q g f.entry.key ≡ None =
                  elim f.puts.place [
                    | inl p ↦ (let st = sound.numbers f.entry.key i p in let x = st.1 in let bad : ⊥ = cc in absurd bad)
                    | inr p ↦ record_none q g f.entry.key p.1
                  ] in
                  subst (λ o. IsStamped g.revision o f.entry) free stamped ∙ left.revision)
              | Some s ↦ (λ e.
                  let key_s : s.key ≡ k = key_there q laws g g' sound k i stale f s e in
                  elim (left.fresh i s none e).1 [
                    | inl a ↦ absurd (not_added k stale (subst (Has added) key_s a))
                    | inr b ↦ (let yes = b.0 in let no = subst (λ x. q.is_input x ≡ false) (sym key_s) isnt_k in let bad : ⊥ = cc in absurd bad)
                  ])
            ] refl,
            inl has,
          ))

      pub left_unset : g'.runs ≡ g.runs → q.is_input f.entry.key ≡ true → at g i ≡ None → f.entry.value ≡ q.unset f.entry.key → f.entry.changed_at ≡ g.revision → reached k → Left q g0 g' reached added
      left_unset runs is free value changed was_reached =
          left_by added (runs ∙ left.runs) (λ x h. h)
          (λ r e0. let b = became g0.revision added r (at g i) (left.kept i r e0) in let x = b.1.0 in let bad : ⊥ = cc in absurd bad)
          (λ none. (changed ∙ left.revision, inr (is, value, subst reached (sym f.key) was_reached)))
