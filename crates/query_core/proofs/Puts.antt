-- A sound graph stays sound where one record is put at its node.
use Rattle.std.proofs.Common.{◌≡◌, ◌≢◌, ℕ, ◌<◌, ◌≤◌, true, false, ◌||◌, ◌==◌, cond, List, [], ◌∷◌, ◌++◌, refl, ap, sym, ◌∙◌, subst, inl, inr, ◌⊎◌, Some, None, arith}
use Rattle.std.proofs.lemmas.Bool.{cases_eq}
use Rattle.std.specs.Option.{option_map}
use Rattle.query_core.specs.Lists.{Has, Each, IsOnce}
use Rattle.query_core.specs.Queries.{Queries, AreLawful}
use Rattle.query_core.specs.Graph.{Held, at, node_of, is_current}
use Rattle.query_core.specs.Soundness.{kept, IsUnchanged, Replays, IsSound, IsUnswept}
use Rattle.query_core.specs.Changes.{Puts}
use Rattle.query_core.specs.Node.{Node}
use Rattle.query_core.specs.declared.rules.Step.{Step}
use Rattle.query_core.proofs.Values.{current_stamp}
use Rattle.query_core.proofs.Words.{Has-left, Has-right, Each-at, Each-from, Each-append, Each-map, IsOnce-push, filter_map-same}

-- the key of r was added to the runs, or nothing was
abbrev pub RunsOn : {K V : Type 0} → Queries K V → Held K V → Held K V → Node K V → Type 0
RunsOn q old new r = (new.runs ≡ old.runs) ⊎ ((new.runs ≡ old.runs ++ r.key ∷ []) × (q.is_input r.key ≡ false) × (¬ Has old.runs r.key))

-- what the record must keep
pub record Keeps {K V : Type 0} (q : Queries K V) (old : Held K V) (i : ℕ) (r : Node K V) : Type 0 where
  pub current : is_current q old r ≡ true
  pub reads : (j : ℕ) → Has r.reads j → (j ≢ i) × ((d : Node K V) × ((at old j ≡ Some d) × (is_current q old d ≡ true)))
  pub flag : r.input ≡ q.is_input r.key
  pub inputs : q.is_input r.key ≡ true → r.reads ≡ []
  pub replays : q.is_input r.key ≡ false → (first left : List ℕ) → r.reads ≡ first ++ left → Replays old left r.value (q.step r.key (kept old first))
  pub stamps : (r.verified_at ≤ old.revision) × (r.changed_at ≤ old.revision)
  pub still : (j : ℕ) (s e : Node K V) → at old i ≡ Some s → at old j ≡ Some e → Has e.reads i → ((r.value ≡ s.value) × (r.changed_at ≡ s.changed_at)) ⊎ (e.verified_at < r.changed_at)

abbrev pub pair_of : {K V : Type 0} → Node K V → K × V
pair_of r = (r.key, r.value)

module _ {K V : Type 0} (q : Queries K V) (laws : AreLawful q) (old new : Held K V) (i : ℕ) (r : Node K V) (sound : IsSound q old) (puts : Puts q old new i r) where
  at_new : (j : ℕ) (d : Node K V) → at new j ≡ Some d → ((j ≡ i) × (r ≡ d)) ⊎ ((j ≢ i) × (at old j ≡ Some d))
  at_new j d e =
      elim (cases_eq j i) [
        | inl s ↦ inl (s, (let h : at new i ≡ Some d = subst (λ n. at new n ≡ Some d) s e in let p = puts.here in cc))
        | inr n ↦ inr (n, sym (puts.others j n) ∙ e)
      ]

  stays : (j : ℕ) (d : Node K V) → at old j ≡ Some d → j ≢ i → at new j ≡ Some d
  stays j d e n = puts.others j n ∙ e

  pub same_key : (s : Node K V) → at old i ≡ Some s → s.key ≡ r.key
  same_key s e =
      elim puts.place [
        | inl p ↦ (let n = sound.numbers r.key i p in let same : n.0 ≡ s = (let h = n.1 in cc) in subst (λ (x : Node K V). x.key ≡ r.key) same n.2)
        | inr p ↦ absurd (let bad : ⊥ = (let h = p.0 in cc) in bad)
      ]

  pub current_same : (d : Node K V) → is_current q new d ≡ is_current q old d
  current_same d = ap (λ n. q.is_input d.key || (d.verified_at == n)) puts.revision

  module _ (keeps : Keeps q old i r) where
    stands_new : (a j : ℕ) (e : Node K V) → at new a ≡ Some e → Has e.reads j → (d : Node K V) × (at new j ≡ Some d)
    stands_new a j e at_e has =
        elim (at_new a e at_e) [
          | inl p ↦ (let h = keeps.reads j (subst (λ (x : Node K V). Has x.reads j) (sym p.1) has) in (h.1.0, stays j h.1.0 h.1.1.0 h.0))
          | inr p ↦ (let h = sound.stands a j e p.1 has in
              elim (cases_eq j i) [ inl s ↦ (r, subst (λ n. at new n ≡ Some r) (sym s) puts.here) | inr n ↦ (h.0, stays j h.0 h.1 n) ])
        ]

    verified_new : (a j : ℕ) (e d : Node K V) → at new a ≡ Some e → is_current q new e ≡ true → Has e.reads j → at new j ≡ Some d → is_current q new d ≡ true
    verified_new a j e d at_e ce has at_d =
        elim (at_new a e at_e) [
          | inl p ↦ (let h = keeps.reads j (subst (λ (x : Node K V). Has x.reads j) (sym p.1) has) in
              let old_d : at new j ≡ Some h.1.0 = stays j h.1.0 h.1.1.0 h.0 in
              let same : h.1.0 ≡ d = cc in
              current_same d ∙ subst (λ (x : Node K V). is_current q old x ≡ true) same h.1.1.1)
          | inr p ↦
              elim (at_new j d at_d) [
                | inl s ↦ current_same d ∙ subst (λ (x : Node K V). is_current q old x ≡ true) s.1 keeps.current
                | inr s ↦ current_same d ∙ sound.verified a j e d p.1 (sym (current_same e) ∙ ce) has s.1
              ]
        ]

    replays_of : (left : List ℕ) (v : V) (st : Step K V) → ((j : ℕ) (d : Node K V) → Has left j → at new j ≡ Some d → (s : Node K V) × ((at old j ≡ Some s) × (s.key ≡ d.key)))
        → Replays old left v st → Replays new left v st
    replays_of [] v st f h = h
    replays_of (j ∷ left) v st f h = λ d e. let s = f j d (inl refl) e in h s.0 s.1.0 ∙ ap Some s.1.1

    replays_here : q.is_input r.key ≡ false → (first left : List ℕ) → r.reads ≡ first ++ left → Replays new left r.value (q.step r.key (kept new first))
    replays_here isnt first left s =
        let base = keeps.replays isnt first left s in
        let apart : (j : ℕ) → Has r.reads j → at new j ≡ at old j = λ j h. puts.others j (keeps.reads j h).0 in
        let same : kept new first ≡ kept old first =
        filter_map-same (λ node. option_map pair_of (at new node)) (λ node. option_map pair_of (at old node)) first
        (λ j m. ap (option_map pair_of) (apart j (subst (λ l. Has l j) (sym s) (Has-left first left j m)))) in
        let moved = replays_of left r.value (q.step r.key (kept old first))
        (λ j d m e. (d, (sym (apart j (subst (λ l. Has l j) (sym s) (Has-right first left j m))) ∙ e, refl))) base in
        subst (λ l. Replays new left r.value (q.step r.key l)) (sym same) moved

    -- what another record saw at the node i is the same, or has changed since
    seen_same : (a : ℕ) (e : Node K V) → at old a ≡ Some e → Has e.reads i → IsUnchanged new e.verified_at i
        → (s : Node K V) × ((at old i ≡ Some s) × (r.value ≡ s.value) × (r.changed_at ≡ s.changed_at))
    seen_same a e at_e has un =
        let s = sound.stands a i e at_e has in
        elim (keeps.still a s.0 e s.1 at_e has) [
          | inl p ↦ (s.0, (s.1, p.0, p.1))
          | inr lt ↦ absurd (let le = un r puts.here in omega arith)
        ]

    replays_there : (a : ℕ) (e : Node K V) → at old a ≡ Some e → q.is_input e.key ≡ false → (first left : List ℕ) → e.reads ≡ first ++ left
        → Each (IsUnchanged new e.verified_at) first → Replays new left e.value (q.step e.key (kept new first))
    replays_there a e at_e isnt first left s un =
        let has : (j : ℕ) → Has first j → Has e.reads j = λ j m. subst (λ l. Has l j) (sym s) (Has-left first left j m) in
        let un_old : (j : ℕ) → Has first j → IsUnchanged old e.verified_at j =
        (λ j m. λ d at_d.
        elim (cases_eq j i) [
          | inl ji ↦ (let h = seen_same a e at_e (subst (λ n. Has e.reads n) ji (has j m)) (subst (IsUnchanged new e.verified_at) ji (Each-at (IsUnchanged new e.verified_at) first j un m)) in
              let le = Each-at (IsUnchanged new e.verified_at) first j un m r (subst (λ n. at new n ≡ Some r) (sym ji) puts.here) in
              let at_i : at old i ≡ Some d = subst (λ n. at old n ≡ Some d) ji at_d in
              let same : h.0 ≡ d = (let p = h.1.0 in cc) in
              let stamp : d.changed_at ≡ r.changed_at = sym (h.1.2 ∙ ap (λ (x : Node K V). x.changed_at) same) in omega arith)
          | inr n ↦ Each-at (IsUnchanged new e.verified_at) first j un m d (stays j d at_d n)
        ]) in
        let pair : (j : ℕ) → Has first j → option_map pair_of (at new j) ≡ option_map pair_of (at old j) =
        (λ j m.
        elim (cases_eq j i) [
          | inl ji ↦ (let h = seen_same a e at_e (subst (λ n. Has e.reads n) ji (has j m)) (subst (IsUnchanged new e.verified_at) ji (Each-at (IsUnchanged new e.verified_at) first j un m)) in
              let key : r.key ≡ h.0.key = sym (same_key h.0 h.1.0) in
              let here : option_map pair_of (at new i) ≡ Some (r.key, r.value) = ap (option_map pair_of) puts.here in
              let there : option_map pair_of (at old i) ≡ Some (h.0.key, h.0.value) = ap (option_map pair_of) h.1.0 in
              subst (λ n. option_map pair_of (at new n) ≡ option_map pair_of (at old n)) (sym ji)
              (here ∙ ap (λ k. Some (k, r.value)) key ∙ ap (λ v. Some (h.0.key, v)) h.1.1 ∙ sym there))
          | inr n ↦ ap (option_map pair_of) (puts.others j n)
        ]) in
        let same : kept new first ≡ kept old first =
        filter_map-same (λ node. option_map pair_of (at new node)) (λ node. option_map pair_of (at old node)) first pair in
        let base = sound.replays a e at_e isnt first left s (Each-from (IsUnchanged old e.verified_at) first un_old) in
        let moved = replays_of left e.value (q.step e.key (kept old first))
        (λ j d m at_d.
        elim (at_new j d at_d) [
          | inl p ↦ (let h = sound.stands a j e at_e (subst (λ l. Has l j) (sym s) (Has-right first left j m)) in
              (h.0, (h.1, same_key h.0 (subst (λ n. at old n ≡ Some h.0) p.0 h.1) ∙ ap (λ (x : Node K V). x.key) p.1)))
          | inr p ↦ (d, (p.1, refl))
        ]) base in
        subst (λ l. Replays new left e.value (q.step e.key l)) (sym same) moved

    same_true : q.same r.key r.key ≡ true
    same_true = laws.same_self r.key

    node_here : node_of q new r.key ≡ Some i
    node_here = puts.numbers r.key ∙ ap (λ b. cond b (Some i) (node_of q old r.key)) same_true

    -- a node that stood for another key still does
    node_there : (k : K) (a : ℕ) → node_of q old k ≡ Some a → a ≢ i → node_of q new k ≡ Some a
    node_there k a e n =
        elim (q.same r.key k) as (λ b. q.same r.key k ≡ b → node_of q new k ≡ Some a) [
          | true ↦ (λ is. let ks : r.key ≡ k = laws.same r.key k is in
              elim puts.place [
                | inl p ↦ absurd (n (let p' : node_of q old k ≡ Some i = subst (λ x. node_of q old x ≡ Some i) ks p in cc))
                | inr p ↦ absurd (let p' : node_of q old k ≡ None = subst (λ x. node_of q old x ≡ None) ks p.1 in let bad : ⊥ = cc in bad)
              ])
          | false ↦ (λ is. puts.numbers k ∙ ap (λ b. cond b (Some i) (node_of q old k)) is ∙ e)
        ] refl

    numbered_new : (a : ℕ) (e : Node K V) → at new a ≡ Some e → node_of q new e.key ≡ Some a
    numbered_new a e at_e =
        elim (at_new a e at_e) [
          | inl p ↦ subst (λ (x : Node K V). node_of q new x.key ≡ Some a) p.1 (subst (λ n. node_of q new r.key ≡ Some n) (sym p.0) node_here)
          | inr p ↦ node_there e.key a (sound.numbered a e p.1) p.0
        ]

    numbers_new : (k : K) (a : ℕ) → node_of q new k ≡ Some a → (e : Node K V) × (at new a ≡ Some e) × (e.key ≡ k)
    numbers_new k a h =
        elim (q.same r.key k) as (λ b. q.same r.key k ≡ b → (e : Node K V) × (at new a ≡ Some e) × (e.key ≡ k)) [
          | true ↦ (λ is. let ks : r.key ≡ k = laws.same r.key k is in
              let hi : node_of q new k ≡ Some i = subst (λ x. node_of q new x ≡ Some i) ks node_here in
              let ia : i ≡ a = cc in (r, subst (λ n. at new n ≡ Some r) ia puts.here, ks))
          | false ↦ (λ is. let was : node_of q old k ≡ Some a = sym (puts.numbers k ∙ ap (λ b. cond b (Some i) (node_of q old k)) is) ∙ h in
              let s = sound.numbers k a was in
              elim (cases_eq a i) [
                | inl ai ↦ absurd (let key : r.key ≡ k = sym (same_key s.0 (subst (λ n. at old n ≡ Some s.0) ai s.1)) ∙ s.2 in
                    let yes : q.same r.key k ≡ true = subst (λ x. q.same r.key x ≡ true) key same_true in let bad : ⊥ = cc in bad)
                | inr n ↦ (s.0, stays a s.0 s.1 n, s.2)
              ])
        ] refl

    abbrev IsRunNow : Held K V → K → Type 0
    IsRunNow g k = (n : ℕ) × ((e : Node K V) × ((node_of q g k ≡ Some n) × (at g n ≡ Some e) × (q.is_input k ≡ false) × (e.verified_at ≡ g.revision)))

    stamp_here : q.is_input r.key ≡ false → r.verified_at ≡ new.revision
    stamp_here isnt = current_stamp q old r keeps.current isnt ∙ sym puts.revision

    ran_there : (k : K) → IsRunNow old k → IsRunNow new k
    ran_there k h =
        elim (cases_eq h.0 i) [
          | inl hi ↦ (let key : h.1.0.key ≡ r.key = same_key h.1.0 (subst (λ n. at old n ≡ Some h.1.0) hi h.1.1.1) in
              let own : h.1.0.key ≡ k = (let n = sound.numbers k h.0 h.1.1.0 in let same : n.0 ≡ h.1.0 = (let p = n.1 in let p' = h.1.1.1 in cc) in subst (λ (x : Node K V). x.key ≡ k) same n.2) in
              let rk : r.key ≡ k = sym key ∙ own in
              (i, (r, (subst (λ x. node_of q new x ≡ Some i) rk node_here, puts.here, h.1.1.2, stamp_here (subst (λ x. q.is_input x ≡ false) (sym rk) h.1.1.2)))))
          | inr n ↦ (h.0, (h.1.0, (node_there k h.0 h.1.1.0 n, stays h.0 h.1.0 h.1.1.1 n, h.1.1.2, h.1.1.3 ∙ sym puts.revision)))
        ]

    -- the keys that ran are still verified
    pub unswept_puts : IsUnswept q old → RunsOn q old new r → IsUnswept q new
    unswept_puts unswept on =
        let base = Each-map (IsRunNow old) (IsRunNow new) old.runs (λ k m h. ran_there k h) unswept in
        elim on [
          | inl e ↦ subst (Each (IsRunNow new)) (sym e) base
          | inr e ↦ subst (Each (IsRunNow new)) (sym e.0) (Each-append (IsRunNow new) old.runs (r.key ∷ []) base ((i, (r, (node_here, puts.here, e.1, stamp_here e.1))), tt))
        ]

    once_new : RunsOn q old new r → IsOnce new.runs
    once_new on =
        elim on [
          | inl e ↦ subst IsOnce (sym e) sound.once
          | inr e ↦ subst IsOnce (sym e.0) (IsOnce-push old.runs r.key sound.once e.2)
        ]

    pub sound_puts : RunsOn q old new r → IsSound q new
    sound_puts on = record {
      stands = stands_new;
      verified = verified_new;
      replays = λ a e at_e isnt first left s un.
          elim (at_new a e at_e) [
            | inl p ↦ subst (λ (x : Node K V). Replays new left x.value (q.step x.key (kept new first))) p.1
                (replays_here (subst (λ (x : Node K V). q.is_input x.key ≡ false) (sym p.1) isnt) first left (subst (λ (x : Node K V). x.reads ≡ first ++ left) (sym p.1) s))
            | inr p ↦ replays_there a e p.1 isnt first left s un
          ];
      inputs = λ a e at_e is.
          elim (at_new a e at_e) [
            | inl p ↦ subst (λ (x : Node K V). x.reads ≡ []) p.1 (keeps.inputs (subst (λ (x : Node K V). q.is_input x.key ≡ true) (sym p.1) is))
            | inr p ↦ sound.inputs a e p.1 is
          ];
      stamps = λ a e at_e.
          elim (at_new a e at_e) [
            | inl p ↦ subst (λ (x : Node K V). (x.verified_at ≤ new.revision) × (x.changed_at ≤ new.revision)) p.1
                (subst (λ n. (r.verified_at ≤ n) × (r.changed_at ≤ n)) (sym puts.revision) keeps.stamps)
            | inr p ↦ subst (λ n. (e.verified_at ≤ n) × (e.changed_at ≤ n)) (sym puts.revision) (sound.stamps a e p.1)
          ];
      numbered = numbered_new;
      numbers = numbers_new;
      once = once_new on;
      flagged = λ a e at_e.
          elim (at_new a e at_e) [
            | inl p ↦ subst (λ (x : Node K V). x.input ≡ q.is_input x.key) p.1 keeps.flag
            | inr p ↦ sound.flagged a e p.1
          ];
    }
