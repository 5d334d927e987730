-- What demands of one revision do, one after the other.
use Rattle.std.proofs.Common.{◌≡◌, ◌≢◌, ℕ, true, false, ◌||◌, ◌==◌, List, [], ◌∷◌, ◌++◌, refl, ap, sym, ◌∙◌, subst, inl, inr, ◌⊎◌, Option, Some, None, append_assoc, arith}
use Rattle.std.specs.Option.{option_map_or}
use Rattle.query_core.specs.Lists.{Has, Each}
use Rattle.query_core.specs.Queries.{Queries, AreLawful}
use Rattle.query_core.specs.Graph.{Held, at, node_of, record_of, inputs, is_current, is_verified}
use Rattle.query_core.specs.Soundness.{IsSound, IsUnswept}
use Rattle.query_core.specs.Due.{HasChangedRead, IsDue}
use Rattle.query_core.specs.Changes.{Moves, IsReached, IsRun, IsRunBy, LeavesBy, IsHolding, Walked, WalkedBy, ran}
use Rattle.query_core.specs.Laws.{IsReachedFrom, VerifiedHolds, DemandsBegin, DemandsGoOn, DueBefore, HeldOn, VerifiedOn}
use Rattle.query_core.specs.Node.{Node}
use Rattle.query_core.proofs.Words.{Has-left, Has-right, Has-middle, Each-at, Each-append, Each-map}
use Rattle.query_core.proofs.Reading.{record_is, verified_is, record_none}
use Rattle.query_core.proofs.Values.{current_value}
use Rattle.query_core.proofs.Steps.{stamped_current}
use Rattle.query_core.proofs.Setting.{record_node}
use Rattle.query_core.proofs.Finishing.{not_ran}
use Rattle.query_core.proofs.Leaving.{IsLeftOrRan, Left, left_none, became, no_record_before, stale_record, stale_before}
use Rattle.query_core.proofs.Ending.{walked_from, holds_already}

module _ {K V : Type 0} (q : Queries K V) (laws : AreLawful q) where
  -- a key is in a list, or it isn't
  has_or_not : (xs : List K) (x : K) → Has xs x ⊎ (¬ Has xs x)
  has_or_not [] x = inr (λ h. h)
  has_or_not (y ∷ xs) x =
      elim (q.same y x) as (λ b. q.same y x ≡ b → Has (y ∷ xs) x ⊎ (¬ Has (y ∷ xs) x)) [
        | true ↦ (λ e. inl (inl (laws.same y x e)))
        | false ↦ (λ e. elim (has_or_not xs x) [
          | inl a ↦ inl (inr a)
          | inr n ↦ inr (λ h. elim h [
            | inl s ↦ (let yes : q.same y x ≡ true = subst (λ z. q.same y z ≡ true) s (laws.same_self y) in let bad : ⊥ = cc in bad)
            | inr m ↦ n m
          ])
        ])
      ] refl

  left_from : (old new : Held K V) (reached : K → Type 0) → LeavesBy q old new reached (ran old new) → Left q old new reached (ran old new)
  left_from old new reached l = record {
    revision = l.revision;
    runs = l.runs;
    inputs_same = l.inputs_stay;
    kept = λ i r e. elim (has_or_not (ran old new) r.key) [ inl a ↦ inr (a, l.run i r e a) | inr n ↦ inl (l.rest i r e n) ];
    fresh = l.fresh;
  }

  module _ (g0 g1 g2 : Held K V) (P Q R : K → Type 0) (in_first : (k : K) → P k → R k) (in_second : (k : K) → Q k → R k) (a1 a2 : List K) (l1 : Left q g0 g1 P a1) (l2 : Left q g1 g2 Q a2)
      (apart : (k : K) → Has a1 k → ¬ Has a2 k) where
    second : (i : ℕ) (s : Node K V) → at g1 i ≡ Some s → IsLeftOrRan g0.revision a2 s (at g2 i)
    second i s e = subst (λ m. IsLeftOrRan m a2 s (at g2 i)) l1.revision (l2.kept i s e)

    ran_second : (r : Node K V) (new : Option (Node K V)) → Has a2 r.key × ((s : Node K V) × ((new ≡ Some s) × (s.key ≡ r.key) × Moves g0.revision r s)) → IsLeftOrRan g0.revision (a1 ++ a2) r new
    ran_second r new h = inr (Has-right a1 a2 r.key h.0, h.1)

    kept_join : (i : ℕ) (r : Node K V) → at g0 i ≡ Some r → IsLeftOrRan g0.revision (a1 ++ a2) r (at g2 i)
    kept_join i r e =
        elim (l1.kept i r e) [
          | inl a ↦ elim a [
            | inl x ↦ elim (second i r x) [ inl y ↦ inl y | inr y ↦ ran_second r (at g2 i) y ]
            | inr x ↦ elim (second i (record r { verified_at = g0.revision }) x) [
              | inl y ↦ elim y [ inl z ↦ inl (inr z) | inr z ↦ inl (inr z) ]
              | inr y ↦ ran_second r (at g2 i) y
            ]
          ]
          | inr b ↦ elim (second i b.1.0 b.1.1.0) [
            | inl y ↦ elim y [
              | inl z ↦ inr (Has-left a1 a2 r.key b.0, (b.1.0, (z, b.1.1.1, b.1.1.2)))
              | inr z ↦ inr (Has-left a1 a2 r.key b.0, (record b.1.0 { verified_at = g0.revision }, (z, b.1.1.1, b.1.1.2)))
            ]
            | inr y ↦ absurd (apart r.key b.0 (subst (Has a2) b.1.1.1 y.0))
          ]
        ]

    abbrev IsNewBy : List K → (K → Type 0) → Node K V → Type 0
    IsNewBy added reached s = Has added s.key ⊎ ((q.is_input s.key ≡ true) × (s.value ≡ q.unset s.key) × reached s.key)

    new_first : (s : Node K V) → IsNewBy a1 P s → IsNewBy (a1 ++ a2) R s
    new_first s h = elim h [ inl a ↦ inl (Has-left a1 a2 s.key a) | inr b ↦ inr (b.0, b.1, in_first s.key b.2) ]

    new_second : (s : Node K V) → IsNewBy a2 Q s → IsNewBy (a1 ++ a2) R s
    new_second s h = elim h [ inl a ↦ inl (Has-right a1 a2 s.key a) | inr b ↦ inr (b.0, b.1, in_second s.key b.2) ]

    fresh_join : (i : ℕ) (t : Node K V) → at g0 i ≡ None → at g2 i ≡ Some t → (t.changed_at ≡ g0.revision) × IsNewBy (a1 ++ a2) R t
    fresh_join i t e0 e2 =
        elim (at g1 i) as (λ o. at g1 i ≡ o → (t.changed_at ≡ g0.revision) × IsNewBy (a1 ++ a2) R t) [
          | None ↦ (λ e1. let h = l2.fresh i t e1 e2 in (h.0 ∙ l1.revision, new_second t h.1))
          | Some s ↦ (λ e1.
              let h = l1.fresh i s e0 e1 in
              elim (second i s e1) [
                | inl y ↦ elim y [
                  | inl z ↦ (let same : s ≡ t = cc in subst (λ (x : Node K V). (x.changed_at ≡ g0.revision) × IsNewBy (a1 ++ a2) R x) same (h.0, new_first s h.1))
                  | inr z ↦ (let same : record s { verified_at = g0.revision } ≡ t = cc in
                      subst (λ (x : Node K V). (x.changed_at ≡ g0.revision) × IsNewBy (a1 ++ a2) R x) same (h.0, new_first s h.1))
                ]
                | inr y ↦ (let w = y.1.1.0 in let same : y.1.0 ≡ t = cc in
                    subst (λ (x : Node K V). (x.changed_at ≡ g0.revision) × IsNewBy (a1 ++ a2) R x) same
                    (elim y.1.1.2 [ inl u ↦ u.1 ∙ h.0 | inr u ↦ u.1 ], inl (subst (Has (a1 ++ a2)) (sym y.1.1.1) (Has-right a1 a2 s.key y.0))))
              ])
        ] refl

    pub left_join : Left q g0 g2 R (a1 ++ a2)
    left_join = record {
      revision = l2.revision ∙ l1.revision;
      runs = l2.runs ∙ ap (λ l. l ++ a2) l1.runs ∙ append_assoc g0.runs a1 a2;
      inputs_same = l2.inputs_same ∙ l1.inputs_same;
      kept = kept_join;
      fresh = fresh_join;
    }

  -- a key that ran in this revision is verified now
  ran_verified : (g0 g1 : Held K V) → IsUnswept q g1 → (added : List K) → g1.runs ≡ g0.runs ++ added → (k : K) → Has added k → is_verified q g1 k ≡ true
  ran_verified g0 g1 unswept added runs k h =
      elim (is_verified q g1 k) as (λ b. is_verified q g1 k ≡ b → b ≡ true) [
        | true ↦ (λ _. refl)
        | false ↦ (λ stale. absurd (not_ran q g1 unswept k stale (subst (λ l. Has l k) (sym runs) (Has-right g0.runs added k h))))
      ] refl

  -- and it is no input
  ran_no_input : (g0 g1 : Held K V) → IsUnswept q g1 → (added : List K) → g1.runs ≡ g0.runs ++ added → (k : K) → Has added k → q.is_input k ≡ false
  ran_no_input g0 g1 unswept added runs k h =
      let u = Each-at (λ x. (i : ℕ) × ((r : Node K V) × ((node_of q g1 x ≡ Some i) × (at g1 i ≡ Some r) × (q.is_input x ≡ false) × (r.verified_at ≡ g1.revision)))) g1.runs k unswept
      (subst (λ l. Has l k) (sym runs) (Has-right g0.runs added k h)) in u.1.1.2

  module _ (g0 g1 : Held K V) (sound0 : IsSound q g0) (reached : K → Type 0) (w : WalkedBy q g0 reached g1) where
    left : Left q g0 g1 reached (ran g0 g1)
    left = left_from g0 g1 reached w.leaves

    -- where a record has another value than before, it was verified now
    moved_current : (j : ℕ) (d0 d : Node K V) → at g0 j ≡ Some d0 → at g1 j ≡ Some d → d.value ≢ d0.value → is_current q g1 d ≡ true
    moved_current j d0 d e0 e n =
        let b = became g0.revision (ran g0 g1) d0 (at g1 j) (left.kept j d0 e0) in
        let w' = b.1.0 in
        let same : b.0 ≡ d = cc in
        elim b.1.1.1.1 [
          | inl u ↦ absurd (n (ap (λ (x : Node K V). x.value) (sym same ∙ u.1)))
          | inr u ↦ elim u [
            | inl v ↦ stamped_current q g1 d (ap (λ (x : Node K V). x.verified_at) (sym same) ∙ v ∙ sym left.revision)
            | inr h ↦
                (let key : d.key ≡ d0.key = ap (λ (x : Node K V). x.key) (sym same) ∙ b.1.1.0 in
                let yes = ran_verified g0 g1 w.unswept (ran g0 g1) left.runs d.key (subst (Has (ran g0 g1)) (sym key) h) in
                sym (verified_is q g1 d.key j d (w.sound.numbered j d e) e) ∙ yes)
          ]
        ]

    read_changed : (r : Node K V) (i : ℕ) → at g0 i ≡ Some r → HasChangedRead q g1 (inputs q g1) r → HasChangedRead q g0 (inputs q g0) r
    read_changed r i e ch =
        let d0 = sound0.stands i ch.node r e ch.is_read in
        let b = became g0.revision (ran g0 g1) d0.0 (at g1 ch.node) (left.kept ch.node d0.0 d0.1) in
        let w' = b.1.0 in
        let st = ch.stands in
        let same : b.0 ≡ ch.read = cc in
        let key : ch.read.key ≡ d0.0.key = ap (λ (x : Node K V). x.key) (sym same) ∙ b.1.1.0 in
        let values : q.val (inputs q g1) ch.read.key ≡ q.val (inputs q g0) d0.0.key = ap (λ I. q.val I ch.read.key) left.inputs_same ∙ ap (q.val (inputs q g0)) key in
        record {
          node = ch.node;
          read = d0.0;
          is_read = ch.is_read;
          stands = d0.1;
          changed =
              elim b.1.1.1.0 [
                | inl u ↦
                    (let value : ch.read.value ≡ d0.0.value = ap (λ (x : Node K V). x.value) (sym same) ∙ u.0 in
                    let stamp : ch.read.changed_at ≡ d0.0.changed_at = ap (λ (x : Node K V). x.changed_at) (sym same) ∙ u.1 in
                    elim ch.changed [
                      | inl lt ↦ inl (omega arith)
                      | inr ne ↦ inr (λ v. ne (value ∙ v ∙ sym values))
                    ])
                | inr u ↦
                    (let other : ch.read.value ≢ d0.0.value = (λ v. u.0 (ap (λ (x : Node K V). x.value) same ∙ v)) in
                    let cur = moved_current ch.node d0.0 ch.read d0.1 ch.stands other in
                    let holds = current_value q g1 laws w.sound ch.node ch.read ch.stands cur in
                    inr (λ v. other (holds ∙ values ∙ sym v)))
              ];
        }

    pub due_was : (k : K) → q.is_input k ≡ false → is_verified q g1 k ≡ false → IsDue q g1 (inputs q g1) k → IsDue q g0 (inputs q g0) k
    due_was k isnt stale due =
        elim due [
          | inl none ↦ inl (no_record_before q laws g0 g1 sound0 w.sound w.unswept reached (ran g0 g1) left k none)
          | inr h ↦
              (let n = record_node q g1 k h.0 h.1.0 in
              let own = w.sound.numbers k n.0 n.1.0 in
              let at_n = own.1 in
              let at_n' = n.1.1 in
              let same : own.0 ≡ h.0 = cc in
              let key : h.0.key ≡ k = subst (λ (x : Node K V). x.key ≡ k) same own.2 in
              let before = stale_record q laws g0 g1 sound0 w.sound w.unswept reached (ran g0 g1) left k stale isnt n.0 h.0 n.1.1 key in
              let num = subst (λ x. node_of q g0 x ≡ Some n.0) key (sound0.numbered n.0 h.0 before) in
              inr (h.0, (record_is q g0 k n.0 h.0 num before, read_changed h.0 n.0 before h.1.1)))
        ]

    pub stale_was : (k : K) → is_verified q g1 k ≡ false → is_verified q g0 k ≡ false
    stale_was k stale = stale_before q laws g0 g1 sound0 w.sound w.unswept reached (ran g0 g1) left k stale

  pub verified_holds : VerifiedHolds q
  verified_holds g sound k v =
      elim (node_of q g k) as (λ o. node_of q g k ≡ o → (r : Node K V) × ((record_of q g k ≡ Some r) × (r.value ≡ q.val (inputs q g) k))) [
        | None ↦ (λ n. let no : is_verified q g k ≡ false = ap (λ o. option_map_or (is_current q g) o false) (record_none q g k n) in let bad : ⊥ = cc in absurd bad)
        | Some i ↦ (λ n.
            let st = sound.numbers k i n in
            let cur : is_current q g st.0 ≡ true = sym (verified_is q g k i st.0 n st.1) ∙ v in
            (st.0, (record_is q g k i st.0 n st.1, current_value q g laws sound i st.0 st.1 cur ∙ ap (q.val (inputs q g)) st.2)))
      ] refl

  pub demands_begin : DemandsBegin q
  demands_begin g sound unswept = walked_from q g (IsReachedFrom (q.asks (inputs q g)) []) g [] sound unswept (left_none q g (IsReachedFrom (q.asks (inputs q g)) [])) tt

  pub due_before_demands : DueBefore q
  due_before_demands g0 g1 roots sound0 w k isnt stale due = due_was g0 g1 sound0 (IsReachedFrom (q.asks (inputs q g0)) roots) w k isnt stale due

  -- what was done, and then done from there, by what either reached
  pub walked_join : (g0 g1 g2 : Held K V) (P Q R : K → Type 0) → IsSound q g0 → WalkedBy q g0 P g1 → WalkedBy q g1 Q g2 → ((k : K) → P k → R k) → ((k : K) → Q k → R k) → WalkedBy q g0 R g2
  walked_join g0 g1 g2 P Q R sound0 w1 w2 in_first in_second =
      let a1 = ran g0 g1 in
      let a2 = ran g1 g2 in
      let apart : (k : K) → Has a1 k → ¬ Has a2 k =
      (λ k h m. let yes = ran_verified g0 g1 w1.unswept a1 w1.leaves.runs k h in let run = Each-at (IsRunBy q g1 Q) a2 k w2.due m in let no = run.stale in let bad : ⊥ = cc in bad) in
      let joined = left_join g0 g1 g2 P Q R in_first in_second a1 a2 (left_from g0 g1 P w1.leaves) (left_from g1 g2 Q w2.leaves) apart in
      let first : Each (IsRunBy q g0 R) a1 = Each-map (IsRunBy q g0 P) (IsRunBy q g0 R) a1 (λ k h run. record { reached = in_first k run.reached; stale = run.stale; due = run.due }) w1.due in
      let second : Each (IsRunBy q g0 R) a2 = Each-map (IsRunBy q g1 Q) (IsRunBy q g0 R) a2 (λ k h run. record {
        reached = in_second k run.reached;
        stale = stale_was g0 g1 sound0 P w1 k run.stale;
        due = due_was g0 g1 sound0 P w1 k (ran_no_input g1 g2 w2.unswept a2 w2.leaves.runs k h) run.stale run.due;
      }) w2.due in
      walked_from q g0 R g2 (a1 ++ a2) w2.sound w2.unswept joined (Each-append (IsRunBy q g0 R) a1 a2 first second)

  pub demands_go_on : DemandsGoOn q
  demands_go_on g0 g1 g2 roots root sound0 w1 w2 =
      walked_join g0 g1 g2 (IsReachedFrom (q.asks (inputs q g0)) roots) (IsReached (q.asks (inputs q g1)) root) (IsReachedFrom (q.asks (inputs q g0)) (roots ++ root ∷ [])) sound0 w1 w2
      (λ k h. (h.0, (Has-left roots (root ∷ []) h.0 h.1.0, h.1.1)))
      (λ k h. (root, (Has-middle roots [] root, subst (λ I. IsReached (q.asks I) root k) w1.leaves.inputs_stay h)))

  -- a demand from a graph in which the clean records count as verified now is one from the graph before
  pub walked_after : (g0 g1 g2 : Held K V) (root : K) → IsSound q g0 → WalkedBy q g0 (λ k. ⊥) g1 → Walked q g1 root g2 → Walked q g0 root g2
  walked_after g0 g1 g2 root sound0 w1 w2 =
      walked_join g0 g1 g2 (λ k. ⊥) (IsReached (q.asks (inputs q g1)) root) (IsReached (q.asks (inputs q g0)) root) sound0 w1 w2 (λ k h. absurd h)
      (λ k h. subst (λ I. IsReached (q.asks I) root k) w1.leaves.inputs_stay h)

  -- and its node holds what it would hold
  pub holding_after : (g0 g1 g2 : Held K V) (root : K) (node : ℕ) → inputs q g1 ≡ inputs q g0 → IsHolding q g1 g2 root node → IsHolding q g0 g2 root node
  holding_after g0 g1 g2 root node same h = (h.0, (h.1.0, h.1.1, h.1.2, h.1.3, h.1.4 ∙ ap (λ I. q.val I root) same))

  pub held_on : HeldOn q
  held_on g0 g1 g2 root k node sound1 inputs_same w h =
      let r = h.0 in
      let yes : is_verified q g1 k ≡ true = verified_is q g1 k node r h.1.0 h.1.1 ∙ h.1.3 in
      let key = h.1.2 in
      let not_run : ¬ Has (ran g1 g2) r.key = (λ m. let run = Each-at (IsRun q g1 root) (ran g1 g2) r.key w.due m in let no = subst (λ x. is_verified q g1 x ≡ false) key run.stale in let bad : ⊥ = cc in bad) in
      elim (w.leaves.rest node r h.1.1 not_run) [
        | inl e ↦ (r, (subst (λ x. node_of q g2 x ≡ Some node) key (w.sound.numbered node r e), e, key, ap (λ m. q.is_input r.key || (r.verified_at == m)) w.leaves.revision ∙ h.1.3, h.1.4))
        | inr e ↦
            (let s : Node K V = record r { verified_at = g1.revision } in
            (s, (subst (λ x. node_of q g2 x ≡ Some node) key (w.sound.numbered node s e), e, key, stamped_current q g2 s (sym w.leaves.revision), h.1.4)))
      ]

  pub verified_on : VerifiedOn q
  verified_on g1 g2 root sound1 w k v =
      elim (node_of q g1 k) as (λ o. node_of q g1 k ≡ o → is_verified q g2 k ≡ true) [
        | None ↦ (λ n. let no : is_verified q g1 k ≡ false = ap (λ o. option_map_or (is_current q g1) o false) (record_none q g1 k n) in let bad : ⊥ = cc in absurd bad)
        | Some i ↦ (λ n. let h = held_on g1 g1 g2 root k i sound1 refl w (holds_already q laws g1 sound1 k i n v) in verified_is q g2 k i h.0 h.1.0 h.1.1 ∙ h.1.3)
      ] refl
