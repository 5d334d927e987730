-- No record comes to read itself, and where no record does, a walk up along readers ends.
use Rattle.std.proofs.Common.{◌≡◌, ◌≢◌, ℕ, zero, suc, ◌<◌, true, false, List, [], refl, ap, sym, ◌∙◌, subst, inl, inr, ◌⊎◌, Option, Some, None, slice_index_or, arith}
use Rattle.std.proofs.lemmas.Bool.{cases_eq}
use Rattle.query_core.specs.Lists.{Has}
use Rattle.query_core.specs.Queries.{Queries}
use Rattle.query_core.specs.Graph.{Held, at, is_current}
use Rattle.query_core.specs.Soundness.{IsSound}
use Rattle.query_core.specs.Changes.{Puts}
use Rattle.query_core.specs.Cycles.{IsBelow, HasNoCycle}
use Rattle.query_core.specs.Cycles.IsBelow.{at_once, further}
use Rattle.query_core.specs.Node.{Node}

-- Of what has P and lies above x, one has nothing above it that has P. So where each has something above it, there is none.
module _ (P : ℕ → Type 0) (below : ℕ → ℕ → Type 0) (trans : (a b c : ℕ) → below a b → below b c → below a c) (irrefl : (a : ℕ) → ¬ below a a) where
  pub climb : (n x : ℕ) → P x → ((m : ℕ) → P m → ((p : ℕ) → p < n → P p → ¬ below p m) → ⊥) → ⊥
  climb zero x px k = k x px (λ p lt _ _. absurd (omega arith))
  climb (suc n) x px k =
      climb n x px (λ m pm top.
      let not : P n → ¬ below n m = (λ pn b. k n pn (λ p lt pp bp.
      elim (cases_eq p n) [
        | inl e ↦ irrefl n (subst (λ y. below y n) e bp)
        | inr d ↦ top p (omega arith) pp (trans p n m bp b)
      ])) in
      k m pm (λ p lt pp bp.
      elim (cases_eq p n) [
        | inl e ↦ not (subst P e pp) (subst (λ y. below y m) e bp)
        | inr d ↦ top p (omega arith) pp bp
      ]))

module _ {K V : Type 0} where
  pub below_trans : (nodes : List (Option (Node K V))) (a b c : ℕ) → IsBelow nodes a b → IsBelow nodes b c → IsBelow nodes a c
  below_trans nodes a b c f (at_once j r e h) = further b j r f e h
  below_trans nodes a b c f (further j k r g e h) = further j k r (below_trans nodes a b j f g) e h

  -- what is read now was read before
  pub no_cycle_same : (old new : List (Option (Node K V))) → ((i j : ℕ) (r : Node K V) → slice_index_or new i None ≡ Some r → Has r.reads j → (s : Node K V) × ((slice_index_or old i None ≡ Some s) × Has s.reads j))
      → HasNoCycle old → HasNoCycle new
  no_cycle_same old new f none i b = none i (back i i b)
    where
      back : (a c : ℕ) → IsBelow new a c → IsBelow old a c
      back a c (at_once j r e h) = let s = f a j r e h in at_once j s.0 s.1.0 s.1.1
      back a c (further j k r g e h) = let s = f j k r e h in further j k s.0 (back a j g) s.1.0 s.1.1

  pub empty_no_cycle : (nodes : List (Option (Node K V))) → nodes ≡ [] → HasNoCycle nodes
  empty_no_cycle nodes empty i b = nothing i i b
    where
      nothing : (a c : ℕ) → IsBelow nodes a c → ⊥
      nothing a c (at_once j r e h) = let n : slice_index_or nodes a None ≡ None = ap (λ (l : List (Option (Node K V))). slice_index_or l a None) empty in let bad : ⊥ = cc in bad
      nothing a c (further j k r g e h) = nothing a j g

  module _ (q : Queries K V) (old new : Held K V) (i : ℕ) (r : Node K V) (puts : Puts q old new i r) where
    -- a record was put that reads nothing
    pub no_cycle_input : r.reads ≡ [] → HasNoCycle old.nodes → HasNoCycle new.nodes
    no_cycle_input none =
        no_cycle_same old.nodes new.nodes (λ a j e at_a has.
        elim (cases_eq a i) [
          | inl ai ↦ absurd (let here : at new i ≡ Some e = subst (λ n. at new n ≡ Some e) ai at_a in let p = puts.here in let same : r ≡ e = cc in
              subst (λ l. Has l j) (ap (λ (x : Node K V). x.reads) (sym same) ∙ none) has)
          | inr n ↦ (e, (sym (puts.others a n) ∙ at_a, has))
        ])

    -- a record was put that reads what is verified now, and wasn't verified itself
    module _ (sound : IsSound q old) (reads : (j : ℕ) → Has r.reads j → (d : Node K V) × ((at old j ≡ Some d) × (is_current q old d ≡ true))) (stale : (s : Node K V) → at old i ≡ Some s → is_current q old s ≡ false) where
      own : (e : Node K V) → at new i ≡ Some e → e ≡ r
      own e at_i = let p = puts.here in cc

      -- what is verified now
      pub record IsNow (j : ℕ) : Type 0 where
        pub node : Node K V
        pub stands : at old j ≡ Some node
        pub now : is_current q old node ≡ true
        pub apart : j ≢ i

      is_now : (j : ℕ) (d : Node K V) → at old j ≡ Some d → is_current q old d ≡ true → IsNow j
      is_now j d e c = record { node = d; stands = e; now = c; apart = λ ji. let at_i = subst (λ n. at old n ≡ Some d) ji e in let off = stale d at_i in let bad : ⊥ = cc in bad }

      below_own : (a b : ℕ) → a ≡ i → IsBelow new.nodes a b → IsNow b
      below_own a b ai (at_once j e at_a h) =
          let same = own e (subst (λ n. at new n ≡ Some e) ai at_a) in
          let d = reads j (subst (λ (x : Node K V). Has x.reads j) same h) in is_now j d.0 d.1.0 d.1.1
      below_own a b ai (further j k e g at_j h) =
          let n = below_own a j ai g in
          let was = sym (puts.others j n.apart) ∙ at_j in
          let stands = n.stands in
          let same : n.node ≡ e = cc in
          let d = sound.stands j k e was h in
          is_now k d.0 d.1 (sound.verified j k e d.0 was (subst (λ (x : Node K V). is_current q old x ≡ true) same n.now) h d.1)

      -- a way in the new graph was one in the old, or goes through the record
      split : (a b : ℕ) → IsBelow new.nodes a b → IsBelow old.nodes a b ⊎ (((a ≡ i) ⊎ IsBelow new.nodes a i) × IsBelow new.nodes i b)
      split a b (at_once j e at_a h) =
          elim (cases_eq a i) [
            | inl ai ↦ inr (inl ai, at_once j e (subst (λ n. at new n ≡ Some e) ai at_a) h)
            | inr n ↦ inl (at_once j e (sym (puts.others a n) ∙ at_a) h)
          ]
      split a b (further j k e g at_j h) =
          elim (cases_eq j i) [
            | inl ji ↦ inr (inr (subst (IsBelow new.nodes a) ji g), at_once k e (subst (λ n. at new n ≡ Some e) ji at_j) h)
            | inr n ↦ elim (split a j g) [
              | inl p ↦ inl (further j k e p (sym (puts.others j n) ∙ at_j) h)
              | inr p ↦ inr (p.0, further j k e p.1 at_j h)
            ]
          ]

      pub no_cycle_puts : HasNoCycle old.nodes → HasNoCycle new.nodes
      no_cycle_puts none a b =
          elim (split a a b) [
            | inl p ↦ none a p
            | inr p ↦ elim p.0 [
              | inl ai ↦ (below_own i i refl (subst (IsBelow new.nodes i) ai p.1)).apart refl
              | inr up ↦ (below_own i i refl (below_trans new.nodes i a i p.1 up)).apart refl
            ]
          ]
