-- The look-up of an answer by the graph's numbers is a look-up in the list of answers.
use Rattle.std.proofs.Common.{◌≡◌, ◌≢◌, ℕ, Bool, true, false, ◌||◌, nat_eq, cond, List, [], ◌∷◌, refl, ap, sym, ◌∙◌, subst, inl, inr, Some, None, arith, eq-eqb}
use Rattle.std.proofs.lemmas.Bool.{cases_eq}
use Rattle.std.specs.List.{list_any, cons_option}
use Rattle.std.specs.Map.{lookup}
use Rattle.std.specs.Option.{option_map}
use Rattle.query_core.specs.Lists.{Has}
use Rattle.query_core.specs.Stored.{Stored, node_at}
use Rattle.query_core.specs.Answering.{pairs_at, IsNumbered}
use Rattle.query_core.specs.Node.{Node}

pub any_from : (i : ℕ) (js : List ℕ) → Has js i → list_any (nat_eq i) js ≡ true
any_from i [] h = absurd h
any_from i (j ∷ js) (inl e) = ap (λ b. b || list_any (nat_eq i) js) (eq-eqb i j (sym e))
any_from i (j ∷ js) (inr h) = elim (nat_eq i j) as (λ b. (b || list_any (nat_eq i) js) ≡ true) [ true ↦ refl | false ↦ any_from i js h ]

any_rest : (i j : ℕ) (js : List ℕ) → i ≢ j → list_any (nat_eq i) (j ∷ js) ≡ true → list_any (nat_eq i) js ≡ true
any_rest i j js n h = elim (nat_eq i j) as (λ b. nat_eq i j ≡ b → (b || list_any (nat_eq i) js) ≡ true → list_any (nat_eq i) js ≡ true)
    [ true ↦ (λ e _. absurd (n (grind (arith, e)))) | false ↦ (λ e x. x) ] refl h

module _ {K V : Type 0} where
  abbrev one : Node K V → K × V
  one r = (r.key, r.value)

  pairs_none : (eq : K → K → Bool) (s : Stored K V) (k : K) (js : List ℕ) → ((j : ℕ) (r : Node K V) → Has js j → node_at s j ≡ Some r → eq k r.key ≡ false) → lookup (eq k) (pairs_at s js) ≡ None
  pairs_none eq s k [] f = refl
  pairs_none eq s k (j ∷ js) f =
      let rest = pairs_none eq s k js (λ j' r h. f j' r (inr h)) in
      elim (node_at s j) as (λ o. node_at s j ≡ o → lookup (eq k) (pairs_at s (j ∷ js)) ≡ None) [
        | None ↦ (λ e. ap (λ o. lookup (eq k) (cons_option (option_map one o) (pairs_at s js))) e ∙ rest)
        | Some r ↦ (λ e. ap (λ o. lookup (eq k) (cons_option (option_map one o) (pairs_at s js))) e
            ∙ ap (λ b. cond b (Some r.value) (lookup (eq k) (pairs_at s js))) (f j r (inl refl) e) ∙ rest)
      ] refl

  pub pairs_absent : (eq : K → K → Bool) (s : Stored K V) (k : K) (js : List ℕ) → IsNumbered eq s → lookup (eq k) s.numbers ≡ None → lookup (eq k) (pairs_at s js) ≡ None
  pairs_absent eq s k js num e =
      pairs_none eq s k js (λ j r h at_j. elim (eq k r.key) as (λ b. eq k r.key ≡ b → b ≡ false) [ true ↦ (λ is. absurd (let own = num.only k j r at_j is in let bad : ⊥ = cc in bad)) | false ↦ (λ _. refl) ] refl)

  pub pairs_not_among : (eq : K → K → Bool) (s : Stored K V) (k : K) (js : List ℕ) (i : ℕ) → IsNumbered eq s → lookup (eq k) s.numbers ≡ Some i → list_any (nat_eq i) js ≡ false
      → lookup (eq k) (pairs_at s js) ≡ None
  pairs_not_among eq s k js i num e n =
      pairs_none eq s k js (λ j r h at_j. elim (eq k r.key) as (λ b. eq k r.key ≡ b → b ≡ false) [
        | true ↦ (λ is. absurd (let own = num.only k j r at_j is in let same : j ≡ i = cc in let yes = any_from i js (subst (λ x. Has js x) same h) in let bad : ⊥ = cc in bad))
        | false ↦ (λ _. refl)
      ] refl)

  pub pairs_among : (eq : K → K → Bool) (s : Stored K V) (k : K) (js : List ℕ) (i : ℕ) (r : Node K V) → IsNumbered eq s → lookup (eq k) s.numbers ≡ Some i → node_at s i ≡ Some r
      → list_any (nat_eq i) js ≡ true → lookup (eq k) (pairs_at s js) ≡ Some r.value
  pairs_among eq s k [] i r num e at_i h = absurd (let bad : ⊥ = cc in bad)
  pairs_among eq s k (j ∷ js) i r num e at_i h =
      let st = num.stands k i e in
      let yes : eq k r.key ≡ true = (let p = st.1.0 in let same : st.0 ≡ r = cc in subst (λ (x : Node K V). eq k x.key ≡ true) same st.1.1) in
      elim (cases_eq i j) [
        | inl ij ↦ (let at_j : node_at s j ≡ Some r = subst (λ n. node_at s n ≡ Some r) ij at_i in
            ap (λ o. lookup (eq k) (cons_option (option_map one o) (pairs_at s js))) at_j ∙ ap (λ b. cond b (Some r.value) (lookup (eq k) (pairs_at s js))) yes)
        | inr n ↦
            (let rest = pairs_among eq s k js i r num e at_i (any_rest i j js n h) in
            elim (node_at s j) as (λ o. node_at s j ≡ o → lookup (eq k) (pairs_at s (j ∷ js)) ≡ Some r.value) [
              | None ↦ (λ ej. ap (λ o. lookup (eq k) (cons_option (option_map one o) (pairs_at s js))) ej ∙ rest)
              | Some d ↦ (λ ej. ap (λ o. lookup (eq k) (cons_option (option_map one o) (pairs_at s js))) ej
                  ∙ ap (λ b. cond b (Some d.value) (lookup (eq k) (pairs_at s js)))
                  (elim (eq k d.key) as (λ b. eq k d.key ≡ b → b ≡ false)
                  [ true ↦ (λ is. absurd (let own = num.only k j d ej is in n (cc))) | false ↦ (λ _. refl) ] refl)
                  ∙ rest)
            ] refl)
      ]
