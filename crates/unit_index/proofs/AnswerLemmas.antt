-- What is asked for among the mentions.
use Rattle.std.proofs.Common.{arith, ◌≡◌, ℕ, Bool, true, false, ◌||◌, List, [], ◌∷◌, length, refl, sym, ap, ◌∙◌}
use Rattle.std.specs.Prelude.{◌==◌, map, if◌then◌else◌}
use Rattle.std.proofs.lemmas.Bool.{eqb-true}
use Rattle.std.specs.BTreeSet.{insert_key}
use Rattle.std.specs.List.{filter, list_any}
use Rattle.std.specs.declared.cmp.Ordering.{Ordering}
use Rattle.std.specs.declared.cmp.Ordering.TheVariants.{Less, Equal, Greater}
use Rattle.std.specs.Ordering.{match_ordering}
use Rattle.tok_data.specs.declared.sources.TokId.{TokId}
use Rattle.scope_tables.specs.declared.entities.Occ.{Occ}
use Rattle.unit_index.specs.Definition.{defines, declares, toks_that, defining}
use Rattle.unit_index.specs.Shared.{any}
use Rattle.unit_index.specs.Tokens.{tok_cmp, in_order}

all_pass : (os : List Occ) → filter (λ o. any o.role) os ≡ os
all_pass [] = refl
all_pass (o ∷ os) = ap (λ xs. o ∷ xs) (all_pass os)

-- all of them
pub all_toks : (os : List Occ) → in_order (toks_that any os) ≡ in_order (map (λ o. o.tok) os)
all_toks os = ap (λ xs. in_order (map (λ o. o.tok) xs)) (all_pass os)

-- a list is empty
abbrev IsNone : {A : Type 0} → List A → Type 0
IsNone [] = Unit
IsNone (x ∷ xs) = ⊥

by_rank : (r : Ordering) (xs ys zs : List TokId) → (IsNone xs → ⊥) → (IsNone ys → ⊥) → (IsNone zs → ⊥) → IsNone (match_ordering r xs ys zs) → ⊥
by_rank Less xs ys zs f g h = f
by_rank Equal xs ys zs f g h = g
by_rank Greater xs ys zs f g h = h

some_key : (ks : List TokId) (k : TokId) → IsNone (insert_key tok_cmp ks k) → ⊥
some_key [] k none = none
some_key (x ∷ xs) k none = by_rank (tok_cmp k x) _ _ _ (λ n. n) (λ n. n) (λ n. n) none

some_tok : (ts : List TokId) → IsNone (in_order ts) → IsNone ts
some_tok [] none = tt
some_tok (t ∷ ts) none = some_key (in_order ts) t none

to_none : {A : Type 0} (xs : List A) → xs ≡ [] → IsNone xs
to_none xs e = subst_none xs (sym e)
  where
    subst_none : {A : Type 0} (ys : List A) → [] ≡ ys → IsNone ys
    subst_none [] e = tt
    subst_none (y ∷ ys) e = cc e

none_define : (os : List Occ) → IsNone (toks_that defines os) → list_any (λ o. defines o.role) os ≡ false
none_define [] none = refl
none_define (o ∷ os) none = step (defines o.role) o os none (none_define os)
  where
    step : (c : Bool) (o : Occ) (os : List Occ) → IsNone (map (λ x. x.tok) (if c then o ∷ filter (λ x. defines x.role) os else filter (λ x. defines x.role) os))
        → (IsNone (toks_that defines os) → list_any (λ x. defines x.role) os ≡ false) → (c || list_any (λ x. defines x.role) os) ≡ false
    step true o os none later = absurd none
    step false o os none later = later none

chosen : (b : Bool) (os : List Occ) → list_any (λ o. defines o.role) os ≡ b → defining os ≡ (if b then toks_that defines os else toks_that declares os)
chosen b os e = ap (λ c. if c then toks_that defines os else toks_that declares os) e

-- none defines: those that declare
pub declared : (os : List Occ) (items : List TokId) → items ≡ in_order (toks_that defines os) → items ≡ [] → in_order (toks_that declares os) ≡ in_order (defining os)
declared os items is none = ap in_order (sym (chosen false os (none_define os (some_tok (toks_that defines os) (to_none (in_order (toks_that defines os)) (sym is ∙ none))))))

nobody : (os : List Occ) → list_any (λ o. defines o.role) os ≡ false → toks_that defines os ≡ []
nobody [] e = refl
nobody (o ∷ os) e = step (defines o.role) o os e (nobody os)
  where
    step : (c : Bool) (o : Occ) (os : List Occ) → (c || list_any (λ x. defines x.role) os) ≡ false → (list_any (λ x. defines x.role) os ≡ false → toks_that defines os ≡ [])
        → map (λ x. x.tok) (if c then o ∷ filter (λ x. defines x.role) os else filter (λ x. defines x.role) os) ≡ []
    step true o os e later = absurd (cc e)
    step false o os e later = later e

some : (b : Bool) → (b ≡ false → ⊥) → b ≡ true
some true h = refl
some false h = absurd (h refl)

-- some define: these
pub defined : (os : List Occ) (items : List TokId) → items ≡ in_order (toks_that defines os) → (items ≡ [] → ⊥) → in_order (toks_that defines os) ≡ in_order (defining os)
defined os items is some_item =
    ap in_order (sym (chosen true os (some (list_any (λ o. defines o.role) os) (λ e. some_item (is ∙ ap in_order (nobody os e))))))

-- what a vector's `is_empty` tells
pub is_some : (items : List TokId) (n : ℕ) (r : Bool) → n ≡ length items → r ≡ (n == 0) → r ≡ false → items ≡ [] → ⊥
is_some items n r count tells not_empty none =
    let zero : n ≡ 0 = count ∙ ap length none in
    let bad : false ≡ true = sym not_empty ∙ tells ∙ ap (λ k. k == 0) zero in
    absurd (cc bad)

pub is_nothing : (items : List TokId) (n : ℕ) (r : Bool) → n ≡ length items → r ≡ (n == 0) → r ≡ true → items ≡ []
is_nothing [] n r count tells is = refl
is_nothing (x ∷ xs) n r count tells is =
    let zero : n ≡ 0 = eqb-true n 0 (sym tells ∙ is) in
    let bad : ⊥ = omega (arith, zero, count) in
    absurd bad
