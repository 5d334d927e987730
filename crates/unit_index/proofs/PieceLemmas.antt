-- Occurrences in pieces, against the list of all.
use Rattle.std.proofs.Common.{rules, ◌≡◌, Bool, ◌&&◌, List, ◌∷◌, Some, None, sym, ap, ◌∙◌}
use Rattle.std.specs.Bool.{Decides}
use Rattle.std.specs.Option.{option_or}
use Rattle.std.specs.List.{filter, find, flat_map, list_any}
use Rattle.std.proofs.lemmas.Bool.Decides.{Decides-and, Decides-like}
use Rattle.std.proofs.lemmas.List.Folds.{find-append}
use Rattle.scope_tables.specs.declared.entities.Occ.{Occ}
use Rattle.scope_tables.specs.declared.entities.Role.{Role}
use Rattle.scope_tables.specs.contracts.entities.OccPartialEq.TheImpl as occs
use Rattle.scope_tables.specs.contracts.entities.RolePartialEq.TheImpl as roles
use Rattle.unit_index.proofs.SharedLemmas.{any_filter, any_same, any_joined}
use Rattle.unit_index.proofs.WalkLemmas.{tok_exact, anchor_exact}

role_exact : (a b : Role) → Decides (roles.eq-value.it a b) (a ≡ b)
role_exact a b = search rules

pub occ_exact : (o q : Occ) → Decides (occs.eq-value.it o q) (o ≡ q)
occ_exact o q =
    Decides-like (occs.eq-value.it o q)
    (λ h i. record { tok = h.0 i; anchor = h.1.0 i; role = h.1.1 i })
    (λ e. (ap (λ x. x.tok) e, (ap (λ x. x.anchor) e, ap (λ x. x.role) e)))
    (Decides-and _ _ (tok_exact o.tok q.tok) (Decides-and _ _ (anchor_exact o.anchor q.anchor) (role_exact o.role q.role)))

-- ---- any

pub any_pieces : {A B : Type 0} (xs : List A) (g : A → List B) (os : List B) → flat_map g xs ≡ os → (f : B → Bool) → list_any (λ x. list_any f (g x)) xs ≡ list_any f os
any_pieces xs g os is f = sym (any_joined f g xs) ∙ ap (list_any f) is

pub any_among : {A B : Type 0} (xs : List A) (g : A → List B) (os : List B) → flat_map g xs ≡ os → (f p : B → Bool) → list_any (λ x. list_any f (filter p (g x))) xs ≡ list_any f (filter p os)
any_among xs g os is f p =
    any_same (λ x. list_any f (filter p (g x))) (λ x. list_any (λ y. f y && p y) (g x)) (λ x. any_filter f p (g x)) xs
    ∙ any_pieces xs g os is (λ y. f y && p y)
    ∙ sym (any_filter f p os)

-- ---- the first that passes

pub first_here : {A B : Type 0} (p : B → Bool) (g : A → List B) (xs ys : List A) (x : A) (y : B) → xs ≡ x ∷ ys → find p (g x) ≡ Some y → find p (flat_map g xs) ≡ Some y
first_here p g xs ys x y is here = ap (λ zs. find p (flat_map g zs)) is ∙ find-append p (g x) (flat_map g ys) ∙ ap (λ o. option_or o (find p (flat_map g ys))) here

pub first_behind : {A B : Type 0} (p : B → Bool) (g : A → List B) (xs ys : List A) (x : A) → xs ≡ x ∷ ys → find p (g x) ≡ None → find p (flat_map g xs) ≡ find p (flat_map g ys)
first_behind p g xs ys x is none = ap (λ zs. find p (flat_map g zs)) is ∙ find-append p (g x) (flat_map g ys) ∙ ap (λ o. option_or o (find p (flat_map g ys))) none
