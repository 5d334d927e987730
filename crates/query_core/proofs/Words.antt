-- Lemmas on the words for lists, and on what a graph keeps of a list of nodes.
use Rattle.std.proofs.Common.{◌≡◌, ℕ, zero, suc, ◌<◌, ◌≤◌, Bool, true, false, cond, length, get_or, arith, List, [], ◌∷◌, ◌++◌, refl, ap, sym, ◌∙◌, subst, inl, inr, ◌⊎◌, Option, Some, None}
use Rattle.std.specs.Prelude.{filter_map, slice_get}
use Rattle.std.specs.List.{cons_option}
use Rattle.std.specs.Option.{option_map}
use Rattle.query_core.specs.Lists.{Has, Each, IsOnce}
use Rattle.query_core.specs.Queries.{answers}
use Rattle.query_core.specs.Graph.{Held, at}
use Rattle.query_core.specs.Soundness.{kept}
use Rattle.query_core.specs.Node.{Node}

pub Has-left : {X : Type 0} (xs ys : List X) (x : X) → Has xs x → Has (xs ++ ys) x
Has-left [] ys x h = absurd h
Has-left (y ∷ xs) ys x (inl e) = inl e
Has-left (y ∷ xs) ys x (inr h) = inr (Has-left xs ys x h)

pub Has-right : {X : Type 0} (xs ys : List X) (x : X) → Has ys x → Has (xs ++ ys) x
Has-right [] ys x h = h
Has-right (y ∷ xs) ys x h = inr (Has-right xs ys x h)

pub Has-append : {X : Type 0} (xs ys : List X) (x : X) → Has (xs ++ ys) x → Has xs x ⊎ Has ys x
Has-append [] ys x h = inr h
Has-append (y ∷ xs) ys x (inl e) = inl (inl e)
Has-append (y ∷ xs) ys x (inr h) = elim (Has-append xs ys x h) [ inl a ↦ inl (inr a) | inr b ↦ inr b ]

pub Has-middle : {X : Type 0} (xs ys : List X) (x : X) → Has (xs ++ x ∷ ys) x
Has-middle xs ys x = Has-right xs (x ∷ ys) x (inl refl)

pub Each-at : {X : Type 0} (P : X → Type 0) (xs : List X) (x : X) → Each P xs → Has xs x → P x
Each-at P [] x e h = absurd h
Each-at P (y ∷ xs) x e (inl s) = subst P s e.0
Each-at P (y ∷ xs) x e (inr h) = Each-at P xs x e.1 h

pub Each-from : {X : Type 0} (P : X → Type 0) (xs : List X) → ((x : X) → Has xs x → P x) → Each P xs
Each-from P [] f = tt
Each-from P (y ∷ xs) f = (f y (inl refl), Each-from P xs (λ x h. f x (inr h)))

pub Each-map : {X : Type 0} (P Q : X → Type 0) (xs : List X) → ((x : X) → Has xs x → P x → Q x) → Each P xs → Each Q xs
Each-map P Q [] f e = tt
Each-map P Q (y ∷ xs) f e = (f y (inl refl) e.0, Each-map P Q xs (λ x h. f x (inr h)) e.1)

pub Each-append : {X : Type 0} (P : X → Type 0) (xs ys : List X) → Each P xs → Each P ys → Each P (xs ++ ys)
Each-append P [] ys e f = f
Each-append P (x ∷ xs) ys e f = (e.0, Each-append P xs ys e.1 f)

pub Each-left : {X : Type 0} (P : X → Type 0) (xs ys : List X) → Each P (xs ++ ys) → Each P xs
Each-left P [] ys e = tt
Each-left P (x ∷ xs) ys e = (e.0, Each-left P xs ys e.1)

-- a new element may be added to the end
pub IsOnce-push : {X : Type 0} (xs : List X) (x : X) → IsOnce xs → ¬ Has xs x → IsOnce (xs ++ x ∷ [])
IsOnce-push [] x o n = ((λ h. h), tt)
IsOnce-push (y ∷ xs) x o n =
    ((λ h. elim (Has-append xs (x ∷ []) y h) [ inl a ↦ o.0 a | inr b ↦ elim b [ inl e ↦ n (inl (sym e)) | inr c ↦ c ] ]), IsOnce-push xs x o.1 (λ h. n (inr h)))

-- what counts the tests that fail, counts fewer where more of them hold
pub one_less : (a b : Bool) → (a ≡ true → b ≡ true) → cond b 0 1 ≤ cond a 0 1
one_less true true h = omega arith
one_less true false h = let bad : ⊥ = (let e = h refl in cc) in absurd bad
one_less false true h = omega arith
one_less false false h = omega arith

cons_option-append : {X : Type 0} (o : Option X) (xs ys : List X) → cons_option o xs ++ ys ≡ cons_option o (xs ++ ys)
cons_option-append None xs ys = refl
cons_option-append (Some x) xs ys = refl

filter_map-append : {X Y : Type 0} (f : X → Option Y) (xs ys : List X) → filter_map f (xs ++ ys) ≡ filter_map f xs ++ filter_map f ys
filter_map-append f [] ys = refl
filter_map-append f (x ∷ xs) ys = ap (cons_option (f x)) (filter_map-append f xs ys) ∙ sym (cons_option-append (f x) (filter_map f xs) (filter_map f ys))

pub filter_map-same : {X Y : Type 0} (f h : X → Option Y) (xs : List X) → ((x : X) → Has xs x → f x ≡ h x) → filter_map f xs ≡ filter_map h xs
filter_map-same f h [] e = refl
filter_map-same f h (x ∷ xs) e =
    let p = filter_map-same f h xs (λ y m. e y (inr m)) in
    let r = e x (inl refl) in
    ap (λ o. cons_option o (filter_map f xs)) r ∙ ap (cons_option (h x)) p

pub has_at : (xs : List ℕ) (i : ℕ) → i < length xs → Has xs (get_or xs i 0)
has_at [] i l = absurd (omega arith)
has_at (x ∷ xs) zero l = inl refl
has_at (x ∷ xs) (suc i) l = inr (has_at xs i (omega arith))

pub get_at : (xs : List ℕ) (i : ℕ) → i < length xs → slice_get xs i ≡ Some (get_or xs i 0)
get_at [] i l = absurd (omega arith)
get_at (x ∷ xs) zero l = refl
get_at (x ∷ xs) (suc i) l = get_at xs i (omega arith)

module _ {K V : Type 0} where
  pub kept-append : (g : Held K V) (a b : List ℕ) → kept g (a ++ b) ≡ kept g a ++ kept g b
  kept-append g a b = filter_map-append (λ node. option_map (λ r. (r.key, r.value)) (at g node)) a b

  pub kept-one : (g : Held K V) (j : ℕ) (d : Node K V) → at g j ≡ Some d → kept g (j ∷ []) ≡ (d.key, d.value) ∷ []
  kept-one g j d e = ap (λ o. cons_option (option_map (λ r. (r.key, r.value)) o) []) e

  pub kept-push : (g : Held K V) (a : List ℕ) (j : ℕ) (d : Node K V) → at g j ≡ Some d → kept g (a ++ j ∷ []) ≡ kept g a ++ (d.key, d.value) ∷ []
  kept-push g a j d e = kept-append g a (j ∷ []) ∙ ap (λ x. kept g a ++ x) (kept-one g j d e)

  -- a list of nodes at which both graphs keep the same keeps the same
  pub kept-same : (g h : Held K V) (a : List ℕ) → ((j : ℕ) → Has a j → at h j ≡ at g j) → kept h a ≡ kept g a
  kept-same g h a e =
      filter_map-same (λ node. option_map (λ r. (r.key, r.value)) (at h node)) (λ node. option_map (λ r. (r.key, r.value)) (at g node)) a
      (λ j m. ap (option_map (λ r. (r.key, r.value))) (e j m))

  pub answers-push : (value : K → V) (ks : List K) (k : K) → answers value (ks ++ k ∷ []) ≡ answers value ks ++ (k, value k) ∷ []
  answers-push value [] k = refl
  answers-push value (x ∷ ks) k = ap (λ l. (x, value x) ∷ l) (answers-push value ks k)
