-- The newest binding of a name in a list of bindings.
use Rattle.std.proofs.Common.{arith, ◌≡◌, ◌<◌, ◌+◌, ◌++◌, ℕ, zero, suc, Bool, true, false, List, [], ◌∷◌, length, take, Option, None, Some, refl, ap, ◌∙◌}
use Rattle.std.specs.Prelude.{◌&&◌, if◌then◌else◌}
use Rattle.std.specs.Cmp.Lexicographic.{pointwise}
use Rattle.std.specs.Prelude.{nat_eq}
use Rattle.std.proofs.lemmas.Slice.Eq.{bytes_eq-Decides}
use Rattle.type_data.specs.declared.members.Space.{Space}
use Rattle.type_data.specs.contracts.members.SpacePartialEq.TheImpl as spaces
use Rattle.scope_tables.specs.Places.{is_key, newest, or_here, with_entity}
use Rattle.scope_tables.specs.Scopes.{binds}
use Rattle.scope_tables.specs.declared.bindings.Binding.{Binding}
use Rattle.scope_tables.specs.declared.entities.Entity.{Entity}
use Rattle.scope_tables.proofs.IndexLemmas.{space_decides}

both : (p q : Bool) → (p && q) ≡ true → (p ≡ true) × (q ≡ true)
both true q h = (refl, h)
both false q h = let bad : ⊥ = cc in absurd bad

join : (p q : Bool) → p ≡ true → q ≡ true → (p && q) ≡ true
join p q h k = ap (λ x. x && q) h ∙ k

pub binds_is : (s : Space) (q : List ℕ) (b : Binding) → binds s q b ≡ true → (b.space ≡ s) × (b.name ≡ q)
unfolding binds
binds_is s q b h =
    let parts = both (spaces.eq-value.it b.space s) (pointwise nat_eq b.name q) h in
    ((space_decides b.space s).0 parts.0, (bytes_eq-Decides b.name q).0 parts.1)

pub binds_if : (s : Space) (q : List ℕ) (b : Binding) → b.space ≡ s → b.name ≡ q → binds s q b ≡ true
unfolding binds
binds_if s q b e f = join (spaces.eq-value.it b.space s) (pointwise nat_eq b.name q) ((space_decides b.space s).1 e) ((bytes_eq-Decides b.name q).1 f)

pub key_binds : (s : Space) (q : List ℕ) (b : Binding) → is_key b.space b.name s q ≡ binds s q b
unfolding binds is_key
key_binds s q b = refl

-- two bindings of one name
pub same_binds : (s : Space) (q : List ℕ) (b c : Binding) → b.space ≡ c.space → b.name ≡ c.name → binds s q b ≡ binds s q c
unfolding binds
same_binds s q b c e f = ap (λ x. spaces.eq-value.it x s && pointwise nat_eq b.name q) e ∙ ap (λ n. spaces.eq-value.it c.space s && pointwise nat_eq n q) f

-- the newest of two lists, the second of which stands behind the first one, of this length
abbrev pub newer : Option ℕ → ℕ → Option ℕ → Option ℕ
newer o n (Some i) = Some (n + i)
newer o n None = o

nothing_before : (o : Option ℕ) → o ≡ newer None 0 o
nothing_before (Some i) = let e : i ≡ 0 + i = omega arith in ap Some e
nothing_before None = refl

one_more : (o : Option ℕ) (n : ℕ) (p : Option ℕ) (here : Bool) → or_here (newer o n p) here ≡ newer (or_here o here) (n + 1) p
one_more o n (Some i) here = let e : n + i + 1 ≡ n + 1 + i = omega arith in ap Some e
one_more o n None here = refl

pub newest_append : (s : Space) (q : List ℕ) (xs ys : List Binding) → newest s q (xs ++ ys) ≡ newer (newest s q xs) (length xs) (newest s q ys)
newest_append s q [] ys = nothing_before (newest s q ys)
newest_append s q (x ∷ xs) ys =
    ap (λ o. or_here o (binds s q x)) (newest_append s q xs ys)
    ∙ one_more (newest s q xs) (length xs) (newest s q ys) (binds s q x)
    ∙ (let e : length xs + 1 ≡ length (x ∷ xs) = omega arith in ap (λ n. newer (or_here (newest s q xs) (binds s q x)) n (newest s q ys)) e)

last_one : (o : Option ℕ) (n : ℕ) (here : Bool) → newer o n (if here then Some 0 else None) ≡ (if here then Some n else o)
last_one o n true = let e : n + 0 ≡ n = omega arith in ap Some e
last_one o n false = refl

pub newest_push : (s : Space) (q : List ℕ) (xs : List Binding) (b : Binding) → newest s q (xs ++ b ∷ []) ≡ (if binds s q b then Some (length xs) else newest s q xs)
newest_push s q xs b = newest_append s q xs (b ∷ []) ∙ last_one (newest s q xs) (length xs) (binds s q b)

pub newest_below : (s : Space) (q : List ℕ) (xs : List Binding) (i : ℕ) → newest s q xs ≡ Some i → i < length xs
newest_below s q [] i h = let bad : ⊥ = cc h in absurd bad
newest_below s q (x ∷ xs) i h = step (λ j e. newest_below s q xs j e) (newest s q xs) (binds s q x) refl h
  where
    step : ((j : ℕ) → newest s q xs ≡ Some j → j < length xs) → (o : Option ℕ) (here : Bool) → newest s q xs ≡ o → or_here o here ≡ Some i → i < length (x ∷ xs)
    step below_it (Some j) here e g =
        let below : j < length xs = below_it j e in
        let is : j + 1 ≡ i = cc g in
        omega arith
    step below_it None true e g = let is : 0 ≡ i = cc g in omega arith
    step below_it None false e g = let bad : ⊥ = cc g in absurd bad

-- another entity at one of the places
pub newest_with : (s : Space) (q : List ℕ) (xs : List Binding) (i : ℕ) (e : Entity) (n : ℕ)
    → newest s q (take n (with_entity xs i e)) ≡ newest s q (take n xs)
newest_with s q [] i e n = refl
newest_with s q (x ∷ xs) i e zero = refl
newest_with s q (x ∷ xs) zero e (suc n) = ap (λ t. or_here (newest s q (take n xs)) t) (same_binds s q (record { space = x.space; name = x.name; entity = e }) x refl refl)
newest_with s q (x ∷ xs) (suc i) e (suc n) = ap (λ o. or_here o (binds s q x)) (newest_with s q xs i e n)

pub newest_with_all : (s : Space) (q : List ℕ) (xs : List Binding) (i : ℕ) (e : Entity) → newest s q (with_entity xs i e) ≡ newest s q xs
newest_with_all s q [] i e = refl
newest_with_all s q (x ∷ xs) zero e = ap (λ t. or_here (newest s q xs) t) (same_binds s q (record { space = x.space; name = x.name; entity = e }) x refl refl)
newest_with_all s q (x ∷ xs) (suc i) e = ap (λ o. or_here o (binds s q x)) (newest_with_all s q xs i e)
