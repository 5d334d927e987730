-- Walks along what each one leads to: one that goes back to nothing that it is inside of finds what a walk finds that comes to each once.
use Rattle.std.proofs.Common.{arith, ◌≡◌, ℕ, suc, zero, ◌+◌, ◌-◌, ◌<◌, ◌≤◌, Bool, true, false, ◌||◌, List, [], ◌∷◌, ◌++◌, length, Option, Some, None, refl, sym, ap, subst, ◌∙◌, append_assoc}
use Rattle.std.specs.Bool.{Decides}
use Rattle.std.specs.List.{list_any}
use Rattle.std.specs.Prelude.{if◌then◌else◌, not, slice_get}

pub no : {b : Bool} → b ≡ true → b ≡ false → ⊥
no t f = cc

pub refuted : (b : Bool) → (b ≡ true → ⊥) → b ≡ false
refuted true h = absurd (h refl)
refuted false h = refl

pub forced : (b : Bool) → (b ≡ false → ⊥) → b ≡ true
forced true h = refl
forced false h = absurd (h refl)

opened : (b c : Bool) → (if b then false else c) ≡ true → (b ≡ false) × (c ≡ true)
opened true c h = let bad : ⊥ = cc in absurd bad
opened false c h = (refl, h)

shut : (b c : Bool) → b ≡ false → c ≡ true → (if b then false else c) ≡ true
shut b c e f = ap (λ x. if x then false else c) e ∙ f

pub neither : (a b : Bool) → a ≡ false → b ≡ false → (a || b) ≡ false
neither a b e f = ap (λ x. x || b) e ∙ f

pub none_of_two : (a b : Bool) → (a || b) ≡ false → (a ≡ false) × (b ≡ false)
none_of_two true b h = let bad : ⊥ = cc in absurd bad
none_of_two false b h = (refl, h)

or_both : (a b c : Bool) → (b ≡ true → c ≡ true) → (a || b) ≡ true → (a || c) ≡ true
or_both true b c f h = refl
or_both false b c f h = f h

or_swap : (a b c : Bool) → (a || (b || c)) ≡ true → (b || (a || c)) ≡ true
or_swap true true c h = refl
or_swap true false c h = refl
or_swap false true c h = refl
or_swap false false c h = h

or_later : (a b : Bool) → b ≡ true → (a || b) ≡ true
or_later true b h = refl
or_later false b h = h

module _ {A : Type 0} (same : A → A → Bool) (decides : (x y : A) → Decides (same x y) (x ≡ y)) where
  abbrev pub has : List A → A → Bool
  has xs x = list_any (same x) xs

  none_has : (p : A → Bool) (xs : List A) (x : A) → list_any p xs ≡ false → has xs x ≡ true → p x ≡ false
  none_has p [] x n h = let bad : ⊥ = cc in absurd bad
  none_has p (y ∷ ys) x n h =
      let parts = none_of_two (p y) (list_any p ys) n in
      elim (same x y) as (λ b. same x y ≡ b → (b || has ys x) ≡ true → p x ≡ false) [
        | true ↦ (λ e k. ap p ((decides x y).0 e) ∙ parts.0)
        | false ↦ (λ e k. none_has p ys x parts.1 k)
      ] refl h

  more_has : (xs ys : List A) (x : A) → has xs x ≡ true → has (xs ++ ys) x ≡ true
  more_has [] ys x h = let bad : ⊥ = cc in absurd bad
  more_has (z ∷ zs) ys x h = or_both (same x z) (has zs x) (has (zs ++ ys) x) (more_has zs ys x) h

  pub own_has : (xs ys : List A) (x : A) → has (xs ++ x ∷ ys) x ≡ true
  own_has [] ys x = ap (λ b. b || has ys x) ((decides x x).1 refl)
  own_has (z ∷ zs) ys x = or_later (same x z) (has (zs ++ x ∷ ys) x) (own_has zs ys x)

  outside : (seen others : List A) (y : A) → not (has (seen ++ others) y) ≡ true → not (has seen y) ≡ true
  outside seen others y t = ap not (refuted (has seen y) (λ h. no t (ap not (more_has seen others y h))))

  pub none_behind : (f : A → Bool) (xs : List A) (x : A) → list_any f xs ≡ false → f x ≡ false → list_any f (xs ++ x ∷ []) ≡ false
  none_behind f [] x n e = neither (f x) false e refl
  none_behind f (y ∷ ys) x n e =
      let parts = none_of_two (f y) (list_any f ys) n in
      neither (f y) (list_any f (ys ++ x ∷ [])) parts.0 (none_behind f ys x parts.1 e)

  -- what is seen after what something leads to was noted; `leads f`: to one that passes f
  pub record Notes (leads : (A → Bool) → Bool) (seen now : List A) : Type 0 where
    pub others : List A
    pub behind : now ≡ seen ++ others
    pub closed : leads (λ y. not (has now y)) ≡ false
    pub led : (f : A → Bool) → leads f ≡ false → list_any f seen ≡ false → list_any f now ≡ false

  -- where more is seen since, fewer are outside
  pub outside_now : (leads : (A → Bool) → Bool) (seen now : List A) → Notes leads seen now → (y : A) → not (has now y) ≡ true → not (has seen y) ≡ true
  outside_now leads seen now n y t = outside seen n.others y (subst (λ ys. not (has ys y) ≡ true) n.behind t)

  -- `look f x`: something that x leads to passes f, or x itself is what is looked for
  module _ (look : (A → Bool) → A → Bool) (mono : (f g : A → Bool) (x : A) → ((y : A) → f y ≡ true → g y ≡ true) → look f x ≡ true → look g x ≡ true) where
    abbrev pub sees : ℕ → List A → A → Bool
    sees zero inside x = false
    sees (suc n) inside x = if has inside x then false else look (λ y. sees n (x ∷ inside) y) x

    -- from inside of fewer, and with more steps
    more : (m n : ℕ) (few many : List A) (x : A) → ((y : A) → has few y ≡ true → has many y ≡ true) → m ≤ n → sees m many x ≡ true → sees n few x ≡ true
    more zero n few many x part le s = let bad : ⊥ = cc in absurd bad
    more (suc m) zero few many x part le s = let bad : ⊥ = omega (arith, le) in absurd bad
    more (suc m) (suc n) few many x part le s =
        let o = opened (has many x) (look (λ y. sees m (x ∷ many) y) x) s in
        let less : m ≤ n = omega (arith, le) in
        shut (has few x) (look (λ y. sees n (x ∷ few) y) x) (refuted (has few x) (λ h. no (part x h) o.0))
        (mono (λ y. sees m (x ∷ many) y) (λ y. sees n (x ∷ few) y) x
        (λ y t. more m n (x ∷ few) (x ∷ many) y (λ z. or_both (same z x) (has few z) (has many z) (part z)) less t) o.1)

    fewer : (n : ℕ) (few many : List A) (x : A) → ((y : A) → has few y ≡ true → has many y ≡ true) → sees (suc n) few x ≡ false → sees n many x ≡ false
    fewer n few many x part f =
        let le : n ≤ suc n = omega arith in
        refuted (sees n many x) (λ t. no (more n (suc n) few many x part le t) f)

    -- where x itself doesn't find it, what is found from y is found without x
    around : (n : ℕ) (inside : List A) (x y : A) → sees n inside x ≡ false → has inside x ≡ false → sees n inside y ≡ true → sees n (x ∷ inside) y ≡ true
    around zero inside x y f out s = let bad : ⊥ = cc in absurd bad
    around (suc n) inside x y f out s =
        let o = opened (has inside y) (look (λ z. sees n (y ∷ inside) z) y) s in
        let other : same y x ≡ false = refuted (same y x) (λ e. no (subst (λ z. sees (suc n) inside z ≡ true) ((decides y x).0 e) s) f) in
        let turned : same x y ≡ false = refuted (same x y) (λ e. no ((decides y x).1 (sym ((decides x y).0 e))) other) in
        let le : n ≤ n = omega arith in
        let below : sees n (y ∷ inside) x ≡ false = fewer n inside (y ∷ inside) x (λ z. or_later (same z y) (has inside z)) f in
        shut (has (x ∷ inside) y) (look (λ z. sees n (y ∷ x ∷ inside) z) y) (neither (same y x) (has inside y) other o.0)
        (mono (λ z. sees n (y ∷ inside) z) (λ z. sees n (y ∷ x ∷ inside) z) y
        (λ z t. more n n (y ∷ x ∷ inside) (x ∷ y ∷ inside) z (λ w. or_swap (same w y) (same w x) (has inside w)) le
        (around n (y ∷ inside) x z below (neither (same x y) (has inside x) turned out) t)) o.1)

    -- what x leads to finds nothing where x doesn't
    onward : (n : ℕ) (x : A) → sees (suc n) [] x ≡ false → look (λ y. sees n [] y) x ≡ false
    onward n x f =
        let below : sees n [] x ≡ false = fewer n [] [] x (λ z h. h) f in
        refuted (look (λ y. sees n [] y) x) (λ t. no (mono (λ y. sees n [] y) (λ y. sees n (x ∷ []) y) x (λ y s. around n [] x y below refl s) t) f)

    -- nothing is found among those that lead to one another alone
    within : (all : List A) → ((x : A) → has all x ≡ true → look (λ y. not (has all y)) x ≡ false) → (n : ℕ) (inside : List A) (x : A) → has all x ≡ true → sees n inside x ≡ false
    within all closed zero inside x h = refl
    within all closed (suc n) inside x h =
        refuted (sees (suc n) inside x) (λ s.
        let o = opened (has inside x) (look (λ y. sees n (x ∷ inside) y) x) s in
        no (mono (λ y. sees n (x ∷ inside) y) (λ y. not (has all y)) x
        (λ y t. ap not (refuted (has all y) (λ k. no t (within all closed n (x ∷ inside) y k)))) o.1) (closed x h))

    -- a walk from a root: those up to a place were looked at
    pub record Walked (top : ℕ) (root : A) (at : ℕ) (seen : List A) : Type 0 where
      pub done : List A
      pub left : List A
      pub split : seen ≡ done ++ left
      pub count : length done ≡ at
      pub starts : has seen root ≡ true
      pub closed : list_any (λ x. look (λ y. not (has seen y)) x) done ≡ false
      pub spared : (n : ℕ) → n + at ≡ top → sees top [] root ≡ false → list_any (λ y. sees n [] y) seen ≡ false

    pub begins : (top : ℕ) (root : A) → Walked top root 0 (root ∷ [])
    begins top root = record {
      done = [];
      left = root ∷ [];
      split = refl;
      count = refl;
      starts = own_has [] [] root;
      closed = refl;
      spared = λ n e f. let is : n ≡ top = omega (arith, e) in neither (sees n [] root) false (ap (λ k. sees k [] root) is ∙ f) refl;
    }

    abbrev or_that : A → Option A → A
    or_that y None = y
    or_that y (Some x) = x

    here : (done left : List A) (x : A) → slice_get (done ++ left) (length done) ≡ Some x → (more : List A) × (left ≡ x ∷ more)
    here [] [] x e = let bad : ⊥ = cc in absurd bad
    here [] (y ∷ ys) x e = (ys, ap (λ z. z ∷ ys) (ap (or_that y) e))
    here (y ∷ ys) left x e = here ys left x e

    at_place : (done left seen : List A) (at : ℕ) (x : A) → seen ≡ done ++ left → length done ≡ at → slice_get seen at ≡ Some x → (more : List A) × (left ≡ x ∷ more)
    at_place done left seen at x split count e =
        here done left x (subst (λ n. slice_get (done ++ left) n ≡ Some x) (sym count) (subst (λ xs. slice_get xs at ≡ Some x) split e))

    nothing_left : (done left : List A) → slice_get (done ++ left) (length done) ≡ None → left ≡ []
    nothing_left [] [] e = refl
    nothing_left [] (y ∷ ys) e = let bad : ⊥ = cc in absurd bad
    nothing_left (y ∷ ys) left e = nothing_left ys left e

    none_more : (f g : A → Bool) (xs : List A) → ((x : A) → g x ≡ true → f x ≡ true) → list_any f xs ≡ false → list_any g xs ≡ false
    none_more f g [] part n = refl
    none_more f g (x ∷ xs) part n =
        let parts = none_of_two (f x) (list_any f xs) n in
        neither (g x) (list_any g xs) (refuted (g x) (λ t. no (part x t) parts.0)) (none_more f g xs part parts.1)

    one_more : (xs : List A) (x : A) → length (xs ++ x ∷ []) ≡ length xs + 1
    one_more [] x = refl
    one_more (y ∷ ys) x = let rest : length (ys ++ x ∷ []) ≡ length ys + 1 = one_more ys x in omega (arith, rest)

    -- x is among what was noted
    noted_at : (done left seen more : List A) (x : A) → seen ≡ done ++ left → left ≡ x ∷ more → has seen x ≡ true
    noted_at done left seen more x split is = subst (λ xs. has xs x ≡ true) (sym (split ∙ ap (λ ys. done ++ ys) is)) (own_has done more x)

    pub turns : (top : ℕ) (root : A) (at : ℕ) (seen now : List A) (x : A) → Walked top root at seen → slice_get seen at ≡ Some x → Notes (λ f. look f x) seen now → Walked top root (at + 1) now
    turns top root at seen now x was e noted =
        let place = at_place was.done was.left seen at x was.split was.count e in
        let more = place.0 in
        let others = noted.others in
        let stands : has seen x ≡ true = noted_at was.done was.left seen more x was.split place.1 in
        let split : now ≡ (was.done ++ x ∷ []) ++ (more ++ others) =
        noted.behind ∙ ap (λ ys. ys ++ others) (was.split ∙ ap (λ ys. was.done ++ ys) place.1)
        ∙ append_assoc was.done (x ∷ more) others ∙ sym (append_assoc was.done (x ∷ []) (more ++ others)) in
        let count : length (was.done ++ x ∷ []) ≡ at + 1 = one_more was.done x ∙ ap (λ n. n + 1) was.count in
        let wide : (y : A) → not (has now y) ≡ true → not (has seen y) ≡ true = outside_now (λ f. look f x) seen now noted in
        record {
          done = was.done ++ x ∷ [];
          left = more ++ others;
          split = split;
          count = count;
          starts = subst (λ ys. has ys root ≡ true) (sym noted.behind) (more_has seen others root was.starts);
          closed = none_behind (λ z. look (λ y. not (has now y)) z) was.done x
              (none_more (λ z. look (λ y. not (has seen y)) z) (λ z. look (λ y. not (has now y)) z) was.done (λ z t. mono (λ y. not (has now y)) (λ y. not (has seen y)) z wide t) was.closed)
              noted.closed;
          spared = λ n k f.
              let k' : suc n + at ≡ top = omega (arith, k) in
              let all : list_any (λ y. sees (suc n) [] y) seen ≡ false = was.spared (suc n) k' f in
              let le : n ≤ suc n = omega arith in
              noted.led (λ y. sees n [] y) (onward n x (none_has (λ y. sees (suc n) [] y) seen x all stands))
              (none_more (λ y. sees (suc n) [] y) (λ y. sees n [] y) seen (λ y t. more_steps n y t) all);
        }
      where
        more_steps : (n : ℕ) (y : A) → sees n [] y ≡ true → sees (suc n) [] y ≡ true
        more_steps n y t = let le : n ≤ suc n = omega arith in more n (suc n) [] [] y (λ z h. h) le t

    -- what is looked for is found
    pub finds : (top : ℕ) (root : A) (at : ℕ) (seen : List A) (x : A) → Walked top root at seen → slice_get seen at ≡ Some x → at < top
        → ((f : A → Bool) → look f x ≡ true) → sees top [] root ≡ true
    finds top root at seen x was e small found =
        let place = at_place was.done was.left seen at x was.split was.count e in
        let stands : has seen x ≡ true = noted_at was.done was.left seen place.0 x was.split place.1 in
        let n = top - (at + 1) in
        let k : suc n + at ≡ top = omega (arith, small) in
        forced (sees top [] root) (λ f. no (found (λ y. sees n [] y)) (onward n x (none_has (λ y. sees (suc n) [] y) seen x (was.spared (suc n) k f) stands)))

    -- all that is reached was looked at
    pub ends : (top : ℕ) (root : A) (at : ℕ) (seen : List A) → Walked top root at seen → slice_get seen at ≡ None → sees top [] root ≡ false
    ends top root at seen was e =
        let none : was.left ≡ [] = nothing_left was.done was.left (subst (λ n. slice_get (was.done ++ was.left) n ≡ None) (sym was.count) (subst (λ xs. slice_get xs at ≡ None) was.split e)) in
        let all : was.done ≡ seen = sym (nothing_behind was.done) ∙ sym (was.split ∙ ap (λ ys. was.done ++ ys) none) in
        let closed : list_any (λ x. look (λ y. not (has seen y)) x) seen ≡ false = subst (λ xs. list_any (λ x. look (λ y. not (has seen y)) x) xs ≡ false) all was.closed in
        within seen (λ x h. none_has (λ z. look (λ y. not (has seen y)) z) seen x closed h) top [] root was.starts
      where
        nothing_behind : (xs : List A) → xs ++ [] ≡ xs
        nothing_behind [] = refl
        nothing_behind (x ∷ xs) = ap (λ ys. x ∷ ys) (nothing_behind xs)
