-- A walk that comes once to all that is needed, and to what that needs in turn: at its end all needs are met, and where one can't be
-- helped they can't.
use Rattle.std.proofs.Common.{arith, ◌≡◌, ℕ, zero, suc, ◌+◌, ◌-◌, ◌<◌, Bool, true, false, ◌&&◌, ◌||◌, List, [], ◌∷◌, ◌++◌, length, Option, Some, None, refl, sym, ap, subst, ◌∙◌, append_assoc, append-nil}
use Rattle.std.specs.Bool.{Decides}
use Rattle.std.specs.List.{list_all, list_any, slice_get}
use Rattle.std.specs.Prelude.{if◌then◌else◌}
use Rattle.indexmap.specs.IndexSet.{insert_key}
use Rattle.unit_index.specs.Closing.{each, noted_all, put, Met, stands}

no : {b : Bool} → b ≡ true → b ≡ false → ⊥
no t f = cc

refuted : (b : Bool) → (b ≡ true → ⊥) → b ≡ false
refuted true h = absurd (h refl)
refuted false h = refl

both : (p q : Bool) → (p && q) ≡ true → (p ≡ true) × (q ≡ true)
both true q h = (refl, h)
both false q h = absurd (no h refl)

join : (p q : Bool) → p ≡ true → q ≡ true → (p && q) ≡ true
join p q h k = ap (λ x. x && q) h ∙ k

abbrev or_that : {B : Type 0} → B → Option B → B
or_that b None = b
or_that b (Some a) = a

module _ {A : Type 0} where
  all_wider : (f g : A → Bool) (xs : List A) → ((x : A) → f x ≡ true → g x ≡ true) → list_all f xs ≡ true → list_all g xs ≡ true
  all_wider f g [] part h = refl
  all_wider f g (x ∷ xs) part h =
      let parts = both (f x) (list_all f xs) h in
      join (g x) (list_all g xs) (part x parts.0) (all_wider f g xs part parts.1)

  each_wider : (f g : A → Bool) (needed : Option (List A)) → ((x : A) → f x ≡ true → g x ≡ true) → each f needed ≡ true → each g needed ≡ true
  each_wider f g None part h = h
  each_wider f g (Some xs) part h = all_wider f g xs part h

  all_parts : (f : A → Bool) (xs ys : List A) → list_all f (xs ++ ys) ≡ true → (list_all f xs ≡ true) × (list_all f ys ≡ true)
  all_parts f [] ys h = (refl, h)
  all_parts f (x ∷ xs) ys h =
      let parts = both (f x) (list_all f (xs ++ ys)) h in
      let more = all_parts f xs ys parts.1 in
      (join (f x) (list_all f xs) parts.0 more.0, more.1)

  all_joined : (f : A → Bool) (xs ys : List A) → list_all f xs ≡ true → list_all f ys ≡ true → list_all f (xs ++ ys) ≡ true
  all_joined f [] ys h k = k
  all_joined f (x ∷ xs) ys h k =
      let parts = both (f x) (list_all f xs) h in
      join (f x) (list_all f (xs ++ ys)) parts.0 (all_joined f xs ys parts.1 k)

  here : (done left : List A) (x : A) → slice_get (done ++ left) (length done) ≡ Some x → (more : List A) × (left ≡ x ∷ more)
  here [] [] x e = absurd (cc e)
  here [] (y ∷ ys) x e = (ys, ap (λ z. z ∷ ys) (ap (or_that y) e))
  here (y ∷ ys) left x e = here ys left x e

  at_place : (done left seen : List A) (at : ℕ) (x : A) → seen ≡ done ++ left → length done ≡ at → slice_get seen at ≡ Some x → (more : List A) × (left ≡ x ∷ more)
  at_place done left seen at x split count e =
      here done left x (subst (λ n. slice_get (done ++ left) n ≡ Some x) (sym count) (subst (λ xs. slice_get xs at ≡ Some x) split e))

  nothing_left : (done left : List A) → slice_get (done ++ left) (length done) ≡ None → left ≡ []
  nothing_left [] [] e = refl
  nothing_left [] (y ∷ ys) e = absurd (cc e)
  nothing_left (y ∷ ys) left e = nothing_left ys left e

  one_more : (xs : List A) (x : A) → length (xs ++ x ∷ []) ≡ length xs + 1
  one_more [] x = refl
  one_more (y ∷ ys) x = let rest : length (ys ++ x ∷ []) ≡ length ys + 1 = one_more ys x in omega (arith, rest)

module _ {A : Type 0} (same : A → A → Bool) (exact : (x y : A) → Decides (same x y) (x ≡ y)) where
  abbrev stand : List A → A → Bool
  stand xs x = list_any (same x) xs

  all_has : (f : A → Bool) (xs : List A) (x : A) → list_all f xs ≡ true → stand xs x ≡ true → f x ≡ true
  all_has f [] x h k = absurd (no k refl)
  all_has f (y ∷ ys) x h k =
      let parts = both (f y) (list_all f ys) h in
      elim (same x y) as (λ b. same x y ≡ b → (b || stand ys x) ≡ true → f x ≡ true) [
        | true ↦ (λ e j. ap f ((exact x y).0 e) ∙ parts.0)
        | false ↦ (λ e j. all_has f ys x parts.1 j)
      ] refl k

  own_front : (x : A) (xs : List A) → stand (x ∷ xs) x ≡ true
  own_front x xs = ap (λ b. b || stand xs x) ((exact x x).1 refl)

  later : (a b : Bool) → b ≡ true → (a || b) ≡ true
  later true b h = refl
  later false b h = h

  of_has : (f : A → Bool) (xs : List A) → ((x : A) → stand xs x ≡ true → f x ≡ true) → list_all f xs ≡ true
  of_has f [] h = refl
  of_has f (x ∷ xs) h = join (f x) (list_all f xs) (h x (own_front x xs)) (of_has f xs (λ y k. h y (later (same y x) (stand xs y) k)))

  own : (xs : List A) → list_all (stand xs) xs ≡ true
  own xs = of_has (stand xs) xs (λ x h. h)

  -- what is seen after one more: the same tests pass on it
  record Seen (seen others now : List A) : Type 0 where
    pub more : List A
    pub behind : now ≡ seen ++ more
    pub parts : (f : A → Bool) → list_all f now ≡ true → (list_all f seen ≡ true) × (list_all f others ≡ true)
    pub whole : (f : A → Bool) → list_all f seen ≡ true → list_all f others ≡ true → list_all f now ≡ true

  inserted : (seen : List A) (x : A) → Seen seen (x ∷ []) (insert_key same seen x)
  inserted seen x =
      elim (stand seen x) as (λ b. stand seen x ≡ b → Seen seen (x ∷ []) (if b then seen else seen ++ x ∷ [])) [
        | true ↦ (λ e. record {
          more = [];
          behind = sym (append-nil seen);
          parts = λ f h. (h, join (f x) true (all_has f seen x h e) refl);
          whole = λ f h k. h;
        })
        | false ↦ (λ e. record {
          more = x ∷ [];
          behind = refl;
          parts = λ f h. all_parts f seen (x ∷ []) h;
          whole = λ f h k. all_joined f seen (x ∷ []) h k;
        })
      ] refl

  noted : (xs seen : List A) → Seen seen xs (noted_all same seen xs)
  noted [] seen = record { more = []; behind = sym (append-nil seen); parts = λ f h. (h, refl); whole = λ f h k. h }
  noted (x ∷ xs) seen =
      let i = inserted seen x in
      let r = noted xs (insert_key same seen x) in
      record {
        more = i.more ++ r.more;
        behind = r.behind ∙ ap (λ l. l ++ r.more) i.behind ∙ append_assoc seen i.more r.more;
        parts = λ f h.
            let later_parts = r.parts f h in
            let first_parts = i.parts f later_parts.0 in
            (first_parts.0, join (f x) (list_all f xs) (both (f x) true first_parts.1).0 later_parts.1);
        whole = λ f h k.
            let parts = both (f x) (list_all f xs) k in
            r.whole f (i.whole f h (join (f x) true parts.0 refl)) parts.1;
      }

  -- what is put is there
  record Puts (seen : List A) (needed : Option (List A)) (now : List A) : Type 0 where
    pub more : List A
    pub behind : now ≡ seen ++ more
    pub parts : (f : A → Bool) → list_all f now ≡ true → (list_all f seen ≡ true) × (each f needed ≡ true)
    pub whole : (f : A → Bool) → list_all f seen ≡ true → each f needed ≡ true → list_all f now ≡ true

  puts : (seen : List A) (needed : Option (List A)) (now : List A) → put same seen needed ≡ Some now → Puts seen needed now
  puts seen None now e = let bad : ⊥ = cc in absurd bad
  puts seen (Some xs) now e =
      let r = noted xs seen in
      subst (λ l. Puts seen (Some xs) l) (ap (or_that now) e) (record { more = r.more; behind = r.behind; parts = r.parts; whole = r.whole })

  put_none : (seen : List A) (needed : Option (List A)) → put same seen needed ≡ None → needed ≡ None
  put_none seen None e = refl
  put_none seen (Some xs) e = let bad : ⊥ = cc in absurd bad

  module _ (needs : A → Option (List A)) where
    stands_less : (n : ℕ) (x : A) → stands needs (suc n) x ≡ true → stands needs n x ≡ true
    stands_less zero x h = refl
    stands_less (suc n) x h = each_wider (stands needs (suc n)) (stands needs n) (needs x) (stands_less n) h

    met_stands : (things : List A) → ((x : A) → stand things x ≡ true → each (stand things) (needs x) ≡ true) → (n : ℕ) (x : A) → stand things x ≡ true → stands needs n x ≡ true
    met_stands things closed zero x h = refl
    met_stands things closed (suc n) x h = each_wider (stand things) (stands needs n) (needs x) (met_stands things closed n) (closed x h)

    pub stays : (needed : Option (List A)) (n : ℕ) → Met same needs needed → each (stands needs n) needed ≡ true
    stays needed n m = each_wider (stand m.things) (stands needs n) needed (met_stands m.things m.closed n) m.holds

    -- on the way: what the first `at` things need was come to
    pub record Walking (needed : Option (List A)) (at : ℕ) (seen : List A) : Type 0 where
      pub done : List A
      pub left : List A
      pub split : seen ≡ done ++ left
      pub count : length done ≡ at
      pub started : (f : A → Bool) → list_all f seen ≡ true → each f needed ≡ true
      pub opened : (f : A → Bool) → list_all f seen ≡ true → (x : A) → list_any (same x) done ≡ true → each f (needs x) ≡ true
      pub wanted : (f : A → Bool) → each f needed ≡ true → ((x : A) → f x ≡ true → each f (needs x) ≡ true) → list_all f seen ≡ true
      pub within : (n : ℕ) → each (stands needs (n + at)) needed ≡ true → list_all (stands needs n) seen ≡ true

    pub begins : (needed : Option (List A)) (now : List A) → put same [] needed ≡ Some now → Walking needed 0 now
    begins needed now e =
        let p = puts [] needed now e in
        record {
          done = [];
          left = now;
          split = refl;
          count = refl;
          started = λ f h. (p.parts f h).1;
          opened = λ f h x k. absurd (no k refl);
          wanted = λ f h c. p.whole f refl h;
          within = λ n h. p.whole (stands needs n) refl (subst (λ k. each (stands needs k) needed ≡ true) (omega arith) h);
        }

    -- one of some, or the last one
    last_or : (xs : List A) (x y : A) → stand (xs ++ x ∷ []) y ≡ true → (P : A → Type 0) → ((z : A) → stand xs z ≡ true → P z) → P x → P y
    last_or [] x y h P inside own_one =
        elim (same y x) as (λ b. same y x ≡ b → (b || false) ≡ true → P y) [
          | true ↦ (λ e k. subst P (sym ((exact y x).0 e)) own_one)
          | false ↦ (λ e k. absurd (no k refl))
        ] refl h
    last_or (z ∷ zs) x y h P inside own_one =
        elim (same y z) as (λ b. same y z ≡ b → (b || stand (zs ++ x ∷ []) y) ≡ true → P y) [
          | true ↦ (λ e k. inside y (ap (λ b. b || stand zs y) e))
          | false ↦ (λ e k. last_or zs x y k P (λ w s. inside w (later (same w z) (stand zs w) s)) own_one)
        ] refl h

    has_back : (xs : List A) (x : A) (ys : List A) → stand (xs ++ x ∷ ys) x ≡ true
    has_back [] x ys = own_front x ys
    has_back (z ∷ zs) x ys = later (same x z) (stand (zs ++ x ∷ ys) x) (has_back zs x ys)

    pub turns : (needed : Option (List A)) (at : ℕ) (seen now : List A) (x : A) → Walking needed at seen → slice_get seen at ≡ Some x
        → put same seen (needs x) ≡ Some now → Walking needed (at + 1) now
    turns needed at seen now x was e is =
        let p = puts seen (needs x) now is in
        let place = at_place was.done was.left seen at x was.split was.count e in
        let there : stand seen x ≡ true = subst (λ l. stand l x ≡ true) (sym (was.split ∙ ap (λ l. was.done ++ l) place.1)) (has_back was.done x place.0) in
        record {
          done = was.done ++ x ∷ [];
          left = place.0 ++ p.more;
          split = p.behind ∙ ap (λ l. l ++ p.more) (was.split ∙ ap (λ l. was.done ++ l) place.1)
              ∙ append_assoc was.done (x ∷ place.0) p.more ∙ sym (append_assoc was.done (x ∷ []) (place.0 ++ p.more));
          count = one_more was.done x ∙ ap (λ n. n + 1) was.count;
          started = λ f h. was.started f (p.parts f h).0;
          opened = λ f h y k. last_or was.done x y k (λ z. each f (needs z) ≡ true) (was.opened f (p.parts f h).0) (p.parts f h).1;
          wanted = λ f h c.
              let before = was.wanted f h c in
              p.whole f before (c x (all_has f seen x before there));
          within = λ n h.
              let before : list_all (stands needs (suc n)) seen ≡ true = was.within (suc n) (subst (λ k. each (stands needs k) needed ≡ true) (omega arith) h) in
              p.whole (stands needs n) (all_wider (stands needs (suc n)) (stands needs n) seen (stands_less n) before) (all_has (stands needs (suc n)) seen x before there);
        }

    pub meets : (needed : Option (List A)) (at : ℕ) (seen : List A) → Walking needed at seen → slice_get seen at ≡ None → Met same needs needed
    meets needed at seen was e =
        let none : was.left ≡ [] = nothing_left was.done was.left (subst (λ n. slice_get (was.done ++ was.left) n ≡ None) (sym was.count) (subst (λ xs. slice_get xs at ≡ None) was.split e)) in
        let all : seen ≡ was.done = was.split ∙ ap (λ l. was.done ++ l) none ∙ append-nil was.done in
        record {
          things = seen;
          closed = λ x h. was.opened (stand seen) (own seen) x (subst (λ l. stand l x ≡ true) all h);
          holds = was.started (stand seen) (own seen);
        }

    -- where what is needed can't be helped
    pub fails_at_once : (needed : Option (List A)) → needed ≡ None → Met same needs needed → ⊥
    fails_at_once needed e m = no (subst (λ n. each (stand m.things) n ≡ true) e m.holds) refl

    pub fails : (needed : Option (List A)) (at : ℕ) (seen : List A) (x : A) → Walking needed at seen → slice_get seen at ≡ Some x → put same seen (needs x) ≡ None → Met same needs needed → ⊥
    fails needed at seen x was e is m =
        let place = at_place was.done was.left seen at x was.split was.count e in
        let there : stand seen x ≡ true = subst (λ l. stand l x ≡ true) (sym (was.split ∙ ap (λ l. was.done ++ l) place.1)) (has_back was.done x place.0) in
        let mine : stand m.things x ≡ true = all_has (stand m.things) seen x (was.wanted (stand m.things) m.holds m.closed) there in
        no (subst (λ n. each (stand m.things) n ≡ true) (put_none seen (needs x) is) (m.closed x mine)) refl

    pub falls : (needed : Option (List A)) (at most : ℕ) (seen : List A) (x : A) → Walking needed at seen → slice_get seen at ≡ Some x → put same seen (needs x) ≡ None → at < most
        → each (stands needs most) needed ≡ false
    falls needed at most seen x was e is small =
        refuted (each (stands needs most) needed) (λ h.
        let place = at_place was.done was.left seen at x was.split was.count e in
        let there : stand seen x ≡ true = subst (λ l. stand l x ≡ true) (sym (was.split ∙ ap (λ l. was.done ++ l) place.1)) (has_back was.done x place.0) in
        let n : ℕ = most - at - 1 in
        let sum : most ≡ suc n + at = omega (arith, small) in
        let before : list_all (stands needs (suc n)) seen ≡ true = was.within (suc n) (subst (λ k. each (stands needs k) needed ≡ true) sum h) in
        let own_one : each (stands needs n) (needs x) ≡ true = all_has (stands needs (suc n)) seen x before there in
        no (subst (λ r. each (stands needs n) r ≡ true) (put_none seen (needs x) is) own_one) refl)
