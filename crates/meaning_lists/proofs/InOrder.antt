-- What ascends is in order already.
use Rattle.std.proofs.Common.{arith, ◌≡◌, refl, ap, sym, ◌∙◌, ℕ, ◌≤◌, Bool, true, false, true≢false, not, ◌&&◌, nat_lt, List, [], ◌∷◌, ◌++◌, map, cond}
use Rattle.meaning_lists.specs.Order.{put, all_put, by_place, ascends_from}

both_left : (a b : Bool) → (a && b) ≡ true → a ≡ true
both_left true b h = refl
both_left false b h = absurd (true≢false (sym h))

both_right : (a b : Bool) → (a && b) ≡ true → b ≡ true
both_right true b h = h
both_right false b h = absurd (true≢false (sym h))

off : (b : Bool) → not b ≡ true → b ≡ false
off false h = refl
off true h = absurd (true≢false (sym h))

not_below : (a b : ℕ) → b ≤ a → nat_lt a b ≡ false
not_below a b h = grind (arith, h)

not_above : (a b : ℕ) → nat_lt a b ≡ false → b ≤ a
not_above a b h = grind (arith, h)

module _ {A : Type 0} where
  -- no number is above this
  abbrev AreUpTo : ℕ → List (ℕ × A) → Type 0
  AreUpTo at [] = Unit {0}
  AreUpTo at (q ∷ qs) = (q.0 ≤ at) × AreUpTo at qs

  up_more : (at more : ℕ) → at ≤ more → (qs : List (ℕ × A)) → AreUpTo at qs → AreUpTo more qs
  up_more at more h [] u = tt
  up_more at more h (q ∷ qs) u = (omega (arith, h, u.0), up_more at more h qs u.1)

  up_next : (at : ℕ) → (p : ℕ × A) → p.0 ≤ at → (qs : List (ℕ × A)) → AreUpTo at qs → AreUpTo at (qs ++ p ∷ [])
  up_next at p h [] u = (h, tt)
  up_next at p h (q ∷ qs) u = (u.0, up_next at p h qs u.1)

  put_last : (p : ℕ × A) → (qs : List (ℕ × A)) → AreUpTo p.0 qs → put p qs ≡ qs ++ p ∷ []
  put_last p [] u = refl
  put_last p (q ∷ qs) u =
      ap (λ b. cond b (p ∷ q ∷ qs) (q ∷ put p qs)) (not_below p.0 q.0 u.0) ∙ ap (λ xs. q ∷ xs) (put_last p qs u.1)

  joined : (done : List (ℕ × A)) → (p : ℕ × A) → (ps : List (ℕ × A)) → (done ++ p ∷ []) ++ ps ≡ done ++ p ∷ ps
  joined [] p ps = refl
  joined (q ∷ qs) p ps = ap (λ xs. q ∷ xs) (joined qs p ps)

  unchanged : (at : ℕ) → (done ps : List (ℕ × A)) → AreUpTo at done → ascends_from at ps ≡ true → all_put done ps ≡ done ++ ps
  unchanged at [] [] u h = refl
  unchanged at (q ∷ qs) [] u h = ap (λ xs. q ∷ xs) (unchanged at qs [] u.1 h)
  unchanged at done (p ∷ ps) u h =
      let under : at ≤ p.0 = not_above p.0 at (off (nat_lt p.0 at) (both_left (not (nat_lt p.0 at)) (ascends_from p.0 ps) h)) in
      let up : AreUpTo p.0 done = up_more at p.0 under done u in
      ap (λ xs. all_put xs ps) (put_last p done up)
      ∙ unchanged p.0 (done ++ p ∷ []) ps (up_next p.0 p (omega arith) done up) (both_right (not (nat_lt p.0 at)) (ascends_from p.0 ps) h)
      ∙ joined done p ps

  pub in_order : (ps : List (ℕ × A)) → ascends_from 0 ps ≡ true → map (λ p. p.1) ps ≡ by_place ps
  in_order ps h = ap (map (λ p. p.1)) (sym (unchanged 0 [] ps tt h))

module _ {A : Type 0} (place : A → ℕ × A) (back : (x : A) → (place x).1 ≡ x) where
  unplaced : (xs : List A) → xs ≡ map (λ p. p.1) (map place xs)
  unplaced [] = refl
  unplaced (x ∷ xs) = ap (λ ys. x ∷ ys) (unplaced xs) ∙ ap (λ y. y ∷ map (λ p. p.1) (map place xs)) (sym (back x))

  pub stays : (xs : List A) → ascends_from 0 (map place xs) ≡ true → xs ≡ by_place (map place xs)
  stays xs h = unplaced xs ∙ in_order (map place xs) h
