-- What the piece at an index is, and how going to the next one and taking from it change what is left.
use Rattle.std.proofs.Common.{◌≡◌, ◌+◌, ◌<◌, ◌≤◌, ℕ, suc, List, [], ◌∷◌, ◌++◌, take, length, drop, map, get_or, refl, sym, ap, ◌∙◌, add-one, arith, drop-cons, length-drop, length-append}
use Rattle.std.specs.List.{concat, drop-map}
use Rattle.std.proofs.lemmas.List.{drop_all, drop-append-le, take-append-le}
use Rattle.std.proofs.Math.Seq.{take-append_seam, drop-nil}
use Rattle.io_edges.specs.Memory.{skip_empty, cut_head, head_piece, next_piece, after_taking}

pub at_piece : {V : Type 0} (f : V → List ℕ) (xs : List V) (i : ℕ) (d : V) → i < length xs → drop i (map f xs) ≡ f (get_or xs i d) ∷ drop (i + 1) (map f xs)
at_piece f xs i d h = drop-map f i xs ∙ (ap (map f) (drop-cons xs i d h) ∙ (rw (add-one) (ap (λ t. f (get_or xs i d) ∷ t) (sym (drop-map f (suc i) xs)))))

cut_none : (ps : List (List ℕ)) → cut_head 0 ps ≡ ps
cut_none [] = refl
cut_none (p ∷ ps) = refl

skip_past : (a : ℕ) (p : List ℕ) (ps : List (List ℕ)) → length p ≤ a → skip_empty (cut_head a (p ∷ ps)) ≡ skip_empty (cut_head 0 ps)
skip_past a p ps h = rw (drop_all a p h, cut_none ps) refl

skip_here : (p : List ℕ) (ps : List (List ℕ)) → 0 < length p → skip_empty (p ∷ ps) ≡ p ∷ ps
skip_here [] ps h = absurd (omega arith)
skip_here (b ∷ bs) ps h = refl

pub goes_past : {V : Type 0} (f : V → List ℕ) (xs : List V) (i a : ℕ) (d : V) → i < length xs → length (f (get_or xs i d)) ≤ a
    → skip_empty (cut_head a (drop i (map f xs))) ≡ skip_empty (cut_head 0 (drop (i + 1) (map f xs)))
goes_past f xs i a d h past = rw (at_piece f xs i d h) (skip_past a (f (get_or xs i d)) (drop (i + 1) (map f xs)) past)

pub stays_here : {V : Type 0} (f : V → List ℕ) (xs : List V) (i a : ℕ) (d : V) → i < length xs → a < length (f (get_or xs i d))
    → skip_empty (cut_head a (drop i (map f xs))) ≡ cut_head a (drop i (map f xs))
stays_here f xs i a d h here = rw (at_piece f xs i d h) (skip_here (drop a (f (get_or xs i d))) (drop (i + 1) (map f xs)) (rw length-drop (omega arith)))

pub within_head : (xs : List (List ℕ)) (p : List ℕ) (ps : List (List ℕ)) (a : ℕ) → xs ≡ p ∷ ps → a ≤ length (head_piece xs) → a ≤ length p
within_head xs p ps a e w = rw e at w

pub head_within : (xs : List (List ℕ)) (p : List ℕ) (ps : List (List ℕ)) (a : ℕ) → xs ≡ p ∷ ps → a ≤ length p → a ≤ length (head_piece xs)
head_within xs p ps a e w = rw e w

-- what a read finds, where p is the piece at hand and a the place in it
pub finds : (xs : List (List ℕ)) (p : List ℕ) (ps : List (List ℕ)) (a : ℕ) (old : List (List ℕ)) → xs ≡ p ∷ ps → cut_head a xs ≡ skip_empty old
    → next_piece old ≡ drop a p
finds xs p ps a old e s = ap head_piece (sym s) ∙ ap (λ t. head_piece (cut_head a t)) e

-- the bytes copied to a front are that front
pub take_copied : (n : ℕ) (x y r : List ℕ) → length x ≡ n → x ≡ take n r → take n (x ++ y) ≡ take n r
take_copied n x y r l e = rw (← l) (take-append_seam x y ∙ e ∙ sym (ap (λ m. take m r) l))

-- what a read takes is the front of all that is left, and the rest stays
pub taking_drops : (n : ℕ) (ps : List (List ℕ)) → n ≤ length (next_piece ps) → concat (after_taking n ps) ≡ drop n (concat ps)
taking_drops n [] h = sym (drop-nil n)
taking_drops n ([] ∷ ps) h = taking_drops n ps h
taking_drops n ((b ∷ bs) ∷ ps) h = sym (drop-append-le n (b ∷ bs) (concat ps) h)

pub next_is_front : (n : ℕ) (ps : List (List ℕ)) → n ≤ length (next_piece ps) → take n (concat ps) ≡ take n (next_piece ps)
next_is_front n [] h = refl
next_is_front n ([] ∷ ps) h = next_is_front n ps h
next_is_front n ((b ∷ bs) ∷ ps) h = take-append-le n (b ∷ bs) (concat ps) h

pub next_within : (ps : List (List ℕ)) → length (next_piece ps) ≤ length (concat ps)
next_within [] = omega arith
next_within ([] ∷ ps) = next_within ps
next_within ((b ∷ bs) ∷ ps) = omega (arith, length-append (b ∷ bs) (concat ps))

pub none_at_end : (ps : List (List ℕ)) → length (next_piece ps) ≡ 0 → concat ps ≡ []
none_at_end [] e = refl
none_at_end ([] ∷ ps) e = none_at_end ps e
none_at_end ((b ∷ bs) ∷ ps) e = absurd (omega arith)
