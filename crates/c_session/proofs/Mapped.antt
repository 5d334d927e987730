-- Elements that are gone through from the front, and what is made of each.
use Rattle.std.proofs.Common.{◌≡◌, List, [], ◌∷◌, ◌++◌, map, append_assoc, append-nil, sym, ap, subst, ◌∙◌}
use Rattle.std.specs.Prelude.{flat_map}
use Rattle.std.specs.List.{AllByRecursion}

-- ---- one of each

module _ {A B : Type 0} (f : A → B) where
  pub mapped_turns : (rest behind : List A) (x : A) (old new : List B) (one : B) (all : List B) → rest ≡ x ∷ behind → new ≡ old ++ one ∷ [] → one ≡ f x → old ++ map f rest ≡ all → new ++ map f behind ≡ all
  mapped_turns rest behind x old new one all first grown made is =
      ap (λ ys. ys ++ map f behind) grown ∙ append_assoc old (one ∷ []) (map f behind) ∙ ap (λ y. old ++ y ∷ map f behind) made ∙ ap (λ xs. old ++ map f xs) (sym first) ∙ is

  pub mapped_ends : (rest : List A) (now all : List B) → rest ≡ [] → now ++ map f rest ≡ all → now ≡ all
  mapped_ends rest now all none is = sym (append-nil now) ∙ ap (λ xs. now ++ map f xs) (sym none) ∙ is

-- ---- some of each

module _ {A B C : Type 0} (g : A → B) (f : B → List C) where
  pub joined_turns : (rest behind : List A) (x : A) (old new all : List C) → rest ≡ x ∷ behind → new ≡ old ++ f (g x) → old ++ flat_map f (map g rest) ≡ all → new ++ flat_map f (map g behind) ≡ all
  joined_turns rest behind x old new all first grown is =
      ap (λ ys. ys ++ flat_map f (map g behind)) grown ∙ append_assoc old (f (g x)) (flat_map f (map g behind)) ∙ ap (λ xs. old ++ flat_map f (map g xs)) (sym first) ∙ is

  pub joined_ends : (rest : List A) (now all : List C) → rest ≡ [] → now ++ flat_map f (map g rest) ≡ all → now ≡ all
  joined_ends rest now all none is = sym (append-nil now) ∙ ap (λ xs. now ++ flat_map f (map g xs)) (sym none) ∙ is

-- ---- what holds of all

module _ {A : Type 0} (P : A → Type 0) (rest behind : List A) (x : A) (first : rest ≡ x ∷ behind) (all : AllByRecursion P rest) where
  both : P x × AllByRecursion P behind
  both = subst (AllByRecursion P) first all

  pub all_first : P x
  all_first = both.0

  pub all_behind : AllByRecursion P behind
  all_behind = both.1
