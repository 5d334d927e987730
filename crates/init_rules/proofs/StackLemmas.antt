-- A list turned round, as a stack sees it.
use Rattle.std.proofs.Common.{◌≡◌, List, [], ◌∷◌, ◌++◌, Some, reverse, refl, ap, sym, ◌∙◌}
use Rattle.std.proofs.lemmas.List.{reverse-append}
use Rattle.init_rules.specs.Stacks.{bottom, some_or}

bottom_behind : {A : Type 0} (ys : List A) (x : A) → bottom (ys ++ x ∷ []) ≡ Some x
bottom_behind [] x = refl
bottom_behind (y ∷ ys) x = ap (λ o. some_or o y) (bottom_behind ys x)

pub bottom_first : {A : Type 0} (xs ys : List A) (x : A) → xs ≡ x ∷ ys → Some x ≡ bottom (reverse xs)
bottom_first xs ys x is =
    sym (ap (λ zs. bottom (reverse zs)) is ∙ ap bottom (reverse-append (x ∷ []) ys) ∙ bottom_behind (reverse ys) x)
