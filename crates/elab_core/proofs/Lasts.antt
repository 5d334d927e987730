-- The last of a list.
use Rattle.std.proofs.Common.{◌≡◌, refl, ap, ◌∙◌, ℕ, List, [], ◌∷◌, ◌++◌, map}
use Rattle.tree_data.specs.Trees.{Behind, None_behind, behinds}
use Rattle.elab_core.specs.Ends.{behind_ends, last_behind, last_number}

pub last_number_is : (xs : List ℕ) (n : ℕ) → last_number (xs ++ n ∷ []) ≡ n
last_number_is [] n = refl
last_number_is (x ∷ []) n = refl
last_number_is (x ∷ y ∷ xs) n = last_number_is (y ∷ xs) n

last_behind_is : (bs : List Behind) (b : Behind) → last_behind (behinds (bs ++ b ∷ []) None_behind) ≡ behind_ends b
last_behind_is [] b = refl
last_behind_is (d ∷ []) b = refl
last_behind_is (d ∷ e ∷ bs) b = last_behind_is (e ∷ bs) b

pub mapped : {A B : Type 0} (f : A → B) (xs : List A) (x : A) → map f (xs ++ x ∷ []) ≡ map f xs ++ f x ∷ []
mapped f [] x = refl
mapped f (y ∷ xs) x = ap (λ ys. f y ∷ ys) (mapped f xs x)

pub last_part_is : {A : Type 0} (f : A → Behind) (all front : List A) (x : A) → all ≡ front ++ x ∷ [] →
    last_behind (behinds (map f all) None_behind) ≡ behind_ends (f x)
last_part_is f all front x e = ap (λ xs. last_behind (behinds (map f xs) None_behind)) e ∙ ap (λ bs. last_behind (behinds bs None_behind)) (mapped f front x) ∙ last_behind_is (map f front) (f x)
