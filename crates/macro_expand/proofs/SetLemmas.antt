-- What is made of sets of names.
use Rattle.std.proofs.Common.{◌≡◌, ℕ, Bool, true, false, not, ◌==◌, List, [], ◌∷◌, length, if◌then◌else◌, refl, ap, ◌∙◌}
use Rattle.std.specs.Prelude.{Option, unwrap_or, slice_get}
use Rattle.macro_expand.specs.Ties.Codes.{Names}
use Rattle.macro_expand.specs.HideSets.{hides, united, common}
use Rattle.macro_expand.specs.Ties.Stands.{Stands}

pub united_nothing : (more : Names) → more ≡ united [] more
unfolding united
united_nothing more = refl

pub common_nothing : (others : Names) → [] ≡ common [] others
unfolding common
common_nothing others = refl

pub hides_nothing : (name : List ℕ) → false ≡ hides [] name
unfolding hides
hides_nothing name = refl

one_kept : (b : Bool) (name : List ℕ) → not (length (if b then name ∷ [] else []) == 0) ≡ b
one_kept true name = refl
one_kept false name = refl

-- a name is in a set where the two have it in common
pub common_one : (s : Names) (name : List ℕ) → not (length (common (name ∷ []) s) == 0) ≡ hides s name
unfolding common
common_one s name = one_kept (hides s name) name

pub hidden_is : (s names : Names) (name : List ℕ) (empty : Bool)
    → names ≡ common (name ∷ []) s → empty ≡ (length names == 0) → not empty ≡ hides s name
hidden_is s names name empty is none =
    ap not none ∙ ap (λ (x : Names). not (length x == 0)) is ∙ common_one s name

-- the empty set stands for itself
pub stands_empty : (f : Names → Names) (sets : List Names) (set : Names) → Stands f sets → set ≡ [] → f set ≡ []
stands_empty f sets set h none = ap f none ∙ h.none

-- what the numbers of a table stand for
abbrev pub stands_for : List Names → Names → Names
stands_for sets [] = []
stands_for sets ([] ∷ more) = []
stands_for sets ((n ∷ ns) ∷ more) = unwrap_or (slice_get sets n) []

pub table_stands : (sets : List Names) → Stands (stands_for sets) sets
table_stands sets = record {
  none = refl;
  each = λ n names is. ap (λ (o : Option Names). unwrap_or o []) is;
}
