-- What units show otherwise than before, by the names that it is about and by the places of these.
use Rattle.std.specs.Prelude.{◌≡◌, ℕ, nat_eq, Bool, true, ◌||◌, List, [], ◌∷◌, ◌++◌, length}
use Rattle.std.specs.Cmp.Lexicographic.{pointwise}
use Rattle.std.specs.HashSet.{HashSet, contains}
use Rattle.std.specs.List.{list_any}
use Rattle.unit_index.specs.declared.across.news.News.{News}
use Rattle.unit_index.specs.declared.across.news.Shift.{Shift}
use Rattle.unit_index.specs.Crossing.{Seen, Sight}
use Rattle.unit_index.specs.Handles.{Tagging}

-- a set has the name
unfoldable pub has : {S : Type 0} → HashSet (List ℕ) S → List ℕ → Bool
has set q = contains (pointwise nat_eq) set q

-- it is the name of one of these
abbrev pub is_of : List ℕ → List Seen → Bool
is_of q names = list_any (λ s. pointwise nat_eq s.name q) names

-- names may be seen as before where the same is known of the tags
pub data Known (before now : Tagging) (ahead behind : List Seen) : Type 0 where
  Alike : before ≡ now → Known before now ahead behind
  Anew : ahead ≡ [] → behind ≡ [] → Known before now ahead behind

-- of a unit's names those ahead and those behind are seen as before; those between were replaced, and have their names in the set
pub record IsShift (noted : List ℕ → Bool) (s t : Sight) (shift : Shift) : Type 0 where
  pub ahead : List Seen
  pub lost : List Seen
  pub found : List Seen
  pub behind : List Seen
  pub path : s.path ≡ t.path
  pub before : s.names ≡ ahead ++ (lost ++ behind)
  pub now : t.names ≡ ahead ++ (found ++ behind)
  pub tags : Known s.tags t.tags ahead behind
  pub first : length ahead ≡ shift.front
  pub losses : length lost ≡ shift.gone
  pub gains : length found ≡ shift.come
  pub names : (q : List ℕ) → (is_of q lost || is_of q found) ≡ true → noted q ≡ true

-- the same unit by unit
abbrev pub AreShifts : (List ℕ → Bool) → List Sight → List Sight → List Shift → Type 0
AreShifts noted [] [] [] = Unit {0}
AreShifts noted [] [] (x ∷ xs) = ⊥
AreShifts noted [] (t ∷ ts) xs = ⊥
AreShifts noted (s ∷ ss) [] xs = ⊥
AreShifts noted (s ∷ ss) (t ∷ ts) [] = ⊥
AreShifts noted (s ∷ ss) (t ∷ ts) (x ∷ xs) = IsShift noted s t x × AreShifts noted ss ts xs

-- these are the news, by what was seen of the units and what is seen of them now
pub record AreNews (ss ts : List Sight) (news : News) : Type 0 where
  pub shifts : AreShifts (has news.names) ss ts news.shifts.items
  pub none : news.seen_as_before ≡ true → ss ≡ ts
