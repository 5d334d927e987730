-- The warnings across units from those that were kept: they are judged anew on the names of which a unit shows something else, and taken over on all others.
use Rattle.std.specs.Prelude.{◌≡◌, ℕ, ◌+◌, ◌-◌, ◌==◌, nat_lt, Bool, true, List, [], ◌∷◌, ◌++◌, map, Option, option_map, if◌then◌else◌}
use Rattle.unit_index.specs.declared.across.news.Shift.{Shift}
use Rattle.unit_index.specs.declared.crossing.Crossing.{Crossing}
use Rattle.unit_index.specs.declared.exported.Does.TheVariants.{Declares, Defines}
use Rattle.unit_index.specs.Crossing.{Seen, crossing, defined, origin, seen, typed}
use Rattle.unit_index.specs.Exported.{From, Shown, first}
use Rattle.unit_index.specs.Handles.{Tagging}
use Rattle.unit_index.specs.Matching.{Test}

-- the number that a name had, of those that aren't replaced, by the number that it has
abbrev pub number_before : Shift → ℕ → ℕ
number_before shift n = if nat_lt n shift.front then n else (n - shift.come) + shift.gone

-- of warnings in the order of the names, that on the name that had a number, with the number that it has
abbrev pub one_taken : ℕ → ℕ → Crossing → List Crossing
one_taken before n c = if c.nth == before then crossing n c.wrong c.text ∷ [] else []

abbrev pub taken : ℕ → ℕ → List Crossing → List Crossing
taken before n [] = []
taken before n (c ∷ cs) = if nat_lt before c.nth then [] else one_taken before n c ++ taken before n cs

-- those behind this name
abbrev pub left : ℕ → List Crossing → List Crossing
left before [] = []
left before (c ∷ cs) = if nat_lt before c.nth then c ∷ cs else left before cs

-- who declares and who defines a name first, for the names of a set
pub record AreFirsts (noted : List ℕ → Bool) (us : List Shown) (declares defines : List ℕ → Option From) : Type 0 where
  pub declarations : (q : List ℕ) → noted q ≡ true → declares q ≡ first Declares us q
  pub definitions : (q : List ℕ) → noted q ≡ true → defines q ≡ first Defines us q

module _ (test : Test) (noted : List ℕ → Bool) (declares defines : List ℕ → Option From) where
  abbrev pub judged : List ℕ → Tagging → ℕ → Seen → List Crossing
  judged path tags n s = typed test (option_map origin (declares s.name)) path tags n s ++ defined (option_map origin (defines s.name)) path n s

  -- on a unit's names from a number on
  abbrev pub renewed : List ℕ → Tagging → Shift → ℕ → List Seen → List Crossing → List Crossing
  renewed path tags shift n [] kept = []
  renewed path tags shift n (s ∷ names) kept =
      if noted s.name then judged path tags n s ++ renewed path tags shift (n + 1) names kept
      else taken (number_before shift n) n kept ++ renewed path tags shift (n + 1) names (left (number_before shift n) kept)

  abbrev pub of_unit : Shown → Shift → List Crossing → List Crossing
  of_unit u shift kept = renewed u.path u.exports.tags shift 0 (map seen u.exports.names) kept

  abbrev pub of_units : List Shown → List Shift → List (List Crossing) → List (List Crossing)
  of_units [] shifts kept = []
  of_units (u ∷ us) [] kept = []
  of_units (u ∷ us) (x ∷ shifts) [] = []
  of_units (u ∷ us) (x ∷ shifts) (cs ∷ kept) = of_unit u x cs ∷ of_units us shifts kept
