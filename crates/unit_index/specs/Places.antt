-- Places of a list of numbers, linked by the remainders that the numbers leave.
use Rattle.std.specs.Prelude.{◌≡◌, ◌<◌, ◌≤◌, ℕ, ◌+◌, ◌%◌, Bool, List, [], ◌∷◌, drop, get_or, length, nat_eq, Option, Some, None, if◌then◌else◌}
use Rattle.std.specs.List.{slice_get}
use Rattle.unit_index.specs.Chains.{first_from}

-- the place of the first that passes, the list's own first being at n, or the place behind the last one
abbrev pub place_from : {A : Type 0} → (A → Bool) → ℕ → List A → ℕ
place_from p n [] = n
place_from p n (x ∷ xs) = if p x then n else place_from p (n + 1) xs

-- a number leaves this remainder
abbrev pub leaves : ℕ → ℕ → ℕ → Bool
leaves count remainder code = nat_eq remainder (code % count)

-- of each place, the next one whose number leaves the same remainder
abbrev pub links : ℕ → ℕ → List ℕ → List ℕ
links count n [] = []
links count n (c ∷ cs) = place_from (leaves count (c % count)) (n + 1) cs ∷ links count (n + 1) cs

pub record AreLinked (codes first_places next_places : List ℕ) : Type 0 where
  pub some : 0 < length first_places
  pub firsts : (r : ℕ) → r < length first_places → get_or first_places r 0 ≡ place_from (leaves (length first_places) r) 0 codes
  pub nexts : next_places ≡ links (length first_places) 0 codes

-- no remainder has a place
pub record AreNone (count place : ℕ) (firsts : List ℕ) : Type 0 where
  pub all : length firsts ≡ count
  pub none : (r : ℕ) → r < count → get_or firsts r 0 ≡ place

-- a place, or that behind the last one, of a number that leaves the same remainder as this one
pub record IsLinkedTo (count : ℕ) (codes : List ℕ) (code at : ℕ) : Type 0 where
  pub within : at ≤ length codes
  pub alike : (c : ℕ) → slice_get codes at ≡ Some c → c % count ≡ code % count

-- the next place of the number that stands at a place
abbrev pub next_from : Option ℕ → ℕ → List ℕ → Option ℕ
next_from None place codes = None
next_from (Some code) place codes = first_from (nat_eq code) (place + 1) (drop (place + 1) codes)
