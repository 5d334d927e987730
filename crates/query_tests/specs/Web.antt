-- A web of knots, as queries: the first eight are inputs, and each other reads one of those before it, and then one that the first
-- one's value picks.
use Rattle.std.specs.Prelude.{ℕ, zero, suc, ◌+◌, ◌-◌, ◌%◌, ◌==◌, Bool, nat_lt, if◌then◌else◌, List, [], ◌∷◌, ◌++◌, get_or, Option, Some, None}
use Rattle.std.specs.Map.{lookup}
use Rattle.query_core.specs.Queries.{Queries}
use Rattle.query_core.specs.declared.rules.Step.{Step}
use Rattle.query_core.specs.declared.rules.Step.TheVariants.{Ask, Done}
use Rattle.query_tests.specs.declared.web.Knot.{Knot}

abbrev pub same_knot : Knot → Knot → Bool
same_knot a b = a.number == b.number

abbrev pub knot : ℕ → Knot
knot n = record { number = n }

-- what a knot reads first
unfoldable pub first_number : ℕ → ℕ
first_number n = if n % 2 == 0 then n - 1 else n - 4

-- what it reads after this value of the first
unfoldable pub second_number : ℕ → ℕ → ℕ
second_number n v = if v == 0 then n - 6 else n - 8

unfoldable pub joined : ℕ → ℕ → ℕ
joined v w = (v + w) % 3

-- the value of a knot, where those before it have these
unfoldable pub value_from : (Knot → ℕ) → ℕ → List ℕ → ℕ
value_from given n before =
    if nat_lt n 8 then given (knot n) else joined (get_or before (first_number n) 0) (get_or before (second_number n (get_or before (first_number n) 0)) 0)

-- the values of the first knots
abbrev pub values : (Knot → ℕ) → ℕ → List ℕ
values given zero = []
values given (suc n) = values given n ++ value_from given n (values given n) ∷ []

abbrev pub worth : (Knot → ℕ) → ℕ → ℕ
worth given n = value_from given n (values given n)

abbrev pub reads_of : (Knot → ℕ) → ℕ → List Knot
reads_of given n = knot (first_number n) ∷ knot (second_number n (worth given (first_number n))) ∷ []

abbrev pub step_second : ℕ → Option ℕ → ℕ → Step Knot ℕ
step_second n None v = Ask (knot (second_number n v) ∷ [])
step_second n (Some w) v = Done (joined v w)

abbrev pub step_first : ℕ → List (Knot × ℕ) → Option ℕ → Step Knot ℕ
step_first n answers None = Ask (knot (first_number n) ∷ [])
step_first n answers (Some v) = step_second n (lookup (same_knot (knot (second_number n v))) answers) v

abbrev pub web : Queries Knot ℕ
web = record {
  same = same_knot;
  is_input = λ k. nat_lt k.number 8;
  unset = λ _. 0;
  step = λ k answers. step_first k.number answers (lookup (same_knot (knot (first_number k.number))) answers);
  val = λ given k. worth given k.number;
  asks = λ given k. if nat_lt k.number 8 then [] else reads_of given k.number;
  rank = λ given k. k.number;
}
