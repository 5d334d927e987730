-- The cells, as queries.
use Rattle.std.specs.Prelude.{◌≡◌, ◌<◌, is_some, ℕ, zero, suc, ◌+◌, ◌-◌, ◌*◌, ◌==◌, ◌/◌, ◌&&◌, ◌||◌, nat_le, Bool, true, false, if◌then◌else◌, List, [], ◌∷◌, ◌++◌, Some, None}
use Rattle.std.specs.Map.{lookup}
use Rattle.query_core.specs.Queries.{Queries}
use Rattle.query_core.specs.declared.rules.Step.{Step}
use Rattle.query_core.specs.declared.rules.Step.TheVariants.{Ask, Done}
use Rattle.query_tests.specs.declared.cells.Cell.{Cell}
use Rattle.query_tests.specs.declared.cells.Cell.TheVariants.{Input, Half, Chain, Wide, Each, Share, All, Pile, Left, Right, Top}

abbrev pub same_cell : Cell → Cell → Bool
same_cell (Input a) (Input b) = a == b
same_cell (Half a) (Half b) = a == b
same_cell (Chain a) (Chain b) = a == b
same_cell (Wide a) (Wide b) = a == b
same_cell (Each a) (Each b) = a == b
same_cell (Share a) (Share b) = a == b
same_cell (All a) (All b) = a == b
same_cell (Pile l a) (Pile m b) = (l == m) && (a == b)
same_cell Left Left = true
same_cell Right Right = true
same_cell Top Top = true
same_cell a b = false

abbrev pub is_input_cell : Cell → Bool
is_input_cell (Input n) = true
is_input_cell c = false

-- the first halves
abbrev pub halves : ℕ → List Cell
halves zero = []
halves (suc n) = halves n ++ Half n ∷ []

-- the first cells that share an input
abbrev pub shares : ℕ → List Cell
shares zero = []
shares (suc n) = shares n ++ Share n ∷ []

-- a pile reads a half
abbrev pub is_low : ℕ → ℕ → Bool
is_low l n = (l == 0) || nat_le 1073741824 n

-- what a pile reads
abbrev pub under : ℕ → ℕ → List Cell
under l n = if is_low l n then Half n ∷ [] else Pile (l - 1) (2 * n) ∷ Pile (l - 1) (2 * n + 1) ∷ []

abbrev pub last_under : ℕ → ℕ → Cell
last_under l n = if is_low l n then Half n else Pile (l - 1) (2 * n + 1)

-- the number of the half that a pile is
abbrev pub lowest : ℕ → ℕ → ℕ
lowest zero n = n
lowest (suc l) n = if nat_le 1073741824 n then n else lowest l (2 * n + 1)

-- what a cell reads
abbrev pub reads_of : Cell → List Cell
reads_of (Input n) = []
reads_of (Half n) = Input n ∷ []
reads_of (Chain n) = (if n == 0 then Half 0 else Chain (n - 1)) ∷ []
reads_of (Wide n) = halves n
reads_of (Each n) = halves n
reads_of (Share n) = Half 0 ∷ []
reads_of (All n) = shares n
reads_of (Pile l n) = under l n
reads_of Left = Half 0 ∷ []
reads_of Right = Half 0 ∷ []
reads_of Top = Left ∷ Right ∷ []

-- the value of a cell, in terms of the inputs
abbrev pub worth : (Cell → ℕ) → Cell → ℕ
worth given (Input n) = given (Input n)
worth given (Half n) = given (Input n) / 2
worth given (Chain n) = given (Input 0) / 2
worth given (Wide n) = if n == 0 then 0 else given (Input (n - 1)) / 2
worth given (Each n) = if n == 0 then 0 else given (Input (n - 1)) / 2
worth given (Share n) = given (Input 0) / 2
worth given (All n) = if n == 0 then 0 else given (Input 0) / 2
worth given (Pile l n) = given (Input (lowest l n)) / 2
worth given Left = given (Input 0) / 2
worth given Right = given (Input 0) / 2
worth given Top = given (Input 0) / 2

abbrev pub level : Cell → ℕ
level (Input n) = 0
level (Half n) = 1
level (Chain n) = n + 2
level (Wide n) = 2
level (Each n) = 2
level (Share n) = 2
level (All n) = 3
level (Pile l n) = l + 2
level Left = 2
level Right = 2
level Top = 3

-- the cells from the first on that isn't answered
abbrev pub rest_of : List (Cell × ℕ) → List Cell → List Cell
rest_of answers [] = []
rest_of answers (c ∷ cs) = elim (lookup (same_cell c) answers) [ None ↦ c ∷ cs | Some v ↦ rest_of answers cs ]

-- the value of a cell from the answers to all that it reads
abbrev pub answer_or_zero : List (Cell × ℕ) → Cell → ℕ
answer_or_zero answers c = elim (lookup (same_cell c) answers) [ None ↦ 0 | Some v ↦ v ]

abbrev pub final : Cell → List (Cell × ℕ) → ℕ
final (Input n) answers = 0
final (Half n) answers = answer_or_zero answers (Input n) / 2
final (Chain n) answers = answer_or_zero answers (if n == 0 then Half 0 else Chain (n - 1))
final (Wide n) answers = if n == 0 then 0 else answer_or_zero answers (Half (n - 1))
final (Each n) answers = if n == 0 then 0 else answer_or_zero answers (Half (n - 1))
final (Share n) answers = answer_or_zero answers (Half 0)
final (All n) answers = if n == 0 then 0 else answer_or_zero answers (Share (n - 1))
final (Pile l n) answers = answer_or_zero answers (last_under l n)
final Left answers = answer_or_zero answers (Half 0)
final Right answers = answer_or_zero answers (Half 0)
final Top answers = answer_or_zero answers Right

-- whether the cell asks for one key after the other, or for all at once
abbrev pub one_by_one : Cell → Bool
one_by_one (Each n) = true
one_by_one c = false

abbrev pub step_with : Cell → List (Cell × ℕ) → List Cell → Step Cell ℕ
step_with c answers [] = Done (final c answers)
step_with c answers (r ∷ rs) = Ask (r ∷ rs)

abbrev pub step_one : Cell → List (Cell × ℕ) → List Cell → Step Cell ℕ
step_one c answers [] = Done (final c answers)
step_one c answers (r ∷ rs) = Ask (r ∷ [])

-- the first halves, so many, are answered
abbrev pub AreAnswered : List (Cell × ℕ) → ℕ → Type 0
AreAnswered answers number = (i : ℕ) → i < number → is_some (lookup (same_cell (Half i)) answers) ≡ true

-- a run keeps how many halves it knows to be answered
abbrev pub has_read_cell : Cell → ℕ → List (Cell × ℕ) → Type 0
has_read_cell c number answers = AreAnswered answers number

abbrev pub cells : Queries Cell ℕ
cells = record {
  same = same_cell;
  is_input = is_input_cell;
  unset = λ _. 0;
  step = λ c answers. if one_by_one c then step_one c answers (rest_of answers (reads_of c)) else step_with c answers (rest_of answers (reads_of c));
  val = worth;
  asks = λ given c. reads_of c;
  rank = λ given c. level c;
}
