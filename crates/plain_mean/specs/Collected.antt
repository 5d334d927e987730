-- Numbers of tokens as they are collected, by the names of their texts.
use Rattle.std.specs.Prelude.{ℕ, ◌≤◌, ◌+◌, List, [], ◌∷◌, unwrap_or}
use Rattle.std.specs.BTreeMap.{get}
use Rattle.std.specs.Cmp.Lexicographic.{slice_cmp}
use Rattle.std.specs.Ordering.{nat_cmp}
use Rattle.plain_mean.specs.declared.ranges.Numbers.{Numbers}

-- numbers that ascend, from one on
abbrev pub Ascend : ℕ → List ℕ → Type 0
Ascend low [] = Unit {0}
Ascend low (n ∷ ns) = (low ≤ n) × Ascend (n + 1) ns

abbrev pub numbers_at : Numbers → List ℕ → List ℕ
numbers_at numbers file = unwrap_or (get (slice_cmp nat_cmp) numbers.lists file) []
