-- What stays of a table of line starts.
use Rattle.std.specs.Prelude.{◌≡◌, ℕ, ◌<◌, ◌≤◌, List, length, drop, slice_index}
use Rattle.std.specs.List.Sorted.{IsNonDecreasing}

-- the first line begins at the byte 0, and the later ones stand in order
pub record AreStarts (starts : List ℕ) : Type 0 where
  pub some : 0 < length starts
  pub few : length starts ≤ 4290772993
  pub first : slice_index starts 0 ≡ 0
  pub sorted : IsNonDecreasing (drop 1 starts)
