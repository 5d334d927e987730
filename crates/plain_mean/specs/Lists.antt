-- What the lists of files hold.
use Rattle.std.specs.Prelude.{ℕ, List, [], unwrap_or}
use Rattle.std.specs.BTreeMap.{get}
use Rattle.std.specs.Cmp.Lexicographic.{slice_cmp}
use Rattle.std.specs.Ordering.{nat_cmp}
use Rattle.plain_mean.specs.declared.types.Shown.{Shown}
use Rattle.plain_mean.specs.declared.lists.ShownLists.{ShownLists}

-- what is kept for a file
abbrev pub shown_in : ShownLists → List ℕ → List Shown
shown_in lists path = unwrap_or (get (slice_cmp nat_cmp) lists.lists path) []
