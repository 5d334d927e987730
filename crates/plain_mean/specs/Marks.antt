-- Which paths are marked.
use Rattle.std.specs.Prelude.{ℕ, Bool, List, is_some}
use Rattle.std.specs.BTreeMap.{get}
use Rattle.std.specs.Cmp.Lexicographic.{slice_cmp}
use Rattle.std.specs.Ordering.{nat_cmp}
use Rattle.plain_mean.specs.declared.marks.Marks.{Marks}

abbrev pub is_marked : Marks → List ℕ → Bool
is_marked marks path = is_some (get (slice_cmp nat_cmp) marks.paths path)
