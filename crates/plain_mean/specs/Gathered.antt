-- What is gathered of units for what files show: their faults, by the text that they fall on, and the paths that they read.
use Rattle.std.specs.Prelude.{◌≡◌, ℕ, List, [], bytes_eq, unwrap_or}
use Rattle.std.specs.BTreeMap.{get}
use Rattle.std.specs.Cmp.Lexicographic.{slice_cmp}
use Rattle.std.specs.List.{filter, list_any}
use Rattle.std.specs.Ordering.{nat_cmp}
use Rattle.tok_data.specs.declared.faults.ShownFault.{ShownFault}
use Rattle.plain_mean.specs.Marks.{is_marked}
use Rattle.plain_mean.specs.Shown.{falls_on}
use Rattle.plain_mean.specs.declared.lists.ByFile.{ByFile}
use Rattle.plain_mean.specs.declared.lists.Gathered.{Gathered}

-- the faults that are kept for a text
abbrev pub faults_at : ByFile → List ℕ → List ShownFault
faults_at faults file = unwrap_or (get (slice_cmp nat_cmp) faults.lists file) []

-- these faults were gathered, in this order, and these paths
pub record AreGathered (fs : List ShownFault) (rs : List (List ℕ)) (gathered : Gathered) : Type 0 where
  pub faults : (path : List ℕ) → faults_at gathered.faults path ≡ filter (falls_on path) fs
  pub reads : (path : List ℕ) → is_marked gathered.reads path ≡ list_any (bytes_eq path) rs
