use Rattle.std.proofs.Common.{◌≡◌, ℕ, List, [], bytes_eq, length, if◌then◌else◌}
use Rattle.std.specs.List.{list_any}
use Rattle.doc_texts.specs.Texts.{text_at}
use Rattle.plain_mean.specs.Given.{text_in}
use Rattle.plain_mean.specs.Shown.{of_file}
use Rattle.plain_mean.specs.Gathered.{faults_at}
use Rattle.plain_mean.specs.Marks.{is_marked}
use Rattle.plain_mean.specs.Lists.{shown_in}
use Rattle.plain_mean.specs.Within.{AreWithin}
use Rattle.plain_mean.proofs.lists.listed.Given as goal

abbrev pub invariant-paths : goal.invariant-paths
invariant-paths l = record {
  listed : (q : List ℕ) →
      (if list_any (bytes_eq q) l.rest then of_file (text_at l.fn.lexings q) (faults_at l.gathered.faults q) (is_marked l.gathered.reads q) else shown_in l.lists q)
      ≡ (if list_any (bytes_eq q) l.fn.paths then of_file (text_at l.fn.lexings q) (faults_at l.fn.gathered.faults q) (is_marked l.fn.gathered.reads q) else []);
  within : (q : List ℕ) → AreWithin (length (text_in l.fn.lexings q)) (shown_in l.lists q);
  same : l.lexings ≡ l.fn.lexings;
}

abbrev pub decreases-paths : goal.decreases-paths
decreases-paths l = length l.rest
