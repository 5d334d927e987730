use Rattle.std.proofs.Common.{◌≡◌, ◌++◌, length}
use Rattle.std.specs.List.{filter}
use Rattle.doc_texts.specs.Prior.{is_changed}
use Rattle.plain_mean.proofs.changes.changed_among.Given as goal

abbrev pub invariant-paths : goal.invariant-paths
invariant-paths l = l.out.items ++ filter (is_changed l.prior l.docs) l.rest ≡ filter (is_changed l.fn.prior l.fn.docs) l.fn.paths

abbrev pub decreases-paths : goal.decreases-paths
decreases-paths l = length l.rest
