use Rattle.std.proofs.Common.{◌≡◌, length}
use Rattle.scope_tables.specs.Occurrences.{same_tok}
use Rattle.rename_core.specs.Ties.Steps.{noted_all}
use Rattle.rename_core.proofs.walk.note_all.Given as goal

abbrev pub invariant-found : goal.invariant-found
invariant-found l = noted_all same_tok l.toks.keys l.rest ≡ noted_all same_tok l.fn.toks.keys l.found

abbrev pub decreases-found : goal.decreases-found
decreases-found l = length l.rest
