use Rattle.std.proofs.Common.{◌≡◌, length}
use Rattle.meaning_lists.specs.Firsts.{none_first, with_all}
use Rattle.meaning_lists.proofs.firsts.first_places.Given as goal

abbrev pub invariant-occs : goal.invariant-occs
invariant-occs l = with_all l.firsts l.rest ≡ with_all none_first l.fn.occs

abbrev pub decreases-occs : goal.decreases-occs
decreases-occs l = length l.rest
