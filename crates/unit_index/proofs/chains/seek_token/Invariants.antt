use Rattle.std.proofs.Common.{length}
use Rattle.scope_tables.specs.Occurrences.{is_at}
use Rattle.unit_index.specs.Codes.{token_code}
use Rattle.unit_index.proofs.PlaceLemmas.{AreSoughtBy, to_go}
use Rattle.unit_index.proofs.chains.seek_token.Given as goal

abbrev pub invariant-places : goal.invariant-places
invariant-places l = AreSoughtBy (is_at l.tok) l.occs l.places (token_code l.tok) l.fn.from l.at

abbrev pub decreases-places : goal.decreases-places
decreases-places l = to_go (length l.occs) l.at
