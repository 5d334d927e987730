use Rattle.std.proofs.Common.{ap, Some, None, ◌∙◌}
use Rattle.std.specs.List.{find}
use Rattle.scope_tables.specs.Occurrences.{is_at}
use Rattle.unit_index.proofs.LookLemmas.{found}
use Rattle.unit_index.proofs.piece.Piece.first.Goals as goal

pub returns-in-Some : goal.returns-in-Some
returns-in-Some c = c.occ_at.ensures ∙ found (is_at c.args.tok.now) _ (Some c.in-Some.place) c.in-Some.ensures ∙ ap (find (is_at c.args.tok.now)) c.occs-occs.ensures

pub returns-in-None : goal.returns-in-None
returns-in-None c = found (is_at c.args.tok.now) c.occs-occs.result.now None c.in-None.ensures ∙ ap (find (is_at c.args.tok.now)) c.occs-occs.ensures
