use Rattle.std.proofs.Common.{ap, map, sym, ◌∙◌}
use Rattle.std.specs.List.{filter}
use Rattle.scope_tables.specs.Occurrences.{is_at}
use Rattle.unit_index.specs.Codes.{by_token}
use Rattle.unit_index.proofs.LookLemmas.{tokens_stand, tokens_left}
use Rattle.unit_index.proofs.piece.Piece.at.Goals as goal

pub new-requires : goal.new-requires
new-requires c = record { codes = c.self.invariant.tokens ∙ ap (map by_token) (c.self.view_is ∙ sym c.occs-occs.ensures); stands = tokens_stand _ c.args.tok.now _ c.first_of_token.ensures }

pub returns : goal.returns
returns c = c.new.ensures ∙ tokens_left _ c.args.tok.now _ c.first_of_token.ensures ∙ ap (filter (is_at c.args.tok.now)) c.occs-occs.ensures
