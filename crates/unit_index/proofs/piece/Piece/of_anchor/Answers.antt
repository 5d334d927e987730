use Rattle.std.proofs.Common.{ap, map, sym, ◌∙◌}
use Rattle.std.specs.List.{filter}
use Rattle.unit_index.specs.Codes.{by_anchor}
use Rattle.unit_index.specs.Occurrences.{is_of}
use Rattle.unit_index.proofs.LookLemmas.{anchors_stand, anchors_left}
use Rattle.unit_index.proofs.piece.Piece.of_anchor.Goals as goal

pub new-requires : goal.new-requires
new-requires c = record { codes = c.self.invariant.anchors ∙ ap (map by_anchor) (c.self.view_is ∙ sym c.occs-occs.ensures); stands = anchors_stand _ c.args.anchor.now _ c.first_of_anchor.ensures }

pub returns : goal.returns
returns c = c.new.ensures ∙ anchors_left _ c.args.anchor.now _ c.first_of_anchor.ensures ∙ ap (filter (is_of c.args.anchor.now)) c.occs-occs.ensures
