use Rattle.std.proofs.Common.{ap, ◌∙◌}
use Rattle.std.specs.List.{list_any}
use Rattle.unit_index.specs.Definition.{toks_that}
use Rattle.scope_tables.specs.Occurrences.{same_anchor}
use Rattle.unit_index.specs.Occurrences.{shared}
use Rattle.unit_index.specs.Shared.{is_asked}
use Rattle.unit_index.proofs.SharedLemmas.{keys_alike, mentioned}
use Rattle.unit_index.proofs.shared.tokens_of.Goals as goal

pub returns : goal.returns
returns c =
    c.in_ok-list.ensures (toks_that (is_asked c.args.asked) (shared c.args.units.now c.args.tok.now))
    (λ q. c.in_ok-tokens.ensures q ∙ mentioned c.args.asked c.args.units.now c.args.tok.now c.as_slice.result.now q
    (λ a. ap (list_any (same_anchor a)) c.as_slice.ensures.keys ∙ keys_alike c.args.anchors.now c.args.units.now c.args.tok.now c.requires a))
