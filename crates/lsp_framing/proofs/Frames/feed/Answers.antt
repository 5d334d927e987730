use Rattle.std.proofs.Common.{◌+◌, ◌-◌, ◌^◌, ◌<◌, ◌∙◌, ap, arith, length, length-drop}
use Rattle.std.specs.Prelude.{is_ok}
use Rattle.lsp_framing.proofs.Answering.{kept_feed}
use Rattle.lsp_framing.proofs.Frames.feed.Goals as goal

pub invariant_of-self : goal.invariant_of-self
invariant_of-self c =
    let view = c.self.view_is ∙ c.compact.ensures in
    let items = c.self.inside.bytes.items in
    let start = c.self.inside.start in
    let bound : c.self.inside.place + (length items - start) + length c.args.bytes.now < 2 ^ 63 =
    omega (arith, c.requires, ap (λ t. t.place) view, ap (λ t. length t.bytes) view, length-drop start items) in
    kept_feed (is_ok c.extend_from_slice.result) items _ c.args.bytes.now start _ _ c.self.invariant.0 bound c.self.invariant.2 c.extend_from_slice.ensures.items
