use Rattle.std.proofs.Common.{ap, sym, ◌∙◌}
use Rattle.std.specs.FinMap.{keys}
use Rattle.doc_texts.specs.Texts.{add_all}
use Rattle.doc_texts.proofs.Maps.{keys_seen}
use Rattle.doc_texts.proofs.docs.Docs.list_open.Goals as goal

pub loop-path-init : goal.loop-path-init
loop-path-init c =
    ap (add_all c.args.set.now) (c.into_iter-path-iterator.ensures.into_iter_gives ∙ c.keys-path-items.ensures.rest ∙ sym (keys_seen c.self.inside.opened c.keys-path-items.ensures.ordered) ∙ ap (λ t. keys t.opened) c.self.view_is)
