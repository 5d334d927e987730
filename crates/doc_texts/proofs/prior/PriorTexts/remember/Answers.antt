use Rattle.std.proofs.Common.{refl, is_some, ap, ap₂, sym, ◌∙◌}
use Rattle.std.specs.FinMap.{insert}
use Rattle.doc_texts.proofs.Maps.{seen_put}
use Rattle.doc_texts.proofs.Remembered.{kept_before, kept_now, prior_at}
use Rattle.doc_texts.proofs.prior.PriorTexts.remember.Goals as goal

pub returns-then-contains_key-clause-ok : goal.returns-then-contains_key-clause-ok
returns-then-contains_key-clause-ok c =
    kept_before c.args.self.now c.args.docs.now c.args.path.now (ap is_some (prior_at c.self.inside.texts c.args.self.now c.self.view_is c.args.path.now _ refl) ∙ sym c.if-contains_key.ensures)

pub returns-clause-ok : goal.returns-clause-ok
returns-clause-ok c =
    seen_put c.self.inside.texts c.insert.new.self c.in_ok-key.key c.in_ok-text.text c.in_ok-insert.ensures.updates.0
    ∙ ap (λ prior. insert prior c.in_ok-key.key c.in_ok-text.text) c.self.view_is
    ∙ ap₂ (insert c.args.self.now) c.in_ok-key.ensures c.in_ok-text.ensures
    ∙ kept_now c.args.self.now c.args.docs.now c.args.path.now (ap is_some (prior_at c.self.inside.texts c.args.self.now c.self.view_is c.args.path.now _ refl) ∙ sym c.if-contains_key.ensures)
