use Rattle.std.proofs.Common.{unwrap_or, sym, ap, ◌∙◌}
use Rattle.doc_texts.specs.Prior.{text_before}
use Rattle.doc_texts.specs.Texts.{text_at}
use Rattle.doc_texts.proofs.Remembered.{prior_at}
use Rattle.doc_texts.proofs.prior.PriorTexts.text.Goals as goal

pub returns-in-Some-clause-text : goal.returns-in-Some-clause-text
unfolding text_before
returns-in-Some-clause-text c =
    c.lent.ensures.text ∙ sym (ap (λ o. unwrap_or o (text_at c.args.docs.now c.args.path.now)) (prior_at c.self.inside.texts c.args.self.now c.self.view_is c.args.path.now _ c.in-Some.ensures.value))

pub returns-in-None-clause-text : goal.returns-in-None-clause-text
unfolding text_before
returns-in-None-clause-text c =
    c.text.ensures.text ∙ sym (ap (λ o. unwrap_or o (text_at c.args.docs.now c.args.path.now)) (prior_at c.self.inside.texts c.args.self.now c.self.view_is c.args.path.now _ c.in-None.ensures.value))
