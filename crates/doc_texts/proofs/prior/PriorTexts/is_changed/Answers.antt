use Rattle.std.proofs.Common.{not, sym, ap, ◌∙◌, false}
use Rattle.std.specs.Option.{option_map_or}
use Rattle.doc_texts.specs.Prior.{is_changed}
use Rattle.doc_texts.specs.Texts.{text_at, same_text}
use Rattle.doc_texts.proofs.Remembered.{prior_at}
use Rattle.doc_texts.proofs.prior.PriorTexts.is_changed.Goals as goal

pub returns-in-Some : goal.returns-in-Some
unfolding is_changed
returns-in-Some c =
    c.has_other.ensures ∙ sym (ap (λ o. option_map_or (λ kept. not (same_text kept (text_at c.args.docs.now c.args.path.now))) o false) (prior_at c.self.inside.texts c.args.self.now c.self.view_is c.args.path.now _ c.in-Some.ensures.value))

pub returns-in-None : goal.returns-in-None
unfolding is_changed
returns-in-None c =
    sym (ap (λ o. option_map_or (λ kept. not (same_text kept (text_at c.args.docs.now c.args.path.now))) o false) (prior_at c.self.inside.texts c.args.self.now c.self.view_is c.args.path.now _ c.in-None.ensures.value))
