use Rattle.std.proofs.Common.{Some, option_map, ap, sym, ◌∙◌}
use Rattle.doc_texts.proofs.Found.{text_open, text_shut}
use Rattle.doc_texts.proofs.docs.Docs.text.Goals as goal

pub returns-in-Some-clause-text : goal.returns-in-Some-clause-text
returns-in-Some-clause-text c = ap Some c.text.ensures.text ∙ sym (text_open c.self.inside c.args.self.now c.self.view_is c.args.path.now c.in-Some.document.now c.in-Some.ensures.value)

pub returns-in-None-clause-text : goal.returns-in-None-clause-text
returns-in-None-clause-text c = sym (text_shut c.self.inside c.args.self.now c.self.view_is c.args.path.now (option_map (λ text. text.now) c.disk_text.result) c.in-None.ensures.value c.disk_text.ensures.text)
