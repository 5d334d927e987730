use Rattle.std.proofs.Common.{Some, None, option_map, ap, sym, ◌∙◌}
use Rattle.doc_texts.proofs.Found.{open_is}
use Rattle.doc_texts.proofs.docs.Docs.open_text.Goals as goal

pub returns-in-Some-clause-text : goal.returns-in-Some-clause-text
returns-in-Some-clause-text c = ap Some c.text.ensures.text ∙ sym (ap (option_map (λ document. document.text)) (open_is c.self.inside c.args.self.now c.self.view_is c.args.path.now (Some c.in-Some.document.now) c.in-Some.ensures.value))

pub returns-in-None-clause-text : goal.returns-in-None-clause-text
returns-in-None-clause-text c = sym (ap (option_map (λ document. document.text)) (open_is c.self.inside c.args.self.now c.self.view_is c.args.path.now None c.in-None.ensures.value))
