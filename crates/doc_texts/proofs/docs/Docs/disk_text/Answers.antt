use Rattle.std.proofs.Common.{Some, None, ap, sym, ◌∙◌}
use Rattle.doc_texts.proofs.Found.{disk_is}
use Rattle.doc_texts.proofs.docs.Docs.disk_text.Goals as goal

pub returns-in-Some-clause-text : goal.returns-in-Some-clause-text
returns-in-Some-clause-text c = ap Some c.as_str.ensures.text ∙ sym (disk_is c.self.inside c.args.self.now c.self.view_is c.args.path.now (Some c.in-Some.text.now) c.in-Some.ensures.value)

pub returns-in-None-clause-text : goal.returns-in-None-clause-text
returns-in-None-clause-text c = sym (disk_is c.self.inside c.args.self.now c.self.view_is c.args.path.now None c.in-None.ensures.value)
