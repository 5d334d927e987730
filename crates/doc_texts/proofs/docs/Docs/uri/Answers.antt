use Rattle.std.proofs.Common.{Some, None, ap, sym, ◌∙◌}
use Rattle.doc_texts.proofs.Found.{uri_is}
use Rattle.doc_texts.proofs.docs.Docs.uri.Goals as goal

pub returns-in-Some : goal.returns-in-Some
returns-in-Some c = ap Some c.uri.ensures ∙ sym (uri_is c.self.inside c.args.self.now c.self.view_is c.args.path.now (Some c.in-Some.document.now) c.in-Some.ensures.value)

pub returns-in-None : goal.returns-in-None
returns-in-None c = sym (uri_is c.self.inside c.args.self.now c.self.view_is c.args.path.now None c.in-None.ensures.value)
