use Rattle.std.proofs.Common.{refl, sym, ap, ◌∙◌, is_some}
use Rattle.doc_texts.proofs.Found.{open_is}
use Rattle.doc_texts.proofs.docs.Docs.is_open.Goals as goal

pub returns : goal.returns
returns c = c.contains_key.ensures ∙ sym (ap is_some (open_is c.self.inside c.args.self.now c.self.view_is c.args.path.now _ refl))
