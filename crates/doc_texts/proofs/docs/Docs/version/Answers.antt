use Rattle.std.proofs.Common.{Some, None, ap, sym, ◌∙◌, to_z-of_z, w32}
use Rattle.doc_texts.proofs.Found.{version_is}
use Rattle.doc_texts.proofs.docs.Docs.version.Goals as goal

pub returns-in-Some : goal.returns-in-Some
returns-in-Some c =
    ap Some (to_z-of_z {w = w32} {z = c.version.result} (record { sfits = c.version.type_inv }) ∙ c.version.ensures)
    ∙ sym (version_is c.self.inside c.args.self.now c.self.view_is c.args.path.now (Some c.in-Some.document.now) c.in-Some.ensures.value)

pub returns-in-None : goal.returns-in-None
returns-in-None c = sym (version_is c.self.inside c.args.self.now c.self.view_is c.args.path.now None c.in-None.ensures.value)
