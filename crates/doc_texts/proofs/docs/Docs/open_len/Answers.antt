use Rattle.std.proofs.Common.{sym}
use Rattle.doc_texts.proofs.Placed.{open_size_told}
use Rattle.doc_texts.proofs.docs.Docs.open_len.Goals as goal

pub returns-in-Some : goal.returns-in-Some
returns-in-Some c = sym (open_size_told c.args.self.now c.args.path.now _ c.in-Some.ensures.text)

pub returns-in-None : goal.returns-in-None
returns-in-None c = sym (open_size_told c.args.self.now c.args.path.now _ c.in-None.ensures.text)
