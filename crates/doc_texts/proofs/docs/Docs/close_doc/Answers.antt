use Rattle.std.proofs.Common.{sym, refl, ap, ◌∙◌, Ok}
use Rattle.doc_texts.proofs.Meant.{close_outside, close_shut, close_open}
use Rattle.doc_texts.proofs.docs.Docs.close_doc.Goals as goal

pub returns-then-is_outside-clause-done : goal.returns-then-is_outside-clause-done
returns-then-is_outside-clause-done c = ((λ _. close_outside c.args.self.now c.args.path.now (sym c.if-is_outside.ensures)), refl)

pub returns-then-not-is_open-clause-done : goal.returns-then-not-is_open-clause-done
returns-then-not-is_open-clause-done c = ((λ _. close_shut c.args.self.now c.args.path.now (sym c.if-is_outside.ensures) (sym c.if-not-is_open.ensures)), refl)

pub returns-clause-done : goal.returns-clause-done
returns-clause-done c = close_open c.args.self.now c.args.path.now (sym c.if-is_outside.ensures) (sym c.if-not-is_open.ensures) ∙ ap Ok (sym c.drop_open.ensures)
