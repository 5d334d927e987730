use Rattle.std.proofs.Common.{refl, sym, ap, ◌∙◌, length, w32, to_z-of_z}
use Rattle.std.specs.FinMap.{get}
use Rattle.std.proofs.lemmas.Result.{err_from_is_err_and}
use Rattle.doc_texts.specs.Docs.{all_edited}
use Rattle.doc_texts.proofs.Edits.{ok_no_err}
use Rattle.doc_texts.proofs.Found.{open_size_is}
use Rattle.doc_texts.proofs.Limited.{if_some_from}
use Rattle.doc_texts.proofs.Meant.{same_err, document_with, done_at, no_document, change_outside, change_shut, change_refused, change_text}
use Rattle.doc_texts.proofs.docs.Docs.change.Goals as goal

pub returns-then-is_outside : goal.returns-then-is_outside
returns-then-is_outside c = ((λ _. change_outside c.args.self.now c.args.path.now c.args.version c.args.changes.now c.args.encoding (sym c.if-is_outside.ensures)), refl)

pub returns-in_default : goal.returns-in_default
returns-in_default c = ((λ _. change_shut c.args.self.now c.args.path.now c.args.version c.args.changes.now c.args.encoding (sym c.if-is_outside.ensures) (no_document _ c.in_default.ensures.text)), refl)

pub returns-in_err-text : goal.returns-in_err-text
returns-in_err-text c =
    let p = err_from_is_err_and c.from_residual.result c.from_residual.ensures.1 in
    let d = document_with (get c.args.self.now.opened c.args.path.now) c.in-Some.text.now c.in-Some.ensures.text in
    rw (p.1, p.2) (
      (λ apart. change_refused c.args.self.now c.args.path.now c.args.version c.args.changes.now c.args.encoding d.0 (sym c.if-is_outside.ensures) d.1 _
          (c.in_err-text.ensures (λ same. apart (same_err _ _ same)) ∙ ap (λ text. all_edited text c.args.changes.now c.args.encoding) d.2)),
      refl,
    )

pub set_open-requires : goal.set_open-requires
set_open-requires c =
    let d = document_with (get c.args.self.now.opened c.args.path.now) c.in-Some.text.now c.in-Some.ensures.text in
    open_size_is c.args.self.now c.args.path.now _ (sym d.1) ∙ ap length (sym d.2)

pub returns : goal.returns
returns c =
    let d = document_with (get c.args.self.now.opened c.args.path.now) c.in-Some.text.now c.in-Some.ensures.text in
    let made = c.in_ok-text.ensures (ok_no_err _ _) ∙ ap (λ text. all_edited text c.args.changes.now c.args.encoding) d.2 in
    let meant = change_text c.args.self.now c.args.path.now c.args.version c.args.changes.now c.args.encoding d.0 (sym c.if-is_outside.ensures) d.1 c.in_ok-text.text made _ (to_z-of_z {w = w32} c.ranges.version) in
    done_at _ _ _ meant (if_some_from _ d.0 _ d.1 c.set_open.ensures)
