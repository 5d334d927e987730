use Rattle.std.proofs.Common.{sym, ap, ◌∙◌, Err}
use Rattle.doc_texts.specs.Docs.{all_edited}
use Rattle.doc_texts.proofs.Edits.{ok_no_err, made_reversed, made_long, made_well}
use Rattle.doc_texts.proofs.changes.make.Goals as goal

pub returns-in-Ok-clause-made : goal.returns-in-Ok-clause-made
returns-in-Ok-clause-made c rest =
    made_well _ _ _ rest
    (λ back. ok_no_err _ _ (c.in-Ok.ensures.reversed.1 back))
    (λ long. ok_no_err _ _ (c.in-Ok.ensures.too_long.1 ((λ back. ok_no_err _ _ (c.in-Ok.ensures.reversed.1 back)), long)))
    ∙ ap (λ text. all_edited text rest c.args.encoding) (sym c.in-Ok.ensures.ok)

pub returns-in-Err-Reversed-clause-made : goal.returns-in-Err-Reversed-clause-made
returns-in-Err-Reversed-clause-made c rest apart = made_reversed _ _ _ rest (c.in-Err-Reversed.ensures.reversed.0 (ap Err c.in-Err-Reversed.field-0-is))

pub returns-in-Err-TooLong-clause-made : goal.returns-in-Err-TooLong-clause-made
returns-in-Err-TooLong-clause-made c rest apart =
    let long = c.in-Err-TooLong.ensures.too_long.0 (ap Err c.in-Err-TooLong.field-0-is) in
    made_long _ _ _ rest long.0 long.1
