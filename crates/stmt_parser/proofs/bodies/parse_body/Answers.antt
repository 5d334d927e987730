use Rattle.std.proofs.Common.{◌∙◌, ap, subst}
use Rattle.tree_data.specs.Stated.{stmt_of}
use Rattle.c_parser.specs.Brackets.{too_deep}
use Rattle.c_parser.specs.Words.{words_of}
use Rattle.stmt_parser.specs.Bodies.{IsBodyMeaning, IsBodyCause}
use Rattle.stmt_parser.proofs.Wholes.{under, is_body_meaning, is_body_cause, deep_body_cause}
use Rattle.stmt_parser.proofs.bodies.parse_body.Goals as goal

pub returns-in-Err-clause-cause : goal.returns-in-Err-clause-cause
returns-in-Err-clause-cause c = deep_body_cause (words_of c.args.names.now c.args.tokens.now) c.in-Err.error c.in-Err.ensures.deep

pub returns-in-Ok-whole-clause-meaning : goal.returns-in-Ok-whole-clause-meaning
returns-in-Ok-whole-clause-meaning c =
    subst
    (λ w. IsBodyMeaning w (stmt_of c.in-Ok-whole.stmt))
    (ap (λ ks. under ks c.in-Ok.found.1.items) c.as_slice.ensures.value ∙ c.in-Ok.ensures.words)
    (is_body_meaning
    c.parts_law.ensures
    (under c.as_slice.result.now c.in-Ok.found.1.items)
    (stmt_of c.in-Ok-whole.stmt)
    (ap too_deep c.as_slice.ensures.value ∙ c.in-Ok.ensures.shallow)
    c.in-Ok-whole.ensures.found)

pub returns-clause-cause : goal.returns-clause-cause
returns-clause-cause c =
    subst
    (λ w. IsBodyCause w c.in-Err-whole.error)
    (ap (λ ks. under ks c.in-Ok.found.1.items) c.as_slice.ensures.value ∙ c.in-Ok.ensures.words)
    (is_body_cause
    (under c.as_slice.result.now c.in-Ok.found.1.items)
    c.in-Err-whole.error
    (ap too_deep c.as_slice.ensures.value ∙ c.in-Ok.ensures.shallow)
    c.in-Err-whole.ensures.place
    c.in-Err-whole.ensures.fails)
