use Rattle.std.proofs.Common.{ap, ◌∙◌, subst}
use Rattle.tree_data.specs.Heads.{heading_of}
use Rattle.c_parser.specs.Brackets.{too_deep}
use Rattle.c_parser.specs.HeadsFound.{IsHeadMeaning, IsHeadCause}
use Rattle.c_parser.specs.Words.{words_of}
use Rattle.c_parser.proofs.HeadWholes.{is_head_cause, deep_head_cause, words_are}
use Rattle.c_parser.proofs.whole.parse_head.Goals as goal

pub returns-in-Err-clause-cause : goal.returns-in-Err-clause-cause
returns-in-Err-clause-cause c = deep_head_cause (words_of c.args.names.now c.args.tokens.now) c.in-Err.error c.in-Err.ensures.deep

pub returns-in-Ok-whole_head-clause-meaning : goal.returns-in-Ok-whole_head-clause-meaning
returns-in-Ok-whole_head-clause-meaning c =
    subst
    (λ w. IsHeadMeaning w (heading_of c.in-Ok-whole_head.head))
    (words_are _ _ _ _ (c.as_slice.ensures.value ∙ c.in-Ok.ensures.kinds) c.in-Ok-hidden_of.ensures)
    (record {
      shallow = ap too_deep c.as_slice.ensures.value ∙ c.in-Ok.ensures.shallow;
      proper = c.in-Ok-whole_head.ensures.found;
      only = c.in-Ok-whole_head.ensures.unique;
    })

pub returns-clause-cause : goal.returns-clause-cause
returns-clause-cause c =
    subst
    (λ w. IsHeadCause w c.in-Err-whole_head.error)
    (words_are _ _ _ _ (c.as_slice.ensures.value ∙ c.in-Ok.ensures.kinds) c.in-Ok-hidden_of.ensures)
    (is_head_cause
    _
    c.in-Err-whole_head.error
    (ap too_deep c.as_slice.ensures.value ∙ c.in-Ok.ensures.shallow)
    c.in-Err-whole_head.ensures.place
    c.in-Err-whole_head.ensures.only)
