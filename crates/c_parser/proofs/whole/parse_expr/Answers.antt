use Rattle.std.proofs.Common.{ap, ◌∙◌, subst}
use Rattle.tree_data.specs.Seen.{tree_of}
use Rattle.c_parser.specs.Brackets.{too_deep}
use Rattle.c_parser.specs.Enumerations.{settle}
use Rattle.c_parser.specs.Tokens.{kinds_of, spelled_kinds}
use Rattle.c_parser.specs.Grammar.{IsMeaning, IsCause}
use Rattle.c_parser.proofs.Wholes.{settled_shallow, settled_deep, is_meaning, is_cause, deep_cause}
use Rattle.c_parser.proofs.whole.parse_expr.Goals as goal

pub returns-in-Err-clause-cause : goal.returns-in-Err-clause-cause
returns-in-Err-clause-cause c = deep_cause (kinds_of c.args.names.now c.args.tokens.now) c.in-Err.error (settled_deep (spelled_kinds c.args.names.now c.args.tokens.now) c.in-Err.error c.in-Err.ensures.deep)

pub returns-in-Ok-whole-clause-meaning : goal.returns-in-Ok-whole-clause-meaning
returns-in-Ok-whole-clause-meaning c =
    subst
    (λ ks. IsMeaning (settle ks 0) (tree_of c.in-Ok-whole.expr))
    (c.as_slice.ensures.value ∙ c.in-Ok.ensures.kinds)
    (is_meaning
    (settle c.as_slice.result.now 0)
    (tree_of c.in-Ok-whole.expr)
    (settled_shallow _ (ap too_deep c.as_slice.ensures.value ∙ c.in-Ok.ensures.shallow))
    c.in-Ok-whole.ensures.found)

pub returns-clause-cause : goal.returns-clause-cause
returns-clause-cause c =
    subst
    (λ ks. IsCause (settle ks 0) c.in-Err-whole.error)
    (c.as_slice.ensures.value ∙ c.in-Ok.ensures.kinds)
    (is_cause
    (settle c.as_slice.result.now 0)
    c.in-Err-whole.error
    (settled_shallow _ (ap too_deep c.as_slice.ensures.value ∙ c.in-Ok.ensures.shallow))
    c.in-Err-whole.ensures.place
    c.in-Err-whole.ensures.only)
