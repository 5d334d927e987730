use Rattle.std.proofs.Common.{ap, sym, ◌∙◌, subst}
use Rattle.tree_data.specs.Seen.{type_of}
use Rattle.c_parser.specs.Brackets.{too_deep}
use Rattle.c_parser.specs.Enumerations.{settle}
use Rattle.c_parser.specs.Tokens.{kinds_of, spelled_kinds}
use Rattle.c_parser.specs.TypeMeaning.{IsTypeMeaning, IsTypeCause}
use Rattle.c_parser.proofs.Wholes.{settled_shallow, settled_deep, is_type_meaning, is_type_cause, deep_type_cause}
use Rattle.c_parser.proofs.whole.parse_type_name.Goals as goal

pub returns-in-Err-clause-cause : goal.returns-in-Err-clause-cause
returns-in-Err-clause-cause c = deep_type_cause (kinds_of c.args.names.now c.args.tokens.now) c.in-Err.error (settled_deep (spelled_kinds c.args.names.now c.args.tokens.now) c.in-Err.error c.in-Err.ensures.deep)

pub returns-in-Ok-whole_type-clause-meaning : goal.returns-in-Ok-whole_type-clause-meaning
returns-in-Ok-whole_type-clause-meaning c =
    subst
    (λ t. IsTypeMeaning (kinds_of c.args.names.now c.args.tokens.now) t)
    (sym c.into_parts.ensures)
    (subst
    (λ ks. IsTypeMeaning (settle ks 0) (type_of c.in-Ok-whole_type.name))
    (c.as_slice.ensures.value ∙ c.in-Ok.ensures.kinds)
    (is_type_meaning
    (settle c.as_slice.result.now 0)
    (type_of c.in-Ok-whole_type.name)
    (settled_shallow _ (ap too_deep c.as_slice.ensures.value ∙ c.in-Ok.ensures.shallow))
    c.in-Ok-whole_type.ensures.found))

pub returns-clause-cause : goal.returns-clause-cause
returns-clause-cause c =
    subst
    (λ ks. IsTypeCause (settle ks 0) c.in-Err-whole_type.error)
    (c.as_slice.ensures.value ∙ c.in-Ok.ensures.kinds)
    (is_type_cause
    (settle c.as_slice.result.now 0)
    c.in-Err-whole_type.error
    (settled_shallow _ (ap too_deep c.as_slice.ensures.value ∙ c.in-Ok.ensures.shallow))
    c.in-Err-whole_type.ensures.place
    c.in-Err-whole_type.ensures.only)
