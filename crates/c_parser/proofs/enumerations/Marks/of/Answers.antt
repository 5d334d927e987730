use Rattle.std.proofs.Common.{sym, ◌∙◌}
use Rattle.c_parser.proofs.Unmarked.{are_unmarked}
use Rattle.c_parser.proofs.enumerations.Marks.of.Goals as goal

pub returns-then-not-has_enum : goal.returns-then-not-has_enum
returns-then-not-has_enum c =
    are_unmarked
    c.args.tokens.now
    c.unmarked.result.constants.items
    c.unmarked.result.earlier.items
    (sym c.has_enum.ensures ∙ c.if-not-has_enum.true)
    c.unmarked.ensures.constants
    c.unmarked.ensures.earlier
