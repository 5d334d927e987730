use Rattle.std.proofs.Common.{ap, sym, ◌∙◌, length, ◌==◌}
use Rattle.tree_data.specs.Trees.{Unary_of}
use Rattle.c_parser.proofs.Joins.{some_prefixes}
use Rattle.c_parser.proofs.joining.unary.Goals as goal

pub returns-in-Ok-clause-tree : goal.returns-in-Ok-clause-tree
returns-in-Ok-clause-tree c =
    c.in-Ok.ensures
    ∙ sym
    (some_prefixes
    Unary_of
    _
    c.args.prefixes.items
    (ap (λ xs. length xs == 0) (sym c.as_slice.ensures.value) ∙ sym c.if-is_empty.ensures))
