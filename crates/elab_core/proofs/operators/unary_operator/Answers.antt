use Rattle.std.proofs.Common.{ap, ◌∙◌, map}
use Rattle.elab_core.specs.Operators.{unary_operator, unary_operators, lookup}
use Rattle.elab_core.proofs.Tables.{found_in}
use Rattle.elab_core.proofs.operators.unary_operator.Goals as goal

pub returns : goal.returns
unfolding unary_operator unary_operators
returns c =
    c.look_up.ensures
    ∙ found_in (λ e. e.0.now) (λ e. e.1) c.args.text.now c.as_slice.result.now
    ∙ ap (λ xs. lookup (map (λ e. (e.0.now, e.1)) xs) c.args.text.now) c.as_slice.ensures
