use Rattle.std.specs.Prelude.{neg_ℤ}
use Rattle.std.proofs.Common.{sym, ◌∙◌}
use Rattle.std.specs.Int.{w128}
use Rattle.std.proofs.lemmas.Int.{wrapping_neg_is, to_z-of_z}
use Rattle.c_literals.proofs.Wrapping.{as_passed}
use Rattle.c_literals.proofs.arith.negated.Goals as goal

pub returns : goal.returns
returns c =
    let value = rw (to_z-of_z w128 c.args.x c.ranges.x) at c.overflowing_neg-number.ensures.value in
    let overflow = rw (to_z-of_z w128 c.args.x c.ranges.x) at c.overflowing_neg-number.ensures.overflow in
    c.into_type.ensures (neg_ℤ c.args.x) (as_passed (neg_ℤ c.args.x) _ (sym (wrapping_neg_is w128 c.args.x c.ranges.x) ∙ sym value)) overflow
