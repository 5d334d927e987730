use Rattle.std.specs.Prelude.{◌-ℤ◌}
use Rattle.std.proofs.Common.{sym, ◌∙◌}
use Rattle.std.specs.Int.{w128}
use Rattle.std.proofs.lemmas.Int.{wrapping_sub_is, to_z-of_z}
use Rattle.c_literals.proofs.Wrapping.{as_passed}
use Rattle.c_literals.proofs.arith.difference.Goals as goal

pub returns : goal.returns
returns c =
    let value = rw (to_z-of_z w128 c.args.x c.ranges.x, to_z-of_z w128 c.args.y c.ranges.y) at c.overflowing_sub-number.ensures.value in
    let overflow = rw (to_z-of_z w128 c.args.x c.ranges.x, to_z-of_z w128 c.args.y c.ranges.y) at c.overflowing_sub-number.ensures.overflow in
    c.into_type.ensures (c.args.x -ℤ c.args.y) (as_passed (c.args.x -ℤ c.args.y) _ (sym (wrapping_sub_is w128 c.args.x c.args.y c.ranges.x c.ranges.y) ∙ sym value)) overflow
