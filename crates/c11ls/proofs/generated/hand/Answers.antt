use Rattle.std.proofs.Common.{map, string_bytes, length, ap, arith}
use Rattle.c11ls.proofs.Generating.{left_more}
use Rattle.c11ls.proofs.generated.hand.Goals as goal

pub contents-preserved-in-Ok : goal.contents-preserved-in-Ok
contents-preserved-in-Ok g c = (
  left_more _ _ _ _ _ _ _ _ (ap (map string_bytes) c.in-Some.ensures.cases.0) (rw c.as_bytes.ensures.value at c.in-Ok.ensures.handled) c.contents.invariant.0,
  omega (arith, c.in-Ok.ensures.count, c.contents.invariant.1, ap length c.in-Some.ensures.cases.0),
)
