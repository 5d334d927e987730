use Rattle.std.proofs.Common.{arith, ◌≡◌, suc, length, ap}
use Rattle.unit_meaning.proofs.EntityLemmas.{left_behind, put_turns}
use Rattle.unit_meaning.proofs.entities.put_all.Goals as goal

pub entities-preserved : goal.entities-preserved
entities-preserved c =
    let is = c.in-Some.ensures.cases.0 in
    let was = c.entities.invariant in
    record {
      all = was.all;
      short = let e : length c.entities.rest.now ≡ suc (length c.in-Some.behind.now) = ap length is in omega (arith, e, was.short);
      here = left_behind _ _ _ _ was.here is was.short;
      put = put_turns _ _ _ _ _ _ _ _ _ _ _ was.all was.here is c.in_ok-anchor.ensures c.in_ok-one.ensures c.in_ok-put.ensures was.put;
    }
