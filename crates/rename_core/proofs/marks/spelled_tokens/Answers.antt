use Rattle.std.proofs.Common.{map}
use Rattle.rename_core.proofs.MentionLemmas.{lent, unit_spelled}
use Rattle.rename_core.proofs.marks.spelled_tokens.Goals as goal

pub units-preserved : goal.units-preserved
units-preserved c =
    let l = c.in-Some.ensures.lookup in
    let here = lent c.args.units.now c.units.unit c.in-Some.occs.now l.3.0 l.1 in
    λ q. unit_spelled (map (λ os. os.now) c.args.units.now) c.units.unit c.in-Some.occs.now.now _ _ q _ here (c.in_ok-note_unit.ensures q) (c.units.invariant q)
