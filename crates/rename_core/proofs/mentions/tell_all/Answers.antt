use Rattle.std.proofs.Common.{◌++◌, ap, map}
use Rattle.rename_core.specs.Mentions.{tolds}
use Rattle.rename_core.proofs.MentionLemmas.{lent, unit_told}
use Rattle.rename_core.proofs.mentions.tell_all.Goals as goal

pub units-init : goal.units-init
units-init c = λ q. ap (λ l. l ++ tolds 0 q (map (λ os. os.now) c.args.units.now)) (c.no_lists-told.ensures q)

pub units-preserved : goal.units-preserved
units-preserved c =
    let l = c.in-Some.ensures.lookup in
    let here = lent c.args.units.now c.units.unit c.in-Some.occs.now l.3.0 l.1 in
    λ q. unit_told (map (λ os. os.now) c.args.units.now) c.units.unit c.in-Some.occs.now.now _ _ q _ here (c.in_ok-tell_unit.ensures q) (c.units.invariant q)
