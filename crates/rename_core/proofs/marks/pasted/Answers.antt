use Rattle.std.proofs.Common.{rules, ◌≡◌, ◌∙◌, None, map, sym}
use Rattle.rename_core.specs.Found.{pasted_at}
use Rattle.rename_core.proofs.MentionLemmas.{lent, pasted_here, pasted_later}
use Rattle.rename_core.proofs.marks.pasted.Goals as goal

pub returns-in-Some-found : goal.returns-in-Some-found
returns-in-Some-found c =
    let us = map (λ os. os.now) c.args.units.now in
    let l = c.in-Some.ensures.lookup in
    let here = lent c.args.units.now c.units.unit c.in-Some.occs.now l.3.0 l.1 in
    let made = sym c.in-Some-found.is ∙ c.in_ok-found.ensures in
    pasted_here us c.units.unit c.in-Some.occs.now.now c.args.walk.now.denoted c.in-Some-found.tok _ here made c.units.invariant

pub units-preserved : goal.units-preserved
units-preserved c =
    let us = map (λ os. os.now) c.args.units.now in
    let l = c.in-Some.ensures.lookup in
    let here = lent c.args.units.now c.units.unit c.in-Some.occs.now l.3.0 l.1 in
    let none : None ≡ pasted_at c.units.unit c.args.walk.now.denoted c.in-Some.occs.now.now = search rules in
    pasted_later us c.units.unit c.in-Some.occs.now.now c.args.walk.now.denoted _ here none c.units.invariant
