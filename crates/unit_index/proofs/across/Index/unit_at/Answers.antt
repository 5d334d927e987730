use Rattle.std.proofs.Common.{rules, ◌≡◌, Some, None, true, false}
use Rattle.std.specs.List.{slice_get}
use Rattle.std.specs.Prelude.{bytes_eq}
use Rattle.unit_index.proofs.CrossLemmas.{find_here, find_later, find_none}
use Rattle.unit_index.proofs.across.Index.unit_at.Goals as goal

pub units-preserved : goal.units-preserved
units-preserved c =
    let u = c.in-Some.unit.now in
    let here : Some u ≡ slice_get c.args.self.now c.units.place = search rules in
    let miss : false ≡ bytes_eq u.path c.args.path.now = search rules in
    find_later (λ v. bytes_eq v.path c.args.path.now) u _ c.args.self.now c.units.place here miss c.units.invariant

pub returns-then-is_at : goal.returns-then-is_at
returns-then-is_at c =
    let u = c.in-Some.unit.now in
    let here : Some u ≡ slice_get c.args.self.now c.units.place = search rules in
    let hit : true ≡ bytes_eq u.path c.args.path.now = search rules in
    find_here (λ v. bytes_eq v.path c.args.path.now) u _ c.args.self.now c.units.place here hit c.units.invariant

pub returns-in_default : goal.returns-in_default
returns-in_default c =
    let none : None ≡ slice_get c.args.self.now c.units.place = search rules in
    find_none (λ v. bytes_eq v.path c.args.path.now) _ c.args.self.now c.units.place none c.units.invariant
