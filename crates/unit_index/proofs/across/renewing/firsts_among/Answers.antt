use Rattle.std.proofs.Common.{rules, ◌≡◌, Some, None, ap, ◌∙◌}
use Rattle.std.specs.List.{slice_get}
use Rattle.unit_index.specs.declared.exported.Does.TheVariants.{Declares, Defines}
use Rattle.unit_index.specs.Exported.{at, first, first_in}
use Rattle.unit_index.specs.Firsts.{or_else}
use Rattle.unit_index.proofs.FirstLemmas.{firsts_end_at, firsts_turn_at}
use Rattle.unit_index.proofs.across.renewing.firsts_among.Goals as goal

pub units-init : goal.units-init
units-init c = λ q inside.
    (ap (λ o. or_else o (first Declares c.args.units.now q)) (c.no_names.ensures q), ap (λ o. or_else o (first Defines c.args.units.now q)) (c.no_names-2.ensures q))

pub units-preserved : goal.units-preserved
units-preserved c = λ q inside.
    let here : Some c.in-Some.unit.now ≡ slice_get c.args.units.now c.units.place = search rules in (
      firsts_turn_at (first_in Declares q) _ _ _ c.in-Some.unit.now c.args.units.now c.units.place here
          (c.in_ok-note_unit.ensures.declared q inside ∙ (λ i. or_else (at c.units.found.declared q) (first_in Declares q (record { path = c.path.ensures i; exports = c.exports.ensures i })))) (c.units.invariant q inside).0,
      firsts_turn_at (first_in Defines q) _ _ _ c.in-Some.unit.now c.args.units.now c.units.place here
          (c.in_ok-note_unit.ensures.defined q inside ∙ (λ i. or_else (at c.units.found.defined q) (first_in Defines q (record { path = c.path.ensures i; exports = c.exports.ensures i })))) (c.units.invariant q inside).1,
    )

pub returns-in_default : goal.returns-in_default
returns-in_default c =
    let none : None ≡ slice_get c.args.units.now c.units.place = search rules in
    record {
      declarations = λ q inside. firsts_end_at (first_in Declares q) _ _ c.args.units.now c.units.place none (c.units.invariant q inside).0;
      definitions = λ q inside. firsts_end_at (first_in Defines q) _ _ c.args.units.now c.units.place none (c.units.invariant q inside).1;
    }
