use Rattle.std.specs.List.{list_any}
use Rattle.unit_index.specs.Introduced.{brings}
use Rattle.unit_index.proofs.GroupLemmas.{any_turns}
use Rattle.unit_index.proofs.introduced.all_introduced.Goals as goal

pub units-preserved : goal.units-preserved
units-preserved c = λ q.
    any_turns (λ u. list_any (brings u q) c.args.tokens.now) _ _ _ c.in-Some.unit.now _ _ c.in-Some.ensures.cases.0
    (c.in_ok-note_unit.ensures c.args.tokens.now c.in_ok-groups.ensures q) (c.units.invariant q)
