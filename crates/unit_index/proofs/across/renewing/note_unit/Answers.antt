use Rattle.unit_index.specs.declared.exported.Does.TheVariants.{Declares, Defines}
use Rattle.unit_index.specs.Exported.{one}
use Rattle.unit_index.proofs.FirstLemmas.{firsts_end, firsts_turn}
use Rattle.unit_index.proofs.across.renewing.note_unit.Goals as goal

pub names-preserved : goal.names-preserved
names-preserved c = λ q inside. (
  firsts_turn (one Declares c.args.path.now c.args.exports.now.tags q) _ _ _ c.in-Some.export.now _ _ c.in-Some.ensures.cases.0 (c.in_ok-note_name.ensures.declared q inside) (c.names.invariant q inside).0,
  firsts_turn (one Defines c.args.path.now c.args.exports.now.tags q) _ _ _ c.in-Some.export.now _ _ c.in-Some.ensures.cases.0 (c.in_ok-note_name.ensures.defined q inside) (c.names.invariant q inside).1,
)

pub returns-clause-declared : goal.returns-clause-declared
returns-clause-declared c = λ q inside. firsts_end (one Declares c.args.path.now c.args.exports.now.tags q) _ _ _ c.in_default.ensures.cases (c.names.invariant q inside).0

pub returns-clause-defined : goal.returns-clause-defined
returns-clause-defined c = λ q inside. firsts_end (one Defines c.args.path.now c.args.exports.now.tags q) _ _ _ c.in_default.ensures.cases (c.names.invariant q inside).1
