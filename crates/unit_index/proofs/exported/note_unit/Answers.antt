use Rattle.unit_index.specs.Exported.{one}
use Rattle.unit_index.proofs.FirstLemmas.{firsts_end, firsts_turn}
use Rattle.unit_index.proofs.exported.note_unit.Goals as goal

pub names-preserved : goal.names-preserved
names-preserved c = λ q. firsts_turn (one c.args.does c.args.path.now c.args.exports.now.tags q) _ _ _ c.in-Some.export.now _ _ c.in-Some.ensures.cases.0 (c.in_ok-note.ensures q) (c.names.invariant q)

pub returns : goal.returns
returns c = λ q. firsts_end (one c.args.does c.args.path.now c.args.exports.now.tags q) _ _ _ c.in_default.ensures.cases (c.names.invariant q)
