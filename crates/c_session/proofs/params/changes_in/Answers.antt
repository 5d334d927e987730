use Rattle.std.proofs.Common.{codes}
use Rattle.std.proofs.lemmas.Result.{err_from_is_err_and}
use Rattle.serde_json.specs.View.{view}
use Rattle.json_view.specs.Members.{object_in}
use Rattle.c_session.specs.Params.{change_in}
use Rattle.c_session.proofs.Elements.{each_refused}
use Rattle.c_session.proofs.params.changes_in.Goals as goal

pub returns-in_err-change : goal.returns-in_err-change
returns-in_err-change c =
    let p = err_from_is_err_and c.from_residual.result c.from_residual.ensures.1 in
    rw (p.1, p.2) (each_refused view (object_in change_in (codes "contentChanges")) _ _ _ _ _ c.loop-element-test.true c.element-item.is c.loop-element.invariant c.in_err-change.ensures)
