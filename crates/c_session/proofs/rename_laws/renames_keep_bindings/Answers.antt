use Rattle.c_session.proofs.Bindings.{keeps_by, planned_is}
use Rattle.c_session.proofs.rename_laws.renames_keep_bindings.Goals as goal

pub returns : goal.returns
returns c = λ texts conf t name edits is.
    let plan = planned_is texts conf t name edits is in
    keeps_by c.paths_are_sets.ensures.set_members c.classes_are_lists.ensures.class c.confirmed_renames_keep.ensures.kept c.confirmed_renames_keep.ensures.edits c.confirmed_renames_keep.ensures.name
    texts conf t name edits plan.0 plan.1 plan.2
