use Rattle.std.proofs.Common.{◌∙◌}
use Rattle.c_session.specs.Classed.{class_in}
use Rattle.c_session.specs.Outcomes.{after, all_occs, views}
use Rattle.plain_mean.specs.Shown.{units}
use Rattle.c_session.proofs.AsAsked.{others_stay}
use Rattle.c_session.proofs.Bindings.{planned_is}
use Rattle.c_session.proofs.Plans.{plan_name}
use Rattle.c_session.proofs.rename_laws.edits_are_as_asked.Goals as goal

pub returns-clause-name : goal.returns-clause-name
returns-clause-name c = λ texts conf t name edits is.
    let plan = planned_is texts conf t name edits is in
    c.confirmed_renames_keep.ensures.name plan.0 (views texts conf plan.0.class.toks (units texts conf)) (views (after texts plan.0) conf plan.0.class.toks (units texts conf)) edits plan.2
    ∙ plan_name (class_in (all_occs texts conf) t) name plan.0 plan.1

pub returns-clause-others : goal.returns-clause-others
returns-clause-others c = λ texts toks name path e. others_stay texts toks name path e
