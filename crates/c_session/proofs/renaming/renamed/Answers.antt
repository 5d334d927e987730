use Rattle.std.proofs.Common.{◌+◌, Err, Ok, sym, ap, ◌∙◌}
use Rattle.c_session.specs.Kept.{units_in}
use Rattle.c_session.proofs.Settling.{error_or, no_work_by, ordered_by, plan_is, refused_by, renamed_by, work_by}
use Rattle.c_session.proofs.renaming.renamed.Goals as goal

pub settled-requires : goal.settled-requires
settled-requires g c = record {
  usable = c.requires.usable;
  kept = c.requires.kept;
  texts = c.requires.texts;
  order = ordered_by c.args.docs.now c.args.conf.now c.args.tok.now c.args.new_name.now (units_in c.args.kept.now) c.in-Ok.class c.requires.kept.units c.in-Ok.ensures c.in-Ok-plan.planned
      (c.in-Ok-plan.ensures (λ e. let bad : ⊥ = cc e in bad)) c.classes_are_lists.ensures.class;
  short = c.names_are_short.ensures c.args.docs.now c.args.conf.now c.args.tok.now c.args.new_name.now c.in-Ok-plan.planned
      (plan_is c.args.docs.now c.args.conf.now c.args.tok.now c.args.new_name.now (units_in c.args.kept.now) c.in-Ok.class c.requires.kept.units c.in-Ok.ensures (Ok c.in-Ok-plan.planned)
      (c.in-Ok-plan.ensures (λ e. let bad : ⊥ = cc e in bad)));
}

pub returns-in-Ok-plan-clause-outcome : goal.returns-in-Ok-plan-clause-outcome
returns-in-Ok-plan-clause-outcome g c = λ told.
    c.settled.ensures.outcome told
    ∙ sym (renamed_by c.args.docs.now c.args.conf.now c.args.tok.now c.args.new_name.now (units_in c.args.kept.now) c.in-Ok.class c.requires.kept.units c.in-Ok.ensures c.in-Ok-plan.planned
    (c.in-Ok-plan.ensures (λ e. let bad : ⊥ = cc e in bad)))

pub returns-in-Ok-plan-clause-steps : goal.returns-in-Ok-plan-clause-steps
returns-in-Ok-plan-clause-steps g c = λ told.
    c.settled.ensures.steps told
    ∙ ap (λ n. c.args.steps.now + n) (sym (work_by c.args.docs.now c.args.conf.now c.args.tok.now c.args.new_name.now (units_in c.args.kept.now) c.in-Ok.class c.requires.kept.units c.in-Ok.ensures c.in-Ok-plan.planned
    (c.in-Ok-plan.ensures (λ e. let bad : ⊥ = cc e in bad))))

pub returns-in-Err-plan-clause-outcome : goal.returns-in-Err-plan-clause-outcome
returns-in-Err-plan-clause-outcome g c = λ told.
    sym (refused_by c.args.docs.now c.args.conf.now c.args.tok.now c.args.new_name.now (units_in c.args.kept.now) c.in-Ok.class c.requires.kept.units c.in-Ok.ensures c.in-Err-plan.error (c.in-Err-plan.ensures (λ same. told (ap Err (ap (error_or c.in-Err-plan.error) same)))))

pub returns-in-Err-plan-clause-steps : goal.returns-in-Err-plan-clause-steps
returns-in-Err-plan-clause-steps g c = λ told.
    no_work_by c.args.docs.now c.args.conf.now c.args.tok.now c.args.new_name.now (units_in c.args.kept.now) c.in-Ok.class c.requires.kept.units c.in-Ok.ensures c.in-Err-plan.error (c.in-Err-plan.ensures (λ same. told (ap Err (ap (error_or c.in-Err-plan.error) same)))) c.args.steps.now
