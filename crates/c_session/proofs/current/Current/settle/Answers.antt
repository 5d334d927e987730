use Rattle.std.proofs.Common.{refl, sym, ap, subst, ◌∙◌}
use Rattle.c_session.specs.Kept.{IsAnalysis}
use Rattle.c_session.specs.Ties.Renamings.{seen_renaming}
use Rattle.c_session.specs.Ties.Sessions.{current_state}
use Rattle.c_session.proofs.Settling.{edits_are_told, error_or, nothing_told, nothing_worked, refusal_is_told, rename_worked}
use Rattle.c_session.proofs.current.Current.settle.Goals as goal

pub renamed-requires : goal.renamed-requires
renamed-requires g c = record {
  usable = c.in_ok-conf.ensures.usable;
  kept = subst (λ x. IsAnalysis c.args.self.now.docs x c.args.self.now.kept) (sym c.in_ok-conf.ensures.conf) c.requires.kept.0;
  texts = λ path. c.texts_stay_short.ensures.shown c.args.self.now.docs c.requires.short path;
}

pub edits_told-requires : goal.edits_told-requires
edits_told-requires g c = record {
  kept = c.requires.kept;
  short = λ path. c.texts_stay_short.ensures.shown c.args.self.now.docs c.requires.short path;
  order = (c.renames_keep_bindings.ensures c.args.self.now.docs c.in_ok-conf.conf c.in-Some.tok c.args.renaming.now.new_name.now c.in-Ok.edits (sym (c.in-Ok.ensures.outcome (λ e. let bad : ⊥ = cc e in bad)))).class.ordered;
}

pub returns-in_default-clause-told : goal.returns-in_default-clause-told
returns-in_default-clause-told g c =
    nothing_told (current_state c.args.self.now) c.args.id.now (seen_renaming c.args.renaming.now) c.in_ok-bytes.bytes.items (sym c.in_default.is ∙ c.in_ok-found.ensures) c.in_ok-bytes.ensures.error

pub returns-in_default-clause-steps : goal.returns-in_default-clause-steps
returns-in_default-clause-steps g c =
    nothing_worked (current_state c.args.self.now) (seen_renaming c.args.renaming.now) c.args.steps.now c.args.steps.now (sym c.in_default.is ∙ c.in_ok-found.ensures) refl

pub returns-in-Ok-clause-told : goal.returns-in-Ok-clause-told
returns-in-Ok-clause-told g c =
    edits_are_told (current_state c.args.self.now) c.args.id.now (seen_renaming c.args.renaming.now) c.in_ok-bytes-in-Ok.bytes.items c.in-Some.tok c.in_ok-conf.conf (sym c.in-Some.is ∙ c.in_ok-found.ensures)
    c.in_ok-conf.ensures.conf c.in-Ok.edits (c.in-Ok.ensures.outcome (λ e. let bad : ⊥ = cc e in bad)) c.in_ok-bytes-in-Ok.ensures

pub returns-in-Ok-clause-steps : goal.returns-in-Ok-clause-steps
returns-in-Ok-clause-steps g c =
    rename_worked (current_state c.args.self.now) (seen_renaming c.args.renaming.now) c.args.steps.now c.renamed.new.steps c.in-Some.tok c.in_ok-conf.conf (sym c.in-Some.is ∙ c.in_ok-found.ensures)
    c.in_ok-conf.ensures.conf (c.in-Ok.ensures.steps (λ e. let bad : ⊥ = cc e in bad))

pub returns-clause-told : goal.returns-clause-told
returns-clause-told g c =
    refusal_is_told (current_state c.args.self.now) c.args.id.now (seen_renaming c.args.renaming.now) c.in_ok-bytes-in-Err.bytes.items c.in-Some.tok c.in_ok-conf.conf (sym c.in-Some.is ∙ c.in_ok-found.ensures)
    c.in_ok-conf.ensures.conf c.in-Err.refusal (c.in-Err.ensures.outcome (λ same. c.in_ok-bytes-in-Err.ensures.refused (ap (error_or c.in-Err.refusal) same))) c.in_ok-bytes-in-Err.ensures.error

pub returns-clause-steps : goal.returns-clause-steps
returns-clause-steps g c =
    rename_worked (current_state c.args.self.now) (seen_renaming c.args.renaming.now) c.args.steps.now c.renamed.new.steps c.in-Some.tok c.in_ok-conf.conf (sym c.in-Some.is ∙ c.in_ok-found.ensures)
    c.in_ok-conf.ensures.conf (c.in-Err.ensures.steps (λ same. c.in_ok-bytes-in-Err.ensures.refused (ap (error_or c.in-Err.refusal) same)))
