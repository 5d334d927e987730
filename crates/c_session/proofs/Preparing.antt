-- Where a name may be renamed, by what stands in the way of a plan.
use Rattle.std.proofs.Common.{◌≡◌, true, ℕ, List, [], ◌∷◌, map, Option, Some, None, is_none, is_ok, if◌then◌else◌, refl, sym, ap, ◌∙◌}
use Rattle.doc_texts.specs.Texts.{Texts}
use Rattle.plain_mean.specs.Shown.{units}
use Rattle.project_conf.specs.declared.conf.Conf.{Conf}
use Rattle.rename_core.specs.Occurrences.{or_later}
use Rattle.rename_core.specs.Refusals.{can_be_renamed, first_of, has_two_meanings, in_library, is_new_name, is_pasted, is_stringized, no_name, not_identifier, outcome, planned, refusal}
use Rattle.rename_core.specs.declared.class.Class.{Class}
use Rattle.rename_core.specs.declared.error.RenameError.{RenameError}
use Rattle.rename_core.specs.declared.error.RenameError.TheVariants.{NotIdentifier}
use Rattle.tok_data.specs.declared.sources.TokId.{TokId}
use Rattle.unit_index.specs.Occurrences.{occs_of}
use Rattle.c_session.specs.Classed.{class_in}
use Rattle.c_session.specs.Outcomes.{all_occs, occs_in, plan_of}
use Rattle.c_session.specs.Units.{known, known_unit}

ok_where : {A : Type 0} (o : Option RenameError) (x : A) → is_ok (outcome o x) ≡ is_none o
ok_where None x = refl
ok_where (Some e) x = refl

planned_where : (class : Class) (name : List ℕ) → is_new_name name ≡ true → is_ok (planned class name) ≡ can_be_renamed class
planned_where class name e =
    let fine : not_identifier name ≡ None = ap (λ b. if b then None else Some NotIdentifier) e in
    let rest : List (Option RenameError) = in_library class ∷ is_pasted class ∷ is_stringized class ∷ has_two_meanings class ∷ [] in
    let same : refusal class name ≡ first_of (no_name class ∷ rest) = ap (λ o. or_later (no_name class) (or_later o (first_of rest))) fine in
    ok_where (refusal class name) (record { class = class; new_name = name }) ∙ ap is_none same

told_occs : (texts : Texts) (conf : Conf) (us : List (List ℕ)) → map occs_of (map (known_unit texts conf) us) ≡ map (occs_in texts conf) us
told_occs texts conf [] = refl
told_occs texts conf (u ∷ us) = ap (λ all. occs_in texts conf u ∷ all) (told_occs texts conf us)

known_occs : (texts : Texts) (conf : Conf) → map occs_of (known texts conf) ≡ all_occs texts conf
unfolding known
known_occs texts conf = told_occs texts conf (units texts conf)

pub planned_as_prepared : (texts : Texts) (conf : Conf) (t : TokId) (name : List ℕ) → is_new_name name ≡ true → is_ok (plan_of texts conf t name) ≡ can_be_renamed (class_in (map occs_of (known texts conf)) t)
planned_as_prepared texts conf t name e =
    planned_where (class_in (all_occs texts conf) t) name e ∙ ap (λ us. can_be_renamed (class_in us t)) (sym (known_occs texts conf))
