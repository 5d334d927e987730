-- What a rename comes to, as it is told.
use Rattle.std.proofs.Common.{◌≡◌, ℕ, ◌+◌, List, [], ◌∷◌, map, flat_map, length, Some, None, Result, Ok, Err, refl, sym, ap, subst, ◌∙◌, arith}
use Rattle.std.specs.List.Sorted.{IsStrictlySortedBy}
use Rattle.serde_json.specs.Written.{compact_text}
use Rattle.json_view.specs.declared.id.Id.{Id}
use Rattle.doc_texts.specs.Texts.{Texts}
use Rattle.lsp_answers.specs.Renames.{edits_data}
use Rattle.lsp_answers.specs.Replies.{IsResponse, error, response}
use Rattle.lsp_answers.specs.declared.located.Located.{Located}
use Rattle.plain_mean.specs.Ranges.{Ranges, ranges_of}
use Rattle.plain_mean.specs.Renewed.{renewed}
use Rattle.project_conf.specs.declared.conf.Conf.{Conf}
use Rattle.rename_core.specs.Chained.{class_toks}
use Rattle.rename_core.specs.Classes.{IsClass, tok_cmp}
use Rattle.rename_core.specs.Refusals.{planned}
use Rattle.rename_core.specs.declared.class.Class.{Class}
use Rattle.rename_core.specs.declared.class.Plan.{Plan}
use Rattle.rename_core.specs.declared.confirming.Edits.{Edits}
use Rattle.rename_core.specs.declared.error.RenameError.{RenameError}
use Rattle.rename_core.specs.declared.error.RenameError.TheVariants.{NoName}
use Rattle.scope_tables.specs.declared.entities.Occ.{Occ}
use Rattle.text_lines.specs.declared.encoding.Encoding.{Encoding}
use Rattle.tok_data.specs.declared.sources.TokId.{TokId}
use Rattle.unit_index.specs.Known.{Known}
use Rattle.unit_index.specs.Occurrences.{occs_of}
use Rattle.plain_mean.specs.Shown.{units}
use Rattle.c_session.specs.Classed.{class_in}
use Rattle.c_session.specs.Handled.{wanted_work}
use Rattle.c_session.specs.Outcomes.{after, all_occs, and_confirmed, confirmed_over, looked_over, occs_in, plan_of, rename, work_of}
use Rattle.c_session.specs.Positions.{token_at}
use Rattle.c_session.specs.React.{settled, settles, tells}
use Rattle.c_session.specs.Refused.{refusal_code, refusal_name}
use Rattle.c_session.specs.Renames.{Renaming, edits_of, located_in, outcome_at, work_at}
use Rattle.c_session.specs.Shown.{conf_in}
use Rattle.c_session.specs.State.{State}
use Rattle.c_session.specs.Units.{known, known_unit}
use Rattle.c_session.proofs.Plans.{plan_class}

-- ---- by a plan

own_occs : (t : Texts) (conf : Conf) (us : List (List ℕ)) → map occs_of (map (known_unit t conf) us) ≡ map (occs_in t conf) us
own_occs t conf [] = refl
own_occs t conf (u ∷ us) = ap (λ os. occs_in t conf u ∷ os) (own_occs t conf us)

occs_are : (t : Texts) (conf : Conf) (us : List Known) → us ≡ known t conf → map occs_of us ≡ all_occs t conf
unfolding known
occs_are t conf us is = ap (map occs_of) is ∙ own_occs t conf (units t conf)

module _ (t : Texts) (conf : Conf) (tok : TokId) (name : List ℕ) (us : List Known) (class : Class) (is : us ≡ known t conf) (own : class ≡ class_in (map occs_of us) tok) where
  class_is : class ≡ class_in (all_occs t conf) tok
  class_is = own ∙ ap (λ os. class_in os tok) (occs_are t conf us is)

  pub plan_is : (r : Result Plan RenameError) → r ≡ planned class name → plan_of t conf tok name ≡ r
  plan_is r e = ap (λ c. planned c name) (sym class_is) ∙ sym e

  module _ (p : Plan) (e : Ok p ≡ planned class name) where
    pub renamed_by : rename t conf tok name ≡ confirmed_over t conf p
    unfolding rename
    renamed_by = ap (and_confirmed t conf) (plan_is (Ok p) e)

    pub work_by : work_of t conf tok name ≡ length (renewed t conf (after t p) conf)
    unfolding work_of
    work_by = ap (looked_over t conf) (plan_is (Ok p) e)

    pub ordered_by : ((us : List (List Occ)) (t : TokId) → IsClass us t (class_toks us t)) → IsStrictlySortedBy tok_cmp p.class.toks
    unfolding class_in
    ordered_by classes =
        let own_class : p.class ≡ class_in (all_occs t conf) tok = plan_class class name p (sym e) ∙ class_is in
        subst (IsStrictlySortedBy tok_cmp) (sym (ap (λ (c : Class). c.toks) own_class)) (classes (all_occs t conf) tok).ordered

  module _ (x : RenameError) (e : Err x ≡ planned class name) where
    pub refused_by : rename t conf tok name ≡ Err x
    unfolding rename
    refused_by = ap (and_confirmed t conf) (plan_is (Err x) e)

    pub no_work_by : (old : ℕ) → old ≡ old + work_of t conf tok name
    unfolding work_of
    no_work_by old = (let none : old ≡ old + 0 = omega arith in none) ∙ ap (λ n. old + n) (sym (ap (looked_over t conf) (plan_is (Err x) e)))

-- ---- as it is told

abbrev pub error_or : {A : Type 0} → RenameError → Result A RenameError → RenameError
error_or x (Ok e) = x
error_or x (Err y) = y

module _ (s : State) (id : Id) (r : Renaming) (bytes : List ℕ) where
  pub nothing_told : None ≡ token_at s.texts s.encoding r.path r.pos → bytes ≡ error (Some id) (refusal_code NoName) (refusal_name NoName) → settles s id (settled s r) ≡ tells s bytes
  nothing_told none wrote = ap (λ o. settles s id (outcome_at s.texts (conf_in s) o r.new_name)) (sym none) ∙ ap (tells s) (sym wrote)

  module _ (tok : TokId) (conf : Conf) (found : Some tok ≡ token_at s.texts s.encoding r.path r.pos) (same : conf ≡ conf_in s) where
    outcome_is : settled s r ≡ rename s.texts conf tok r.new_name
    outcome_is = ap (λ o. outcome_at s.texts (conf_in s) o r.new_name) (sym found) ∙ ap (λ x. rename s.texts x tok r.new_name) (sym same)

    pub edits_are_told : (e : Edits) → Ok e ≡ rename s.texts conf tok r.new_name → bytes ≡ response id (edits_of s.texts s.encoding e) → settles s id (settled s r) ≡ tells s bytes
    edits_are_told e is wrote = ap (settles s id) (outcome_is ∙ sym is) ∙ ap (tells s) (sym wrote)

    pub refusal_is_told : (e : RenameError) → Err e ≡ rename s.texts conf tok r.new_name → bytes ≡ error (Some id) (refusal_code e) (refusal_name e) → settles s id (settled s r) ≡ tells s bytes
    refusal_is_told e is wrote = ap (settles s id) (outcome_is ∙ sym is) ∙ ap (tells s) (sym wrote)

module _ (s : State) (r : Renaming) (old new : ℕ) where
  pub nothing_worked : None ≡ token_at s.texts s.encoding r.path r.pos → new ≡ old → new ≡ old + wanted_work s (Ok r)
  nothing_worked none is = is ∙ (let zero : old ≡ old + 0 = omega arith in zero) ∙ ap (λ o. old + work_at s.texts (conf_in s) o r.new_name) none

  pub rename_worked : (tok : TokId) (conf : Conf) → Some tok ≡ token_at s.texts s.encoding r.path r.pos → conf ≡ conf_in s → new ≡ old + work_of s.texts conf tok r.new_name → new ≡ old + wanted_work s (Ok r)
  rename_worked tok conf found same is = is ∙ ap (λ x. old + work_of s.texts x tok r.new_name) same ∙ ap (λ o. old + work_at s.texts (conf_in s) o r.new_name) found

-- ---- its edits

pub edits_written : (texts : Texts) (encoding : Encoding) (id : Id) (e : Edits) (made : List Ranges) (shown : List Located) (text bytes : List ℕ) → made ≡ ranges_of texts e.toks →
    shown ≡ flat_map (located_in texts encoding) made → text ≡ compact_text (edits_data e.new_name shown) → IsResponse id text bytes → bytes ≡ response id (edits_of texts encoding e)
edits_written texts encoding id e made shown text bytes ranged placed told is =
    is (edits_of texts encoding e) (told ∙ ap (λ ls. compact_text (edits_data e.new_name ls)) (placed ∙ ap (flat_map (located_in texts encoding)) ranged))
