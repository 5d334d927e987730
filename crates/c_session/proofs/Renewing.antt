-- What stands behind a message is what the texts come to now, and what was worked out is what had to be.
use Rattle.std.proofs.Common.{◌≡◌, ℕ, Bool, true, false, not, cond, ◌||◌, List, [], ◌∷◌, ◌++◌, length, map, Option, Some, None, bytes_eq, refl, sym, ap, ◌∙◌, subst}
use Rattle.std.specs.List.{filter, list_any}
use Rattle.std.proofs.lemmas.List.Folds.{flat_map-map}
use Rattle.doc_texts.specs.Prior.{Prior}
use Rattle.doc_texts.specs.Texts.{Texts}
use Rattle.project_conf.specs.Entries.{unit_conf}
use Rattle.project_conf.specs.declared.conf.Conf.{Conf}
use Rattle.plain_mean.specs.Given.{text_in}
use Rattle.plain_mean.specs.Lists.{shown_in}
use Rattle.plain_mean.specs.Meanings.{meaning}
use Rattle.plain_mean.specs.Renewed.{IsGrounds, are_gone, has_other, is_renewed, questions, renewed}
use Rattle.plain_mean.specs.Same.{same_conf}
use Rattle.plain_mean.specs.Shown.{shown_by, units}
use Rattle.plain_mean.specs.Within.{AreWithin}
use Rattle.plain_mean.specs.declared.types.Grounds.{Grounds}
use Rattle.unit_index.specs.Known.{Known}
use Rattle.c_session.specs.Kept.{AreGrounds, HasLexed, IsAnalysis}
use Rattle.c_session.specs.Renewal.{OnNow, OnKept, RestOn, RestsOn, due_at, is_due, unit_at, unit_by}
use Rattle.c_session.specs.Shown.{shown}
use Rattle.c_session.specs.Units.{all_reads, cross_faults, crossed, known, known_as, known_unit, own_faults}
use Rattle.c_session.specs.declared.analysis.Analysis.{Analysis}
use Rattle.c_session.specs.declared.held.HeldUnit.{HeldUnit}
use Rattle.c_session.proofs.Holding.{WasHeld, WasUnit}

-- ---- a unit

module _ (t now : Texts) (prior : Prior) (c c' : Conf)
    (stays : (unit : List ℕ) → is_renewed t c now c' unit ≡ false → meaning now c' unit ≡ meaning t c unit)
    (rests : (unit : List ℕ) → is_renewed t c now c' unit ≡ false → (grounds : Grounds) → IsGrounds t c unit grounds → IsGrounds now c' unit grounds)
    (holds : (unit : List ℕ) (grounds : Grounds) → IsGrounds t c unit grounds →
    are_gone prior now c' unit grounds ≡ (not (same_conf (unit_conf c unit) (unit_conf c' unit)) || list_any (has_other t now) (questions t c unit))) where
  -- the unit that was one has another configuration, or other answers
  abbrev differs : List ℕ → Bool
  differs unit = not (same_conf (unit_conf c unit) (unit_conf c' unit)) || list_any (has_other t now) (questions t c unit)

  abbrev was : List ℕ → Option HeldUnit → Type 0
  was path held = WasHeld t c (list_any (bytes_eq path) (units t c)) path held

  due_is : (path : List ℕ) (held : Option HeldUnit) → was path held → is_due held prior now c' path ≡ is_renewed t c now c' path
  due_is path None none = sym (ap (λ b. not b || differs path) none)
  due_is path (Some held) unit = holds path held.grounds unit.rested ∙ sym (ap (λ b. not b || differs path) unit.is)

  unit_if : (gone : Bool) (path : List ℕ) (held : HeldUnit) → are_gone prior now c' path held.grounds ≡ gone → WasUnit t c (list_any (bytes_eq path) (units t c)) path held →
      cond gone (known_unit now c' path) held.unit ≡ known_unit now c' path
  unit_if true path held is unit = refl
  unit_if false path held is unit = unit.meant ∙ ap (known_as path) (sym (stays path (sym (due_is path (Some held) unit) ∙ is)))

  unit_is : (path : List ℕ) (held : Option HeldUnit) → was path held → unit_by held prior now c' path ≡ known_unit now c' path
  unit_is path None none = refl
  unit_is path (Some held) unit = unit_if (are_gone prior now c' path held.grounds) path held refl unit

  kept_rests : (path : List ℕ) (held : HeldUnit) (grounds : Grounds) → WasUnit t c (list_any (bytes_eq path) (units t c)) path held → are_gone prior now c' path held.grounds ≡ false → grounds ≡ held.grounds →
      IsGrounds now c' path grounds
  kept_rests path held grounds unit stay same =
      subst (IsGrounds now c' path) (sym same) (rests path (sym (due_is path (Some held) unit) ∙ stay) held.grounds unit.rested)

  rests_is : (path : List ℕ) (held : Option HeldUnit) (grounds : Grounds) → was path held → RestsOn held prior now c' path grounds → IsGrounds now c' path grounds
  rests_is path held grounds unit (OnNow is) = is
  rests_is path held grounds unit (OnKept kept is stay same) = kept_rests path kept grounds (subst (λ o. WasHeld t c (list_any (bytes_eq path) (units t c)) path o) is unit) stay same

  -- ---- all units

  module _ (held : List ℕ → Option HeldUnit) (were : (path : List ℕ) → was path (held path)) where
    rest_are : (ps : List (List ℕ)) (gs : List Grounds) → RestOn held prior now c' ps gs → AreGrounds now c' ps gs
    rest_are [] [] rest = tt
    rest_are [] (g ∷ gs) rest = absurd rest
    rest_are (p ∷ ps) [] rest = absurd rest
    rest_are (p ∷ ps) (g ∷ gs) rest = (rests_is p (held p) g (were p) rest.0, rest_are ps gs rest.1)

    pub grounds_are : (paths : List (List ℕ)) (gs : List Grounds) → paths ≡ units now c' → RestOn held prior now c' paths gs → AreGrounds now c' (units now c') gs
    grounds_are paths gs are rest = subst (λ ps. AreGrounds now c' ps gs) are (rest_are paths gs rest)

    pub units_are : (paths : List (List ℕ)) → paths ≡ units now c' → map (unit_at held prior now c') paths ≡ known now c'
    unfolding known
    units_are paths are = λ i. map (λ path. unit_is path (held path) (were path) i) (are i)

    pub due_are : (paths : List (List ℕ)) → paths ≡ units now c' → filter (due_at held prior now c') paths ≡ renewed t c now c'
    unfolding renewed
    due_are paths are = λ i. filter (λ path. due_is path (held path) (were path) i) (are i)

-- ---- what files show

-- by what is known of all units
pub shown_now : (now : Texts) (c : Conf) (us : List Known) (path : List ℕ) → us ≡ known now c → shown_by now (own_faults us ++ cross_faults us) (all_reads us) path ≡ shown now c path
unfolding shown known
shown_now now c us path are =
    ap (λ xs. shown_by now (own_faults xs ++ cross_faults xs) (all_reads xs) path) are
    ∙ (λ i. shown_by now (flat_map-map (λ (u : Known). u.meaning.faults) (known_unit now c) (units now c) i ++ cross_faults (known now c)) (flat_map-map (λ (u : Known). u.reads) (known_unit now c) (units now c) i) path)

-- what was made over the same texts
pub rest_as : (held : List ℕ → Option HeldUnit) (p p' : Prior) (t t' : Texts) (c c' : Conf) (paths : List (List ℕ)) (gs : List Grounds) → p ≡ p' → t ≡ t' → c ≡ c' → RestOn held p t c paths gs → RestOn held p' t' c' paths gs
rest_as held p p' t t' c c' paths gs priors texts confs rest =
    subst (λ x. RestOn held p' t' x paths gs) confs (subst (λ x. RestOn held p' x c paths gs) texts (subst (λ x. RestOn held x t c paths gs) priors rest))

-- all of it
pub stands : (lexings now : Texts) (c : Conf) (a : Analysis) (us : List Known) (gs : List Grounds) → lexings ≡ now → a.units.items ≡ us → a.grounds.items ≡ gs → us ≡ known now c →
    AreGrounds now c (units now c) gs →
    ((path : List ℕ) → shown_in a.shown path ≡ shown_by lexings (own_faults us ++ cross_faults us) (all_reads us) path) →
    ((path : List ℕ) → AreWithin (length (text_in lexings path)) (shown_in a.shown path)) → HasLexed lexings a → a.across.items ≡ crossed us → IsAnalysis now c a
stands lexings now c a us gs same are_units are_grounds all rest right within lexed across = record {
  shown = record {
    right = λ path. right path ∙ ap (λ t. shown_by t (own_faults us ++ cross_faults us) (all_reads us) path) same ∙ shown_now now c us path all;
    within = λ path. subst (λ t. AreWithin (length (text_in t path)) (shown_in a.shown path)) same (within path);
  };
  grounds = subst (AreGrounds now c (units now c)) (sym are_grounds) rest;
  units = are_units ∙ all;
  lexed = subst (λ t. HasLexed t a) same lexed;
  across = across ∙ ap crossed all;
}
