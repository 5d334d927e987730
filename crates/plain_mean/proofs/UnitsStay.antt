-- Units that mean what they meant.
use Rattle.std.proofs.Common.{◌≡◌, ℕ, Bool, true, false, cond, not, ◌||◌, List, map, None, Some, unwrap_or, refl, sym, ap, ap₂, ◌∙◌}
use Rattle.std.specs.List.{list_any}
use Rattle.asking.specs.Asking.{IsLawful}
use Rattle.asking.specs.LookUps.{result_of, asked}
use Rattle.doc_texts.specs.Prior.{Prior, text_before}
use Rattle.doc_texts.specs.Texts.{Texts, text_at}
use Rattle.include_units.specs.Files.{Question, Exists, Text, Lines, files, same as same_question}
use Rattle.include_units.specs.Named.{tokens_named}
use Rattle.include_units.specs.Units.{unit_tokens}
use Rattle.project_conf.specs.declared.conf.Conf.{Conf}
use Rattle.project_conf.specs.Entries.{unit_conf}
use Rattle.plain_mean.specs.Given.{given, tokens_over}
use Rattle.plain_mean.specs.Meanings.{meaning, meaning_by, meant_by, meant_over}
use Rattle.plain_mean.specs.Renewed.{IsGrounds, are_gone, differs, has_other, has_other_by, is_renewed, path_of, questions}
use Rattle.plain_mean.specs.Same.{same_conf}
use Rattle.plain_mean.specs.Spelled.{mark, told_path, told_tokens}
use Rattle.plain_mean.specs.declared.types.Grounds.{Grounds}
use Rattle.plain_mean.proofs.AskedSame.{answer_stays as asked_stays, stays}
use Rattle.plain_mean.proofs.Sameness.{conf_is, no_other, not_false, said, says_same}

given_said : (t : Texts) (q : Question) → given t q ≡ said (text_at t (path_of q)) q
given_said t (Exists path) = refl
given_said t (Text path) = refl
given_said t (Lines path) = refl

either_false : (a b : Bool) → (a || b) ≡ false → (a ≡ false) × (b ≡ false)
either_false true b e = cc e
either_false false b e = (refl, e)

-- ---- answers

module _ (t t' : Texts) where
  pub answer_stays : (q : Question) → has_other t t' q ≡ false → given t' q ≡ given t q
  unfolding has_other
  answer_stays q e = given_said t' q ∙ says_same (text_at t (path_of q)) (text_at t' (path_of q)) q e ∙ sym (given_said t q)

  pub none_other : ((path : List ℕ) → text_at t' path ≡ text_at t path) → (q : Question) → has_other t t' q ≡ false
  unfolding has_other
  none_other same q = ap (λ text. differs (text_at t (path_of q)) text q) (same (path_of q)) ∙ no_other (text_at t (path_of q)) q

-- ---- units

module _ (lawful : IsLawful files) (t t' : Texts) (c c' : Conf) (unit : List ℕ) (same : is_renewed t c t' c' unit ≡ false) where
  parts : (not (same_conf (unit_conf c unit) (unit_conf c' unit)) ≡ false) × (list_any (has_other t t') (questions t c unit) ≡ false)
  parts = either_false _ _ (either_false _ _ same).1

  conf_stays : unit_conf c unit ≡ unit_conf c' unit
  conf_stays = (conf_is (unit_conf c unit) (unit_conf c' unit)).0 (not_false _ parts.0)

  runs : (result_of (given t') (unit_tokens (unit_conf c unit)) ≡ result_of (given t) (unit_tokens (unit_conf c unit)))
      × (asked (given t') (unit_tokens (unit_conf c unit)) ≡ asked (given t) (unit_tokens (unit_conf c unit)))
  unfolding questions
  runs = stays (given t) (given t') lawful (has_other t t') (answer_stays t t') (unit_tokens (unit_conf c unit)) parts.1

  -- a text that was asked for has the tokens that it had
  text_stays : (path : List ℕ) → list_any (same_question (Text path)) (questions t c unit) ≡ true → given t' (Text path) ≡ given t (Text path)
  unfolding questions
  text_stays path any = asked_stays (given t) (given t') lawful (has_other t t') (answer_stays t t') (unit_tokens (unit_conf c unit)) parts.1 (Text path) any

  told_by : (path : List ℕ) (b : Bool) → list_any (same_question (Text path)) (questions t c unit) ≡ b →
      told_tokens (given t') (cond b (Some path) None) ≡ told_tokens (given t) (cond b (Some path) None)
  told_by path true any = text_stays path any
  told_by path false any = refl

  told_stays : (path : List ℕ) → told_tokens (given t') (told_path (questions t c unit) path) ≡ told_tokens (given t) (told_path (questions t c unit) path)
  unfolding told_path
  told_stays path = told_by path (list_any (same_question (Text path)) (questions t c unit)) refl

  means_same : meaning_by (given t') (unit_conf c unit) ≡ meaning_by (given t) (unit_conf c unit)
  unfolding meaning_by questions
  means_same =
      (λ i. meant_over (given t') (unit_conf c unit) (runs.1 i) (runs.0 i))
      ∙ (λ i. meant_by
      (map (mark (λ name. unwrap_or (tokens_named (unit_conf c unit).defines name) (told_stays name i))) (tokens_over t (unit_conf c unit)).spelled)
      (tokens_over t (unit_conf c unit)))

  pub meaning_stays : meaning t' c' unit ≡ meaning t c unit
  unfolding meaning
  meaning_stays = ap (meaning_by (given t')) (sym conf_stays) ∙ means_same

  questions_stay : questions t' c' unit ≡ questions t c unit
  unfolding questions
  questions_stay = ap (λ conf. asked (given t') (unit_tokens conf)) (sym conf_stays) ∙ runs.1

  pub grounds_stay : (grounds : Grounds) → IsGrounds t c unit grounds → IsGrounds t' c' unit grounds
  grounds_stay grounds is = record { conf = is.conf ∙ conf_stays; asked = is.asked ∙ sym questions_stay }

-- ---- grounds

module _ (prior : Prior) (t now : Texts) (same : (path : List ℕ) → text_before prior now path ≡ text_at t path) where
  other_by : (q : Question) → has_other_by prior now q ≡ has_other t now q
  unfolding has_other has_other_by
  other_by q = ap (λ text. differs text (text_at now (path_of q)) q) (same (path_of q))

  pub gone_by : (c c' : Conf) (unit : List ℕ) (grounds : Grounds) → IsGrounds t c unit grounds →
      are_gone prior now c' unit grounds ≡ (not (same_conf (unit_conf c unit) (unit_conf c' unit)) || list_any (has_other t now) (questions t c unit))
  unfolding are_gone
  gone_by c c' unit grounds is =
      ap₂ (λ conf asked. not (same_conf conf (unit_conf c' unit)) || list_any (has_other_by prior now) asked) is.conf is.asked
      ∙ (λ i. not (same_conf (unit_conf c unit) (unit_conf c' unit)) || list_any (λ q. other_by q i) (questions t c unit))
