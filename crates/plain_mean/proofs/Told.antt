-- What a unit is told: an answer to each question that it asked so far, in the order of asking.
use Rattle.std.proofs.Common.{◌≡◌, refl, sym, ap, ◌∙◌, subst, T, Bool, true, false, if◌then◌else◌, bytes_eq, is_some, unwrap_or, ℕ, List, [], ◌∷◌, ◌++◌, append_assoc, append-nil, map, Option, None, Some}
use Rattle.std.proofs.lemmas.List.{map-append}
use Rattle.std.proofs.lemmas.Slice.Eq.{bytes_eq-Decides}
use Rattle.tok_data.specs.declared.tokens.PpToken.{PpToken}
use Rattle.c_tokens.specs.declared.types.Places.{Places}
use Rattle.c_tokens.specs.Lexed.{lexed}
use Rattle.project_conf.specs.declared.conf.UnitConf.{UnitConf}
use Rattle.doc_texts.specs.Texts.{Texts, text_at}
use Rattle.asking.specs.Asking.{IsLawful}
use Rattle.asking.specs.Laws.{AreEntriesOf, EntriesTell, GoesOn, IsEntryOf, LookedInOrder}
use Rattle.asking.specs.LookUps.{Ends, Needs, asked, look_up, run_by}
use Rattle.include_units.specs.declared.types.FileAnswer.{FileAnswer}
use Rattle.include_units.specs.declared.types.FileAnswer.TheVariants.{Absent, There, Tokens}
use Rattle.include_units.specs.declared.types.FileAnswer.TheVariants as told
use Rattle.include_units.specs.declared.types.UnitTokens.{UnitTokens}
use Rattle.include_units.specs.declared.types.Want.{Want}
use Rattle.include_units.specs.Coming.{question}
use Rattle.include_units.specs.Files.{Question, Exists, Text, Lines, Answer, files, held_by, tokens_by, places_by, reads, same}
use Rattle.include_units.specs.Runs.{own_places}
use Rattle.include_units.specs.Units.{unit_tokens}
use Rattle.plain_mean.specs.Given.{HasTold, given, text_in, tokens_over}

-- ---- what one answer says

some_is : {X : Type 0} (x a : X) → Some x ≡ Some a → a ≡ x
some_is x a h = ap (λ o. unwrap_or o x) (sym h)

none_some : {X Y : Type 0} (x : X) → None ≡ Some x → Y
none_some x e = absurd (subst (λ o. T (is_some o)) (sym e) tt)

read_by : {X : Type 0} (b : Bool) (o : Option X) (a : X) → (if b then o else None) ≡ Some a → (b ≡ true) × (o ≡ Some a)
read_by true o a e = (refl, e)
read_by false o a e = none_some a e

says_by : (texts : Texts) (path : List ℕ) (answer : FileAnswer) →
    ((a : Bool) → held_by answer ≡ Some a → a ≡ given texts (Exists path)) →
    ((a : List PpToken) → tokens_by answer ≡ Some a → a ≡ given texts (Text path)) →
    ((a : Places) → places_by answer ≡ Some a → a ≡ given texts (Lines path)) →
    (q : Question) (a : Answer q) → reads q (path, answer) ≡ Some a → a ≡ given texts q
says_by texts path answer f g h (Exists p) a e =
    let r = read_by (bytes_eq p path) (held_by answer) a e in
    subst (λ x. a ≡ given texts (Exists x)) (sym ((bytes_eq-Decides p path).0 r.0)) (f a r.1)
says_by texts path answer f g h (Text p) a e =
    let r = read_by (bytes_eq p path) (tokens_by answer) a e in
    subst (λ x. a ≡ given texts (Text x)) (sym ((bytes_eq-Decides p path).0 r.0)) (g a r.1)
says_by texts path answer f g h (Lines p) a e =
    let r = read_by (bytes_eq p path) (places_by answer) a e in
    subst (λ x. a ≡ given texts (Lines x)) (sym ((bytes_eq-Decides p path).0 r.0)) (h a r.1)

some_if : {X : Type 0} (b : Bool) (x : X) → is_some (if b then Some x else None) ≡ b
some_if true x = refl
some_if false x = refl

none_if : {X : Type 0} (b : Bool) (o : Option X) → o ≡ None → is_some (if b then o else None) ≡ false
none_if true o e = ap is_some e
none_if false o e = refl

there_answers : (path : List ℕ) (p : Question) → is_some (reads p (path, There)) ≡ same p (Exists path)
there_answers path (Exists p) = some_if (bytes_eq p path) true
there_answers path (Text p) = none_if (bytes_eq p path) (tokens_by There) refl
there_answers path (Lines p) = none_if (bytes_eq p path) (places_by There) refl

absent_answers : (path : List ℕ) (p : Question) → is_some (reads p (path, Absent)) ≡ same p (Exists path)
absent_answers path (Exists p) = some_if (bytes_eq p path) false
absent_answers path (Text p) = none_if (bytes_eq p path) (tokens_by Absent) refl
absent_answers path (Lines p) = none_if (bytes_eq p path) (places_by Absent) refl

tokens_answer : (path : List ℕ) (ts : List PpToken) (p : Question) → is_some (reads p (path, Tokens ts)) ≡ same p (Text path)
tokens_answer path ts (Exists p) = none_if (bytes_eq p path) (held_by (Tokens ts)) refl
tokens_answer path ts (Text p) = some_if (bytes_eq p path) ts
tokens_answer path ts (Lines p) = none_if (bytes_eq p path) (places_by (Tokens ts)) refl

lines_answer : (path : List ℕ) (places : Places) (p : Question) → is_some (reads p (path, told.Lines places)) ≡ same p (Lines path)
lines_answer path places (Exists p) = none_if (bytes_eq p path) (held_by (told.Lines places)) refl
lines_answer path places (Text p) = none_if (bytes_eq p path) (tokens_by (told.Lines places)) refl
lines_answer path places (Lines p) = some_if (bytes_eq p path) places

module _ (texts : Texts) (path : List ℕ) where
  pub there_entry : (text : List ℕ) → Some text ≡ text_at texts path → IsEntryOf files (given texts) (Exists path) (path, There)
  there_entry text t = record {
    answers = there_answers path;
    tells = says_by texts path There (λ a e. some_is true a e ∙ ap is_some t) (λ a e. none_some a e) (λ a e. none_some a e);
  }

  pub absent_entry : None ≡ text_at texts path → IsEntryOf files (given texts) (Exists path) (path, Absent)
  absent_entry t = record {
    answers = absent_answers path;
    tells = says_by texts path Absent (λ a e. some_is false a e ∙ ap is_some t) (λ a e. none_some a e) (λ a e. none_some a e);
  }

  pub tokens_entry : (ts : List PpToken) → ts ≡ (lexed (text_in texts path)).tokens → IsEntryOf files (given texts) (Text path) (path, Tokens ts)
  tokens_entry ts t = record {
    answers = tokens_answer path ts;
    tells = says_by texts path (Tokens ts) (λ a e. none_some a e) (λ a e. some_is ts a e ∙ t) (λ a e. none_some a e);
  }

  pub lines_entry : (places : Places) → places ≡ own_places (text_in texts path) → IsEntryOf files (given texts) (Lines path) (path, told.Lines places)
  lines_entry places t = record {
    answers = lines_answer path places;
    tells = says_by texts path (told.Lines places) (λ a e. none_some a e) (λ a e. none_some a e) (λ a e. some_is places a e ∙ t);
  }

-- ---- answers one behind the other

module _ (texts : Texts) where
  entries_join : (qs rs : List Question) (es fs : List (List ℕ × FileAnswer)) → AreEntriesOf files (given texts) qs es → AreEntriesOf files (given texts) rs fs →
      AreEntriesOf files (given texts) (qs ++ rs) (es ++ fs)
  entries_join [] rs [] fs h k = k
  entries_join [] rs (e ∷ es) fs h k = absurd h
  entries_join (q ∷ qs) rs [] fs h k = absurd h
  entries_join (q ∷ qs) rs (e ∷ es) fs h k = (h.0, entries_join qs rs es fs h.1 k)

  pub told_one : (old now : List (List ℕ × FileAnswer)) (q : Question) (p path : List ℕ) (answer : FileAnswer) → IsEntryOf files (given texts) q (p, answer) → path ≡ p →
      now ≡ old ++ (path, answer) ∷ [] → HasTold texts old now (q ∷ [])
  told_one old now q p path answer is same grown =
      record { more = (path, answer) ∷ []; grown = grown; told = (subst (λ x. IsEntryOf files (given texts) q (x, answer)) (sym same) is, tt) }

  told_join : (a b c : List (List ℕ × FileAnswer)) (qs rs : List Question) → HasTold texts a b qs → HasTold texts b c rs → HasTold texts a c (qs ++ rs)
  told_join a b c qs rs h k = record {
    more = h.more ++ k.more;
    grown = k.grown ∙ ap (λ x. x ++ k.more) h.grown ∙ append_assoc a h.more k.more;
    told = entries_join qs rs h.more k.more h.told k.told;
  }

-- of all that is wanted, the front was told
pub record IsTelling (texts : Texts) (old now : List (List ℕ × FileAnswer)) (all rest : List Want) : Type 0 where
  pub done : List Question
  pub told : HasTold texts old now done
  pub whole : map question all ≡ done ++ map question rest

pub telling_begins : (texts : Texts) (old : List (List ℕ × FileAnswer)) (all : List Want) → IsTelling texts old old all all
telling_begins texts old all = record { done = []; told = record { more = []; grown = sym (append-nil old); told = tt }; whole = refl }

pub telling_turns : (texts texts' : Texts) (old now now' : List (List ℕ × FileAnswer)) (all rest behind : List Want) (want : Want) →
    IsTelling texts old now all rest → rest ≡ want ∷ behind → texts' ≡ texts → HasTold texts' now now' (question want ∷ []) → IsTelling texts old now' all behind
telling_turns texts texts' old now now' all rest behind want is first same more = record {
  done = is.done ++ question want ∷ [];
  told = told_join texts old now now' is.done (question want ∷ []) is.told (subst (λ t. HasTold t now now' (question want ∷ [])) same more);
  whole = is.whole ∙ ap (λ r. is.done ++ map question r) first ∙ sym (append_assoc is.done (question want ∷ []) (map question behind));
}

pub telling_ends : (texts : Texts) (old now : List (List ℕ × FileAnswer)) (all rest : List Want) → IsTelling texts old now all rest → rest ≡ [] →
    HasTold texts old now (map question all)
telling_ends texts old now all rest is none =
    subst (HasTold texts old now) (sym (is.whole ∙ ap (λ r. is.done ++ map question r) none ∙ append-nil is.done)) is.told

-- ---- the questions of a unit

-- the unit was told an answer to each question that it asked so far, and these are the first of all
pub record IsAsking (texts : Texts) (conf : UnitConf) (wants : List Want) (answers : List (List ℕ × FileAnswer)) : Type 0 where
  pub told : AreEntriesOf files (given texts) (map question wants) answers
  pub left : List Question
  pub order : asked (given texts) (unit_tokens conf) ≡ map question wants ++ left

pub asking_begins : (texts : Texts) (conf : UnitConf) (wants : List Want) (answers : List (List ℕ × FileAnswer)) → wants ≡ [] → answers ≡ [] → IsAsking texts conf wants answers
asking_begins texts conf wants answers none untold =
    subst (λ w. IsAsking texts conf w answers) (sym none)
    (subst (λ a. IsAsking texts conf [] a) (sym untold) (record { told = tt; left = asked (given texts) (unit_tokens conf); order = refl }))

module _ (lawful : IsLawful files) (in_order : LookedInOrder files UnitTokens) (tell : EntriesTell files)
    (texts : Texts) (conf : UnitConf) (wants : List Want) (answers : List (List ℕ × FileAnswer)) (is : IsAsking texts conf wants answers) where
  goes : GoesOn {kind = files} is.left (tokens_over texts conf) (run_by (look_up files answers) (unit_tokens conf))
  goes =
      let both = tell (given texts) (map question wants) answers is.told in
      in_order lawful (given texts) (look_up files answers) (unit_tokens conf) (map question wants) is.left both.0 both.1 is.order

  pub asking_turns : (more wants' : List Want) (answers' : List (List ℕ × FileAnswer)) → run_by (look_up files answers) (unit_tokens conf) ≡ Needs (map question more) →
      HasTold texts answers answers' (map question more) → wants' ≡ wants ++ more → IsAsking texts conf wants' answers'
  asking_turns more wants' answers' run told grown =
      let next : GoesOn {kind = files} is.left (tokens_over texts conf) (Needs (map question more)) = subst (GoesOn {kind = files} is.left (tokens_over texts conf)) run goes in
      let all : map question wants' ≡ map question wants ++ map question more = ap (map question) grown ∙ map-append question wants more in
      record {
        told =
            subst (λ a. AreEntriesOf files (given texts) (map question wants') a) (sym told.grown)
            (subst (λ qs. AreEntriesOf files (given texts) qs (answers ++ told.more)) (sym all)
            (entries_join texts (map question wants) (map question more) answers told.more is.told told.told));
        left = next.1.0;
        order =
            is.order ∙ ap (λ l. map question wants ++ l) next.1.1 ∙ sym (append_assoc (map question wants) (map question more) next.1.0)
            ∙ ap (λ qs. qs ++ next.1.0) (sym all);
      }

  pub asking_ends : (tokens : UnitTokens) → run_by (look_up files answers) (unit_tokens conf) ≡ Ends tokens →
      (tokens ≡ tokens_over texts conf) × (map question wants ≡ asked (given texts) (unit_tokens conf))
  asking_ends tokens run =
      let last : GoesOn {kind = files} is.left (tokens_over texts conf) (Ends tokens) = subst (GoesOn {kind = files} is.left (tokens_over texts conf)) run goes in
      (last.1, sym (is.order ∙ ap (λ l. map question wants ++ l) last.0 ∙ append-nil (map question wants)))
