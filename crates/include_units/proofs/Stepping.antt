-- Steps of a unit over the texts that are entered.
use Rattle.std.proofs.Common.{◌≡◌, sym, ap, ◌∙◌, subst, ℕ, List, [], ◌∷◌, map, Option, None, Some}
use Rattle.tok_data.specs.declared.tokens.PpToken.{PpToken}
use Rattle.asking.specs.Asking.{Gives, and_then}
use Rattle.asking.specs.LookUps.{Looked, Ends, Needs, look_up, run_by}
use Rattle.project_conf.specs.declared.conf.UnitConf.{UnitConf}
use Rattle.project_conf.specs.declared.options.Define.{Define}
use Rattle.include_units.specs.declared.types.FileAnswer.{FileAnswer}
use Rattle.include_units.specs.declared.types.UnitTokens.{UnitTokens}
use Rattle.include_units.specs.declared.types.Want.{Want}
use Rattle.include_units.specs.declared.stop.Stop.TheVariants.{Need}
use Rattle.include_units.specs.declared.reading.Place.{Place}
use Rattle.include_units.specs.declared.reading.Frame.{Frame}
use Rattle.include_units.specs.declared.reading.Hand.{Hand}
use Rattle.include_units.specs.declared.reading.Hand.TheVariants.{Empty}
use Rattle.include_units.specs.declared.reading.Moved.{Moved}
use Rattle.include_units.specs.declared.reading.Moved.TheVariants as moved
use Rattle.include_units.specs.declared.stack.Reading.{Reading}
use Rattle.include_units.specs.Coming.{question, Stops}
use Rattle.include_units.specs.Cursors.{Ahead}
use Rattle.include_units.specs.Files.{files}
use Rattle.include_units.specs.Texts.{Text, Own}
use Rattle.include_units.specs.Own.{own_tokens}
use Rattle.include_units.specs.Made.{Made}
use Rattle.include_units.specs.Conditionals.{Open}
use Rattle.include_units.specs.Definitions.{command}
use Rattle.include_units.specs.Units.{command_of, file_of, tokens_of, text_tokens, greatest_depth, read_text, at_first, told, unit_tokens}
use Rattle.include_units.specs.Left.{IsMoved, frame_left, later_left, stack_left}
use Rattle.include_units.specs.Stack.{reading_left, rest_by, IsStopped, IsRead}
use Rattle.include_units.proofs.Moving.{stack_on, stack_waits, stack_enters, stack_ends, later_goes, later_waits, is_read, unit_done, unit_waits}

abbrev frame : Place → Ahead → List Open → Hand → Frame
frame p r os h = record { place = p; rest = r; opens = os; hand = h }

abbrev ended : UnitTokens → Looked files UnitTokens
ended tokens = Ends tokens

abbrev needing : List Want → Looked files UnitTokens
needing wants = Needs (map question wants)

-- a step in the innermost text
module _ (answers : List (List ℕ × FileAnswer)) (folders : List (List ℕ)) (fs fs' : List Frame) (later : Option Text) (f : Frame) (m n : Made) (r : Ahead) (os : List Open) (came : Moved)
    (step : IsMoved answers folders f.place (frame_left folders f m) r os n came) where
  moved_by : (other : Moved) → came ≡ other → IsMoved answers folders f.place (frame_left folders f m) r os n other
  moved_by other e = subst (λ x. IsMoved answers folders f.place (frame_left folders f m) r os n x) e step

  pub step_on : (h : Hand) → came ≡ moved.On h → fs' ≡ frame f.place r os h ∷ fs →
      rest_by answers (stack_left folders (f ∷ fs) later m) ≡ rest_by answers (stack_left folders fs' later n)
  step_on h e p =
      stack_on answers folders fs later (frame_left folders f m) (frame f.place r os h) n (moved_by (moved.On h) e)
      ∙ ap (λ gs. rest_by answers (stack_left folders gs later n)) (sym p)

  pub step_waits : (h : Hand) (want : Want) → came ≡ moved.Stops h want → fs' ≡ frame f.place r os h ∷ fs →
      (rest_by answers (stack_left folders (f ∷ fs) later m) ≡ rest_by answers (stack_left folders fs' later n))
      × (run_by (look_up files answers) (stack_left folders fs' later n) ≡ Needs (question want ∷ []))
  step_waits h want e p =
      let s : IsMoved answers folders f.place (frame_left folders f m) r os n (moved.Stops h want) = moved_by (moved.Stops h want) e in (
        stack_on answers folders fs later (frame_left folders f m) (frame f.place r os h) n s.0
            ∙ ap (λ gs. rest_by answers (stack_left folders gs later n)) (sym p),
        ap (λ gs. run_by (look_up files answers) (stack_left folders gs later n)) p
            ∙ stack_waits answers folders fs later (frame f.place r os h) n want s.1,
      )

  pub step_enters : (inner : Frame) (gs : List Frame) → came ≡ moved.Enters inner → gs ≡ frame f.place r os Empty ∷ fs → fs' ≡ inner ∷ gs →
      rest_by answers (stack_left folders (f ∷ fs) later m) ≡ rest_by answers (stack_left folders fs' later n)
  step_enters inner gs e p q =
      stack_enters answers folders fs later (frame_left folders f m) (frame f.place r os Empty) inner n (moved_by (moved.Enters inner) e)
      ∙ ap (λ hs. rest_by answers (stack_left folders hs later n)) (sym (q ∙ ap (λ hs. inner ∷ hs) p))

  pub step_ends : came ≡ moved.Ends →
      rest_by answers (stack_left folders (f ∷ fs) later m) ≡ rest_by answers (stack_left folders fs later n)
  step_ends e = stack_ends answers folders fs later (frame_left folders f m) n (moved_by moved.Ends e)

-- a step where no text is entered
module _ (answers : List (List ℕ × FileAnswer)) (folders : List (List ℕ)) (r : Reading) (none : r.frames ≡ []) where
  here : (later : Option Text) → r.later ≡ later → reading_left folders r ≡ later_left folders later r.made
  here later e =
      ap (λ fs. stack_left folders fs r.later r.made) none ∙ ap (λ o. later_left folders o r.made) e

  pub out_goes : (text : Text) (ts : List PpToken) (f : Frame) (fs : List Frame) (later : Option Text) → r.later ≡ Some text → later ≡ None →
      run_by (look_up files answers) (tokens_of text.source) ≡ Ends ts → frame_left folders f r.made ≡ text_tokens folders greatest_depth text ts r.made → fs ≡ f ∷ r.frames →
      rest_by answers (reading_left folders r) ≡ rest_by answers (stack_left folders fs later r.made)
  out_goes text ts f fs later e l h g p =
      ap (rest_by answers) (here (Some text) e) ∙ later_goes answers folders text ts f r.made h g
      ∙ ap (λ gs. rest_by answers (stack_left folders gs None r.made)) (sym (p ∙ ap (λ gs. f ∷ gs) none))
      ∙ ap (λ o. rest_by answers (stack_left folders fs o r.made)) (sym l)

  pub out_waits : (text : Text) (want : Want) → r.later ≡ Some text → Stops answers (tokens_of text.source) (Need want) →
      (rest_by answers (reading_left folders r) ≡ rest_by answers (stack_left folders r.frames (Some text) r.made))
      × (run_by (look_up files answers) (stack_left folders r.frames (Some text) r.made) ≡ Needs (question want ∷ []))
  out_waits text want e h = (
    ap (λ o. rest_by answers (stack_left folders r.frames o r.made)) e,
    ap (λ fs. run_by (look_up files answers) (stack_left folders fs (Some text) r.made)) none ∙ later_waits answers folders text r.made want h,
  )

  pub out_ends : r.later ≡ None → rest_by answers (reading_left folders r) ≡ Gives (told r.made)
  out_ends e = ap (rest_by answers) (here None e)

-- `<command>` from its front on
pub command_begins : (folders : List (List ℕ)) (depth : ℕ) (name own text : List ℕ) (ts : List PpToken) (f : Frame) (m : Made) →
    name ≡ command → own ≡ text → ts ≡ own_tokens own →
    frame_left folders f m ≡ text_tokens folders depth (record { name = name; source = Own own }) ts m →
    frame_left folders f m ≡ text_tokens folders depth (record { name = command; source = Own text }) (own_tokens text) m
command_begins folders depth name own text ts f m e o t h =
    h ∙ ap (λ x. text_tokens folders depth (record { name = x; source = Own own }) ts m) e
    ∙ ap (λ us. text_tokens folders depth (record { name = command; source = Own own }) us m) t
    ∙ ap (λ x. text_tokens folders depth (record { name = command; source = Own x }) (own_tokens x) m) o

-- a unit from its front on
pub unit_begins : (conf : UnitConf) (defines : List Define) (f : Frame) (file : Text) (made : Made) (fs : List Frame) → defines ≡ conf.defines →
    ((folders : List (List ℕ)) (m : Made) → frame_left folders f m ≡ read_text folders (command_of defines) m) →
    file ≡ file_of conf.file → made ≡ at_first conf.file → fs ≡ f ∷ [] →
    stack_left conf.includes fs (Some file) made ≡ unit_tokens conf
unit_begins conf defines f file made fs d h e g p =
    ap (λ gs. stack_left conf.includes gs (Some file) made) p
    ∙ ap (λ t. stack_left conf.includes (f ∷ []) (Some t) made) e
    ∙ ap (λ m. stack_left conf.includes (f ∷ []) (Some (file_of conf.file)) m) g
    ∙ ap (λ a. and_then a (λ n. later_left conf.includes (Some (file_of conf.file)) n)) (h conf.includes (at_first conf.file) ∙ ap (λ ds. read_text conf.includes (command_of ds) (at_first conf.file)) d)

-- what a unit comes to
module _ (answers : List (List ℕ × FileAnswer)) (conf : UnitConf) (folders : List (List ℕ)) (before after : Reading) (came : Option Want) (same : folders ≡ conf.includes)
    (read : rest_by answers (reading_left conf.includes before) ≡ rest_by answers (unit_tokens conf))
    (stopped : IsStopped answers folders (reading_left folders before) after came) where
  stopped_by : (want : Option Want) → came ≡ want → IsStopped answers conf.includes (reading_left conf.includes before) after want
  stopped_by want e =
      subst (λ o. IsStopped answers conf.includes (reading_left conf.includes before) after o) e
      (subst (λ fs. IsStopped answers fs (reading_left fs before) after came) same stopped)

  pub comes_done : (tokens : UnitTokens) → came ≡ None → tokens ≡ told after.made → run_by (look_up files answers) (unit_tokens conf) ≡ Ends tokens
  comes_done tokens e t =
      unit_done answers conf (reading_left conf.includes before) (told after.made) read (stopped_by None e) ∙ ap ended (sym t)

  pub comes_waits : (want : Want) (wants : List Want) → came ≡ Some want → wants ≡ want ∷ [] → run_by (look_up files answers) (unit_tokens conf) ≡ Needs (map question wants)
  comes_waits want wants e w =
      let s : IsStopped answers conf.includes (reading_left conf.includes before) after (Some want) = stopped_by (Some want) e in
      unit_waits answers conf (reading_left conf.includes before) after (question want ∷ []) read s.0 s.1
      ∙ ap needing (sym w)

  pub comes_read : (want : Want) → came ≡ Some want → IsRead conf answers (Some after)
  comes_read want e =
      let s : IsStopped answers conf.includes (reading_left conf.includes before) after (Some want) = stopped_by (Some want) e in
      is_read conf answers after (sym s.0 ∙ read)
