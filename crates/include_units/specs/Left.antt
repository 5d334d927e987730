-- What is left of a unit that is being read, by what the code holds of it.
use Rattle.std.specs.Prelude.{◌≡◌, ℕ, List, [], ◌∷◌, Option, None, Some}
use Rattle.asking.specs.Asking.{Gives, and_then}
use Rattle.asking.specs.LookUps.{Needs, look_up, run_by}
use Rattle.include_units.specs.declared.types.FileAnswer.{FileAnswer}
use Rattle.include_units.specs.declared.types.UnitTokens.{UnitTokens}
use Rattle.include_units.specs.declared.inclusion.Lead.TheVariants.{Into}
use Rattle.include_units.specs.declared.inclusion.Next.{Next}
use Rattle.include_units.specs.declared.reading.Place.{Place}
use Rattle.include_units.specs.declared.reading.Hand.{Hand}
use Rattle.include_units.specs.declared.reading.Hand.TheVariants.{Empty, Holds, Seeks, Enters}
use Rattle.include_units.specs.declared.reading.Frame.{Frame}
use Rattle.include_units.specs.declared.reading.Moved.{Moved}
use Rattle.include_units.specs.declared.reading.Moved.TheVariants as moved
use Rattle.include_units.specs.Coming.{question}
use Rattle.include_units.specs.Cursors.{Ahead}
use Rattle.include_units.specs.Files.{files, FromFiles}
use Rattle.include_units.specs.Texts.{Text, Part, parts_from}
use Rattle.include_units.specs.Made.{Made}
use Rattle.include_units.specs.Conditionals.{Open}
use Rattle.include_units.specs.Inclusion.{Led, led}
use Rattle.include_units.specs.Units.{Walked, within_group, enter, walk, reader_at, is_deep, read_text, told}
use Rattle.include_units.specs.Parted.{part_behind}
pub use Rattle.include_units.specs.Searches.{search_left, next_left}
use Rattle.include_units.specs.Rests.{rest_of}

abbrev pub walked_left : List Open → Next → Made → FromFiles Walked
walked_left os n m = and_then (next_left n m) (λ l. Gives (within_group os l))

-- of a text, from a part on
abbrev pub text_left : List (List ℕ) → Place → Ahead → List Open → Made → FromFiles Made
text_left folders p r os m = walk folders (reader_at folders p.depth) p.text (parts_from p.text.name r.at r.tokens) os m

abbrev pub behind_lead : List (List ℕ) → Place → Ahead → List Open → Led → FromFiles Made
behind_lead folders p r os l = and_then (enter (reader_at folders p.depth) l.lead l.made) (λ n. text_left folders p r os n)

abbrev pub behind_walked : List (List ℕ) → Place → Ahead → Walked → FromFiles Made
behind_walked folders p r w = and_then (enter (reader_at folders p.depth) w.lead w.made) (λ n. text_left folders p r w.open_ones n)

-- of a text of which something is in hand
abbrev pub hand_left : List (List ℕ) → Place → Ahead → List Open → Hand → Made → FromFiles Made
hand_left folders p r os Empty m = text_left folders p r os m
hand_left folders p r os (Holds part) m =
    and_then (part_behind folders (is_deep p.depth) p.text part os m) (λ w. behind_walked folders p r w)
hand_left folders p r os (Seeks s) m = and_then (search_left s m) (λ l. behind_lead folders p r os l)
hand_left folders p r os (Enters text by) m = behind_lead folders p r os (led (Into text by) m)

-- of the unit: of its own text, where that isn't entered, and of the texts that are entered, the innermost first
abbrev pub later_left : List (List ℕ) → Option Text → Made → FromFiles UnitTokens
later_left folders None m = Gives (told m)
later_left folders (Some text) m = and_then (read_text folders text m) (λ n. Gives (told n))

abbrev pub frame_left : List (List ℕ) → Frame → Made → FromFiles Made
frame_left folders f m = hand_left folders f.place f.rest f.opens f.hand m

abbrev pub stack_left : List (List ℕ) → List Frame → Option Text → Made → FromFiles UnitTokens
stack_left folders [] later m = later_left folders later m
stack_left folders (f ∷ fs) later m = and_then (frame_left folders f m) (λ n. stack_left folders fs later n)

-- ---- a step in a text

-- a part was taken in hand, or the text has ended
abbrev pub IsTaken : Place → Ahead → List Open → Made → Option Part → Ahead → Made → Type 0
IsTaken p r os m None r' m' = (folders : List (List ℕ)) → text_left folders p r os m ≡ Gives m'
IsTaken p r os m (Some part) r' m' = (folders : List (List ℕ)) → text_left folders p r os m ≡ hand_left folders p r' os (Holds part) m'

-- what is left of the text is the same behind the step, and where that stops it needs this
abbrev pub IsMoved : List (List ℕ × FileAnswer) → List (List ℕ) → Place → FromFiles Made → Ahead → List Open → Made → Moved → Type 0
IsMoved answers folders p before r os m (moved.On h) =
    rest_of (look_up files answers) before ≡ rest_of (look_up files answers) (hand_left folders p r os h m)
IsMoved answers folders p before r os m (moved.Stops h want) =
    (rest_of (look_up files answers) before ≡ rest_of (look_up files answers) (hand_left folders p r os h m))
    × (run_by (look_up files answers) (hand_left folders p r os h m) ≡ Needs (question want ∷ []))
IsMoved answers folders p before r os m (moved.Enters f) =
    rest_of (look_up files answers) before
    ≡ rest_of (look_up files answers) (and_then (frame_left folders f m) (λ n. text_left folders p r os n))
IsMoved answers folders p before r os m moved.Ends = rest_of (look_up files answers) before ≡ Gives m
