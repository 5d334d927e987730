-- What becomes of a unit that was kept: it stays as it is where its grounds hold, and else it is worked out again.
use Rattle.std.specs.Prelude.{◌≡◌, ◌&&◌, ℕ, Bool, true, false, List, [], ◌∷◌, ◌++◌, map, bytes_eq, Option, Some, None, if◌then◌else◌}
use Rattle.std.specs.BTreeMap.{get}
use Rattle.std.specs.Cmp.Lexicographic.{slice_cmp}
use Rattle.std.specs.List.{list_any}
use Rattle.std.specs.Ordering.{nat_cmp}
use Rattle.doc_texts.specs.Prior.{Prior}
use Rattle.doc_texts.specs.Texts.{Texts}
use Rattle.project_conf.specs.declared.conf.Conf.{Conf}
use Rattle.plain_mean.specs.Renewed.{IsGrounds, are_gone}
use Rattle.plain_mean.specs.declared.types.Grounds.{Grounds}
use Rattle.unit_index.specs.Known.{Known}
use Rattle.unit_index.specs.Crossing.{Sight, sight}
use Rattle.unit_index.specs.News.{AreNews}
use Rattle.unit_index.specs.declared.across.news.News.{News}
use Rattle.c_session.specs.Units.{exported, known_unit, sights}
use Rattle.c_session.specs.declared.held.Earlier.{Earlier}
use Rattle.c_session.specs.declared.held.Earlier.TheVariants.{Same, Other, Nothing}
use Rattle.c_session.specs.declared.held.HeldUnit.{HeldUnit}
use Rattle.c_session.specs.declared.held.Waiting.{Waiting}

-- ---- what was kept

abbrev pub held_as : Known → Grounds → HeldUnit
held_as unit grounds = record { unit = unit; grounds = grounds }

-- what waits at a path
abbrev pub held_at : Waiting → List ℕ → Option HeldUnit
held_at waiting path = get (slice_cmp nat_cmp) waiting.units path

-- what is kept of a path behind these units, with their grounds one behind the other
abbrev pub held_of : List Known → List Grounds → List ℕ → Option HeldUnit → Option HeldUnit
held_of [] gs path held = held
held_of (u ∷ us) [] path held = held
held_of (u ∷ us) (g ∷ gs) path held = held_of us gs path (if bytes_eq path u.path then Some (held_as u g) else held)

-- each path comes once
abbrev pub AreApart : List (List ℕ) → Type 0
AreApart [] = Unit {0}
AreApart (p ∷ ps) = (list_any (bytes_eq p) ps ≡ false) × AreApart ps

-- the units stand at these paths
abbrev pub stand_at : List Known → List (List ℕ) → Bool
stand_at [] [] = true
stand_at [] (p ∷ ps) = false
stand_at (u ∷ us) [] = false
stand_at (u ∷ us) (p ∷ ps) = bytes_eq u.path p && stand_at us ps

-- ---- what stands now

-- the unit has to be worked out
abbrev pub is_due : Option HeldUnit → Prior → Texts → Conf → List ℕ → Bool
is_due None prior now conf path = true
is_due (Some held) prior now conf path = are_gone prior now conf path held.grounds

-- what the unit means, by what was kept of it
abbrev pub unit_by : Option HeldUnit → Prior → Texts → Conf → List ℕ → Known
unit_by None prior now conf path = known_unit now conf path
unit_by (Some held) prior now conf path = if are_gone prior now conf path held.grounds then known_unit now conf path else held.unit

-- on what that rests: it was worked out over the texts now, or its grounds hold
pub data RestsOn (held : Option HeldUnit) (prior : Prior) (now : Texts) (conf : Conf) (path : List ℕ) (grounds : Grounds) : Type 0 where
  OnNow : IsGrounds now conf path grounds → RestsOn held prior now conf path grounds
  OnKept : (unit : HeldUnit) → held ≡ Some unit → are_gone prior now conf path unit.grounds ≡ false → grounds ≡ unit.grounds → RestsOn held prior now conf path grounds

-- the same for each unit of a list, by what is kept of each path
module _ (held : List ℕ → Option HeldUnit) (prior : Prior) (now : Texts) (conf : Conf) where
  abbrev pub due_at : List ℕ → Bool
  due_at path = is_due (held path) prior now conf path

  abbrev pub unit_at : List ℕ → Known
  unit_at path = unit_by (held path) prior now conf path

  abbrev pub RestOn : List (List ℕ) → List Grounds → Type 0
  RestOn [] [] = Unit {0}
  RestOn [] (g ∷ gs) = ⊥
  RestOn (p ∷ ps) [] = ⊥
  RestOn (p ∷ ps) (g ∷ gs) = RestsOn (held p) prior now conf p g × RestOn ps gs

-- ---- what the others saw of it

abbrev pub sight_of : Option HeldUnit → Option Sight
sight_of None = None
sight_of (Some held) = Some (sight (exported held.unit))

-- the same of what is known of a unit besides what it is now
abbrev pub seen_before : Earlier → Known → Option Sight
seen_before Same u = Some (sight (exported u))
seen_before (Other was) u = Some (sight (record { path = u.path; exports = was.meaning.exports }))
seen_before Nothing u = None

-- the news of a unit more, which was there before as all others
pub record HasMore (has_new : Bool) (before : News) (saw : Option Sight) (sees : Sight) (now : News) : Type 0 where
  pub old : has_new ≡ false
  pub was : Sight
  pub seen : saw ≡ Some was
  pub more : (ss ts : List Sight) → AreNews ss ts before → AreNews (ss ++ was ∷ []) (ts ++ sees ∷ []) now

-- all units were there before, and these are the news of them
pub record HaveNews (held : List ℕ → Option HeldUnit) (paths : List (List ℕ)) (us : List Known) (news : News) : Type 0 where
  pub saw : List Sight
  pub seen : map (λ p. sight_of (held p)) paths ≡ map Some saw
  pub are : AreNews saw (sights us) news
