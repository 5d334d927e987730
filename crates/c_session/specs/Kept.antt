-- What is kept of all units of some texts.
use Rattle.std.specs.Prelude.{◌≡◌, ℕ, List, [], ◌∷◌, length}
use Rattle.doc_texts.specs.Texts.{Texts}
use Rattle.project_conf.specs.declared.conf.Conf.{Conf}
use Rattle.plain_mean.specs.Given.{text_in}
use Rattle.plain_mean.specs.Lexing as lexing
use Rattle.plain_mean.specs.Lists.{shown_in}
use Rattle.plain_mean.specs.Renewed.{IsGrounds}
use Rattle.plain_mean.specs.Shown.{units}
use Rattle.plain_mean.specs.Within.{AreWithin}
use Rattle.plain_mean.specs.declared.lists.ShownLists.{ShownLists}
use Rattle.plain_mean.specs.declared.types.Grounds.{Grounds}
use Rattle.unit_index.specs.Known.{Known}
use Rattle.c_session.specs.Shown.{shown}
use Rattle.c_session.specs.Units.{crossed, known}
use Rattle.c_session.specs.declared.analysis.Analysis.{Analysis}

abbrev pub units_in : Analysis → List Known
units_in kept = kept.units.items

-- what is kept of texts that were lexed is what lexing gives of these
abbrev pub HasLexed : Texts → Analysis → Type 0
HasLexed texts kept = lexing.HasLexed texts kept.lexings

-- The lists are those of all files, and lie within their texts.
pub record AreShown (texts : Texts) (conf : Conf) (lists : ShownLists) : Type 0 where
  pub right : (path : List ℕ) → shown_in lists path ≡ shown texts conf path
  pub within : (path : List ℕ) → AreWithin (length (text_in texts path)) (shown_in lists path)

-- on what the meanings of these units rest, one behind the other
abbrev pub AreGrounds : Texts → Conf → List (List ℕ) → List Grounds → Type 0
AreGrounds texts conf [] [] = Unit {0}
AreGrounds texts conf [] (g ∷ gs) = ⊥
AreGrounds texts conf (u ∷ us) [] = ⊥
AreGrounds texts conf (u ∷ us) (g ∷ gs) = IsGrounds texts conf u g × AreGrounds texts conf us gs

-- What is kept is what the texts come to, read so.
pub record IsAnalysis (texts : Texts) (conf : Conf) (kept : Analysis) : Type 0 where
  pub shown : AreShown texts conf kept.shown
  pub grounds : AreGrounds texts conf (units texts conf) kept.grounds.items
  pub units : units_in kept ≡ known texts conf
  pub lexed : HasLexed texts kept
  pub across : kept.across.items ≡ crossed (known texts conf)
