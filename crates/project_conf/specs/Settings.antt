-- What the arguments of a compiler say of folders and definitions: `-I`, `-iquote`, `-isystem` give a folder, `-D` and `-U` a
-- definition, each joined or with the next word; all else is skipped.
use Rattle.std.specs.Prelude.{ℕ, ◌==◌, List, [], ◌∷◌, length, drop, nat_eq, nat_lt, codes, flat_map, Option, Some, None, if◌then◌else◌}
use Rattle.std.specs.List.{starts_with, position_or_len, before_first, after_first}
use Rattle.uri_paths.specs.Paths.{within}
use Rattle.c_tokens.specs.Languages.{is_identifier}
use Rattle.project_conf.specs.declared.options.Define.{Define}
use Rattle.project_conf.specs.declared.options.Define.TheVariants as define
use Rattle.project_conf.specs.declared.settings.Gives.{Gives}
use Rattle.project_conf.specs.declared.settings.Gives.TheVariants.{Folder, Set, Unset}

-- one option with its text
pub record Setting : Type 0 where
  pub gives : Gives
  pub text : List ℕ

abbrev pub setting : Gives → List ℕ → Setting
setting gives text = record { gives = gives; text = text }

abbrev pub option_or_else : Option Setting → Option Setting → Option Setting
option_or_else None other = other
option_or_else (Some s) other = Some s

-- the word is the option with what is joined to it
abbrev pub joined : Gives → List ℕ → List ℕ → Option Setting
joined gives option word = if starts_with nat_eq word option then Some (setting gives (drop (length option) word)) else None

-- no option is a front of another one
unfoldable pub setting_in : List ℕ → Option Setting
setting_in word =
    option_or_else (joined Folder (codes "-I") word)
    (option_or_else (joined Folder (codes "-iquote") word)
    (option_or_else (joined Folder (codes "-isystem") word)
    (option_or_else (joined Set (codes "-D") word)
    (joined Unset (codes "-U") word))))

-- an option with nothing joined waits for the next word
abbrev pub by_setting : Option Setting → (Option Gives → List Setting) → List Setting
by_setting None from = from None
by_setting (Some s) from = if length s.text == 0 then from (Some s.gives) else s ∷ from None

-- the settings of some words, behind an option that waits for its text, whatever that is, or behind none
unfoldable pub settings_from : Option Gives → List (List ℕ) → List Setting
settings_from waiting [] = []
settings_from (Some gives) (word ∷ words) = setting gives word ∷ settings_from None words
settings_from None (word ∷ words) = by_setting (setting_in word) (λ waiting. settings_from waiting words)

-- ---- folders

abbrev pub among : Option (List ℕ) → List (List ℕ)
among None = []
among (Some folder) = folder ∷ []

-- a folder that goes above `/` is skipped
abbrev pub folders_by : List ℕ → Gives → List ℕ → List (List ℕ)
folders_by directory Folder text = among (within directory text)
folders_by directory Set text = []
folders_by directory Unset text = []

abbrev pub folders_of : List ℕ → List Setting → List (List ℕ)
folders_of directory settings = flat_map (λ s. folders_by directory s.gives s.text) settings

-- ---- definitions

abbrev pub equals : ℕ
equals = 61

-- what stands before the first `=`, or all
abbrev pub name_in : List ℕ → List ℕ
name_in text = before_first (λ b. b == equals) text

-- what stands behind the first `=`, or `1`
abbrev pub text_in : List ℕ → List ℕ
text_in text = if nat_lt (position_or_len (λ b. b == equals) text) (length text) then after_first (λ b. b == equals) text else codes "1"

-- a definition whose name is no identifier (ISO C11 6.4.2.1) is skipped
abbrev pub defines_by : Gives → List ℕ → List Define
defines_by Folder text = []
defines_by Set text = if is_identifier (name_in text) then define.Set (name_in text) (text_in text) ∷ [] else []
defines_by Unset text = if is_identifier text then define.Unset text ∷ [] else []

abbrev pub defines_of : List Setting → List Define
defines_of settings = flat_map (λ s. defines_by s.gives s.text) settings

-- ---- what some words say

abbrev pub folders_said : List ℕ → List (List ℕ) → List (List ℕ)
folders_said directory words = folders_of directory (settings_from None words)

abbrev pub defines_said : List (List ℕ) → List Define
defines_said words = defines_of (settings_from None words)
