-- What definitions have to be for a unit to begin with them.
use Rattle.std.specs.Prelude.{◌≡◌, ℕ, ◌+◌, ◌≤◌, true, List, length, All, sum_by}
use Rattle.c_tokens.specs.Languages.{is_identifier}
use Rattle.project_conf.specs.declared.options.Define.{Define}
use Rattle.project_conf.specs.declared.options.Define.TheVariants.{Set, Unset}

abbrev pub name_of : Define → List ℕ
name_of (Set name text) = name
name_of (Unset name) = name

-- the bytes of its name and its text
abbrev pub size_of : Define → ℕ
size_of (Set name text) = length name + length text
size_of (Unset name) = length name

-- Their names are identifiers (ISO C11 6.4.2.1), and names and texts have together so many bytes at most.
pub record AreUsable (most : ℕ) (defines : List Define) : Type 0 where
  pub names : All (λ d. is_identifier (name_of d) ≡ true) defines
  pub size : sum_by size_of defines ≤ most
