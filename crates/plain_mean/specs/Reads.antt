-- What is kept of the texts whose tokens were spelled, while a unit's marks are made.
use Rattle.std.specs.Prelude.{◌≡◌, ℕ, List, Option, Some}
use Rattle.std.specs.BTreeMap.{get}
use Rattle.std.specs.Cmp.Lexicographic.{slice_cmp}
use Rattle.std.specs.Ordering.{nat_cmp}
use Rattle.include_units.specs.Files.{Question}
use Rattle.plain_mean.specs.Spelled.{told_path}
use Rattle.plain_mean.specs.declared.spelled.Held.{Held}
use Rattle.plain_mean.specs.declared.spelled.Told.{Told}
use Rattle.tok_data.specs.declared.tokens.PpToken.{PpToken}

unfoldable pub path_in : Told → List ℕ → Option (List ℕ)
path_in told name = get (slice_cmp nat_cmp) told.paths name

-- of each text that was asked for its path
abbrev pub AreTold : List Question → Told → Type 0
AreTold asked told = (name : List ℕ) → path_in told name ≡ told_path asked name

unfoldable pub tokens_in : Held → List ℕ → Option (List PpToken)
tokens_in held name = get (slice_cmp nat_cmp) held.texts name

-- what is kept of a text is its tokens
abbrev pub AreRead : (List ℕ → List PpToken) → Held → Type 0
AreRead read held = (name : List ℕ) (tokens : List PpToken) → tokens_in held name ≡ Some tokens → tokens ≡ read name
