-- What numbers of hide sets stand for.
use Rattle.std.specs.Prelude.{◌≡◌, ℕ, List, [], ◌∷◌, ◌++◌, Some, slice_get}
use Rattle.macro_expand.specs.declared.names.How.{How}
use Rattle.macro_expand.specs.declared.names.How.TheVariants.{Added, United, Common}
use Rattle.macro_expand.specs.Ties.Codes.{Names}
use Rattle.macro_expand.specs.HideSets.{united, common}

-- f says what each number stands for, with these sets under the numbers from 0
pub record Stands (f : Names → Names) (sets : List Names) : Type 0 where
  pub none : f [] ≡ []
  pub each : (n : ℕ) (names : Names) → slice_get sets n ≡ Some names → f ((n ∷ []) ∷ []) ≡ names

-- what stood for a set still does
abbrev pub Grows : List Names → List Names → Type 0
Grows sets more = (f : Names → Names) → Stands f more → Stands f sets

-- what is made of two sets
abbrev pub joined : How → Names → Names → Names
joined Added names more = names ++ more
joined United names more = united names more
joined Common names more = common names more
