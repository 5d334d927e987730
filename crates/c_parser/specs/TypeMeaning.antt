-- The name of a type that tokens mean, all of them, and why they mean none (ISO C11 6.7.7).
use Rattle.std.specs.Prelude.{◌≡◌, List, length, Some, None}
use Rattle.tree_data.specs.Trees.{Naming}
use Rattle.c_parser.specs.declared.answers.ParseError.{ParseError}
use Rattle.c_parser.specs.declared.answers.ParseError.TheVariants.{Syntax, TooDeep, NoMemory}
use Rattle.c_parser.specs.declared.kinds.Kind.{Kind}
use Rattle.c_parser.specs.Brackets.{too_deep}
use Rattle.c_parser.specs.Grammar.{numbers, spell_type, IsType}

-- a proper name that spells tokens of these kinds, all of them
pub record IsTypeName (kinds : List Kind) (t : Naming) : Type 0 where
  pub proper : IsType kinds t
  pub spells : spell_type t ≡ numbers 0 (length kinds)

-- the tokens mean this name and no other
pub record IsTypeMeaning (kinds : List Kind) (t : Naming) : Type 0 where
  pub shallow : too_deep kinds ≡ None
  pub proper : IsTypeName kinds t
  pub only : (u : Naming) → IsTypeName kinds u → t ≡ u

-- why there is no name: brackets nest too deep, which is looked for first, or no proper name spells the tokens
abbrev pub IsTypeCause : List Kind → ParseError → Type 0
IsTypeCause kinds (Syntax at) = (at ≡ 0) × (too_deep kinds ≡ None) × ((u : Naming) → IsTypeName kinds u → ⊥)
IsTypeCause kinds (TooDeep at) = too_deep kinds ≡ Some at
IsTypeCause kinds NoMemory = Unit {0}

-- unique reading: no two names spell the same tokens
abbrev pub TypeReadingIsUnique : Type 0
TypeReadingIsUnique = (kinds : List Kind) → (t u : Naming) → IsTypeName kinds t → IsTypeName kinds u → t ≡ u
