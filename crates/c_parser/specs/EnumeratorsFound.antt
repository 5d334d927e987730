-- What the parser found of a list of enumerators at a place (ISO C11 6.7.2.2).
use Rattle.std.specs.Prelude.{◌≡◌, ℕ, ◌+◌, ◌<◌, ◌≤◌, List, length, Option, Bool, true, false}
use Rattle.tree_data.specs.Trees.{Enumerator, Enumerators}
use Rattle.c_parser.specs.declared.kinds.Kind.{Kind}
use Rattle.c_parser.specs.declared.kinds.Kind.TheVariants.{Comma, CloseBrace}
use Rattle.c_parser.specs.Reading.{HoldsEnumerator, HoldEnumerators, HoldsComma}

-- behind an enumerator stands such a token
abbrev pub ends_enumerator : Kind → Bool
ends_enumerator Comma = true
ends_enumerator CloseBrace = true
ends_enumerator _ = false

pub record FoundEnumerator (kinds : List Kind) (a : ℕ) (e : Enumerator) (b : ℕ) : Type 0 where
  pub reads : HoldsEnumerator kinds e a b
  pub forth : a < b
  pub inside : b ≤ length kinds

-- all that stand behind the first one, each with the comma in front of it, and a comma at the end, which may be left out
pub record FoundEnumerators (kinds : List Kind) (a : ℕ) (es : Enumerators) (t : Option ℕ) (c : ℕ) : Type 0 where
  pub behind : ℕ
  pub reads : HoldEnumerators kinds es a behind
  pub comma : HoldsComma kinds t behind c
  pub forth : a ≤ c
  pub inside : c ≤ length kinds
