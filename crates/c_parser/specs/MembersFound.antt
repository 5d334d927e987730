-- What the parser found of the members of a structure or union at a place (ISO C11 6.7.2.1).
use Rattle.std.specs.Prelude.{◌≡◌, ℕ, ◌+◌, ◌<◌, ◌≤◌, List, length, Option, Bool, true, false}
use Rattle.tree_data.specs.Trees.{Member, Members, Field, Fields}
use Rattle.c_parser.specs.declared.answers.Stop.{Stop}
use Rattle.c_parser.specs.declared.kinds.Kind.{Kind}
use Rattle.c_parser.specs.declared.kinds.Kind.TheVariants.{Comma, Semicolon, OpenBrace, CloseBrace}
use Rattle.c_parser.specs.Grammar.{HasMembers}
use Rattle.c_parser.specs.Kinds.{kind_at}
use Rattle.c_parser.specs.Reading.{HoldsTag, HoldsMember, HoldMembers, HoldsField, HoldFields, IsWant}

-- a tag that may be left out, and the `{` behind it
pub record FoundTag (kinds : List Kind) (a : ℕ) (g : Option ℕ) (b : ℕ) : Type 0 where
  pub reads : HoldsTag kinds g a b
  pub opens : kind_at kinds b ≡ OpenBrace
  pub forth : a ≤ b
  pub inside : b < length kinds

-- all members up to the `}`
pub record FoundMembers (kinds : List Kind) (a : ℕ) (ms : Members) (b : ℕ) : Type 0 where
  pub some : HasMembers ms
  pub reads : HoldMembers kinds ms a b
  pub closes : kind_at kinds b ≡ CloseBrace
  pub forth : a < b
  pub inside : b < length kinds

abbrev pub FailsMembers : List Kind → ℕ → Stop → Type 0
FailsMembers kinds a e =
    (ms : Members) → (b : ℕ) → HasMembers ms → HoldMembers kinds ms a b → kind_at kinds b ≡ CloseBrace → IsWant e

pub record FoundMember (kinds : List Kind) (a : ℕ) (x : Member) (b : ℕ) : Type 0 where
  pub reads : HoldsMember kinds x a b
  pub forth : a < b
  pub inside : b ≤ length kinds

abbrev pub FailsMember : List Kind → ℕ → Stop → Type 0
FailsMember kinds a e = (x : Member) → (b : ℕ) → HoldsMember kinds x a b → IsWant e

pub record FoundField (kinds : List Kind) (plain : Bool) (a : ℕ) (f : Field) (b : ℕ) : Type 0 where
  pub reads : HoldsField kinds plain f a b
  pub forth : a < b
  pub inside : b ≤ length kinds

-- behind a member's declarator stands such a token
abbrev pub ends_field : Kind → Bool
ends_field Comma = true
ends_field Semicolon = true
ends_field _ = false

-- all further declarators that stand here, each with the comma in front of it
pub record FoundFields (kinds : List Kind) (a : ℕ) (fs : Fields) (b : ℕ) : Type 0 where
  pub reads : HoldFields kinds fs a b
  pub no_more : kind_at kinds b ≡ Comma → ⊥
  pub forth : a ≤ b
  pub inside : b ≤ length kinds

-- all declarators behind specifiers, and the `;` behind them
pub record FoundList (kinds : List Kind) (plain : Bool) (a : ℕ) (f : Field) (fs : Fields) (b : ℕ) : Type 0 where
  pub place : ℕ
  pub first : HoldsField kinds plain f a place
  pub more : HoldFields kinds fs place b
  pub ends : kind_at kinds b ≡ Semicolon
  pub forth : a < b
  pub inside : b < length kinds

abbrev pub FailsList : List Kind → Bool → ℕ → Stop → Type 0
FailsList kinds plain a e =
    (f : Field) → (fs : Fields) → (m b : ℕ) → HoldsField kinds plain f a m → HoldFields kinds fs m b → kind_at kinds b ≡ Semicolon → IsWant e
