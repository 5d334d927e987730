-- What was read in front of an operand, where that shows the operand's front too (ISO C11 6.5.2.5, 6.5.3, 6.5.4).
use Rattle.std.specs.Prelude.{◌≡◌, ℕ, ◌+◌, ◌<◌, ◌≤◌, List, length, true, false}
use Rattle.tree_data.specs.Trees.{Naming, Tree, Operator_of, Fronts}
use Rattle.tree_data.specs.Seen.{type_of, prefix_of}
use Rattle.c_parser.specs.declared.answers.Stop.{Stop}
use Rattle.c_parser.specs.declared.before.Begun.{Begun}
use Rattle.c_parser.specs.declared.before.Begun.TheVariants.{Plain, Size, Literal}
use Rattle.c_parser.specs.declared.before.Front.{Front}
use Rattle.c_parser.specs.declared.before.Front.TheVariants as read
use Rattle.c_parser.specs.declared.kinds.Kind.{Kind}
use Rattle.c_parser.specs.declared.kinds.Kind.TheVariants.{OpenParen, CloseParen, OpenBrace}
use Rattle.c_parser.specs.Kinds.{kind_at, is_prefix, is_size, type_at, size_at}
use Rattle.c_parser.specs.Reading.{HoldsType, HoldFronts, Reads, FoundFront, IsWant}

-- the place from which the operand stands
abbrev pub start_of : Begun → ℕ
start_of (Plain at) = at
start_of (Size k t c) = k
start_of (Literal o t c) = o

-- no unary operator and no type name in parentheses stands here, nor the size or alignment of a type
pub record IsPlain (ks : List Kind) (at : ℕ) : Type 0 where
  pub no_operator : is_prefix (kind_at ks at) ≡ false
  pub no_size : size_at ks at ≡ false
  pub no_type : type_at ks at ≡ false
  pub inside : at ≤ length ks

-- `( type-name )` stands here
pub record IsNamed (ks : List Kind) (a : ℕ) (t : Naming) (c : ℕ) : Type 0 where
  pub opens : kind_at ks a ≡ OpenParen
  pub reads : HoldsType ks t (a + 1) c
  pub closes : kind_at ks c ≡ CloseParen
  pub forth : a + 1 < c
  pub inside : c < length ks

pub record IsSized (ks : List Kind) (k : ℕ) (t : Naming) (c : ℕ) : Type 0 where
  pub sizes : is_size (kind_at ks k) ≡ true
  pub named : IsNamed ks (k + 1) t c
  pub unbraced : kind_at ks (c + 1) ≡ OpenBrace → ⊥

pub record IsLiteral (ks : List Kind) (o : ℕ) (t : Naming) (c : ℕ) : Type 0 where
  pub named : IsNamed ks o t c
  pub braced : kind_at ks (c + 1) ≡ OpenBrace

abbrev pub Begins : List Kind → Begun → Type 0
Begins ks (Plain at) = IsPlain ks at
Begins ks (Size k t c) = IsSized ks k (type_of t) c
Begins ks (Literal o t c) = IsLiteral ks o (type_of t) c

-- what a call read that looks for what stands in front of an operand
abbrev pub Fronted : List Kind → ℕ → Front → Type 0
Fronted ks a (read.Before p m) = FoundFront ks 15 a (prefix_of p) m
Fronted ks a (read.Behind b) = (start_of b ≡ a) × Begins ks b
Fronted ks a (read.SizeOfLiteral k t c) =
    (k ≡ a) × FoundFront ks 15 a (Operator_of a) (a + 1) × IsLiteral ks (a + 1) (type_of t) c

-- no operand stands here, with or without something in front
abbrev pub NoOperand : List Kind → ℕ → Stop → Type 0
NoOperand ks a e =
    (xs : Fronts) → (m : ℕ) → (t : Tree) → (b : ℕ) → HoldFronts ks 15 xs a m → Reads ks 16 t m b → IsWant e
