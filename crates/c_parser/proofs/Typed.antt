-- Places at which no two names of types stand. That expressions have one reading takes this of all places behind their own, and
-- that names of types have one takes it of expressions in them, so that both follow by the number of tokens that are left.
use Rattle.std.proofs.Common.{◌≡◌, ℕ, ◌+◌, ◌≤◌, List, Bool, arith, true, length, refl, ◌∙◌}
use Rattle.tree_data.specs.Trees.{Naming}
use Rattle.c_parser.specs.declared.kinds.Kind.{Kind}
use Rattle.c_parser.specs.Kinds.{kind_at, ends_type}
use Rattle.c_parser.specs.Reading.{HoldsNaming}

abbrev pub Typed : List Kind → ℕ → Type 0
Typed ks a =
    (y : Bool) → (t : Naming) → (c : ℕ) → HoldsNaming ks y t a c → ends_type (kind_at ks c) ≡ true
    → (t' : Naming) → (c' : ℕ) → HoldsNaming ks y t' a c' → ends_type (kind_at ks c') ≡ true → (t ≡ t') × (c ≡ c')

-- from this place on, under each list of kinds of as many tokens
abbrev pub From : List Kind → ℕ → Type 0
From ks a = (ks' : List Kind) → length ks' ≡ length ks → (p : ℕ) → a ≤ p → Typed ks' p

pub later : (ks : List Kind) → (a b : ℕ) → a ≤ b → From ks a → From ks b
later ks a b le u ks' e p more = u ks' e p (omega (arith, le, more))

pub next : (ks : List Kind) → (a : ℕ) → From ks a → From ks (a + 1)
next ks a u ks' e p more = u ks' e p (omega (arith, more))

pub typed_next : (ks : List Kind) → (a : ℕ) → From ks a → Typed ks (a + 1)
typed_next ks a u = u ks refl (a + 1) (omega arith)

pub typed_second : (ks : List Kind) → (a : ℕ) → From ks a → Typed ks (a + 2)
typed_second ks a u = u ks refl (a + 2) (omega arith)

pub second : (ks : List Kind) → (a : ℕ) → From ks a → From ks (a + 2)
second ks a u ks' e p more = u ks' e p (omega (arith, more))

-- under another list of as many tokens
pub under : (ks ks' : List Kind) → (a : ℕ) → length ks' ≡ length ks → From ks a → From ks' a
under ks ks' a e u ks2 f p le = u ks2 (f ∙ e) p le
