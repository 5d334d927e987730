-- What the parser found of the name of a type at a place (ISO C11 6.7.7).
use Rattle.std.specs.Prelude.{◌≡◌, ℕ, ◌+◌, ◌<◌, ◌≤◌, List, length, Bool, true, false, Option, Some, None, ◌||◌}
use Rattle.tree_data.specs.declared.types.Specifier.{Specifier}
use Rattle.tree_data.specs.Seen.{specifier_of}
use Rattle.tree_data.specs.Trees.{Specifying, Specifyings, Declaring, Grouping, Deriving, Derivings, Bound, Parameters, Row}
use Rattle.c_parser.specs.declared.answers.Stop.{Stop}
use Rattle.c_parser.specs.declared.kinds.Kind.{Kind}
use Rattle.c_parser.specs.declared.kinds.Kind.TheVariants.{Star, CloseParen, Comma, Ellipsis}
use Rattle.c_parser.specs.Declarators.{need_name}
use Rattle.c_parser.specs.Grammar.{has_type, MayStand}
use Rattle.c_parser.specs.Kinds.{kind_at, ends_specifiers, qualifies_at}
use Rattle.c_parser.specs.Reading.{HoldQualifiers, HoldPointers, HoldNames, HoldSpecifying, HoldSpecifyings, HoldsDeclaring, HoldsGrouping, HoldsDeriving, HoldDerivings, HoldsBound, HoldParameters, HoldRow, IsWant}
use Rattle.c_parser.specs.declared.kinds.Named.{Named}
use Rattle.c_parser.specs.declared.kinds.Site.{Site}

-- no specifier or qualifier stands here
abbrev pub NoMore : List Kind → Bool → ℕ → Type 0
NoMore kinds typed at = (s : Specifying) → (b : ℕ) → HoldSpecifying kinds typed s at b → ⊥

pub record FoundSpecifying (kinds : List Kind) (typed : Bool) (a : ℕ) (s : Specifying) (b : ℕ) : Type 0 where
  pub reads : HoldSpecifying kinds typed s a b
  pub forth : a < b
  pub inside : b ≤ length kinds

-- what a call read that looks for a specifier, with whether a type specifier has stood by then
abbrev pub Specified : List Kind → Bool → ℕ → Option (Specifier × ℕ × Bool) → Type 0
Specified kinds typed at None = NoMore kinds typed at
Specified kinds typed at (Some r) =
    FoundSpecifying kinds typed at (specifier_of r.0) r.1 × (r.2 ≡ (has_type kinds (specifier_of r.0) || typed))

-- why it stops: one begins, and none stands whole
abbrev pub FailsSpecifying : List Kind → Bool → ℕ → Stop → Type 0
FailsSpecifying kinds typed at e =
    (ends_specifiers (kind_at kinds at) typed ≡ false)
    × ((s : Specifying) → (b : ℕ) → HoldSpecifying kinds typed s at b → IsWant e)

pub record FoundSpecifiers (kinds : List Kind) (site : Site) (a : ℕ) (ss : Specifyings) (b : ℕ) : Type 0 where
  pub reads : HoldSpecifyings kinds false ss a b
  pub fits : MayStand kinds site ss
  pub forth : a ≤ b
  pub inside : b ≤ length kinds

-- all qualifiers, all pointers that stand at a place
pub record FoundQualifiers (kinds : List Kind) (a : ℕ) (ns : List ℕ) (b : ℕ) : Type 0 where
  pub reads : HoldQualifiers kinds ns a b
  pub no_more : qualifies_at kinds b ≡ true → ⊥
  pub forth : a ≤ b
  pub inside : b ≤ length kinds

pub record FoundPointers (kinds : List Kind) (a : ℕ) (ps : List (ℕ × List ℕ)) (b : ℕ) : Type 0 where
  pub reads : HoldPointers kinds ps a b
  pub no_more : kind_at kinds b ≡ Star → ⊥
  pub unqualified : (qualifies_at kinds a ≡ true → ⊥) → qualifies_at kinds b ≡ true → ⊥
  pub forth : a ≤ b
  pub inside : b ≤ length kinds

pub record FoundDeclaring (kinds : List Kind) (named : Named) (a : ℕ) (d : Declaring) (b : ℕ) : Type 0 where
  pub reads : HoldsDeclaring kinds named d a b
  pub forth : a ≤ b
  pub inside : b ≤ length kinds

pub record FoundGrouping (kinds : List Kind) (named : Named) (a : ℕ) (g : Grouping) (b : ℕ) : Type 0 where
  pub reads : HoldsGrouping kinds named g a b
  pub forth : a ≤ b
  pub inside : b ≤ length kinds

pub record FoundDeriving (kinds : List Kind) (a : ℕ) (d : Deriving) (b : ℕ) : Type 0 where
  pub reads : HoldsDeriving kinds d a b
  pub forth : a < b
  pub inside : b ≤ length kinds

-- behind a name, or behind none
pub record FoundDerivings (kinds : List Kind) (declares : Bool) (a : ℕ) (ds : Derivings) (b : ℕ) : Type 0 where
  pub reads : HoldDerivings kinds ds a b
  pub fits : need_name ds ≡ true → declares ≡ true
  pub forth : a ≤ b
  pub inside : b ≤ length kinds

pub record FoundBound (kinds : List Kind) (a : ℕ) (x : Bound) (b : ℕ) : Type 0 where
  pub reads : HoldsBound kinds x a b
  pub forth : a ≤ b
  pub inside : b ≤ length kinds

pub record FoundParameters (kinds : List Kind) (a : ℕ) (ps : Parameters) (b : ℕ) : Type 0 where
  pub reads : HoldParameters kinds ps a b
  pub forth : a ≤ b
  pub inside : b ≤ length kinds

-- all identifiers that stand at a place, each with the comma in front of it
pub record FoundNames (kinds : List Kind) (a : ℕ) (ns : List (ℕ × ℕ)) (b : ℕ) : Type 0 where
  pub reads : HoldNames kinds ns a b
  pub no_more : kind_at kinds b ≡ Comma → ⊥
  pub forth : a ≤ b
  pub inside : b ≤ length kinds

-- behind the last parameter stands `)`, or `,` and `...`
pub data RowEnd (kinds : List Kind) (c : ℕ) : Type 0 where
  at_close : kind_at kinds c ≡ CloseParen → RowEnd kinds c
  at_dots : kind_at kinds c ≡ Comma → kind_at kinds (c + 1) ≡ Ellipsis → RowEnd kinds c

pub record FoundRow (kinds : List Kind) (a : ℕ) (ps : Row) (b : ℕ) : Type 0 where
  pub reads : HoldRow kinds ps a b
  pub dots : kind_at kinds b ≡ Comma → kind_at kinds (b + 1) ≡ Ellipsis
  pub forth : a ≤ b
  pub inside : b ≤ length kinds
