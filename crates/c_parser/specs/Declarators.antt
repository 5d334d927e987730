-- Parts of declarators that hold no expression (ISO C11 6.7.6, 6.7.7): qualifiers, pointers and lists of identifiers.
use Rattle.std.specs.Prelude.{◌≡◌, ℕ, List, [], ◌∷◌, ◌++◌, Bool, true, false, ◌||◌, Option, Some, None, is_some}
use Rattle.tree_data.specs.Trees.{Declaring, Declaring_of, Grouping, No_group, Named_of, Group_of, Derivings, No_derivings, Deriving_then, needs_name}
use Rattle.c_parser.specs.declared.kinds.Kind.{Kind}
use Rattle.c_parser.specs.declared.kinds.Kind.TheVariants.{Star, Comma, Identifier}
use Rattle.c_parser.specs.Kinds.{kind_at, qualifies_at}

abbrev pub spell_pointers : List (ℕ × List ℕ) → List ℕ
spell_pointers [] = []
spell_pointers (p ∷ ps) = p.0 ∷ (p.1 ++ spell_pointers ps)

-- 6.7.6 type-qualifier-list : type-qualifier | type-qualifier-list type-qualifier
abbrev pub AreQualifiers : List Kind → List ℕ → Type 0
AreQualifiers kinds [] = Unit {0}
AreQualifiers kinds (n ∷ ns) = (qualifies_at kinds n ≡ true) × AreQualifiers kinds ns

-- 6.7.6 pointer : * type-qualifier-list opt pointer opt
abbrev pub ArePointers : List Kind → List (ℕ × List ℕ) → Type 0
ArePointers kinds [] = Unit {0}
ArePointers kinds (p ∷ ps) = (kind_at kinds p.0 ≡ Star) × AreQualifiers kinds p.1 × ArePointers kinds ps

abbrev pub spell_names : List (ℕ × ℕ) → List ℕ
spell_names [] = []
spell_names (p ∷ ps) = p.0 ∷ p.1 ∷ spell_names ps

-- 6.7.6 identifier-list : identifier | identifier-list , identifier; each but the first, with the comma in front of it
abbrev pub AreNames : List Kind → List (ℕ × ℕ) → Type 0
AreNames kinds [] = Unit {0}
AreNames kinds (p ∷ ps) = (kind_at kinds p.0 ≡ Comma) × (kind_at kinds p.1 ≡ Identifier) × AreNames kinds ps

-- a list that isn't left out
abbrev pub AreThere : List ℕ → Type 0
AreThere [] = ⊥
AreThere (n ∷ ns) = Unit {0}

-- the name that is declared
abbrev mutual
  pub name_of : Declaring → Option ℕ
  name_of (Declaring_of ps g ds) = name_in g

  pub name_in : Grouping → Option ℕ
  name_in No_group = None
  name_in (Named_of n) = Some n
  name_in (Group_of o d c) = name_of d

-- some of these stand behind a name alone
abbrev pub need_name : Derivings → Bool
need_name No_derivings = false
need_name (Deriving_then d ds) = needs_name d || need_name ds

-- 6.7.6 direct-declarator : direct-declarator [ type-qualifier-list opt * ] | direct-declarator ( identifier-list )
-- 6.7.7 direct-abstract-declarator : direct-abstract-declarator opt [ * ]
abbrev pub MayDerive : Grouping → Derivings → Type 0
MayDerive g ds = need_name ds ≡ true → is_some (name_in g) ≡ true

-- something stands in the declarator
abbrev pub IsWritten : Declaring → Type 0
IsWritten (Declaring_of (p ∷ ps) g ds) = Unit {0}
IsWritten (Declaring_of [] (Named_of n) ds) = Unit {0}
IsWritten (Declaring_of [] (Group_of o d c) ds) = Unit {0}
IsWritten (Declaring_of [] No_group (Deriving_then d ds)) = Unit {0}
IsWritten (Declaring_of [] No_group No_derivings) = ⊥
