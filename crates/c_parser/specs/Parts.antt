-- Expressions and declarations as parts of statements (ISO C11 6.8): where they stand, and what the grammars that have them rely on.
use Rattle.std.specs.Prelude.{◌≡◌, ℕ, ◌+◌, ◌<◌, ◌≤◌, List, length, Bool, true, false, not, ◌||◌}
use Rattle.tree_data.specs.Trees.{Tree, Name_of, Heading, Declares_of, Asserts_of}
use Rattle.c_parser.specs.declared.kinds.Kind.{Kind}
use Rattle.c_parser.specs.declared.kinds.Kind.TheVariants.{Identifier, TypeName, TypeWord, Qualifier, Tag, Atomic, Storage, Typedef, Static, Assert, Constant, Text, OpenParen, Step, Ampersand, Star, Sign, Complement, SizeOf, AlignOf, Generic, OffsetOf, Colon, Enum, Align}
use Rattle.c_parser.specs.Grammar.{spell}
use Rattle.c_parser.specs.Heads.{HoldsHead, past_head}
use Rattle.c_parser.specs.Reading.{Reads, Stops}
use Rattle.c_parser.specs.Words.{Words, shown, shown_from, kind_in, past_numbers}

-- what an expression begins with (6.5)
abbrev pub starts_expression : Kind → Bool
starts_expression Identifier = true
starts_expression Constant = true
starts_expression Text = true
starts_expression OpenParen = true
starts_expression Step = true
starts_expression Ampersand = true
starts_expression Star = true
starts_expression Sign = true
starts_expression Complement = true
starts_expression SizeOf = true
starts_expression AlignOf = true
starts_expression Generic = true
starts_expression OffsetOf = true
starts_expression _ = false

-- what a declaration begins with (6.7)
abbrev pub starts_declaration : Kind → Bool
starts_declaration TypeWord = true
starts_declaration Qualifier = true
starts_declaration Tag = true
starts_declaration Enum = true
starts_declaration Align = true
starts_declaration (TypeName n) = true
starts_declaration Atomic = true
starts_declaration Storage = true
starts_declaration Typedef = true
starts_declaration Static = true
starts_declaration Assert = true
starts_declaration _ = false

-- the identifiers behind an expression: it declares its enumerators
abbrev pub past_tree : Words → Tree → Words
past_tree w t = past_numbers w (spell t)

-- a head that has its `;`, and no body
abbrev pub is_declaration : Heading → Bool
is_declaration (Declares_of ss ds body) = not body
is_declaration (Asserts_of x) = true

-- 6.7 declaration, with its `;`
abbrev pub HoldsDeclaration : Words → Heading → ℕ → ℕ → Type 0
HoldsDeclaration w d a b = (is_declaration d ≡ true) × HoldsHead w d a b

abbrev pub past_declaration : Words → Heading → Words
past_declaration w d = past_head w d

-- what a call found that reads an expression of the nonterminal n, or a declaration, at `a`
pub record FoundExpression (w : Words) (n a : ℕ) (t : Tree) (b : ℕ) : Type 0 where
  pub reads : Reads (shown_from w a) n t a b
  pub stops : Stops (shown w) n b
  pub forth : a < b
  pub inside : b ≤ length w.kinds

pub record FoundDeclaration (w : Words) (a : ℕ) (d : Heading) (b : ℕ) : Type 0 where
  pub reads : HoldsDeclaration w d a b
  pub forth : a < b
  pub inside : b ≤ length w.kinds

-- a test of kinds that doesn't tell typedef names from other identifiers
abbrev pub IsBlind : (Kind → Bool) → Type 0
IsBlind f = (n : ℕ) → f (TypeName n) ≡ f Identifier

-- what expressions and declarations give to whatever has them as parts
pub record PartsLaw : Type 0 where
  -- no two from one place on, each where it stops
  pub expression_only :
      (w : Words) → (n : ℕ) → (t u : Tree) → (a b c : ℕ) → 1 ≤ n → Reads (shown_from w a) n t a b → Stops (shown w) n b
      → Reads (shown_from w a) n u a c → Stops (shown w) n c → (t ≡ u) × (b ≡ c)
  pub declaration_only :
      (w : Words) → (d e : Heading) → (a b c : ℕ) → HoldsDeclaration w d a b → HoldsDeclaration w e a c → (d ≡ e) × (b ≡ c)
  -- what they begin with, and that a declaration is no label
  pub expression_starts :
      (w : Words) → (n : ℕ) → (t : Tree) → (a b : ℕ) → Reads (shown_from w a) n t a b → starts_expression (kind_in w a) ≡ true
  -- an identifier that is no typedef name is one (6.5.1)
  pub name_reads : (w : Words) → (a : ℕ) → kind_in w a ≡ Identifier → Reads (shown_from w a) 1 (Name_of a) a (a + 1)
  pub declaration_starts :
      (w : Words) → (d : Heading) → (a b : ℕ) → HoldsDeclaration w d a b → starts_declaration (kind_in w a) ≡ true
  pub declaration_unlabelled :
      (w : Words) → (d : Heading) → (a b : ℕ) → HoldsDeclaration w d a b → kind_in w (a + 1) ≡ Colon → ⊥
  -- behind them the tokens differ in typedef names alone
  pub tree_blind :
      (f : Kind → Bool) → IsBlind f → (w : Words) → (t : Tree) → (at : ℕ) → f (kind_in (past_tree w t) at) ≡ f (kind_in w at)
  pub declaration_blind :
      (f : Kind → Bool) → IsBlind f → (w : Words) → (d : Heading) → (at : ℕ) → f (kind_in (past_declaration w d) at) ≡ f (kind_in w at)
  pub tree_kinds : (w : Words) → (t : Tree) → (past_tree w t).kinds ≡ w.kinds
  pub declaration_kinds : (w : Words) → (d : Heading) → (past_declaration w d).kinds ≡ w.kinds
