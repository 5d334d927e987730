-- The grammar of heads (ISO C11 6.7, 6.7.6, 6.7.10, 6.9): declarations up to their `;`, functions up to the `{` of their bodies, and static
-- assertions. A tree stands from one place to another, as in `Reading`.
use Rattle.std.specs.Prelude.{◌≡◌, ℕ, ◌+◌, ◌<◌, ◌≤◌, List, [], ◌∷◌, ◌++◌, Option, Some, None, is_none, Bool, true, false, not, ◌||◌}
use Rattle.tree_data.specs.Trees.{Declaring, Specifying, Word_of, Typedef_of, Tag_of, Atomic_of, Aligned_as_of, Aligned_of, Members_of, Enumerators_of, Specifyings, No_specifiers, Specifier_then, Initial, Heading, Declares_of, Asserts_of}
use Rattle.c_parser.specs.declared.kinds.Kind.{Kind}
use Rattle.c_parser.specs.declared.kinds.Kind.TheVariants.{Comma, Semicolon, OpenBrace}
use Rattle.c_parser.specs.Declarators.{name_of}
use Rattle.c_parser.specs.Grammar.{AreSome, typed_by, spell_declaring, spell_initial, spell_specifyings, spell_assertion}
use Rattle.c_parser.specs.Kinds.{kind_at, is_typedef_word, is_equals}
use Rattle.c_parser.specs.Reading.{HoldsDeclarator, HoldsAssertion, HoldSpecifyings, HoldsInitial}
use Rattle.c_parser.specs.Words.{Words, shown, shown_from, declared, past_numbers}

-- `typedef` is among the specifiers (6.7.1)
abbrev pub defines_one : List Kind → Specifying → Bool
defines_one ks (Word_of n) = is_typedef_word (kind_at ks n)
defines_one ks (Typedef_of n) = false
defines_one ks (Tag_of k n) = false
defines_one ks (Atomic_of k o t c) = false
defines_one ks (Aligned_as_of k o t c) = false
defines_one ks (Aligned_of k o t c) = false
defines_one ks (Members_of k g o ms c) = false
defines_one ks (Enumerators_of k g o e es t c) = false

abbrev pub defines : List Kind → Specifyings → Bool
defines ks No_specifiers = false
defines ks (Specifier_then s ss) = defines_one ks s || defines ks ss

-- what the declarators of a declaration stand behind: a type specifier, and `typedef`
pub record Leading : Type 0 where
  pub typed : Bool
  pub typedef : Bool

abbrev pub both : Bool → Bool → Leading
both typed typedef = record { typed = typed; typedef = typedef }

-- the identifiers where the declarator's scope begins (6.2.1p7)
abbrev pub named : Words → Bool → Option ℕ → Words
named w typedef None = w
named w typedef (Some n) = declared w typedef n

abbrev pub past : Words → Leading → Declaring → Words
past w s d = named w s.typedef (name_of d)

-- = initializer, or nothing
abbrev pub HoldsValue : List Kind → Option Initial → ℕ → ℕ → Type 0
HoldsValue ks None a b = b ≡ a
HoldsValue ks (Some i) a b = (is_equals (kind_at ks a) ≡ true) × HoldsInitial ks i (a + 1) b

-- 6.7 init-declarator : declarator | declarator = initializer; of a declaration that begins at o, so that its enumerators hide what they hide
abbrev pub HoldsOne : Words → ℕ → Leading → Declaring → Option Initial → ℕ → ℕ → Type 0
HoldsOne w o s d i a b =
    (m : ℕ) × HoldsDeclarator (shown_from w o) (not s.typed) d a m × HoldsValue (shown_from (past w s d) o) i m b

-- 6.7 init-declarator-list : init-declarator | init-declarator-list , init-declarator; those behind the first
abbrev pub HoldOthers : Words → ℕ → Leading → List (Declaring × Option Initial) → ℕ → ℕ → Type 0
HoldOthers w o s [] a b = b ≡ a
HoldOthers w o s (p ∷ ps) a b =
    (m : ℕ) × (kind_at w.kinds a ≡ Comma) × HoldsOne w o s p.0 p.1 (a + 1) m × HoldOthers (past w s p.0) o s ps m b

-- where a typedef name can't be one of the specifiers any more
abbrev pub freely : Leading → Leading
freely s = record { typed = true; typedef = s.typedef }

abbrev pub HoldAll : Words → ℕ → Leading → List (Declaring × Option Initial) → ℕ → ℕ → Type 0
HoldAll w o s [] a b = b ≡ a
HoldAll w o s (p ∷ ps) a b = (m : ℕ) × HoldsOne w o s p.0 p.1 a m × HoldOthers (past w s p.0) o (freely s) ps m b

-- the identifiers behind all of them
abbrev pub past_all : Words → Leading → List (Declaring × Option Initial) → Words
past_all w s [] = w
past_all w s (p ∷ ps) = past_all (past w s p.0) s ps

-- a function is defined by one declarator, without an initializer
abbrev pub is_alone : List (Declaring × Option Initial) → Bool
is_alone [] = false
is_alone (p ∷ []) = is_none p.1
is_alone (p ∷ q ∷ ps) = false

-- 6.7 `;` behind a declaration, 6.9.1 the `{` of the body behind a function's declarator
abbrev pub Closes : List Kind → List (Declaring × Option Initial) → Bool → ℕ → Type 0
Closes ks ds false n = kind_at ks n ≡ Semicolon
Closes ks ds true n = (kind_at ks n ≡ OpenBrace) × (is_alone ds ≡ true)

abbrev pub leading_of : List Kind → Specifyings → Leading
leading_of ks ss = record { typed = typed_by ks false ss; typedef = defines ks ss }

-- 6.7 declaration : declaration-specifiers init-declarator-list opt ; | static_assert-declaration
-- 6.9.1 function-definition : declaration-specifiers declarator compound-statement, up to the `{` of its body
abbrev pub HoldsHead : Words → Heading → ℕ → ℕ → Type 0
HoldsHead w (Declares_of ss ds body) a b =
    (m : ℕ) × (n : ℕ) × AreSome ss × HoldSpecifyings (shown_from w a) false ss a m
    × HoldAll w a (leading_of (shown w) ss) ds m n
    × Closes w.kinds ds body n × (b ≡ n + 1)
HoldsHead w (Asserts_of x) a b = HoldsAssertion (shown_from w a) x a b

-- the tokens of declarators and initializers
abbrev pub spell_value : Option Initial → List ℕ
spell_value None = []
spell_value (Some i) = spell_initial i

abbrev pub spell_all : List (Declaring × Option Initial) → List ℕ
spell_all [] = []
spell_all (p ∷ ps) = spell_declaring p.0 ++ (spell_value p.1 ++ spell_all ps)

-- the identifiers behind a head: its enumerators are declared up to the end of the scope that it stands in
abbrev pub past_head : Words → Heading → Words
past_head w (Declares_of ss ds body) =
    past_numbers (past_all w (leading_of (shown w) ss) ds) (spell_specifyings ss ++ spell_all ds)
past_head w (Asserts_of x) = past_numbers w (spell_assertion x)
