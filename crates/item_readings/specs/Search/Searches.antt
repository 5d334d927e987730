-- Searches for what stands at a place, part by part of the grammar of expressions and declarations (ISO C11 6.5, 6.7).
use Rattle.std.proofs.lemmas.List.{length-map, get_or_past}
use Rattle.std.proofs.Common.{◌≡◌, refl, sym, ap, subst, ◌∙◌, ℕ, suc, ◌+◌, ◌*◌, ◌-◌, ◌<◌, ◌≤◌, ◌||◌, ◌&&◌, not, arith, List, length, Bool, true, false, true≢false, Option, None, Some}
use Rattle.std.proofs.Math.Decide.{dec_le}
use Rattle.c_parser.specs.declared.kinds.Named.TheVariants.{Never, Plainly, Freely}
use Rattle.c_parser.specs.Kinds.{level_of, atomic_at, is_specifying, is_qualifier, is_atomic, is_opening, hide, hide_kind, hide_word, hidden_one}
use Rattle.c_parser.specs.Grammar.{name_by}
use Rattle.c_parser.specs.declared.kinds.Kind.TheVariants.{End, TypeName}
use Rattle.item_readings.specs.Search.Deciding.{is_named}
use Rattle.tree_data.specs.Trees.{Tree, Behind, Behinds, Front, Fronts, Braces, Initial, Piece, Pieces, Designator, Designators, Association, Associations, Specifying, Specifyings, Naming, Declaring, Parameters, Row, Grouping, Deriving, Derivings, Bound, Member, Members, Field, Fields, Enumerator, Enumerators, Assertion}
use Rattle.c_parser.specs.declared.kinds.Kind.{Kind}
use Rattle.c_parser.specs.declared.kinds.Kind.TheVariants.{Text}
use Rattle.c_parser.specs.declared.kinds.Named.{Named}
use Rattle.c_parser.specs.Grammar.{AreSome, past}
use Rattle.c_parser.specs.Kinds.{kind_at, level_at, specifies_at, qualifies_at, may_name, names_it}
use Rattle.c_parser.specs.Reading.{HoldTexts, HoldsComma, HoldsTag, HoldQualifiers, HoldNames, HoldPointers, HoldsBehind, HoldBehinds, HoldsFront, HoldFronts, HoldBraces, HoldsInitial, HoldsPiece, HoldPieces, HoldsDesignator, HoldDesignators, HoldsAssociation, HoldAssociations, HoldSpecifying, HoldSpecifyings, HoldsEnumerator, HoldEnumerators, HoldsMember, HoldMembers, HoldsField, HoldFields, HoldsAssertion, HoldsDeclarator, HoldsDirect, HoldsNaming, HoldsDeclaring, HoldsGrouping, HoldsDeriving, HoldDerivings, HoldParameters, HoldRow, HoldsBound, Reads}

-- some value, and the place behind it, for which both hold
abbrev pub SomeAt : (A : Type 0) → (A → ℕ → Type 0) → (A → ℕ → Type 0) → Type 0
SomeAt A R Goal = (t : A) × (e : ℕ) × R t e × Goal t e

-- a search goes through all that stands somewhere, up to one with which the rest goes on: where each goal can be decided behind what
-- stands there and goes so far, it is decided whether there is one
abbrev pub Search : (A : Type 0) → (A → ℕ → Type 0) → (A → ℕ → Type 0) → Type 1
Search A R F = (Goal : A → ℕ → Type 0) → ((t : A) → (e : ℕ) → R t e → F t e → Dec (Goal t e)) → Dec (SomeAt A R Goal)

-- a part that takes a token at least
pub record Within (size a e : ℕ) : Type 0 where
  pub forth : a < e
  pub inside : a < size

abbrev pub AheadTexts : ℕ → List Kind → ℕ → ℕ → Type 0
AheadTexts size ks a e = (a ≤ e) × (kind_at ks a ≡ Text → a < e)

abbrev pub AheadSome : ℕ → Specifyings → ℕ → ℕ → Type 0
AheadSome size ss a e = (a ≤ e) × (AreSome ss → Within size a e)

-- what is left to search from a place on, of so many tokens; parts that may begin with one another are told apart by a rank below 128
abbrev pub weight : ℕ → ℕ → ℕ
weight size a = 128 * (size - a)

abbrev pub tree_rank : ℕ → ℕ
tree_rank r = 4 * (20 - r) + 4

abbrev pub fronts_rank : ℕ → ℕ
fronts_rank l = 4 * (20 - l) + 3

abbrev pub front_rank : ℕ → ℕ
front_rank l = 4 * (20 - l) + 2

-- a search for each part of the grammar, where no more than `fuel` is left
pub record Searches (size fuel : ℕ) : Type 1 where
  pub texts : (ks : List Kind) → length ks ≡ size → (a : ℕ) → weight size a + 1 ≤ fuel
      → Search (List ℕ) (λ t e. HoldTexts ks t a e) (λ t e. AheadTexts size ks a e)
  pub comma : (ks : List Kind) → length ks ≡ size → (a : ℕ) → weight size a + 1 ≤ fuel
      → Search (Option ℕ) (λ t e. HoldsComma ks t a e) (λ t e. a ≤ e)
  pub tag : (ks : List Kind) → length ks ≡ size → (a : ℕ) → weight size a + 1 ≤ fuel
      → Search (Option ℕ) (λ t e. HoldsTag ks t a e) (λ t e. a ≤ e)
  pub qualifiers : (ks : List Kind) → length ks ≡ size → (a : ℕ) → weight size a + 1 ≤ fuel
      → Search (List ℕ) (λ t e. HoldQualifiers ks t a e) (λ t e. a ≤ e)
  pub names : (ks : List Kind) → length ks ≡ size → (a : ℕ) → weight size a + 1 ≤ fuel
      → Search (List (ℕ × ℕ)) (λ t e. HoldNames ks t a e) (λ t e. a ≤ e)
  pub pointers : (ks : List Kind) → length ks ≡ size → (a : ℕ) → weight size a + 2 ≤ fuel
      → Search (List (ℕ × List ℕ)) (λ t e. HoldPointers ks t a e) (λ t e. a ≤ e)
  pub tree : (ks : List Kind) → length ks ≡ size → (r : ℕ) → (a : ℕ) → weight size a + tree_rank r ≤ fuel
      → Search Tree (λ t e. Reads ks r t a e) (λ t e. Within size a e)
  pub behind : (ks : List Kind) → length ks ≡ size → (l : ℕ) → (a : ℕ) → weight size a + 1 ≤ fuel
      → Search Behind (λ t e. HoldsBehind ks l t a e) (λ t e. Within size a e)
  pub behinds : (ks : List Kind) → length ks ≡ size → (l : ℕ) → (a : ℕ) → weight size a + 2 ≤ fuel
      → Search Behinds (λ t e. HoldBehinds ks l t a e) (λ t e. a ≤ e)
  pub front : (ks : List Kind) → length ks ≡ size → (l : ℕ) → (a : ℕ) → weight size a + front_rank l ≤ fuel
      → Search Front (λ t e. HoldsFront ks l t a e) (λ t e. Within size a e)
  pub fronts : (ks : List Kind) → length ks ≡ size → (l : ℕ) → (a : ℕ) → weight size a + fronts_rank l ≤ fuel
      → Search Fronts (λ t e. HoldFronts ks l t a e) (λ t e. a ≤ e)
  pub braces : (ks : List Kind) → length ks ≡ size → (a : ℕ) → weight size a + 1 ≤ fuel
      → Search Braces (λ t e. HoldBraces ks t a e) (λ t e. Within size a e)
  pub initial : (ks : List Kind) → length ks ≡ size → (a : ℕ) → weight size a + 100 ≤ fuel
      → Search Initial (λ t e. HoldsInitial ks t a e) (λ t e. Within size a e)
  pub piece : (ks : List Kind) → length ks ≡ size → (a : ℕ) → weight size a + 101 ≤ fuel
      → Search Piece (λ t e. HoldsPiece ks t a e) (λ t e. Within size a e)
  pub pieces : (ks : List Kind) → length ks ≡ size → (a : ℕ) → weight size a + 1 ≤ fuel
      → Search Pieces (λ t e. HoldPieces ks t a e) (λ t e. a ≤ e)
  pub designator : (ks : List Kind) → length ks ≡ size → (a : ℕ) → weight size a + 1 ≤ fuel
      → Search Designator (λ t e. HoldsDesignator ks t a e) (λ t e. Within size a e)
  pub designators : (ks : List Kind) → length ks ≡ size → (a : ℕ) → weight size a + 2 ≤ fuel
      → Search Designators (λ t e. HoldDesignators ks t a e) (λ t e. a ≤ e)
  pub association : (ks : List Kind) → length ks ≡ size → (a : ℕ) → weight size a + 15 ≤ fuel
      → Search Association (λ t e. HoldsAssociation ks t a e) (λ t e. Within size a e)
  pub associations : (ks : List Kind) → length ks ≡ size → (a : ℕ) → weight size a + 1 ≤ fuel
      → Search Associations (λ t e. HoldAssociations ks t a e) (λ t e. a ≤ e)
  pub specifying : (ks : List Kind) → length ks ≡ size → (typed : Bool) → (a : ℕ) → weight size a + 1 ≤ fuel
      → Search Specifying (λ t e. HoldSpecifying ks typed t a e) (λ t e. Within size a e)
  pub specifyings : (ks : List Kind) → length ks ≡ size → (typed : Bool) → (a : ℕ) → weight size a + 2 ≤ fuel
      → Search Specifyings (λ t e. HoldSpecifyings ks typed t a e) (λ t e. AheadSome size t a e)
  pub enumerator : (ks : List Kind) → length ks ≡ size → (a : ℕ) → weight size a + 1 ≤ fuel
      → Search Enumerator (λ t e. HoldsEnumerator ks t a e) (λ t e. Within size a e)
  pub enumerators : (ks : List Kind) → length ks ≡ size → (a : ℕ) → weight size a + 1 ≤ fuel
      → Search Enumerators (λ t e. HoldEnumerators ks t a e) (λ t e. a ≤ e)
  pub member : (ks : List Kind) → length ks ≡ size → (a : ℕ) → weight size a + 16 ≤ fuel
      → Search Member (λ t e. HoldsMember ks t a e) (λ t e. Within size a e)
  pub members : (ks : List Kind) → length ks ≡ size → (a : ℕ) → weight size a + 17 ≤ fuel
      → Search Members (λ t e. HoldMembers ks t a e) (λ t e. a ≤ e)
  pub field : (ks : List Kind) → length ks ≡ size → (plain : Bool) → (a : ℕ) → weight size a + 12 ≤ fuel
      → Search Field (λ t e. HoldsField ks plain t a e) (λ t e. Within size a e)
  pub fields : (ks : List Kind) → length ks ≡ size → (a : ℕ) → weight size a + 1 ≤ fuel
      → Search Fields (λ t e. HoldFields ks t a e) (λ t e. a ≤ e)
  pub assertion : (ks : List Kind) → length ks ≡ size → (a : ℕ) → weight size a + 1 ≤ fuel
      → Search Assertion (λ t e. HoldsAssertion ks t a e) (λ t e. Within size a e)
  pub declarator : (ks : List Kind) → length ks ≡ size → (plain : Bool) → (a : ℕ) → weight size a + 11 ≤ fuel
      → Search Declaring (λ t e. HoldsDeclarator ks plain t a e) (λ t e. Within size a e)
  pub direct : (ks : List Kind) → length ks ≡ size → (plain : Bool) → (a : ℕ) → weight size a + 1 ≤ fuel
      → Search Grouping (λ t e. HoldsDirect ks plain t a e) (λ t e. Within size a e)
  pub naming : (ks : List Kind) → length ks ≡ size → (named : Bool) → (a : ℕ) → weight size a + 11 ≤ fuel
      → Search Naming (λ t e. HoldsNaming ks named t a e) (λ t e. Within size a e)
  pub declaring : (ks : List Kind) → length ks ≡ size → (named : Named) → (a : ℕ) → weight size a + 10 ≤ fuel
      → Search Declaring (λ t e. HoldsDeclaring ks named t a e) (λ t e. a ≤ e)
  pub grouping : (ks : List Kind) → length ks ≡ size → (named : Named) → (a : ℕ) → weight size a + 1 ≤ fuel
      → Search Grouping (λ t e. HoldsGrouping ks named t a e) (λ t e. a ≤ e)
  pub deriving_one : (ks : List Kind) → length ks ≡ size → (a : ℕ) → weight size a + 1 ≤ fuel
      → Search Deriving (λ t e. HoldsDeriving ks t a e) (λ t e. Within size a e)
  pub derivings : (ks : List Kind) → length ks ≡ size → (a : ℕ) → weight size a + 2 ≤ fuel
      → Search Derivings (λ t e. HoldDerivings ks t a e) (λ t e. a ≤ e)
  pub parameters : (ks : List Kind) → length ks ≡ size → (a : ℕ) → weight size a + 12 ≤ fuel
      → Search Parameters (λ t e. HoldParameters ks t a e) (λ t e. a ≤ e)
  pub row : (ks : List Kind) → length ks ≡ size → (a : ℕ) → weight size a + 1 ≤ fuel
      → Search Row (λ t e. HoldRow ks t a e) (λ t e. a ≤ e)
  pub bound : (ks : List Kind) → length ks ≡ size → (a : ℕ) → weight size a + 100 ≤ fuel
      → Search Bound (λ t e. HoldsBound ks t a e) (λ t e. a ≤ e)

-- behind a token less is left, whatever is searched there
pub next : (size fuel a c r s : ℕ) → a < size → a < c → s < 128 → weight size a + r ≤ suc fuel → weight size c + s ≤ fuel
next size fuel a c r s i l u left = omega (arith, i, l, u, left)

-- and at the same place for a part of lower rank
pub stays : (size fuel a c r s : ℕ) → a ≤ c → s < r → weight size a + r ≤ suc fuel → weight size c + s ≤ fuel
stays size fuel a c r s l u left = omega (arith, l, u, left)

pub before : (a m size : ℕ) → a ≤ m → m < size → a < size
before a m size l i = omega (arith, l, i)

-- a token stands there
out_of : (ks : List Kind) → (a : ℕ) → length ks ≤ a → kind_at ks a ≡ End
out_of ks a l = get_or_past ks a End l

from_dec : (ks : List Kind) → (size a : ℕ) → length ks ≡ size → (Q : Kind → Type 0) → (Q End → ⊥) → Q (kind_at ks a) → Dec (size ≤ a) → a < size
from_dec ks size a long Q n q (yes l) = absurd (n (subst Q (out_of ks a (subst (λ x. x ≤ a) (sym long) l)) q))
from_dec ks size a long Q n q (no u) = grind (arith, u)

inside_by : (ks : List Kind) → (size a : ℕ) → length ks ≡ size → (Q : Kind → Type 0) → (Q End → ⊥) → Q (kind_at ks a) → a < size
inside_by ks size a long Q n q = from_dec ks size a long Q n q (dec_le size a)

pub inside_kind : (ks : List Kind) → (size a : ℕ) → length ks ≡ size → (k : Kind) → is_named k ≡ true → kind_at ks a ≡ k → a < size
inside_kind ks size a long k h e =
    inside_by ks size a long (λ x. x ≡ k) (λ z. true≢false (sym h ∙ ap is_named (sym z))) e

pub inside_test : (ks : List Kind) → (size a : ℕ) → length ks ≡ size → (g : Kind → Bool) → g End ≡ false → g (kind_at ks a) ≡ true → a < size
inside_test ks size a long g h e = inside_by ks size a long (λ x. g x ≡ true) (λ z. true≢false (sym z ∙ h)) e

pub inside_specifies_at : (ks : List Kind) → (size a : ℕ) → length ks ≡ size → specifies_at ks a ≡ true → a < size
unfolding specifies_at atomic_at
inside_specifies_at ks size a long e =
    inside_test ks size a long (λ k. is_specifying k || (is_atomic k && not (is_opening (kind_at ks (a + 1))))) refl e

pub inside_qualifies_at : (ks : List Kind) → (size a : ℕ) → length ks ≡ size → qualifies_at ks a ≡ true → a < size
unfolding qualifies_at atomic_at
inside_qualifies_at ks size a long e =
    inside_test ks size a long (λ k. is_qualifier k || (is_atomic k && not (is_opening (kind_at ks (a + 1))))) refl e

pub inside_level : (ks : List Kind) → (size a : ℕ) → length ks ≡ size → (l : ℕ) → 1 ≤ l → level_at ks a ≡ l → a < size
inside_level ks size a long l h e = inside_by ks size a long (λ k. level_of k ≡ l) (λ z. true≢false (absurd (omega (arith, h, z)))) e

none_named : (plain : Bool) → names_it plain End ≡ false
none_named true = refl
none_named false = refl

pub inside_names_it : (ks : List Kind) → (size a : ℕ) → length ks ≡ size → (plain : Bool) → names_it plain (kind_at ks a) ≡ true → a < size
inside_names_it ks size a long plain e = inside_test ks size a long (names_it plain) (none_named plain) e

none_may : (named : Named) → may_name named End ≡ false
none_may Never = refl
none_may Plainly = refl
none_may Freely = refl

pub inside_may_name : (ks : List Kind) → (size a : ℕ) → length ks ≡ size → (named : Named) → may_name named (kind_at ks a) ≡ true → a < size
inside_may_name ks size a long named e = inside_test ks size a long (may_name named) (none_may named) e

-- as many tokens as before
hidden_length : (ks : List Kind) → (k : Kind) → length (hide_kind ks k) ≡ length ks
unfolding hide_word
hidden_length ks (TypeName w) = length-map ks (hidden_one w)
hidden_length ks _ = refl

hide_length : (ks : List Kind) → (o : Option ℕ) → length (hide ks o) ≡ length ks
hide_length ks None = refl
hide_length ks (Some n) = hidden_length ks (kind_at ks n)

pub past_length : (ks : List Kind) → (size : ℕ) → (p : Naming) → length ks ≡ size → length (past ks p) ≡ size
past_length ks size p long = hide_length ks (name_by p) ∙ long
