-- No two declarators with a name stand from one place on, where one may end behind each, and with what these begin.
use Rattle.std.proofs.Common.{◌≡◌, refl, ap, sym, ◌∙◌, subst, ℕ, ◌+◌, List, [], ◌∷◌, Bool, true, false, not, true≢false}
use Rattle.tree_data.specs.Trees.{Declaring, Declaring_of, Grouping, No_group, Named_of, Group_of}
use Rattle.c_parser.specs.declared.kinds.Kind.{Kind}
use Rattle.c_parser.specs.declared.kinds.Kind.TheVariants.{Star, Identifier, TypeName, OpenParen}
use Rattle.c_parser.specs.Kinds.{kind_at, is_word, ends_type, ends_specifiers, names_it, plain_behind}
use Rattle.c_parser.specs.Reading.{HoldPointers, HoldDerivings, HoldsDeclarator, HoldsDirect}
use Rattle.c_parser.proofs.DeclaratorReading.{derivings_only, ends_stars, word_stars, no_star, no_qualifier}
use Rattle.c_parser.proofs.Forth.{direct_forth}
use Rattle.c_parser.proofs.Typed.{From, later, next}
use Rattle.c_parser.proofs.Types.{pointers_only, pointers_forth}
use Rattle.c_parser.proofs.Words.{word_identifier, word_ends, plain_ends}

pub named_it : (y : Bool) → (k : Kind) → names_it y k ≡ true → is_word k ≡ true
named_it true k h = word_identifier k h
named_it false k h = h

pub not_opening : {A : Type 0} → (ks : List Kind) → (y : Bool) → (a : ℕ) → kind_at ks a ≡ OpenParen → names_it y (kind_at ks a) ≡ true → A
not_opening ks y a k h = absurd (true≢false (sym (named_it y (kind_at ks a) h) ∙ ap is_word k))

-- behind the pointers
pub direct_begins : (ks : List Kind) → (y : Bool) → (g : Grouping) → (a m : ℕ) → HoldsDirect ks y g a m → ends_stars (kind_at ks a) ≡ true
direct_begins ks y No_group a m h = absurd h
direct_begins ks y (Named_of n) a m h = word_stars (kind_at ks a) (named_it y (kind_at ks a) h.1)
direct_begins ks y (Group_of o d c) a m h = ap ends_stars h.1

-- the pointers in front
declarator_pointers : (ks : List Kind) → (y : Bool) → (ps : List (ℕ × List ℕ)) → (g : Grouping) → (a m n : ℕ) → HoldPointers ks ps a m
    → HoldsDirect ks (plain_behind y ps) g m n → (ps' : List (ℕ × List ℕ)) → (g' : Grouping) → (m' n' : ℕ) → HoldPointers ks ps' a m'
    → HoldsDirect ks (plain_behind y ps') g' m' n' → (ps ≡ ps') × (m ≡ m')
declarator_pointers ks y ps g a m n h i ps' g' m' n' h' i' =
    let begun = direct_begins ks (plain_behind y ps) g m n i in
    let begun' = direct_begins ks (plain_behind y ps') g' m' n' i' in
    pointers_only ks ps a m h (no_star ks m begun) (no_qualifier ks m begun) ps' m' h' (no_star ks m' begun') (no_qualifier ks m' begun')

mutual
  pub declarator_only : (ks : List Kind) → (y : Bool) → (d : Declaring) → (a b : ℕ) → From ks a → HoldsDeclarator ks y d a b
      → ends_type (kind_at ks b) ≡ true → (d' : Declaring) → (b' : ℕ) → HoldsDeclarator ks y d' a b' → ends_type (kind_at ks b') ≡ true
      → (d ≡ d') × (b ≡ b')
  declarator_only ks y (Declaring_of ps g ds) a b w h e (Declaring_of ps' g' ds') b' h' e' =
      let one = declarator_pointers ks y ps g a h.0 h.1 h.2 h.3 ps' g' h'.0 h'.1 h'.2 h'.3 in
      let moved : HoldsDirect ks (plain_behind y ps) g' h.0 h'.1 =
      subst (λ x. HoldsDirect ks (plain_behind y x) g' h.0 h'.1) (sym one.0)
      (subst (λ x. HoldsDirect ks (plain_behind y ps') g' x h'.1) (sym one.1) h'.3) in
      let w' : From ks h.0 = later ks a h.0 (pointers_forth ks ps a h.0 h.2) w in
      let two = direct_only ks (plain_behind y ps) g h.0 h.1 w' h.3 g' h'.1 moved in
      let w2 : From ks h.1 = later ks h.0 h.1 (direct_forth ks (plain_behind y ps) g h.0 h.1 h.3) w' in
      let three = derivings_only ks ds h.1 b w2 h.4 e ds' b' (subst (λ x. HoldDerivings ks ds' x b') (sym two.1) h'.4) e' in (
        ap (λ x. Declaring_of x g ds) one.0 ∙ ap (λ x. Declaring_of ps' x ds) two.0 ∙ ap (λ x. Declaring_of ps' g' x) three.0,
        three.1,
      )

  direct_only : (ks : List Kind) → (y : Bool) → (g : Grouping) → (a m : ℕ) → From ks a → HoldsDirect ks y g a m → (g' : Grouping) → (m' : ℕ)
      → HoldsDirect ks y g' a m' → (g ≡ g') × (m ≡ m')
  direct_only ks y No_group a m w h g' m' h' = absurd h
  direct_only ks y (Named_of n) a m w h No_group m' h' = absurd h'
  direct_only ks y (Named_of n) a m w h (Named_of n') m' h' = (ap Named_of (h.0 ∙ sym h'.0), h.2 ∙ sym h'.2)
  direct_only ks y (Named_of n) a m w h (Group_of o' d' c') m' h' = not_opening ks y a h'.1 h.1
  direct_only ks y (Group_of o d c) a m w h No_group m' h' = absurd h'
  direct_only ks y (Group_of o d c) a m w h (Named_of n') m' h' = not_opening ks y a h.1 h'.1
  direct_only ks y (Group_of o d c) a m w h (Group_of o' d' c') m' h' =
      let same = declarator_only ks false d (a + 1) c (next ks a w) h.2 (ap ends_type h.3) d' c' h'.2 (ap ends_type h'.3) in (
        ap (λ x. Group_of x d c) (h.0 ∙ sym h'.0) ∙ ap (λ x. Group_of o' x c) same.0 ∙ ap (λ x. Group_of o' d' x) same.1,
        h.4 ∙ ap (λ x. x + 1) same.1 ∙ sym h'.4,
      )

-- specifiers end in front of a declarator
named_ends : (t : Bool) → (k : Kind) → names_it (not t) k ≡ true → ends_specifiers k t ≡ true
named_ends true k h = word_ends k h
named_ends false k h = plain_ends k h

direct_next : (ks : List Kind) → (t : Bool) → (g : Grouping) → (a m : ℕ) → HoldsDirect ks (not t) g a m → ends_specifiers (kind_at ks a) t ≡ true
direct_next ks t No_group a m h = absurd h
direct_next ks t (Named_of n) a m h = named_ends t (kind_at ks a) h.1
direct_next ks t (Group_of o d c) a m h = ap (λ k. ends_specifiers k t) h.1

pub declarator_next : (ks : List Kind) → (t : Bool) → (d : Declaring) → (a b : ℕ) → HoldsDeclarator ks (not t) d a b
    → ends_specifiers (kind_at ks a) t ≡ true
declarator_next ks t (Declaring_of [] g ds) a b h = ap (λ x. ends_specifiers (kind_at ks x) t) (sym h.2) ∙ direct_next ks t g h.0 h.1 h.3
declarator_next ks t (Declaring_of (p ∷ ps) g ds) a b h = ap (λ k. ends_specifiers k t) h.2.2

-- with which a declarator begins
abbrev pub starts_declarator : Kind → Bool
starts_declarator Star = true
starts_declarator Identifier = true
starts_declarator (TypeName n) = true
starts_declarator OpenParen = true
starts_declarator _ = false

word_declares : (k : Kind) → is_word k ≡ true → starts_declarator k ≡ true
word_declares Identifier h = refl
word_declares (TypeName n) h = refl
word_declares _ h = absurd (true≢false (sym h))

direct_starts : (ks : List Kind) → (y : Bool) → (g : Grouping) → (a m : ℕ) → HoldsDirect ks y g a m → starts_declarator (kind_at ks a) ≡ true
direct_starts ks y No_group a m h = absurd h
direct_starts ks y (Named_of n) a m h = word_declares (kind_at ks a) (named_it y (kind_at ks a) h.1)
direct_starts ks y (Group_of o d c) a m h = ap starts_declarator h.1

pub declarator_starts : (ks : List Kind) → (y : Bool) → (d : Declaring) → (a b : ℕ) → HoldsDeclarator ks y d a b → starts_declarator (kind_at ks a) ≡ true
declarator_starts ks y (Declaring_of [] g ds) a b h =
    ap (λ x. starts_declarator (kind_at ks x)) (sym h.2) ∙ direct_starts ks y g h.0 h.1 h.3
declarator_starts ks y (Declaring_of (p ∷ ps) g ds) a b h = ap starts_declarator h.2.2
