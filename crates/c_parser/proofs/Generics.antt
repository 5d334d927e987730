-- Generic selections, and the place of a member: what a call found is the only one there; where a part has none, the whole
-- has none.
use Rattle.std.proofs.Common.{◌≡◌, refl, ap, sym, ◌∙◌, subst, ℕ, ◌+◌, ◌<◌, ◌≤◌, List, [], ◌∷◌, ◌++◌, length, arith, true, false, true≢false}
use Rattle.tree_data.specs.Trees.{Naming, Tree, Generic_of, Offset_of, Behind, Operand_of, Index_of, Call_of, Call_with_of, Member_of, Step_of, Behinds, None_behind, Behind_then, behinds, Association, Typed_of, Default_of, Associations, No_associations, Association_then, associations}
use Rattle.c_parser.specs.declared.answers.Stop.{Stop}
use Rattle.c_parser.specs.declared.kinds.Kind.{Kind}
use Rattle.c_parser.specs.declared.kinds.Kind.TheVariants.{Identifier, Constant, Text, OpenParen, CloseParen, OpenBracket, Dot, Colon, Comma, Generic, OffsetOf, Default}
use Rattle.c_parser.specs.Grammar.{IsAny, IsStep, AreSteps}
use Rattle.c_parser.specs.Kinds.{kind_at, level_at, level_of, is_word, is_dot, is_size, is_member, is_designating, starts_type, ends_type}
use Rattle.c_parser.specs.Reading.{HoldsType, Holds, HoldsBehind, HoldBehinds, HoldsAssociation, HoldAssociations, Reads, Stops, Found, FoundBehind, FoundSteps, FoundAssociation, FoundAssociations, FoundType, IsWant}
use Rattle.c_parser.proofs.Marks.{clash, dot_designates}
use Rattle.c_parser.proofs.Parsing.{Fails, found_only, found_behind_only}
use Rattle.c_parser.proofs.Types.{type_starts}
use Rattle.c_parser.proofs.SameParts.{OnlyAssociations, associations_begin, any_stop}
use Rattle.c_parser.proofs.Uniqueness.{association_only}
use Rattle.c_parser.proofs.Views.{Primary, a_name, a_constant, a_text, a_paren, a_size, a_compound, a_generic, an_offset, Selected, Located, primary_view}

abbrev pub OnlyAssociation : List Kind → ℕ → Association → ℕ → Type 0
OnlyAssociation ks a x b = (x' : Association) → (b' : ℕ) → HoldsAssociation ks x' a b' → Stops ks 2 b' → (x ≡ x') × (b ≡ b')

abbrev pub OnlySteps : List Kind → ℕ → Behinds → ℕ → Type 0
OnlySteps ks a xs b = (xs' : Behinds) → (b' : ℕ) → HoldBehinds ks 16 xs' a b' → AreSteps ks xs' → kind_at ks b' ≡ CloseParen → (xs ≡ xs') × (b ≡ b')

-- where a call gave e
abbrev pub FailsAssociation : List Kind → ℕ → Stop → Type 0
FailsAssociation ks a e = (x : Association) → (b : ℕ) → HoldsAssociation ks x a b → Stops ks 2 b → IsWant e

abbrev pub FailsAssociations : List Kind → ℕ → Stop → Type 0
FailsAssociations ks a e = (xs : Associations) → (b : ℕ) → HoldAssociations ks xs a b → kind_at ks b ≡ CloseParen → IsWant e

abbrev pub FailsSteps : List Kind → ℕ → Stop → Type 0
FailsSteps ks a e = (xs : Behinds) → (b : ℕ) → HoldBehinds ks 16 xs a b → AreSteps ks xs → kind_at ks b ≡ CloseParen → IsWant e

abbrev pub FailsTyped : List Kind → ℕ → Stop → Type 0
FailsTyped ks a e = (y : Naming) → (c : ℕ) → HoldsType ks y a c → ends_type (kind_at ks c) ≡ true → IsWant e

abbrev pub OnlyTyped : List Kind → ℕ → Naming → ℕ → Type 0
OnlyTyped ks a y c = (y' : Naming) → (c' : ℕ) → HoldsType ks y' a c' → ends_type (kind_at ks c') ≡ true → (y ≡ y') × (c ≡ c')

-- an association
pub default_found : (ks : List Kind) → (at : ℕ) → kind_at ks at ≡ Default → kind_at ks (at + 1) ≡ Colon → (e : Tree) → (b : ℕ)
    → Found ks 2 (at + 2) e b → FoundAssociation ks at (Default_of at (at + 1) e) b
default_found ks at k l e b found =
    let two : at + 2 ≡ (at + 1) + 1 = omega arith in
    let more : at + 2 < b = found.forth in
    record {
      reads = (refl, k, refl, l, found.reads.0, subst (λ x. Holds ks e x b) two found.reads.1);
      forth = omega arith;
      inside = found.inside;
    }

pub default_only : (ks : List Kind) → (at : ℕ) → kind_at ks at ≡ Default → kind_at ks (at + 1) ≡ Colon → (e : Tree) → (b : ℕ)
    → Found ks 2 (at + 2) e b → OnlyAssociation ks at (Default_of at (at + 1) e) b
default_only ks at k l e b found =
    association_only ks (Default_of at (at + 1) e) at b (default_found ks at k l e b found).reads found.stops

no_typed : {A : Type 0} → (ks : List Kind) → (at : ℕ) → kind_at ks at ≡ Default → (t : Naming) → (c : ℕ) → HoldsType ks t at c → A
no_typed ks at k t c h = absurd (true≢false (sym (type_starts ks t at c h) ∙ ap starts_type k))

pub default_unparted : (ks : List Kind) → (at : ℕ) → kind_at ks at ≡ Default → (k : Kind) → k ≡ kind_at ks (at + 1) → (k ≡ Colon → ⊥)
    → (x : Association) → (b : ℕ) → HoldsAssociation ks x at b → Stops ks 2 b → ⊥
default_unparted ks at d k e n (Typed_of t c u) b h s = no_typed ks at d t c h.0
default_unparted ks at d k e n (Default_of o c u) b h s = n (e ∙ ap (λ x. kind_at ks x) (sym h.2) ∙ h.3)

pub default_fails : (ks : List Kind) → (at : ℕ) → kind_at ks at ≡ Default → (e : Stop) → Fails ks 2 (at + 2) e → FailsAssociation ks at e
default_fails ks at d e fails (Typed_of t c u) b h s = no_typed ks at d t c h.0
default_fails ks at d e fails (Default_of o c u) b h s =
    let two : (at + 1) + 1 ≡ at + 2 = omega arith in
    fails u b (h.4, subst (λ x. Holds ks u x b) (ap (λ x. x + 1) h.2 ∙ two) h.5) s

pub typed_found : (ks : List Kind) → (at : ℕ) → (t : Naming) → (c : ℕ) → FoundType ks at t c → kind_at ks c ≡ Colon → (e : Tree) → (b : ℕ)
    → Found ks 2 (c + 1) e b → FoundAssociation ks at (Typed_of t c e) b
typed_found ks at t c y l e b found =
    let one : at < c = y.forth in
    let two : c + 1 < b = found.forth in
    record { reads = (y.reads, l, found.reads.0, found.reads.1); forth = omega arith; inside = found.inside }

pub typed_only : (ks : List Kind) → (at : ℕ) → (t : Naming) → (c : ℕ) → FoundType ks at t c → kind_at ks c ≡ Colon → (e : Tree) → (b : ℕ)
    → Found ks 2 (c + 1) e b → OnlyAssociation ks at (Typed_of t c e) b
typed_only ks at t c y l e b found =
    association_only ks (Typed_of t c e) at b (typed_found ks at t c y l e b found).reads found.stops

pub type_first_fails : (ks : List Kind) → (at : ℕ) → (k : Kind) → k ≡ kind_at ks at → (k ≡ Default → ⊥) → (e : Stop) → FailsTyped ks at e
    → FailsAssociation ks at e
type_first_fails ks at k f n e fails (Typed_of t c u) b h s = fails t c h.0 (ap ends_type h.1)
type_first_fails ks at k f n e fails (Default_of o c u) b h s = absurd (n (f ∙ h.1))

pub typed_unparted : (ks : List Kind) → (at : ℕ) → (k : Kind) → k ≡ kind_at ks at → (k ≡ Default → ⊥) → (t : Naming) → (c : ℕ) → OnlyTyped ks at t c
    → (l : Kind) → l ≡ kind_at ks c → (l ≡ Colon → ⊥) → (x : Association) → (b : ℕ) → HoldsAssociation ks x at b → Stops ks 2 b → ⊥
typed_unparted ks at k f n t c only l e m (Typed_of t' c' u) b h s =
    m (e ∙ ap (λ x. kind_at ks x) (only t' c' h.0 (ap ends_type h.1)).1 ∙ h.1)
typed_unparted ks at k f n t c only l e m (Default_of o c' u) b h s = n (f ∙ h.1)

pub typed_fails : (ks : List Kind) → (at : ℕ) → (k : Kind) → k ≡ kind_at ks at → (k ≡ Default → ⊥) → (t : Naming) → (c : ℕ) → OnlyTyped ks at t c
    → (e : Stop) → Fails ks 2 (c + 1) e → FailsAssociation ks at e
typed_fails ks at k f n t c only e fails (Typed_of t' c' u) b h s =
    let one = only t' c' h.0 (ap ends_type h.1) in
    fails u b (h.2, subst (λ x. Holds ks u (x + 1) b) (sym one.1) h.3) s
typed_fails ks at k f n t c only e fails (Default_of o c' u) b h s = absurd (n (f ∙ h.1))

-- some in front of others
abbrev pub among : List (ℕ × Association) → Associations → Associations
among [] more = more
among (x ∷ xs) more = Association_then x.0 x.1 (among xs more)

among_none : (xs : List (ℕ × Association)) → among xs No_associations ≡ associations xs
among_none [] = refl
among_none (x ∷ xs) = ap (Association_then x.0 x.1) (among_none xs)

among_snoc : (xs : List (ℕ × Association)) → (o : ℕ) → (x : Association) → (more : Associations)
    → among (xs ++ (o, x) ∷ []) more ≡ among xs (Association_then o x more)
among_snoc [] o x more = refl
among_snoc (y ∷ ys) o x more = ap (Association_then y.0 y.1) (among_snoc ys o x more)

pub record ChoicesLeft (ks : List Kind) (done : List (ℕ × Association)) (at : ℕ) (xs : Associations) (b : ℕ) : Type 0 where
  pub left : Associations
  pub is : xs ≡ among done left
  pub holds : HoldAssociations ks left at b

pub record Choices (ks : List Kind) (start : ℕ) (done : List (ℕ × Association)) (at : ℕ) : Type 0 where
  pub grows : (xs : Associations) → (b : ℕ) → HoldAssociations ks xs at b → HoldAssociations ks (among done xs) start b
  pub only : (xs : Associations) → (b : ℕ) → HoldAssociations ks xs start b → kind_at ks b ≡ CloseParen → ChoicesLeft ks done at xs b
  pub forth : start ≤ at
  pub inside : at ≤ length ks

pub choices_start : (ks : List Kind) → (at : ℕ) → at ≤ length ks → Choices ks at [] at
choices_start ks at i = record {
  grows = λ xs b h. h;
  only = λ xs b h l. record { left = xs; is = refl; holds = h };
  forth = omega arith;
  inside = i;
}

no_close : {A : Type 0} → (ks : List Kind) → (at b : ℕ) → kind_at ks at ≡ Comma → b ≡ at → kind_at ks b ≡ CloseParen → A
no_close ks at b q h l = clash (kind_at ks at) Comma CloseParen q (ap (λ x. kind_at ks x) (sym h) ∙ l) (λ x. omega (arith, x))

choices_left : (ks : List Kind) → (done : List (ℕ × Association)) → (at : ℕ) → (x : Association) → (m : ℕ) → kind_at ks at ≡ Comma
    → OnlyAssociation ks (at + 1) x m → (xs left : Associations) → (b : ℕ) → xs ≡ among done left → HoldAssociations ks left at b
    → kind_at ks b ≡ CloseParen → ChoicesLeft ks (done ++ (at, x) ∷ []) m xs b
choices_left ks done at x m q only xs No_associations b is h l = no_close ks at b q h l
choices_left ks done at x m q only xs (Association_then o y left) b is h l =
    let one = only y h.0 h.3 (associations_begin ks left h.0 b h.4 l) in
    record {
      left = left;
      is =
          is
          ∙ ap (λ z. among done (Association_then z y left)) h.1
          ∙ ap (λ z. among done (Association_then at z left)) (sym one.0)
          ∙ sym (among_snoc done at x left);
      holds = subst (λ z. HoldAssociations ks left z b) (sym one.1) h.4;
    }

pub choices_turn : (ks : List Kind) → (start : ℕ) → (done : List (ℕ × Association)) → (at : ℕ) → (x : Association) → (m : ℕ)
    → Choices ks start done at → kind_at ks at ≡ Comma → FoundAssociation ks (at + 1) x m → OnlyAssociation ks (at + 1) x m
    → Choices ks start (done ++ (at, x) ∷ []) m
choices_turn ks start done at x m loop q found only =
    let one : start ≤ at = loop.forth in
    let two : at + 1 < m = found.forth in
    record {
      grows = λ xs b h.
          subst
          (λ y. HoldAssociations ks y start b)
          (sym (among_snoc done at x xs))
          (loop.grows (Association_then at x xs) b (m, refl, q, found.reads, h));
      only = λ xs b h l.
          let a = loop.only xs b h l in
          choices_left ks done at x m q only xs a.left b a.is a.holds l;
      forth = omega arith;
      inside = found.inside;
    }

pub choices_found : (ks : List Kind) → (start : ℕ) → (done : List (ℕ × Association)) → (at : ℕ) → Choices ks start done at
    → FoundAssociations ks start (associations done) at
choices_found ks start done at loop = record {
  reads = subst (λ y. HoldAssociations ks y start at) (among_none done) (loop.grows No_associations at refl);
  forth = loop.forth;
  inside = loop.inside;
}

choices_stop : (ks : List Kind) → (done : List (ℕ × Association)) → (at : ℕ) → (kind_at ks at ≡ Comma → ⊥) → (xs left : Associations) → (b : ℕ)
    → xs ≡ among done left → HoldAssociations ks left at b → (associations done ≡ xs) × (at ≡ b)
choices_stop ks done at n xs No_associations b is h = (sym (is ∙ among_none done), sym h)
choices_stop ks done at n xs (Association_then o x left) b is h = absurd (n h.2)

pub choices_only : (ks : List Kind) → (start : ℕ) → (done : List (ℕ × Association)) → (at : ℕ) → (k : Kind) → Choices ks start done at
    → k ≡ kind_at ks at → (k ≡ Comma → ⊥) → OnlyAssociations ks start (associations done) at
choices_only ks start done at k loop e n xs b h l =
    let a = loop.only xs b h l in
    choices_stop ks done at (λ x. n (e ∙ x)) xs a.left b a.is a.holds

next_choice : (ks : List Kind) → (at : ℕ) → kind_at ks at ≡ Comma → (e : Stop) → FailsAssociation ks (at + 1) e
    → (left : Associations) → (b : ℕ) → HoldAssociations ks left at b → kind_at ks b ≡ CloseParen → IsWant e
next_choice ks at q e fails No_associations b h l = no_close ks at b q h l
next_choice ks at q e fails (Association_then o x left) b h l = fails x h.0 h.3 (associations_begin ks left h.0 b h.4 l)

pub choices_fail : (ks : List Kind) → (start : ℕ) → (done : List (ℕ × Association)) → (at : ℕ) → Choices ks start done at
    → kind_at ks at ≡ Comma → (e : Stop) → FailsAssociation ks (at + 1) e → FailsAssociations ks start e
choices_fail ks start done at loop q e fails xs b h l =
    let a = loop.only xs b h l in
    next_choice ks at q e fails a.left b a.holds l

-- the selection
selected : (ks : List Kind) → (t : Tree) → (a b : ℕ) → kind_at ks a ≡ Generic → Primary ks t a b → Selected ks t a b
selected ks t a b k (a_name e k' f) = clash (kind_at ks a) Generic Identifier k k' (λ x. omega (arith, x))
selected ks t a b k (a_constant e k' f) = clash (kind_at ks a) Generic Constant k k' (λ x. omega (arith, x))
selected ks t a b k (a_text ns e k' f) = clash (kind_at ks a) Generic Text k k' (λ x. omega (arith, x))
selected ks t a b k (a_paren u c e k' r l f) = clash (kind_at ks a) Generic OpenParen k k' (λ x. omega (arith, x))
selected ks t a b k (a_size y c e k' o h l f n) = absurd (true≢false (sym k' ∙ ap is_size k))
selected ks t a b k (a_compound y c i e k' h l g) = clash (kind_at ks a) Generic OpenParen k k' (λ x. omega (arith, x))
selected ks t a b k (a_generic k' v) = v
selected ks t a b k (an_offset k' v) = clash (kind_at ks a) Generic OffsetOf k k' (λ x. omega (arith, x))

pub generic_unopened : (ks : List Kind) → (at : ℕ) → kind_at ks at ≡ Generic → (k : Kind) → k ≡ kind_at ks (at + 1) → (k ≡ OpenParen → ⊥)
    → (t : Tree) → (b : ℕ) → Reads ks 17 t at b → Stops ks 17 b → ⊥
generic_unopened ks at g k e n t b r s =
    let v = selected ks t at b g (primary_view ks t at b r) in
    n (e ∙ v.opens)

pub control_fails : (ks : List Kind) → (at : ℕ) → kind_at ks at ≡ Generic → (e : Stop) → Fails ks 2 (at + 2) e → Fails ks 17 at e
control_fails ks at g e fails t b r s =
    let v = selected ks t at b g (primary_view ks t at b r) in
    fails v.control v.behind v.reads (associations_begin ks v.choices v.behind v.closing v.holds v.closes)

-- the associations of a selection that stands there, behind the expression that was found
chosen : (ks : List Kind) → (at : ℕ) → kind_at ks at ≡ Generic → (u : Tree) → (m : ℕ) → Found ks 2 (at + 2) u m
    → (t : Tree) → (b : ℕ) → Reads ks 17 t at b
    → (xs : Associations) × (c : ℕ) × IsAny xs × HoldAssociations ks xs m c × (kind_at ks c ≡ CloseParen)
chosen ks at g u m found t b r =
    let v = selected ks t at b g (primary_view ks t at b r) in
    let one =
    found_only
    ks
    2
    (at + 2)
    u
    m
    (omega arith)
    found
    v.control
    v.behind
    v.reads
    (associations_begin ks v.choices v.behind v.closing v.holds v.closes) in
    (v.choices, v.closing, v.some, subst (λ x. HoldAssociations ks v.choices x v.closing) (sym one.1) v.holds, v.closes)

pub choices_of_fail : (ks : List Kind) → (at : ℕ) → kind_at ks at ≡ Generic → (u : Tree) → (m : ℕ) → Found ks 2 (at + 2) u m → (e : Stop)
    → FailsAssociations ks m e → Fails ks 17 at e
choices_of_fail ks at g u m found e fails t b r s =
    let v = chosen ks at g u m found t b r in
    fails v.0 v.1 v.3 v.4

any_comma : (ks : List Kind) → (xs : Associations) → (a b : ℕ) → IsAny xs → HoldAssociations ks xs a b → kind_at ks a ≡ Comma
any_comma ks No_associations a b i h = absurd i
any_comma ks (Association_then o x xs) a b i h = h.2

comma_any : (ks : List Kind) → (xs : Associations) → (a b : ℕ) → kind_at ks a ≡ Comma → kind_at ks b ≡ CloseParen → HoldAssociations ks xs a b → IsAny xs
comma_any ks No_associations a b q l h = no_close ks a b q h l
comma_any ks (Association_then o x xs) a b q l h = tt

pub nothing_chosen : (ks : List Kind) → (at : ℕ) → kind_at ks at ≡ Generic → (u : Tree) → (m : ℕ) → Found ks 2 (at + 2) u m → (k : Kind)
    → k ≡ kind_at ks m → (k ≡ Comma → ⊥) → (t : Tree) → (b : ℕ) → Reads ks 17 t at b → Stops ks 17 b → ⊥
nothing_chosen ks at g u m found k e n t b r s =
    let v = chosen ks at g u m found t b r in
    n (e ∙ any_comma ks v.0 m v.1 v.2 v.3)

pub generic_left_open : (ks : List Kind) → (at : ℕ) → kind_at ks at ≡ Generic → (u : Tree) → (m : ℕ) → Found ks 2 (at + 2) u m → (xs : Associations)
    → (c : ℕ) → OnlyAssociations ks m xs c → (k : Kind) → k ≡ kind_at ks c → (k ≡ CloseParen → ⊥)
    → (t : Tree) → (b : ℕ) → Reads ks 17 t at b → Stops ks 17 b → ⊥
generic_left_open ks at g u m found xs c only k e n t b r s =
    let v = chosen ks at g u m found t b r in
    n (e ∙ ap (λ x. kind_at ks x) (only v.0 v.1 v.3 v.4).1 ∙ v.4)

pub generic_found : (ks : List Kind) → (at : ℕ) → kind_at ks at ≡ Generic → kind_at ks (at + 1) ≡ OpenParen → (u : Tree) → (m : ℕ)
    → Found ks 2 (at + 2) u m → kind_at ks m ≡ Comma → (xs : Associations) → (c : ℕ) → FoundAssociations ks m xs c → kind_at ks c ≡ CloseParen → c < length ks
    → Found ks 17 at (Generic_of at (at + 1) u xs c) (c + 1)
generic_found ks at g o u m x q xs c y l i =
    let two : at + 2 ≡ (at + 1) + 1 = omega arith in
    let one : at + 2 < m = x.forth in
    let more : m ≤ c = y.forth in
    record {
      reads = (
        omega arith,
        (m, refl, g, refl, o, x.reads.0, subst (λ k. Holds ks u k m) two x.reads.1, comma_any ks xs m c q l y.reads, y.reads, l, refl),
      );
      stops = any_stop ks (c + 1);
      forth = omega arith;
      inside = omega arith;
    }

-- what selects within a member
step_is : (ks : List Kind) → (x : Behind) → (a b : ℕ) → is_designating (kind_at ks a) ≡ true → HoldsBehind ks 16 x a b → IsStep ks x
step_is ks (Operand_of o t) a b d h = absurd (omega (arith, h.0.1))
step_is ks (Index_of o t c) a b d h = tt
step_is ks (Call_of o c) a b d h = absurd (true≢false (sym d ∙ ap is_designating h.2))
step_is ks (Call_with_of o t bs c) a b d h = absurd (true≢false (sym d ∙ ap is_designating h.3))
step_is ks (Member_of o n) a b d h =
    dot_member (kind_at ks o) (ap (λ x. is_designating (kind_at ks x)) h.1 ∙ d) (ap (λ x. is_member (kind_at ks x)) h.1 ∙ h.2)
  where
    dot_member : (k : Kind) → is_designating k ≡ true → is_member k ≡ true → is_dot k ≡ true
    dot_member Dot d m = refl
    dot_member OpenBracket d m = absurd (true≢false (sym m))
    dot_member _ d m = absurd (true≢false (sym d))
step_is ks (Step_of o) a b d h = absurd (true≢false (sym d ∙ ap is_designating h.2))

step_starts : (ks : List Kind) → (x : Behind) → (a b : ℕ) → IsStep ks x → HoldsBehind ks 16 x a b → is_designating (kind_at ks a) ≡ true
step_starts ks (Operand_of o t) a b i h = absurd i
step_starts ks (Index_of o t c) a b i h = ap is_designating h.2
step_starts ks (Call_of o c) a b i h = absurd i
step_starts ks (Call_with_of o t bs c) a b i h = absurd i
step_starts ks (Member_of o n) a b i h = dot_designates (kind_at ks a) (ap (λ x. is_dot (kind_at ks x)) (sym h.1) ∙ i)
step_starts ks (Step_of o) a b i h = absurd i

pub record StepsLeft (ks : List Kind) (done : List Behind) (at : ℕ) (xs : Behinds) (b : ℕ) : Type 0 where
  pub left : Behinds
  pub is : xs ≡ behinds done left
  pub holds : HoldBehinds ks 16 left at b
  pub are : AreSteps ks left

pub record Steps (ks : List Kind) (start : ℕ) (done : List Behind) (at : ℕ) : Type 0 where
  pub grows : (xs : Behinds) → (b : ℕ) → HoldBehinds ks 16 xs at b → AreSteps ks xs
      → HoldBehinds ks 16 (behinds done xs) start b × AreSteps ks (behinds done xs)
  pub only : (xs : Behinds) → (b : ℕ) → HoldBehinds ks 16 xs start b → AreSteps ks xs → kind_at ks b ≡ CloseParen → StepsLeft ks done at xs b
  pub forth : start ≤ at
  pub inside : at ≤ length ks

pub steps_start : (ks : List Kind) → (at : ℕ) → at ≤ length ks → Steps ks at [] at
steps_start ks at i = record {
  grows = λ xs b h a. (h, a);
  only = λ xs b h a l. record { left = xs; is = refl; holds = h; are = a };
  forth = omega arith;
  inside = i;
}

behinds_more : (done : List Behind) → (x : Behind) → (more : Behinds) → behinds (done ++ x ∷ []) more ≡ behinds done (Behind_then x more)
behinds_more [] x more = refl
behinds_more (y ∷ ys) x more = ap (Behind_then y) (behinds_more ys x more)

closed_not : {A : Type 0} → (ks : List Kind) → (at b : ℕ) → is_designating (kind_at ks at) ≡ true → b ≡ at → kind_at ks b ≡ CloseParen → A
closed_not ks at b d h l = absurd (true≢false (sym d ∙ ap is_designating (ap (λ x. kind_at ks x) (sym h) ∙ l)))

steps_left : (ks : List Kind) → (done : List Behind) → (at : ℕ) → (x : Behind) → (m : ℕ) → is_designating (kind_at ks at) ≡ true
    → FoundBehind ks 16 at x m → (xs left : Behinds) → (b : ℕ) → xs ≡ behinds done left → HoldBehinds ks 16 left at b → AreSteps ks left
    → kind_at ks b ≡ CloseParen → StepsLeft ks (done ++ x ∷ []) m xs b
steps_left ks done at x m d found xs None_behind b is h a l = closed_not ks at b d h l
steps_left ks done at x m d found xs (Behind_then y left) b is h a l =
    let one = found_behind_only ks at x m found y h.0 h.1 in
    record {
      left = left;
      is = is ∙ ap (λ z. behinds done (Behind_then z left)) (sym one.0) ∙ sym (behinds_more done x left);
      holds = subst (λ z. HoldBehinds ks 16 left z b) (sym one.1) h.2;
      are = a.1;
    }

pub steps_turn : (ks : List Kind) → (start : ℕ) → (done : List Behind) → (at : ℕ) → (x : Behind) → (m : ℕ) → Steps ks start done at
    → is_designating (kind_at ks at) ≡ true → FoundBehind ks 16 at x m → Steps ks start (done ++ x ∷ []) m
steps_turn ks start done at x m loop d found =
    let one : start ≤ at = loop.forth in
    let two : at < m = found.forth in
    record {
      grows = λ xs b h a.
          subst
          (λ y. HoldBehinds ks 16 y start b × AreSteps ks y)
          (sym (behinds_more done x xs))
          (loop.grows (Behind_then x xs) b (m, found.reads, h) (step_is ks x at m d found.reads, a));
      only = λ xs b h a l.
          let v = loop.only xs b h a l in
          steps_left ks done at x m d found xs v.left b v.is v.holds v.are l;
      forth = omega arith;
      inside = found.inside;
    }

pub steps_found : (ks : List Kind) → (start : ℕ) → (done : List Behind) → (at : ℕ) → Steps ks start done at
    → FoundSteps ks start (behinds done None_behind) at
steps_found ks start done at loop =
    let all = loop.grows None_behind at refl tt in
    record { reads = all.0; are = all.1; forth = loop.forth; inside = loop.inside }

steps_stop : (ks : List Kind) → (done : List Behind) → (at : ℕ) → is_designating (kind_at ks at) ≡ false → (xs left : Behinds) → (b : ℕ)
    → xs ≡ behinds done left → HoldBehinds ks 16 left at b → AreSteps ks left → (behinds done None_behind ≡ xs) × (at ≡ b)
steps_stop ks done at n xs None_behind b is h a = (sym is, sym h)
steps_stop ks done at n xs (Behind_then x left) b is h a = absurd (true≢false (sym (step_starts ks x at h.0 a.0 h.1) ∙ n))

pub steps_only : (ks : List Kind) → (start : ℕ) → (done : List Behind) → (at : ℕ) → Steps ks start done at
    → is_designating (kind_at ks at) ≡ false → OnlySteps ks start (behinds done None_behind) at
steps_only ks start done at loop n xs b h a l =
    let v = loop.only xs b h a l in
    steps_stop ks done at n xs v.left b v.is v.holds v.are

next_step : (ks : List Kind) → (at : ℕ) → is_designating (kind_at ks at) ≡ true → (e : Stop)
    → ((x : Behind) → (b : ℕ) → HoldsBehind ks 16 x at b → IsWant e)
    → (left : Behinds) → (b : ℕ) → HoldBehinds ks 16 left at b → kind_at ks b ≡ CloseParen → IsWant e
next_step ks at d e fails None_behind b h l = closed_not ks at b d h l
next_step ks at d e fails (Behind_then x left) b h l = fails x h.0 h.1

pub steps_fail : (ks : List Kind) → (start : ℕ) → (done : List Behind) → (at : ℕ) → Steps ks start done at
    → is_designating (kind_at ks at) ≡ true → (e : Stop) → ((x : Behind) → (b : ℕ) → HoldsBehind ks 16 x at b → IsWant e) → FailsSteps ks start e
steps_fail ks start done at loop d e fails xs b h a l =
    let v = loop.only xs b h a l in
    next_step ks at d e fails v.left b v.holds l

step_level : (k : Kind) → is_designating k ≡ true → level_of k ≡ 16
step_level OpenBracket d = refl
step_level Dot d = refl
step_level _ d = absurd (true≢false (sym d))

pub step_levels : (ks : List Kind) → (at : ℕ) → is_designating (kind_at ks at) ≡ true → level_at ks at ≡ 16
step_levels ks at d = step_level (kind_at ks at) d

-- the place of a member
located : (ks : List Kind) → (t : Tree) → (a b : ℕ) → kind_at ks a ≡ OffsetOf → Primary ks t a b → Located ks t a b
located ks t a b k (a_name e k' f) = clash (kind_at ks a) OffsetOf Identifier k k' (λ x. omega (arith, x))
located ks t a b k (a_constant e k' f) = clash (kind_at ks a) OffsetOf Constant k k' (λ x. omega (arith, x))
located ks t a b k (a_text ns e k' f) = clash (kind_at ks a) OffsetOf Text k k' (λ x. omega (arith, x))
located ks t a b k (a_paren u c e k' r l f) = clash (kind_at ks a) OffsetOf OpenParen k k' (λ x. omega (arith, x))
located ks t a b k (a_size y c e k' o h l f n) = absurd (true≢false (sym k' ∙ ap is_size k))
located ks t a b k (a_compound y c i e k' h l g) = clash (kind_at ks a) OffsetOf OpenParen k k' (λ x. omega (arith, x))
located ks t a b k (a_generic k' v) = clash (kind_at ks a) OffsetOf Generic k k' (λ x. omega (arith, x))
located ks t a b k (an_offset k' v) = v

pub offset_unopened : (ks : List Kind) → (at : ℕ) → kind_at ks at ≡ OffsetOf → (k : Kind) → k ≡ kind_at ks (at + 1) → (k ≡ OpenParen → ⊥)
    → (t : Tree) → (b : ℕ) → Reads ks 17 t at b → Stops ks 17 b → ⊥
offset_unopened ks at g k e n t b r s =
    let v = located ks t at b g (primary_view ks t at b r) in
    n (e ∙ v.opens)

pub offset_type_fails : (ks : List Kind) → (at : ℕ) → kind_at ks at ≡ OffsetOf → (e : Stop) → FailsTyped ks (at + 2) e → Fails ks 17 at e
offset_type_fails ks at g e fails t b r s =
    let v = located ks t at b g (primary_view ks t at b r) in
    fails v.name v.comma v.holds (ap ends_type v.parts)

-- behind the type that was found
record Within (ks : List Kind) (m : ℕ) : Type 0 where
  parts : kind_at ks m ≡ Comma
  word : is_word (kind_at ks (m + 1)) ≡ true
  steps : Behinds
  closing : ℕ
  are : AreSteps ks steps
  goes : HoldBehinds ks 16 steps (m + 2) closing
  closes : kind_at ks closing ≡ CloseParen

within : (ks : List Kind) → (at : ℕ) → kind_at ks at ≡ OffsetOf → (y : Naming) → (m : ℕ) → OnlyTyped ks (at + 2) y m
    → (t : Tree) → (b : ℕ) → Reads ks 17 t at b → Within ks m
within ks at g y m only t b r =
    let v = located ks t at b g (primary_view ks t at b r) in
    let one = only v.name v.comma v.holds (ap ends_type v.parts) in
    record {
      parts = ap (λ x. kind_at ks x) one.1 ∙ v.parts;
      word = ap (λ x. is_word (kind_at ks (x + 1))) one.1 ∙ v.word;
      steps = v.steps;
      closing = v.closing;
      are = v.are;
      goes = subst (λ x. HoldBehinds ks 16 v.steps (x + 2) v.closing) (sym one.1) v.goes;
      closes = v.closes;
    }

pub offset_unparted : (ks : List Kind) → (at : ℕ) → kind_at ks at ≡ OffsetOf → (y : Naming) → (m : ℕ) → OnlyTyped ks (at + 2) y m
    → (k : Kind) → k ≡ kind_at ks m → (k ≡ Comma → ⊥) → (t : Tree) → (b : ℕ) → Reads ks 17 t at b → Stops ks 17 b → ⊥
offset_unparted ks at g y m only k e n t b r s = n (e ∙ (within ks at g y m only t b r).parts)

pub offset_unnamed : (ks : List Kind) → (at : ℕ) → kind_at ks at ≡ OffsetOf → (y : Naming) → (m : ℕ) → OnlyTyped ks (at + 2) y m
    → is_word (kind_at ks (m + 1)) ≡ false → (t : Tree) → (b : ℕ) → Reads ks 17 t at b → Stops ks 17 b → ⊥
offset_unnamed ks at g y m only n t b r s = true≢false (sym (within ks at g y m only t b r).word ∙ n)

pub offset_steps_fail : (ks : List Kind) → (at : ℕ) → kind_at ks at ≡ OffsetOf → (y : Naming) → (m : ℕ) → OnlyTyped ks (at + 2) y m
    → (e : Stop) → FailsSteps ks (m + 2) e → Fails ks 17 at e
offset_steps_fail ks at g y m only e fails t b r s =
    let v = within ks at g y m only t b r in
    fails v.steps v.closing v.goes v.are v.closes

pub offset_left_open : (ks : List Kind) → (at : ℕ) → kind_at ks at ≡ OffsetOf → (y : Naming) → (m : ℕ) → OnlyTyped ks (at + 2) y m
    → (xs : Behinds) → (c : ℕ) → OnlySteps ks (m + 2) xs c → (k : Kind) → k ≡ kind_at ks c → (k ≡ CloseParen → ⊥)
    → (t : Tree) → (b : ℕ) → Reads ks 17 t at b → Stops ks 17 b → ⊥
offset_left_open ks at g y m only xs c more k e n t b r s =
    let v = within ks at g y m only t b r in
    n (e ∙ ap (λ x. kind_at ks x) (more v.steps v.closing v.goes v.are v.closes).1 ∙ v.closes)

pub offset_found : (ks : List Kind) → (at : ℕ) → kind_at ks at ≡ OffsetOf → kind_at ks (at + 1) ≡ OpenParen → (y : Naming) → (m : ℕ)
    → FoundType ks (at + 2) y m → kind_at ks m ≡ Comma → is_word (kind_at ks (m + 1)) ≡ true → (xs : Behinds) → (c : ℕ)
    → FoundSteps ks (m + 2) xs c → kind_at ks c ≡ CloseParen → c < length ks
    → Found ks 17 at (Offset_of at (at + 1) y m (m + 1) xs c) (c + 1)
offset_found ks at g o y m x q w xs c z l i =
    let two : at + 2 ≡ (at + 1) + 1 = omega arith in
    let next : m + 2 ≡ (m + 1) + 1 = omega arith in
    let one : at + 2 < m = x.forth in
    let more : m + 2 ≤ c = z.forth in
    record {
      reads = (
        omega arith,
        (
          refl,
          g,
          refl,
          o,
          subst (λ k. HoldsType ks y k m) two x.reads,
          q,
          refl,
          w,
          z.are,
          subst (λ k. HoldBehinds ks 16 xs k c) next z.reads,
          l,
          refl,
        ),
      );
      stops = any_stop ks (c + 1);
      forth = omega arith;
      inside = omega arith;
    }
