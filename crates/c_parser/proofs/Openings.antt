-- Unary operators, casts, and what begins with the name of a type: what a call read there is the only thing there.
use Rattle.std.proofs.Common.{◌≡◌, refl, ap, sym, ◌∙◌, subst, ℕ, zero, suc, ◌+◌, ◌<◌, ◌≤◌, List, [], ◌∷◌, length, arith, true, false, true≢false}
use Rattle.tree_data.specs.Trees.{Naming, Tree, Of_type, Compound_of, Postfix_of, Front, Operator_of, Cast_of, Fronts, None_before, Front_then, fronts, Braces, Behinds, None_behind, Behind_then}
use Rattle.tree_data.specs.Seen.{type_of}
use Rattle.c_parser.specs.declared.answers.Stop.{Stop}
use Rattle.c_parser.specs.declared.answers.Stop.TheVariants as stop
use Rattle.c_parser.specs.declared.before.Begun.{Begun}
use Rattle.c_parser.specs.declared.before.Begun.TheVariants.{Plain, Size, Literal}
use Rattle.c_parser.specs.declared.kinds.Kind.{Kind}
use Rattle.c_parser.specs.declared.kinds.Kind.TheVariants.{OpenParen, CloseParen, OpenBrace, SizeOf, AlignOf}
use Rattle.c_parser.specs.Beginnings.{start_of, IsPlain, IsNamed, IsSized, IsLiteral, Begins, NoOperand}
use Rattle.c_parser.specs.Grammar.{IsMore, goes_on}
use Rattle.c_parser.specs.Kinds.{kind_at, level_at, is_prefix, is_size, is_suffix, is_opening, starts_type, ends_type, type_at, size_at, casts_at}
use Rattle.c_parser.specs.Reading.{HoldsType, HoldsFront, HoldFronts, HoldBehinds, HoldBraces, Reads, Stops, Found, FoundFront, FoundPrefixes, FoundBraces, FoundType, IsWant}
use Rattle.c_parser.proofs.Fronts.{Fore, Without}
use Rattle.c_parser.proofs.Marks.{opening_is, no_type, level_suffix, suffix_level}
use Rattle.c_parser.proofs.Parsing.{Fails, found_only, first_fails, typed_here, sized_here}
use Rattle.c_parser.proofs.SameParts.{any_stop}
use Rattle.c_parser.proofs.TypeReading.{type_only, typed_at}
use Rattle.c_parser.proofs.Types.{type_starts}
use Rattle.c_parser.proofs.Words.{left_of, right_of}
use Rattle.c_parser.proofs.Views.{Primary, a_name, a_constant, a_text, a_paren, a_size, a_compound, a_generic, an_offset, primary_view, postfix_view, starts, Prefixing, an_operator, a_cast, prefix_view, first_postfix, opened_prefix, SizeAt, CastAt, Goes, size_clashes}

pub type_opens : (ks : List Kind) → (at : ℕ) → type_at ks at ≡ true → kind_at ks at ≡ OpenParen
unfolding type_at
type_opens ks at h = opening_is (kind_at ks at) (left_of (is_opening (kind_at ks at)) (starts_type (kind_at ks (at + 1))) h)

type_begins : (ks : List Kind) → (at : ℕ) → type_at ks at ≡ true → starts_type (kind_at ks (at + 1)) ≡ true
unfolding type_at
type_begins ks at h = right_of (is_opening (kind_at ks at)) (starts_type (kind_at ks (at + 1))) h

pub size_sizes : (ks : List Kind) → (at : ℕ) → size_at ks at ≡ true → is_size (kind_at ks at) ≡ true
unfolding size_at
size_sizes ks at h = left_of (is_size (kind_at ks at)) (type_at ks (at + 1)) h

pub size_typed : (ks : List Kind) → (at : ℕ) → size_at ks at ≡ true → type_at ks (at + 1) ≡ true
unfolding size_at
size_typed ks at h = right_of (is_size (kind_at ks at)) (type_at ks (at + 1)) h

-- these are tokens
inside_open : (ks : List Kind) → (at : ℕ) → is_opening (kind_at ks at) ≡ true → at < length ks
inside_open [] at h = absurd (true≢false (sym h))
inside_open (k ∷ ks) zero h = omega arith
inside_open (k ∷ ks) (suc at) h = omega (arith, inside_open ks at h)

pub type_inside : (ks : List Kind) → (at : ℕ) → type_at ks at ≡ true → at < length ks
type_inside ks at h = inside_open ks at (ap is_opening (type_opens ks at h))

pub size_inside : (ks : List Kind) → (at : ℕ) → size_at ks at ≡ true → at + 1 < length ks
size_inside ks at h = type_inside ks (at + 1) (size_typed ks at h)

inside_prefix : (ks : List Kind) → (at : ℕ) → is_prefix (kind_at ks at) ≡ true → at < length ks
inside_prefix [] at h = absurd (true≢false (sym h))
inside_prefix (k ∷ ks) zero h = omega arith
inside_prefix (k ∷ ks) (suc at) h = omega (arith, inside_prefix ks at h)

-- a call that reads `( type-name )` answers so where there is none
abbrev pub FailsNamed : List Kind → ℕ → Stop → Type 0
FailsNamed ks a e = (y : Naming) → (c : ℕ) → HoldsType ks y (a + 1) c → kind_at ks c ≡ CloseParen → IsWant e

pub named_found : (ks : List Kind) → (a : ℕ) → (y : Naming) → (c : ℕ) → kind_at ks a ≡ OpenParen → FoundType ks (a + 1) y c
    → kind_at ks c ≡ CloseParen → c < length ks → IsNamed ks a y c
named_found ks a y c k found l i = record { opens = k; reads = found.reads; closes = l; forth = found.forth; inside = i }

named_only : (ks : List Kind) → (a : ℕ) → (y : Naming) → (c : ℕ) → IsNamed ks a y c
    → (y' : Naming) → (c' : ℕ) → HoldsType ks y' (a + 1) c' → kind_at ks c' ≡ CloseParen → (y ≡ y') × (c ≡ c')
named_only ks a y c n y' c' h l = type_only ks y (a + 1) c n.reads (ap ends_type n.closes) y' c' h (ap ends_type l)

-- what begins with a type name in parentheses and no operator is a compound literal
record Literally (ks : List Kind) (t : Tree) (a b : ℕ) : Type 0 where
  name : Naming
  closing : ℕ
  braces : Braces
  is : t ≡ Compound_of a name closing braces
  holds : HoldsType ks name (a + 1) closing
  closes : kind_at ks closing ≡ CloseParen
  goes : HoldBraces ks braces (closing + 1) b

literally : (ks : List Kind) → (t : Tree) → (a b : ℕ) → kind_at ks a ≡ OpenParen → starts_type (kind_at ks (a + 1)) ≡ true
    → Primary ks t a b → Literally ks t a b
literally ks t a b k s (a_name e k' f) = absurd (true≢false (sym (ap is_opening k) ∙ ap is_opening k'))
literally ks t a b k s (a_constant e k' f) = absurd (true≢false (sym (ap is_opening k) ∙ ap is_opening k'))
literally ks t a b k s (a_text ns e k' f) = absurd (true≢false (sym (ap is_opening k) ∙ ap is_opening k'))
literally ks t a b k s (a_generic k' v) = absurd (true≢false (sym (ap is_opening k) ∙ ap is_opening k'))
literally ks t a b k s (an_offset k' v) = absurd (true≢false (sym (ap is_opening k) ∙ ap is_opening k'))
literally ks t a b k s (a_size y c e k' o h l f u) = absurd (true≢false (sym k' ∙ ap is_size k))
literally ks t a b k s (a_paren u c e k' r l f) =
    absurd (true≢false (sym s ∙ no_type (kind_at ks (a + 1)) (starts ks u (a + 1) c r.1)))
literally ks t a b k s (a_compound y c i e k' h l g) =
    record { name = y; closing = c; braces = i; is = e; holds = h; closes = l; goes = g }

-- what begins with `sizeof` or `_Alignof` and no operator is the size or alignment of a type
record Sizing (ks : List Kind) (t : Tree) (a b : ℕ) : Type 0 where
  name : Naming
  closing : ℕ
  is : t ≡ Of_type a (a + 1) name closing
  opens : kind_at ks (a + 1) ≡ OpenParen
  holds : HoldsType ks name ((a + 1) + 1) closing
  closes : kind_at ks closing ≡ CloseParen
  unbraced : kind_at ks (closing + 1) ≡ OpenBrace → ⊥

sizing : (ks : List Kind) → (t : Tree) → (a b : ℕ) → is_size (kind_at ks a) ≡ true → Primary ks t a b → Sizing ks t a b
sizing ks t a b h (a_name e k f) = absurd (true≢false (sym h ∙ ap is_size k))
sizing ks t a b h (a_constant e k f) = absurd (true≢false (sym h ∙ ap is_size k))
sizing ks t a b h (a_text ns e k f) = absurd (true≢false (sym h ∙ ap is_size k))
sizing ks t a b h (a_generic k v) = absurd (true≢false (sym h ∙ ap is_size k))
sizing ks t a b h (an_offset k v) = absurd (true≢false (sym h ∙ ap is_size k))
sizing ks t a b h (a_paren u c e k r l f) = absurd (true≢false (sym h ∙ ap is_size k))
sizing ks t a b h (a_compound y c i e k h' l g) = absurd (true≢false (sym h ∙ ap is_size k))
sizing ks t a b h (a_size y c e k o i l f u) =
    let two : a + 2 ≡ (a + 1) + 1 = omega arith in
    record {
      name = y;
      closing = c;
      is = e;
      opens = o;
      holds = subst (λ x. HoldsType ks y x c) two i;
      closes = l;
      unbraced = subst (λ x. kind_at ks x ≡ OpenBrace → ⊥) f u;
    }

-- the first of an operand of a postfix-expression
literal_first : (ks : List Kind) → (t : Tree) → (a b : ℕ) → type_at ks a ≡ true → Reads ks 16 t a b
    → (y : Naming) × (c : ℕ) × HoldsType ks y (a + 1) c × (kind_at ks c ≡ CloseParen)
literal_first ks t a b h r =
    let v = postfix_view ks t a b r in
    let w = literally ks v.first a v.behind (type_opens ks a h) (type_begins ks a h) (primary_view ks v.first a v.behind v.reads) in
    (w.name, w.closing, w.holds, w.closes)

sized_first : (ks : List Kind) → (t : Tree) → (a b : ℕ) → is_size (kind_at ks a) ≡ true → Reads ks 16 t a b
    → (f : Tree) × (m : ℕ) × Sizing ks f a m
sized_first ks t a b h r =
    let v = postfix_view ks t a b r in
    (v.first, v.behind, sizing ks v.first a v.behind h (primary_view ks v.first a v.behind v.reads))

-- casts
record Casting (ks : List Kind) (x : Front) (a m : ℕ) : Type 0 where
  name : Naming
  closing : ℕ
  casts : casts_at ks a ≡ true
  holds : HoldsType ks name (a + 1) closing
  closes : kind_at ks closing ≡ CloseParen
  unbraced : kind_at ks (closing + 1) ≡ OpenBrace → ⊥

casting : (ks : List Kind) → (x : Front) → (a m : ℕ) → kind_at ks a ≡ OpenParen → Prefixing ks x a m → Casting ks x a m
casting ks x a m o (an_operator e k f) = opened_prefix ks a k o
casting ks x a m o (a_cast y c e k z h l f u) = record {
  name = y;
  closing = c;
  casts = z;
  holds = h;
  closes = l;
  unbraced = subst (λ n. kind_at ks n ≡ OpenBrace → ⊥) f u;
}

cast_at : (ks : List Kind) → (at : ℕ) → (y : Naming) → (c : ℕ) → IsNamed ks at y c → (kind_at ks (c + 1) ≡ OpenBrace → ⊥) → CastAt ks at
cast_at ks at y c n u = record { name = y; closing = c; opens = n.opens; holds = n.reads; closes = n.closes; unbraced = u }

pub cast_found : (ks : List Kind) → (at : ℕ) → (y : Naming) → (c : ℕ) → casts_at ks at ≡ true → IsNamed ks at y c
    → (kind_at ks (c + 1) ≡ OpenBrace → ⊥) → FoundFront ks 15 at (Cast_of at y c) (c + 1)
cast_found ks at y c z n u =
    let one : at + 1 < c = n.forth in
    let two : c < length ks = n.inside in
    record {
      reads = (refl, refl, n.opens, z, n.reads, n.closes, refl, u);
      bare = λ t b r. (first_postfix ks t at b (typed_at ks (at + 1)) r).no_cast (cast_at ks at y c n u);
      forth = omega arith;
      inside = omega arith;
    }

cast_next : (ks : List Kind) → (at : ℕ) → type_at ks at ≡ true → (e : Stop) → FailsNamed ks at e
    → (xs : Fronts) → (m : ℕ) → (t : Tree) → (b : ℕ) → HoldFronts ks 15 xs at m → Reads ks 16 t m b → IsWant e
cast_next ks at k e fails None_before m t b h r =
    let v = literal_first ks t at b k (subst (λ x. Reads ks 16 t x b) h r) in
    fails v.0 v.1 v.2 v.3
cast_next ks at k e fails (Front_then x xs) m t b h r =
    let v = casting ks x at h.0 (type_opens ks at k) (prefix_view ks x at h.0 h.1) in
    fails v.name v.closing v.holds v.closes

pub cast_fails : (ks : List Kind) → (at : ℕ) → type_at ks at ≡ true → (e : Stop) → FailsNamed ks at e → NoOperand ks at e
cast_fails ks at k e fails xs m t b h r = cast_next ks at k e fails xs m t b h r

not_cast : (ks : List Kind) → (at : ℕ) → (y : Naming) → (c : ℕ) → IsNamed ks at y c → (kind_at ks (c + 1) ≡ OpenBrace → ⊥)
    → casts_at ks at ≡ false → (xs : Fronts) → (m : ℕ) → (t : Tree) → (b : ℕ) → HoldFronts ks 15 xs at m → Reads ks 16 t m b → ⊥
not_cast ks at y c n u z None_before m t b h r =
    (first_postfix ks t at b (typed_at ks (at + 1)) (subst (λ x. Reads ks 16 t x b) h r)).no_cast (cast_at ks at y c n u)
not_cast ks at y c n u z (Front_then x xs) m t b h r =
    let v = casting ks x at h.0 n.opens (prefix_view ks x at h.0 h.1) in
    true≢false (sym v.casts ∙ z)

pub casts_not : (ks : List Kind) → (at : ℕ) → (y : Naming) → (c : ℕ) → (k : Kind) → IsNamed ks at y c → k ≡ kind_at ks (c + 1)
    → (k ≡ OpenBrace → ⊥) → casts_at ks at ≡ false → (n : ℕ) → NoOperand ks at (stop.Syntax n)
casts_not ks at y c k n e u z at' xs m t b h r = not_cast ks at y c n (λ x. u (e ∙ x)) z xs m t b h r

-- sizes
no_size_cast : {A : Type 0} → (ks : List Kind) → (at : ℕ) → is_size (kind_at ks at) ≡ true → kind_at ks at ≡ OpenParen → A
no_size_cast ks at s k = absurd (true≢false (sym s ∙ ap is_size k))

data Sized (ks : List Kind) (at : ℕ) (xs : Fronts) (m : ℕ) : Type 0 where
  alone : at ≡ m → Sized ks at xs m
  behind : (left : Fronts) → is_prefix (kind_at ks at) ≡ true → HoldFronts ks 15 left (at + 1) m → Sized ks at xs m

by_prefix : (ks : List Kind) → (at : ℕ) → is_size (kind_at ks at) ≡ true → (x : Front) → (xs : Fronts) → (k m : ℕ) → HoldFronts ks 15 xs k m
    → Prefixing ks x at k → Sized ks at (Front_then x xs) m
by_prefix ks at s x xs k m h (an_operator e p f) = behind xs p (subst (λ y. HoldFronts ks 15 xs y m) f h)
by_prefix ks at s x xs k m h (a_cast y c e o z g l f u) = no_size_cast ks at s o

by_fronts : (ks : List Kind) → (at : ℕ) → is_size (kind_at ks at) ≡ true → (xs : Fronts) → (m : ℕ) → HoldFronts ks 15 xs at m → Sized ks at xs m
by_fronts ks at s None_before m h = alone (sym h)
by_fronts ks at s (Front_then x xs) m h = by_prefix ks at s x xs h.0 m h.2 (prefix_view ks x at h.0 h.1)

size_next : (ks : List Kind) → (at : ℕ) → size_at ks at ≡ true → (e : Stop) → FailsNamed ks (at + 1) e
    → (xs : Fronts) → (m : ℕ) → (t : Tree) → (b : ℕ) → Reads ks 16 t m b → Sized ks at xs m → IsWant e
size_next ks at s e fails xs m t b r (alone h) =
    let v = sized_first ks t at b (size_sizes ks at s) (subst (λ x. Reads ks 16 t x b) (sym h) r) in
    fails v.2.name v.2.closing v.2.holds v.2.closes
size_next ks at s e fails xs m t b r (behind left p h) = cast_next ks (at + 1) (size_typed ks at s) e fails left m t b h r

pub size_fails : (ks : List Kind) → (at : ℕ) → size_at ks at ≡ true → (e : Stop) → FailsNamed ks (at + 1) e → NoOperand ks at e
size_fails ks at s e fails xs m t b h r =
    size_next ks at s e fails xs m t b r (by_fronts ks at (size_sizes ks at s) xs m h)

pub size_begun : (ks : List Kind) → (at : ℕ) → (y : Naming) → (c : ℕ) → (k : Kind) → size_at ks at ≡ true → IsNamed ks (at + 1) y c
    → k ≡ kind_at ks (c + 1) → (k ≡ OpenBrace → ⊥) → IsSized ks at y c
size_begun ks at y c k s n e u = record { sizes = size_sizes ks at s; named = n; unbraced = λ x. u (e ∙ x) }

-- `sizeof` in front of a compound literal is an operator
size_not_here : (ks : List Kind) → (at : ℕ) → (y : Naming) → (c : ℕ) → IsNamed ks (at + 1) y c → kind_at ks (c + 1) ≡ OpenBrace → SizeAt ks at → ⊥
size_not_here ks at y c n l s =
    let two : at + 2 ≡ (at + 1) + 1 = omega arith in
    let one = named_only ks (at + 1) y c n s.name s.closing (subst (λ x. HoldsType ks s.name x s.closing) two s.holds) s.closes in
    s.unbraced (ap (λ x. kind_at ks (x + 1)) (sym one.1) ∙ l)

pub size_operates : (ks : List Kind) → (at : ℕ) → (y : Naming) → (c : ℕ) → IsNamed ks (at + 1) y c → kind_at ks (c + 1) ≡ OpenBrace
    → kind_at ks at ≡ SizeOf → FoundFront ks 15 at (Operator_of at) (at + 1)
size_operates ks at y c n l k =
    let one : (at + 1) + 1 < c = n.forth in
    let two : c < length ks = n.inside in
    record {
      reads = (refl, refl, ap is_prefix k, refl);
      bare = λ t b r. size_not_here ks at y c n l ((first_postfix ks t at b (typed_at ks (at + 1)) r).no_operator (ap is_prefix k));
      forth = omega arith;
      inside = omega arith;
    }

size_alone : (ks : List Kind) → (at : ℕ) → size_at ks at ≡ true → (y : Naming) → (c : ℕ) → IsNamed ks (at + 1) y c → kind_at ks (c + 1) ≡ OpenBrace
    → (is_prefix (kind_at ks at) ≡ true → ⊥) → (xs : Fronts) → (m : ℕ) → (t : Tree) → (b : ℕ) → Reads ks 16 t m b → Sized ks at xs m → ⊥
size_alone ks at s y c n l p xs m t b r (alone h) =
    let v = sized_first ks t at b (size_sizes ks at s) (subst (λ x. Reads ks 16 t x b) (sym h) r) in
    let one = named_only ks (at + 1) y c n v.2.name v.2.closing v.2.holds v.2.closes in
    v.2.unbraced (ap (λ x. kind_at ks (x + 1)) (sym one.1) ∙ l)
size_alone ks at s y c n l p xs m t b r (behind left q h) = p q

size_prefix : (k : Kind) → is_size k ≡ true → is_prefix k ≡ true → k ≡ SizeOf
size_prefix SizeOf h g = refl
size_prefix AlignOf h g = absurd (true≢false (sym g))
size_prefix _ h g = absurd (true≢false (sym h))

pub align_fails : (ks : List Kind) → (at : ℕ) → size_at ks at ≡ true → (y : Naming) → (c : ℕ) → IsNamed ks (at + 1) y c
    → kind_at ks (c + 1) ≡ OpenBrace → (k : Kind) → k ≡ kind_at ks at → (k ≡ SizeOf → ⊥) → (n : ℕ) → NoOperand ks at (stop.Syntax n)
align_fails ks at s y c n l k e u at' xs m t b h r =
    size_alone
    ks
    at
    s
    y
    c
    n
    l
    (λ p. u (e ∙ size_prefix (kind_at ks at) (size_sizes ks at s) p))
    xs
    m
    t
    b
    r
    (by_fronts ks at (size_sizes ks at s) xs m h)

-- an operator
pub operator_found : (ks : List Kind) → (at : ℕ) → is_prefix (kind_at ks at) ≡ true → size_at ks at ≡ false
    → FoundFront ks 15 at (Operator_of at) (at + 1)
operator_found ks at p n =
    let here : at < length ks = inside_prefix ks at p in
    record {
      reads = (refl, refl, p, refl);
      bare = λ t b r.
          let s = (first_postfix ks t at b (typed_at ks (at + 1)) r).no_operator p in
          true≢false (sym (sized_here ks s.name at s.closing s.sizes s.opens s.holds) ∙ n);
      forth = omega arith;
      inside = omega arith;
    }

-- where an operand was begun, nothing stands in front of it
plain_first : (ks : List Kind) → (at : ℕ) → IsPlain ks at → (x : Front) → (m : ℕ) → Prefixing ks x at m → ⊥
plain_first ks at n x m (an_operator e p f) = true≢false (sym p ∙ n.no_operator)
plain_first ks at n x m (a_cast y c e o z h l f u) = true≢false (sym (typed_here ks y at c o h) ∙ n.no_type)

size_first : (ks : List Kind) → (at : ℕ) → (y : Naming) → (c : ℕ) → IsSized ks at y c → (x : Front) → (m : ℕ) → Goes ks 15 m → Prefixing ks x at m → ⊥
size_first ks at y c n x m g (an_operator e p f) =
    let two : (at + 1) + 1 ≡ at + 2 = omega arith in
    let here : SizeAt ks at =
    record {
      name = y;
      closing = c;
      sizes = n.sizes;
      opens = n.named.opens;
      holds = subst (λ k. HoldsType ks y k c) two n.named.reads;
      closes = n.named.closes;
      unbraced = n.unbraced;
    } in
    size_clashes ks at (typed_at ks (at + 2)) here p (subst (λ k. Goes ks 15 k) f g)
size_first ks at y c n x m g (a_cast y' c' e o z h l f u) = no_size_cast ks at n.sizes o

literal_not : (ks : List Kind) → (at : ℕ) → (y : Naming) → (c : ℕ) → IsLiteral ks at y c → (x : Front) → (m : ℕ) → HoldsFront ks 15 x at m → ⊥
literal_not ks at y c n x m h =
    let v = casting ks x at m n.named.opens (prefix_view ks x at m h) in
    let one = named_only ks at y c n.named v.name v.closing v.holds v.closes in
    v.unbraced (ap (λ k. kind_at ks (k + 1)) (sym one.1) ∙ n.braced)

not_in_front : (ks : List Kind) → (begun : Begun) → Begins ks begun → (x : Front) → (m : ℕ) → Goes ks 15 m → HoldsFront ks 15 x (start_of begun) m → ⊥
not_in_front ks (Plain at) n x m g h = plain_first ks at n x m (prefix_view ks x at m h)
not_in_front ks (Size k t c) n x m g h = size_first ks k (type_of t) c n x m g (prefix_view ks x k m h)
not_in_front ks (Literal o t c) n x m g h = literal_not ks o (type_of t) c n x m h

begun_inside : (ks : List Kind) → (begun : Begun) → Begins ks begun → start_of begun ≤ length ks
begun_inside ks (Plain at) n = n.inside
begun_inside ks (Size k t c) n =
    let one : (k + 1) + 1 < c = n.named.forth in
    let two : c < length ks = n.named.inside in
    omega arith
begun_inside ks (Literal o t c) n =
    let one : o + 1 < c = n.named.forth in
    let two : c < length ks = n.named.inside in
    omega arith

-- the loop over prefixes ends where an operand was begun
ends_here : (ks : List Kind) → (done : List Front) → (begun : Begun) → Begins ks begun → (xs left : Fronts) → (m : ℕ) → (t : Tree) → (b : ℕ)
    → xs ≡ fronts done left → HoldFronts ks 15 left (start_of begun) m → Reads ks 16 t m b → (fronts done None_before ≡ xs) × (start_of begun ≡ m)
ends_here ks done begun n xs None_before m t b is h r = (sym is, sym h)
ends_here ks done begun n xs (Front_then x left) m t b is h r =
    absurd (not_in_front ks begun n x h.0 (record { more = left; behind = m; last = t; end = b; goes = h.2; reads = r }) h.1)

pub prefixes_end : (ks : List Kind) → (start : ℕ) → (done : List Front) → (at : ℕ) → (begun : Begun) → Fore ks 15 start done at
    → start_of begun ≡ at → FoundPrefixes ks start (fronts done None_before) (start_of begun)
prefixes_end ks start done at begun loop e =
    subst
    (λ x. FoundPrefixes ks start (fronts done None_before) x)
    (sym e)
    (record { reads = loop.grows None_before at refl; forth = loop.forth; inside = loop.inside })

pub prefixes_only : (ks : List Kind) → (start : ℕ) → (done : List Front) → (at : ℕ) → (begun : Begun) → Fore ks 15 start done at
    → start_of begun ≡ at → Begins ks begun → (xs : Fronts) → (m : ℕ) → (t : Tree) → (b : ℕ) → HoldFronts ks 15 xs start m
    → Reads ks 16 t m b → Stops ks 15 b → (fronts done None_before ≡ xs) × (start_of begun ≡ m)
prefixes_only ks start done at begun loop e n xs m t b h r s =
    let a = loop.only xs m t b h r s in
    ends_here ks done begun n xs a.left m t b a.is (subst (λ x. HoldFronts ks 15 a.left x m) (sym e) a.holds) r

pub prefixes_fail : (ks : List Kind) → (start : ℕ) → (done : List Front) → (at : ℕ) → (e : Stop) → Fore ks 15 start done at
    → NoOperand ks at e → Without ks start e
prefixes_fail ks start done at e loop fails xs m t b h r s =
    let a = loop.only xs m t b h r s in
    fails a.left m t b a.holds r

-- the operand itself
no_suffix : (ks : List Kind) → (m : ℕ) → is_suffix (kind_at ks m) ≡ false → level_at ks m ≡ 16 → ⊥
no_suffix ks m n l = true≢false (sym (level_suffix (kind_at ks m) l) ∙ n)

pub size_found : (ks : List Kind) → (k : ℕ) → (y : Naming) → (c : ℕ) → IsSized ks k y c → Found ks 17 k (Of_type k (k + 1) y c) (c + 1)
size_found ks k y c n =
    let one : (k + 1) + 1 < c = n.named.forth in
    let two : c < length ks = n.named.inside in
    record {
      reads = (omega arith, (refl, n.sizes, refl, n.named.opens, n.named.reads, n.named.closes, refl, n.unbraced));
      stops = any_stop ks (c + 1);
      forth = omega arith;
      inside = omega arith;
    }

pub size_fits : (ks : List Kind) → (k m : ℕ) → k ≡ m → is_suffix (kind_at ks m) ≡ false → (t : Tree) → level_at ks k ≡ 16 → goes_on t ≡ true
size_fits ks k m e n t l = absurd (no_suffix ks m n (ap (λ x. level_at ks x) (sym e) ∙ l))

stops_not : {A : Type 0} → (ks : List Kind) → (m b : ℕ) → level_at ks m ≡ 16 → b ≡ m → Stops ks 16 b → A
stops_not ks m b l e s =
    let low : level_at ks m < 16 = subst (λ x. level_at ks x < 16) e s in
    absurd (omega arith)

goes_not : (ks : List Kind) → (xs : Behinds) → (f : Tree) → (m b : ℕ) → level_at ks m ≡ 16 → goes_on f ≡ false → (IsMore xs → goes_on f ≡ true)
    → HoldBehinds ks 16 xs m b → Stops ks 16 b → ⊥
goes_not ks None_behind f m b l n fit h s = stops_not ks m b l h s
goes_not ks (Behind_then x xs) f m b l n fit h s = true≢false (sym (fit tt) ∙ n)

pub size_stops : (ks : List Kind) → (k : ℕ) → (y : Naming) → (c : ℕ) → IsSized ks k y c → is_suffix (kind_at ks (c + 1)) ≡ true
    → (t : Tree) → (b : ℕ) → Reads ks 16 t k b → Stops ks 16 b → ⊥
size_stops ks k y c n u t b r s =
    let v = postfix_view ks t k b r in
    let one =
    found_only
    ks
    17
    k
    (Of_type k (k + 1) y c)
    (c + 1)
    (omega arith)
    (size_found ks k y c n)
    v.first
    v.behind
    v.reads
    (any_stop ks v.behind) in
    goes_not
    ks
    v.more
    v.first
    v.behind
    b
    (ap (λ x. level_at ks x) (sym one.1) ∙ suffix_level (kind_at ks (c + 1)) u)
    (ap goes_on (sym one.0))
    (v.fit refl)
    v.goes
    s

pub literal_found : (ks : List Kind) → (o : ℕ) → (y : Naming) → (c : ℕ) → (i : Braces) → (b : ℕ) → IsLiteral ks o y c → FoundBraces ks (c + 1) i b
    → Found ks 17 o (Compound_of o y c i) b
literal_found ks o y c i b n found =
    let one : o + 1 < c = n.named.forth in
    let two : c + 1 < b = found.forth in
    record {
      reads = (omega arith, (refl, n.named.opens, n.named.reads, n.named.closes, found.reads));
      stops = any_stop ks b;
      forth = omega arith;
      inside = found.inside;
    }

pub literal_fails : (ks : List Kind) → (o : ℕ) → (y : Naming) → (c : ℕ) → (e : Stop) → IsLiteral ks o y c
    → ((i : Braces) → (b : ℕ) → HoldBraces ks i (c + 1) b → IsWant e) → Fails ks 17 o e
literal_fails ks o y c e n fails t b r s =
    let v = literally ks t o b n.named.opens (type_starts ks y (o + 1) c n.named.reads) (primary_view ks t o b r) in
    let one = named_only ks o y c n.named v.name v.closing v.holds v.closes in
    fails v.braces b (subst (λ x. HoldBraces ks v.braces (x + 1) b) (sym one.1) v.goes)

pub plain_fits : (ks : List Kind) → (at : ℕ) → IsPlain ks at → (t : Tree) → (b : ℕ) → Found ks 17 at t b → goes_on t ≡ true
plain_fits ks at n t b found = plain_goes ks at n t b (primary_view ks t at b found.reads)
  where
    plain_goes : (ks : List Kind) → (at : ℕ) → IsPlain ks at → (t : Tree) → (b : ℕ) → Primary ks t at b → goes_on t ≡ true
    plain_goes ks at n t b (a_name e k f) = ap goes_on e
    plain_goes ks at n t b (a_constant e k f) = ap goes_on e
    plain_goes ks at n t b (a_text ns e k f) = ap goes_on e
    plain_goes ks at n t b (a_generic k v) = ap goes_on v.is
    plain_goes ks at n t b (an_offset k v) = ap goes_on v.is
    plain_goes ks at n t b (a_paren u c e k r l f) = ap goes_on e
    plain_goes ks at n t b (a_size y c e k o h l f u) = absurd (true≢false (sym (sized_here ks y at c k o h) ∙ n.no_size))
    plain_goes ks at n t b (a_compound y c i e k h l g) = ap goes_on e

pub fails_by_first : (ks : List Kind) → (a : ℕ) → (e : Stop) → Fails ks 17 a e → Fails ks 16 a e
fails_by_first ks a e fails = first_fails ks 16 a Postfix_of e (λ t b h. postfix_view ks t a b h) fails
