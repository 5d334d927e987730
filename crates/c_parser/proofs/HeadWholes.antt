-- Heads as the code reads their parts one behind another.
use Rattle.std.proofs.Common.{◌≡◌, refl, ap, sym, ◌∙◌, subst, ℕ, ◌+◌, ◌<◌, ◌≤◌, List, [], ◌∷◌, length, ◌==◌, arith, None, Bool, true, false, not, true≢false, None}
use Rattle.tree_data.specs.declared.types.Specifier.{Specifier}
use Rattle.tree_data.specs.Seen.{specifiers_of}
use Rattle.tree_data.specs.Trees.{Tree, Specifyings, No_specifiers, Specifier_then, specifyings, Assertion, Assertion_of, Heading, Declares_of, Asserts_of}
use Rattle.c_parser.specs.declared.answers.ParseError.{ParseError}
use Rattle.c_parser.specs.declared.answers.ParseError.TheVariants as told
use Rattle.c_parser.specs.declared.answers.Stop.{Stop}
use Rattle.c_parser.specs.declared.answers.Stop.TheVariants as stop
use Rattle.c_parser.specs.declared.kinds.Kind.{Kind}
use Rattle.c_parser.specs.declared.kinds.Kind.TheVariants.{OpenParen, CloseParen, Comma, Semicolon, OpenBrace, Assert}
use Rattle.c_parser.specs.declared.kinds.Site.TheVariants.{OfDeclaration}
use Rattle.c_parser.specs.Brackets.{too_deep}
use Rattle.c_parser.specs.Grammar.{AreSome, typed_by}
use Rattle.c_parser.specs.Heads.{Leading, both, leading_of, HoldAll, is_alone, Closes, HoldsHead}
use Rattle.c_parser.specs.HeadsFound.{FoundFront, FoundDeclared, FoundAll, FoundAssertion, FoundHead, ends_all, IsHeadCause}
use Rattle.c_parser.specs.Kinds.{kind_at, starts_type, ends_specifiers}
use Rattle.c_parser.specs.Reading.{Holds, HoldsAssertion, Found, HoldTexts, HoldSpecifyings, FoundTexts, IsWant, at_front, IsAtFront, IsRefused, IsDeep}
use Rattle.c_parser.specs.TypeNames.{FoundSpecifiers}
use Rattle.c_parser.specs.Words.{Words, shown, shown_from}
use Rattle.c_parser.proofs.NamedReading.{declarator_next, declarator_starts, starts_declarator}
use Rattle.c_parser.proofs.HeadLists.{Piece, OnlyAll, FailsAll}
use Rattle.c_parser.proofs.HeadWords.{from_at, from_length, typed_from}
use Rattle.c_parser.proofs.Marks.{clash, stops_at}
use Rattle.c_parser.proofs.Parsing.{Fails}
use Rattle.c_parser.proofs.SameParts.{Only, texts_only}
use Rattle.c_parser.proofs.SpecifierLists.{OnlySpecifiers, FailsSpecifiers, some_specifying, all_stand}
use Rattle.c_parser.proofs.Types.{starting}
use Rattle.c_parser.proofs.Wholes.{want_is}

-- specifiers
abbrev pub OnlyFront : List Kind → ℕ → Specifyings → ℕ → Type 0
OnlyFront ks a ss b =
    (ss' : Specifyings) → (b' : ℕ) → AreSome ss' → HoldSpecifyings ks false ss' a b'
    → ends_specifiers (kind_at ks b') (typed_by ks false ss') ≡ true → (ss ≡ ss') × (b ≡ b')

abbrev pub FailsFront : List Kind → ℕ → Stop → Type 0
FailsFront ks a e =
    (ss : Specifyings) → (b : ℕ) → AreSome ss → HoldSpecifyings ks false ss a b
    → ends_specifiers (kind_at ks b) (typed_by ks false ss) ≡ true → IsWant e

pub front_fails : (ks : List Kind) → (a : ℕ) → (e : Stop) → FailsSpecifiers ks OfDeclaration a e → FailsFront ks a e
front_fails ks a e fails ss b some h f = fails ss b h (all_stand ks ss) f

pub front_none : (ks : List Kind) → (a m : ℕ) → (xs : List Specifier) → (length xs == 0) ≡ true
    → OnlySpecifiers ks OfDeclaration a (specifyings (specifiers_of xs) No_specifiers) m → (n : ℕ) → FailsFront ks a (stop.Syntax n)
front_none ks a m [] h only n ss b some r e = subst AreSome (sym (only ss b r (all_stand ks ss) e).0) some
front_none ks a m (x ∷ xs) h only n ss b some r e = grind (arith, h)

pub front_found : (ks : List Kind) → (a m : ℕ) → (xs : List Specifier) → (length xs == 0) ≡ false
    → FoundSpecifiers ks OfDeclaration a (specifyings (specifiers_of xs) No_specifiers) m → FoundFront ks a (specifyings (specifiers_of xs) No_specifiers) m
front_found ks a m xs h found = record { some = some_specifying xs h; reads = found.reads; forth = found.forth; inside = found.inside }

pub front_same : (ks : List Kind) → (a : ℕ) → (ss : Specifyings) → (m : ℕ) → OnlySpecifiers ks OfDeclaration a ss m → OnlyFront ks a ss m
front_same ks a ss m only ss' b some h e = only ss' b h (all_stand ks ss') e

pub leading_is : (p q p' q' : Bool) → p ≡ p' → q ≡ q' → both p q ≡ both p' q'
leading_is p q p' q' e f = ap (λ x. both x q) e ∙ ap (λ x. both p' x) f

-- marks are the same whatever is declared
abbrev is_semicolon : Kind → Bool
is_semicolon Semicolon = true
is_semicolon _ = false

semicolon_is : (k : Kind) → is_semicolon k ≡ true → k ≡ Semicolon
semicolon_is Semicolon h = refl
semicolon_is _ h = absurd (true≢false (sym h))

abbrev is_assert : Kind → Bool
is_assert Assert = true
is_assert _ = false

assert_is : (k : Kind) → is_assert k ≡ true → k ≡ Assert
assert_is Assert h = refl
assert_is _ h = absurd (true≢false (sym h))

shown_semicolon : (o : ℕ) → (w : Words) → (a : ℕ) → kind_at w.kinds a ≡ Semicolon → kind_at (shown_from w o) a ≡ Semicolon
shown_semicolon o w a k = semicolon_is (kind_at (shown_from w o) a) (from_at is_semicolon (λ n. refl) w o a ∙ ap is_semicolon k)

pub shown_assert : (o : ℕ) → (w : Words) → (a : ℕ) → kind_at w.kinds a ≡ Assert → kind_at (shown_from w o) a ≡ Assert
shown_assert o w a k = assert_is (kind_at (shown_from w o) a) (from_at is_assert (λ n. refl) w o a ∙ ap is_assert k)

pub was_assert : (o : ℕ) → (w : Words) → (a : ℕ) → kind_at (shown_from w o) a ≡ Assert → kind_at w.kinds a ≡ Assert
was_assert o w a k = assert_is (kind_at w.kinds a) (sym (from_at is_assert (λ n. refl) w o a) ∙ ap is_assert k)

-- declarators up to the end of the head
abbrev pub OnlyDeclared : ℕ → Words → Leading → ℕ → List Piece → Bool → ℕ → Type 0
OnlyDeclared o w s a ds body b =
    (ds' : List Piece) → (body' : Bool) → (n : ℕ) → HoldAll w o s ds' a n → Closes w.kinds ds' body' n → (ds ≡ ds') × (body ≡ body') × (b ≡ n + 1)

abbrev pub FailsDeclared : ℕ → Words → Leading → ℕ → Stop → Type 0
FailsDeclared o w s a e = (ds : List Piece) → (body : Bool) → (n : ℕ) → HoldAll w o s ds a n → Closes w.kinds ds body n → IsWant e

pub closes_ends : (ks : List Kind) → (ds : List Piece) → (body : Bool) → (n : ℕ) → Closes ks ds body n → ends_all (kind_at ks n) ≡ true
closes_ends ks ds false n c = ap ends_all c
closes_ends ks ds true n c = ap ends_all c.0

no_declarator : {A : Type 0} → (o : ℕ) → (w : Words) → (s : Leading) → (a : ℕ) → kind_at w.kinds a ≡ Semicolon → (p : Piece) → (ps : List Piece) → (n : ℕ)
    → HoldAll w o s (p ∷ ps) a n → A
no_declarator o w s a k p ps n h =
    absurd
    (true≢false
    (sym (declarator_starts (shown_from w o) (not s.typed) p.0 a h.1.0 h.1.1) ∙ from_at starts_declarator (λ x. refl) w o a ∙ ap starts_declarator k))

pub none_same : (o : ℕ) → (w : Words) → (s : Leading) → (a : ℕ) → kind_at w.kinds a ≡ Semicolon → OnlyDeclared o w s a [] false (a + 1)
none_same o w s a k [] false n h c = (refl, refl, ap (λ x. x + 1) (sym h))
none_same o w s a k [] true n h c = absurd (true≢false (sym c.1))
none_same o w s a k (p ∷ ps) body n h c = no_declarator o w s a k p ps n h

pub none_found : (o : ℕ) → (w : Words) → (s : Leading) → (a : ℕ) → kind_at w.kinds a ≡ Semicolon → a < length w.kinds → FoundDeclared w o s a [] false (a + 1)
none_found o w s a k i = record { last = a; reads = refl; closes = k; ends = refl; inside = omega (arith, i) }

none_ends : {A : Type 0} → (w : Words) → (a : ℕ) → (kind_at w.kinds a ≡ Semicolon → ⊥) → (body : Bool) → (n : ℕ) → n ≡ a → Closes w.kinds [] body n → A
none_ends w a u false n e c = absurd (u (ap (λ x. kind_at w.kinds x) (sym e) ∙ c))
none_ends w a u true n e c = absurd (true≢false (sym c.1))

pub declared_fails : (o : ℕ) → (w : Words) → (s : Leading) → (a : ℕ) → (kind_at w.kinds a ≡ Semicolon → ⊥) → (e : Stop) → FailsAll o w s a e → FailsDeclared o w s a e
declared_fails o w s a u e fails [] body n h c = none_ends w a u body n h c
declared_fails o w s a u e fails (p ∷ ps) body n h c = fails p ps n h (closes_ends w.kinds (p ∷ ps) body n c)

pub semicolon_same : (o : ℕ) → (w : Words) → (s : Leading) → (a : ℕ) → (kind_at w.kinds a ≡ Semicolon → ⊥) → (ds : List Piece) → (b : ℕ) → OnlyAll o w s a ds b
    → kind_at w.kinds b ≡ Semicolon → OnlyDeclared o w s a ds false (b + 1)
semicolon_same o w s a u ds b only k [] body n h c = none_ends w a u body n h c
semicolon_same o w s a u ds b only k (p ∷ ps) false n h c =
    let same = only p ps n h (closes_ends w.kinds (p ∷ ps) false n c) in
    (same.0, refl, ap (λ x. x + 1) same.1)
semicolon_same o w s a u ds b only k (p ∷ ps) true n h c =
    let same = only p ps n h (closes_ends w.kinds (p ∷ ps) true n c) in
    clash (kind_at w.kinds n) Semicolon OpenBrace (ap (λ x. kind_at w.kinds x) (sym same.1) ∙ k) c.0 (λ x. omega (arith, x))

pub brace_same : (o : ℕ) → (w : Words) → (s : Leading) → (a : ℕ) → (kind_at w.kinds a ≡ Semicolon → ⊥) → (ds : List Piece) → (b : ℕ) → OnlyAll o w s a ds b
    → kind_at w.kinds b ≡ OpenBrace → OnlyDeclared o w s a ds true (b + 1)
brace_same o w s a u ds b only k [] body n h c = none_ends w a u body n h c
brace_same o w s a u ds b only k (p ∷ ps) true n h c =
    let same = only p ps n h (closes_ends w.kinds (p ∷ ps) true n c) in
    (same.0, refl, ap (λ x. x + 1) same.1)
brace_same o w s a u ds b only k (p ∷ ps) false n h c =
    let same = only p ps n h (closes_ends w.kinds (p ∷ ps) false n c) in
    clash (kind_at w.kinds n) Semicolon OpenBrace c (ap (λ x. kind_at w.kinds x) (sym same.1) ∙ k) (λ x. omega (arith, x))

pub several_fail : (o : ℕ) → (w : Words) → (s : Leading) → (a : ℕ) → (kind_at w.kinds a ≡ Semicolon → ⊥) → (ds : List Piece) → (b : ℕ) → OnlyAll o w s a ds b
    → kind_at w.kinds b ≡ OpenBrace → is_alone ds ≡ false → (at : ℕ) → FailsDeclared o w s a (stop.Syntax at)
several_fail o w s a u ds b only k f at ds' body n h c =
    let same = brace_same o w s a u ds b only k ds' body n h c in
    several_by body same.1 ds' same.0 n c
  where
    several_by : (body : Bool) → true ≡ body → (ds' : List Piece) → ds ≡ ds' → (n : ℕ) → Closes w.kinds ds' body n → ⊥
    several_by false e ds' i n c = true≢false e
    several_by true e ds' i n c = true≢false (sym c.1 ∙ ap is_alone (sym i) ∙ f)

pub unended_fail : (o : ℕ) → (w : Words) → (s : Leading) → (a : ℕ) → (kind_at w.kinds a ≡ Semicolon → ⊥) → (ds : List Piece) → (b : ℕ) → OnlyAll o w s a ds b
    → (kind_at w.kinds b ≡ Semicolon → ⊥) → (kind_at w.kinds b ≡ OpenBrace → ⊥) → (at : ℕ) → FailsDeclared o w s a (stop.Syntax at)
unended_fail o w s a u ds b only v x at [] body n h c = none_ends w a u body n h c
unended_fail o w s a u ds b only v x at (p ∷ ps) false n h c =
    let same = only p ps n h (closes_ends w.kinds (p ∷ ps) false n c) in
    v (ap (λ y. kind_at w.kinds y) same.1 ∙ c)
unended_fail o w s a u ds b only v x at (p ∷ ps) true n h c =
    let same = only p ps n h (closes_ends w.kinds (p ∷ ps) true n c) in
    x (ap (λ y. kind_at w.kinds y) same.1 ∙ c.0)

pub semicolon_found : (o : ℕ) → (w : Words) → (s : Leading) → (a : ℕ) → (ds : List Piece) → (b : ℕ) → FoundAll w o s a ds b → kind_at w.kinds b ≡ Semicolon
    → b < length w.kinds → FoundDeclared w o s a ds false (b + 1)
semicolon_found o w s a ds b found k i = record { last = b; reads = found.reads; closes = k; ends = refl; inside = omega (arith, i) }

pub brace_found : (o : ℕ) → (w : Words) → (s : Leading) → (a : ℕ) → (ds : List Piece) → (b : ℕ) → FoundAll w o s a ds b → kind_at w.kinds b ≡ OpenBrace
    → is_alone ds ≡ true → b < length w.kinds → FoundDeclared w o s a ds true (b + 1)
brace_found o w s a ds b found k f i = record { last = b; reads = found.reads; closes = (k, f); ends = refl; inside = omega (arith, i) }

-- a declaration or a function
abbrev pub OnlyHead : Words → ℕ → Heading → ℕ → Type 0
OnlyHead w a h b = (h' : Heading) → (b' : ℕ) → HoldsHead w h' a b' → (h ≡ h') × (b ≡ b')

abbrev pub FailsHead : Words → ℕ → Stop → Type 0
FailsHead w a e = (h : Heading) → (b : ℕ) → HoldsHead w h a b → IsWant e

pub asserts_first : (ks : List Kind) → (x : Assertion) → (a b : ℕ) → HoldsAssertion ks x a b → kind_at ks a ≡ Assert
asserts_first ks (Assertion_of k o t c ns p e) a b h = h.1

pub specifiers_end : (o : ℕ) → (w : Words) → (ss : Specifyings) → (ds : List Piece) → (body : Bool) → (m n : ℕ) → HoldAll w o (leading_of (shown w) ss) ds m n
    → Closes w.kinds ds body n → ends_specifiers (kind_at (shown_from w o) m) (typed_by (shown_from w o) false ss) ≡ true
specifiers_end o w ss [] false m n h c =
    ap
    (λ k. ends_specifiers k (typed_by (shown_from w o) false ss))
    (shown_semicolon o w m (ap (λ x. kind_at w.kinds x) (sym h) ∙ c))
specifiers_end o w ss [] true m n h c = absurd (true≢false (sym c.1))
specifiers_end o w ss (p ∷ ps) body m n h c =
    ap (ends_specifiers (kind_at (shown_from w o) m)) (typed_from w o false ss)
    ∙ declarator_next (shown_from w o) (typed_by (shown w) false ss) p.0 m h.1.0 h.1.1

pub front_missing : (w : Words) → (a : ℕ) → (kind_at w.kinds a ≡ Assert → ⊥) → (e : Stop) → FailsFront (shown_from w a) a e → FailsHead w a e
front_missing w a u e fails (Asserts_of x) b h = absurd (u (was_assert a w a (asserts_first (shown_from w a) x a b h)))
front_missing w a u e fails (Declares_of ss ds body) b h = fails ss h.0 h.2 h.3 (specifiers_end a w ss ds body h.0 h.1 h.4 h.5)

declared_moved : (o : ℕ) → (w : Words) → (t : Leading) → (ss ss' : Specifyings) → (ds : List Piece) → (m m' n : ℕ) → t ≡ leading_of (shown w) ss → ss ≡ ss' → m ≡ m'
    → HoldAll w o (leading_of (shown w) ss') ds m' n → HoldAll w o t ds m n
declared_moved o w t ss ss' ds m m' n by e f h =
    subst
    (λ x. HoldAll w o x ds m n)
    (sym (by ∙ ap (leading_of (shown w)) e))
    (subst (λ x. HoldAll w o (leading_of (shown w) ss') ds x n) (sym f) h)

pub declared_missing : (w : Words) → (a : ℕ) → (kind_at w.kinds a ≡ Assert → ⊥) → (ss : Specifyings) → (m : ℕ) → OnlyFront (shown_from w a) a ss m → (t : Leading)
    → t ≡ leading_of (shown w) ss → (e : Stop) → FailsDeclared a w t m e → FailsHead w a e
declared_missing w a u ss m only t by e fails (Asserts_of x) b h = absurd (u (was_assert a w a (asserts_first (shown_from w a) x a b h)))
declared_missing w a u ss m only t by e fails (Declares_of ss' ds body) b h =
    let same = only ss' h.0 h.2 h.3 (specifiers_end a w ss' ds body h.0 h.1 h.4 h.5) in
    fails ds body h.1 (declared_moved a w t ss ss' ds m h.0 h.1 by same.0 same.1 h.4) h.5

pub declares_found : (w : Words) → (a : ℕ) → (ss : Specifyings) → (m : ℕ) → FoundFront (shown_from w a) a ss m → (t : Leading) → t ≡ leading_of (shown w) ss
    → (ds : List Piece) → (body : Bool) → (b : ℕ) → FoundDeclared w a t m ds body b → FoundHead w a (Declares_of ss ds body) b
declares_found w a ss m x t by ds body b y =
    record {
      reads = (m, y.last, x.some, x.reads, subst (λ k. HoldAll w a k ds m y.last) by y.reads, y.closes, y.ends);
      inside = y.inside;
    }

pub declares_same : (w : Words) → (a : ℕ) → (kind_at w.kinds a ≡ Assert → ⊥) → (ss : Specifyings) → (m : ℕ) → OnlyFront (shown_from w a) a ss m → (t : Leading)
    → t ≡ leading_of (shown w) ss → (ds : List Piece) → (body : Bool) → (b : ℕ) → OnlyDeclared a w t m ds body b → OnlyHead w a (Declares_of ss ds body) b
declares_same w a u ss m only t by ds body b more (Asserts_of x) b' h = absurd (u (was_assert a w a (asserts_first (shown_from w a) x a b' h)))
declares_same w a u ss m only t by ds body b more (Declares_of ss' ds' body') b' h =
    let one = only ss' h.0 h.2 h.3 (specifiers_end a w ss' ds' body' h.0 h.1 h.4 h.5) in
    let two = more ds' body' h.1 (declared_moved a w t ss ss' ds' m h.0 h.1 by one.0 one.1 h.4) h.5 in (
      ap (λ x. Declares_of x ds body) one.0 ∙ ap (λ x. Declares_of ss' x body) two.0 ∙ ap (λ x. Declares_of ss' ds' x) two.1,
      two.2 ∙ sym h.6,
    )

-- a static assertion
abbrev pub OnlyAssertion : List Kind → ℕ → Assertion → ℕ → Type 0
OnlyAssertion ks a x b = (x' : Assertion) → (b' : ℕ) → HoldsAssertion ks x' a b' → (x ≡ x') × (b ≡ b')

abbrev pub FailsAssertion : List Kind → ℕ → Stop → Type 0
FailsAssertion ks a e = (x : Assertion) → (b : ℕ) → HoldsAssertion ks x a b → IsWant e

pub unopened : (ks : List Kind) → (a : ℕ) → (kind_at ks (a + 1) ≡ OpenParen → ⊥) → (n : ℕ) → FailsAssertion ks a (stop.Syntax n)
unopened ks a u n (Assertion_of k o t c ns p e) b h = u (ap (λ x. kind_at ks x) (sym h.2) ∙ h.3)

condition_at : (ks : List Kind) → (t : Tree) → (a o c : ℕ) → o ≡ a + 1 → Holds ks t (o + 1) c → Holds ks t (a + 2) c
condition_at ks t a o c e h = subst (λ x. Holds ks t x c) (omega (arith, e)) h

pub condition_fails : (ks : List Kind) → (a : ℕ) → (e : Stop) → Fails ks 3 (a + 2) e → FailsAssertion ks a e
condition_fails ks a e fails (Assertion_of k o t c ns p z) b h =
    fails t c (h.4, condition_at ks t a o c h.2 h.5) (stops_at ks 3 c Comma h.6 (omega arith))

condition_same : (ks : List Kind) → (a : ℕ) → (t : Tree) → (c : ℕ) → Only ks 3 (a + 2) t c → (k o : ℕ) → (t' : Tree) → (c' : ℕ) → (ns : List ℕ) → (p e b : ℕ)
    → HoldsAssertion ks (Assertion_of k o t' c' ns p e) a b → (t ≡ t') × (c ≡ c')
condition_same ks a t c only k o t' c' ns p e b h =
    only t' c' (h.4, condition_at ks t' a o c' h.2 h.5) (stops_at ks 3 c' Comma h.6 (omega arith))

pub no_comma : (ks : List Kind) → (a : ℕ) → (t : Tree) → (c : ℕ) → Only ks 3 (a + 2) t c → (kind_at ks c ≡ Comma → ⊥) → (n : ℕ)
    → FailsAssertion ks a (stop.Syntax n)
no_comma ks a t c only u n (Assertion_of k o t' c' ns p e) b h =
    u (ap (λ x. kind_at ks x) (condition_same ks a t c only k o t' c' ns p e b h).1 ∙ h.6)

text_same : (ks : List Kind) → (a : ℕ) → (t : Tree) → (c : ℕ) → Only ks 3 (a + 2) t c → (ns : List ℕ) → (p : ℕ) → FoundTexts ks (c + 1) ns p → (k o : ℕ)
    → (t' : Tree) → (c' : ℕ) → (ns' : List ℕ) → (p' e b : ℕ) → HoldsAssertion ks (Assertion_of k o t' c' ns' p' e) a b → (ns ≡ ns') × (p ≡ p')
text_same ks a t c only ns p found k o t' c' ns' p' e b h =
    let same = condition_same ks a t c only k o t' c' ns' p' e b h in
    texts_only ks ns (c + 1) p found.reads ns' p' (subst (λ x. HoldTexts ks ns' (x + 1) p') (sym same.1) h.8)

pub no_text : (ks : List Kind) → (a : ℕ) → (t : Tree) → (c : ℕ) → Only ks 3 (a + 2) t c → (ns : List ℕ) → (p : ℕ) → FoundTexts ks (c + 1) ns p
    → p ≤ c + 1 → (n : ℕ) → FailsAssertion ks a (stop.Syntax n)
no_text ks a t c only ns p found le n (Assertion_of k o t' c' ns' p' e) b h =
    let one : c ≡ c' = (condition_same ks a t c only k o t' c' ns' p' e b h).1 in
    let two : p ≡ p' = (text_same ks a t c only ns p found k o t' c' ns' p' e b h).1 in
    omega (arith, h.7)

pub unclosed : (ks : List Kind) → (a : ℕ) → (t : Tree) → (c : ℕ) → Only ks 3 (a + 2) t c → (ns : List ℕ) → (p : ℕ) → FoundTexts ks (c + 1) ns p
    → (kind_at ks p ≡ CloseParen → ⊥) → (n : ℕ) → FailsAssertion ks a (stop.Syntax n)
unclosed ks a t c only ns p found u n (Assertion_of k o t' c' ns' p' e) b h =
    u (ap (λ x. kind_at ks x) (text_same ks a t c only ns p found k o t' c' ns' p' e b h).1 ∙ h.9)

pub unended : (ks : List Kind) → (a : ℕ) → (t : Tree) → (c : ℕ) → Only ks 3 (a + 2) t c → (ns : List ℕ) → (p : ℕ) → FoundTexts ks (c + 1) ns p
    → (kind_at ks (p + 1) ≡ Semicolon → ⊥) → (n : ℕ) → FailsAssertion ks a (stop.Syntax n)
unended ks a t c only ns p found u n (Assertion_of k o t' c' ns' p' e) b h =
    u
    (ap (λ x. kind_at ks (x + 1)) (text_same ks a t c only ns p found k o t' c' ns' p' e b h).1
    ∙ ap (λ x. kind_at ks x) (sym h.10)
    ∙ h.11)

pub assertion_found : (ks : List Kind) → (a : ℕ) → kind_at ks a ≡ Assert → kind_at ks (a + 1) ≡ OpenParen → (t : Tree) → (c : ℕ) → Found ks 3 (a + 2) t c
    → kind_at ks c ≡ Comma → (ns : List ℕ) → (p : ℕ) → FoundTexts ks (c + 1) ns p → c + 1 < p → kind_at ks p ≡ CloseParen
    → kind_at ks (p + 1) ≡ Semicolon → p + 1 < length ks → FoundAssertion ks a (Assertion_of a (a + 1) t c ns p (p + 1)) (p + 2)
assertion_found ks a k k1 t c x k2 ns p y lt k3 k4 i =
    record {
      reads = (
        refl,
        k,
        refl,
        k1,
        x.reads.0,
        subst (λ z. Holds ks t z c) (omega arith) x.reads.1,
        k2,
        omega (arith, lt),
        y.reads,
        k3,
        refl,
        k4,
        omega arith,
      );
      inside = omega (arith, i);
    }

pub assertion_same : (ks : List Kind) → (a : ℕ) → (t : Tree) → (c : ℕ) → Only ks 3 (a + 2) t c → (ns : List ℕ) → (p : ℕ) → FoundTexts ks (c + 1) ns p
    → OnlyAssertion ks a (Assertion_of a (a + 1) t c ns p (p + 1)) (p + 2)
assertion_same ks a t c only ns p found (Assertion_of k o t' c' ns' p' e) b h =
    let one = condition_same ks a t c only k o t' c' ns' p' e b h in
    let two = text_same ks a t c only ns p found k o t' c' ns' p' e b h in (
      ap (λ x. Assertion_of x (a + 1) t c ns p (p + 1)) (sym h.0)
          ∙ ap (λ x. Assertion_of k x t c ns p (p + 1)) (sym h.2)
          ∙ ap (λ x. Assertion_of k o x c ns p (p + 1)) one.0
          ∙ ap (λ x. Assertion_of k o t' x ns p (p + 1)) one.1
          ∙ ap (λ x. Assertion_of k o t' c' x p (p + 1)) two.0
          ∙ ap (λ x. Assertion_of k o t' c' ns' x (x + 1)) two.1
          ∙ ap (λ x. Assertion_of k o t' c' ns' p' x) (sym h.10),
      omega (arith, two.1, h.10, h.12),
    )

-- a head
pub some_starts : (ks : List Kind) → (y : Bool) → (ss : Specifyings) → (a m : ℕ) → AreSome ss → HoldSpecifyings ks y ss a m → starts_type (kind_at ks a) ≡ true
some_starts ks y No_specifiers a m i h = absurd i
some_starts ks y (Specifier_then s ss) a m i h = starting ks y s a h.0 h.1

starts_not : {A : Type 0} → (w : Words) → (a : ℕ) → kind_at w.kinds a ≡ Assert → (ss : Specifyings) → (m : ℕ) → AreSome ss → HoldSpecifyings (shown_from w a) false ss a m → A
starts_not w a k ss m i h = absurd (true≢false (sym (some_starts (shown_from w a) false ss a m i h) ∙ ap starts_type (shown_assert a w a k)))

pub asserts_fail : (w : Words) → (a : ℕ) → kind_at w.kinds a ≡ Assert → (e : Stop) → FailsAssertion (shown_from w a) a e → FailsHead w a e
asserts_fail w a k e fails (Asserts_of x) b h = fails x b h
asserts_fail w a k e fails (Declares_of ss ds body) b h = starts_not w a k ss h.0 h.2 h.3

pub asserts_same : (w : Words) → (a : ℕ) → kind_at w.kinds a ≡ Assert → (x : Assertion) → (b : ℕ) → OnlyAssertion (shown_from w a) a x b
    → OnlyHead w a (Asserts_of x) b
asserts_same w a k x b only (Asserts_of x') b' h =
    let same = only x' b' h in
    (ap Asserts_of same.0, same.1)
asserts_same w a k x b only (Declares_of ss ds body) b' h = starts_not w a k ss h.0 h.2 h.3

pub asserts_found : (w : Words) → (a : ℕ) → (x : Assertion) → (b : ℕ) → FoundAssertion (shown_from w a) a x b → FoundHead w a (Asserts_of x) b
asserts_found w a x b found = record { reads = found.reads; inside = subst (λ n. b ≤ n) (from_length w a) found.inside }

-- all tokens
pub head_fails : (w : Words) → (e : Stop) → (r : ParseError) → r ≡ at_front e → FailsHead w 0 e → (u : Heading) → HoldsHead w u 0 (length w.kinds)
    → IsRefused r
head_fails w e r is fails u h = subst IsRefused (sym is) (want_is e (fails u (length w.kinds) h))

pub more_than_a_head : (w : Words) → (h : Heading) → (b : ℕ) → OnlyHead w 0 h b → b < length w.kinds → (u : Heading) → HoldsHead w u 0 (length w.kinds) → ⊥
more_than_a_head w h b only lt u r =
    let end : b ≡ length w.kinds = (only u (length w.kinds) r).1 in
    omega arith

pub head_to_end : (w : Words) → (h : Heading) → (b : ℕ) → FoundHead w 0 h b → (b < length w.kinds → ⊥) → HoldsHead w h 0 (length w.kinds)
head_to_end w h b found not =
    let inside = found.inside in
    let end : b ≡ length w.kinds = omega arith in
    subst (λ k. HoldsHead w h 0 k) end found.reads

pub is_head_cause : (w : Words) → (e : ParseError) → too_deep w.kinds ≡ None → IsAtFront e
    → ((u : Heading) → HoldsHead w u 0 (length w.kinds) → IsRefused e) → IsHeadCause w e
is_head_cause w (told.Syntax at) d f h = (f, d, h)
is_head_cause w (told.TooDeep at) d f h = absurd f
is_head_cause w told.NoMemory d f h = tt

pub deep_head_cause : (w : Words) → (e : ParseError) → IsDeep w.kinds e → IsHeadCause w e
deep_head_cause w (told.Syntax at) h = absurd h
deep_head_cause w (told.TooDeep at) h = h
deep_head_cause w told.NoMemory h = tt

abbrev pub under : List Kind → List Bool → Words
under ks hidden = record { kinds = ks; hidden = hidden }

pub words_are : (ks ks' : List Kind) → (hidden hidden' : List Bool) → ks ≡ ks' → hidden ≡ hidden' → under ks hidden ≡ under ks' hidden'
words_are ks ks' hidden hidden' e f = ap (λ x. under x hidden) e ∙ ap (λ x. under ks' x) f
