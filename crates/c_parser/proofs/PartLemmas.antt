-- What expressions and declarations give to statements.
use Rattle.std.proofs.Common.{◌≡◌, refl, ap, sym, ◌∙◌, subst, ℕ, ◌+◌, ◌<◌, ◌≤◌, List, [], ◌∷◌, ◌++◌, length, arith, Option, Some, None, Bool, true, false, not, ◌||◌, true≢false}
use Rattle.tree_data.specs.Trees.{Tree, Declaring, Declaring_of, Grouping, No_group, Named_of, Group_of, Specifying, Word_of, Typedef_of, Tag_of, Atomic_of, Specifyings, No_specifiers, Specifier_then, Initial, Assertion, Assertion_of, Heading, Declares_of, Asserts_of, Aligned_as_of, Aligned_of, Members_of, Enumerators_of}
use Rattle.c_parser.specs.declared.kinds.Kind.{Kind}
use Rattle.c_parser.specs.declared.kinds.Kind.TheVariants.{Identifier, TypeName, TypeWord, Qualifier, Tag, Atomic, Storage, Typedef, Static, Assert, Constant, Text, OpenParen, CloseParen, Step, Ampersand, Star, Sign, Complement, SizeOf, AlignOf, Generic, OffsetOf, Colon, Comma, Semicolon, OpenBrace, Equals, Enum, Align}
use Rattle.c_parser.specs.Grammar.{AreSome, has_type, typed_by, spell, spell_specifyings, spell_assertion}
use Rattle.c_parser.specs.Heads.{HoldsValue, HoldsOne, HoldOthers, HoldAll, Closes, Leading, leading_of, past, past_all, spell_all, freely, HoldsHead, past_head}
use Rattle.c_parser.specs.Kinds.{kind_at, is_word, is_equals, ends_type, ends_specifiers, starts_type}
use Rattle.c_parser.specs.HeadsFound.{ends_one, ends_all}
use Rattle.c_parser.specs.Parts.{PartsLaw, IsBlind, HoldsDeclaration, past_declaration, past_tree, is_declaration, starts_expression, starts_declaration}
use Rattle.c_parser.specs.Reading.{Holds, HoldsTag, HoldSpecifying, HoldSpecifyings, HoldsInitial, Reads, Stops}
use Rattle.c_parser.specs.Words.{Words, shown, shown_from, kind_in, past_numbers}
use Rattle.c_parser.proofs.HeadDeclarators.{OnlyDeclarator}
use Rattle.c_parser.proofs.NamedReading.{declarator_only, declarator_starts, starts_declarator}
use Rattle.c_parser.proofs.HeadLists.{Piece, OnlyValue, OnlyOne, OnlyAll, value_none, value_same, one_same, ends_here, ends_last, ends_behind}
use Rattle.c_parser.proofs.HeadWholes.{OnlyFront, OnlyDeclared, OnlyHead, OnlyAssertion, none_same, semicolon_same, brace_same, declares_same, asserts_same, specifiers_end, some_starts, closes_ends, asserts_first, was_assert, shown_assert}
use Rattle.c_parser.proofs.Enumerated.{own_start, level_settled}
use Rattle.c_parser.proofs.HeadWords.{plain_at, from_at, past_kinds, past_all_kinds, past_numbers_kinds}
use Rattle.c_parser.proofs.Marks.{is_start, stops_at}
use Rattle.c_parser.proofs.SameParts.{Only}
use Rattle.c_parser.proofs.MemberReading.{specifyings_only, assertion_only}
use Rattle.c_parser.proofs.TypeReading.{everywhere}
use Rattle.c_parser.proofs.Types.{starting}
use Rattle.c_parser.proofs.Uniqueness.{reads_only, initial_only}
use Rattle.c_parser.proofs.Views.{starts}

-- with their initializers
equals_here : (k : Kind) → is_equals k ≡ true → k ≡ Equals
equals_here Equals h = refl
equals_here _ h = absurd (true≢false (sym h))

ends_unequal : (k : Kind) → ends_one k ≡ true → k ≡ Equals → ⊥
ends_unequal k h e = true≢false (sym h ∙ ap ends_one e)

ends_lower : (k : Kind) → ends_one k ≡ true → (ks : List Kind) → (b : ℕ) → kind_at ks b ≡ k → Stops ks 2 b
ends_lower Comma h ks b e = stops_at ks 2 b Comma e (omega arith)
ends_lower Semicolon h ks b e = stops_at ks 2 b Semicolon e (omega arith)
ends_lower OpenBrace h ks b e = stops_at ks 2 b OpenBrace e (omega arith)
ends_lower _ h ks b e = absurd (true≢false (sym h))

value_only : (ks : List Kind) → (i : Option Initial) → (a b : ℕ) → HoldsValue ks i a b → ends_one (kind_at ks b) ≡ true → OnlyValue ks a i b
value_only ks None a b h e i' b' h' e' =
    let same = value_none ks a (ends_unequal (kind_at ks a) (ap (λ x. ends_one (kind_at ks x)) (sym h) ∙ e)) i' b' h' e' in
    (same.0, h ∙ same.1)
value_only ks (Some i) a b h e i' b' h' e' =
    value_same ks a (equals_here (kind_at ks a) h.0) i b (initial_only ks i (a + 1) b h.1 (ends_lower (kind_at ks b) e ks b refl)) i' b' h' e'

one_only : (o : ℕ) → (w : Words) → (s : Leading) → (d : Declaring) → (i : Option Initial) → (a b : ℕ) → HoldsOne w o s d i a b → ends_one (kind_at w.kinds b) ≡ true
    → OnlyOne o w s a d i b
one_only o w s d i a b h e =
    one_same o w s a d h.0 (declarator_only (shown_from w o) (not s.typed) d a h.0 (everywhere (shown_from w o) a) h.1 (ends_here o w s d i h.0 b h.2 e)) (past w s d) refl i b
    (value_only (shown_from (past w s d) o) i h.0 b h.2 (ends_behind o w s d b e))

comma_ends : (w : Words) → (a : ℕ) → kind_at w.kinds a ≡ Comma → ends_one (kind_at w.kinds a) ≡ true
comma_ends w a k = ap ends_one k

-- where one ends: a comma, or the end of all
others_end : (o : ℕ) → (w v : Words) → v.kinds ≡ w.kinds → (s : Leading) → (ps : List Piece) → (a b : ℕ) → HoldOthers v o s ps a b → ends_all (kind_at w.kinds b) ≡ true
    → ends_one (kind_at w.kinds a) ≡ true
others_end o w v e s [] a b h f = ap (λ x. ends_one (kind_at w.kinds x)) (sym h) ∙ ends_last (kind_at w.kinds b) f
others_end o w v e s (p ∷ ps) a b h f = ap (λ ks. ends_one (kind_at ks a)) (sym e) ∙ ap ends_one h.1

comma_all : (k : Kind) → k ≡ Comma → ends_all k ≡ true → ⊥
comma_all k e h = true≢false (sym h ∙ ap ends_all e)

others_only : (o : ℕ) → (w : Words) → (s : Leading) → (ps : List Piece) → (a b : ℕ) → HoldOthers w o s ps a b → ends_all (kind_at w.kinds b) ≡ true
    → (ps' : List Piece) → (b' : ℕ) → HoldOthers w o s ps' a b' → ends_all (kind_at w.kinds b') ≡ true → (ps ≡ ps') × (b ≡ b')
others_only o w s [] a b h e [] b' h' e' = (refl, h ∙ sym h')
others_only o w s [] a b h e (p ∷ ps) b' h' e' = absurd (comma_all (kind_at w.kinds b) (ap (λ x. kind_at w.kinds x) h ∙ h'.1) e)
others_only o w s (p ∷ ps) a b h e [] b' h' e' = absurd (comma_all (kind_at w.kinds b') (ap (λ x. kind_at w.kinds x) h' ∙ h.1) e')
others_only o w s (p ∷ ps) a b h e (p' ∷ ps') b' h' e' =
    let v : Words = past w s p.0 in
    let same : v.kinds ≡ w.kinds = past_kinds w s p.0 in
    let one =
    one_only o w s p.0 p.1 (a + 1) h.0 h.2 (others_end o w v same s ps h.0 b h.3 e) p'.0 p'.1 h'.0 h'.2
    (others_end o w (past w s p'.0) (past_kinds w s p'.0) s ps' h'.0 b' h'.3 e') in
    let piece : p ≡ p' = one.0 in
    let rest : HoldOthers v o s ps' h.0 b' =
    subst (λ x. HoldOthers (past w s x.0) o s ps' h.0 b') (sym piece) (subst (λ x. HoldOthers (past w s p'.0) o s ps' x b') (sym one.1) h'.3) in
    let more =
    others_only o v s ps h.0 b h.3 (ap (λ ks. ends_all (kind_at ks b)) same ∙ e) ps' b' rest (ap (λ ks. ends_all (kind_at ks b')) same ∙ e') in
    (λ i. piece i ∷ more.0 i, more.1)

all_only : (o : ℕ) → (w : Words) → (s : Leading) → (p : Piece) → (ps : List Piece) → (a b : ℕ) → HoldAll w o s (p ∷ ps) a b → ends_all (kind_at w.kinds b) ≡ true
    → OnlyAll o w s a (p ∷ ps) b
all_only o w s p ps a b h e p' ps' b' h' e' =
    let v : Words = past w s p.0 in
    let same : v.kinds ≡ w.kinds = past_kinds w s p.0 in
    let one =
    one_only o w s p.0 p.1 a h.0 h.1 (others_end o w v same (freely s) ps h.0 b h.2 e) p'.0 p'.1 h'.0 h'.1
    (others_end o w (past w s p'.0) (past_kinds w s p'.0) (freely s) ps' h'.0 b' h'.2 e') in
    let piece : p ≡ p' = one.0 in
    let rest : HoldOthers v o (freely s) ps' h.0 b' =
    subst (λ x. HoldOthers (past w s x.0) o (freely s) ps' h.0 b') (sym piece)
    (subst (λ x. HoldOthers (past w s p'.0) o (freely s) ps' x b') (sym one.1) h'.2) in
    let more =
    others_only o v (freely s) ps h.0 b h.2 (ap (λ ks. ends_all (kind_at ks b)) same ∙ e) ps' b' rest (ap (λ ks. ends_all (kind_at ks b')) same ∙ e') in
    (λ i. piece i ∷ more.0 i, more.1)

-- up to the end of the head
declarator_unended : (o : ℕ) → (w : Words) → (s : Leading) → (p : Piece) → (ps : List Piece) → (a n : ℕ) → HoldAll w o s (p ∷ ps) a n → kind_at w.kinds a ≡ Semicolon → ⊥
declarator_unended o w s p ps a n h k =
    true≢false
    (sym (declarator_starts (shown_from w o) (not s.typed) p.0 a h.1.0 h.1.1) ∙ from_at starts_declarator (λ x. refl) w o a ∙ ap starts_declarator k)

declared_only : (o : ℕ) → (w : Words) → (s : Leading) → (ds : List Piece) → (body : Bool) → (a n : ℕ) → HoldAll w o s ds a n → Closes w.kinds ds body n
    → OnlyDeclared o w s a ds body (n + 1)
declared_only o w s [] false a n h c ds' body' n' h' c' =
    let same = none_same o w s a (ap (λ x. kind_at w.kinds x) (sym h) ∙ c) ds' body' n' h' c' in
    (same.0, same.1, ap (λ x. x + 1) h ∙ same.2)
declared_only o w s [] true a n h c ds' body' n' h' c' = absurd (true≢false (sym c.1))
declared_only o w s (p ∷ ps) false a n h c ds' body' n' h' c' =
    semicolon_same o w s a (declarator_unended o w s p ps a n h) (p ∷ ps) n
    (all_only o w s p ps a n h (closes_ends w.kinds (p ∷ ps) false n c)) c ds' body' n' h' c'
declared_only o w s (p ∷ ps) true a n h c ds' body' n' h' c' =
    brace_same o w s a (declarator_unended o w s p ps a n h) (p ∷ ps) n (all_only o w s p ps a n h (closes_ends w.kinds (p ∷ ps) true n c)) c.0 ds' body' n' h' c'

front_only : (ks : List Kind) → (ss : Specifyings) → (a m : ℕ) → HoldSpecifyings ks false ss a m
    → ends_specifiers (kind_at ks m) (typed_by ks false ss) ≡ true → OnlyFront ks a ss m
front_only ks ss a m h e ss' m' some h' e' = specifyings_only ks false ss a m (everywhere ks (a + 1)) h e ss' m' h' e'

-- a static assertion
type_no_assert : (ks : List Kind) → (a : ℕ) → starts_type (kind_at ks a) ≡ true → kind_at ks a ≡ Assert → ⊥
type_no_assert ks a h k = true≢false (sym h ∙ ap starts_type k)

pub heads_only : (w : Words) → (d : Heading) → (a b : ℕ) → HoldsHead w d a b → OnlyHead w a d b
heads_only w (Declares_of ss ds body) a b h d' b' h' =
    let starts_so = some_starts (shown_from w a) false ss a h.0 h.2 h.3 in
    let same =
    declares_same w a (λ k. type_no_assert (shown_from w a) a starts_so (shown_assert a w a k)) ss h.0
    (front_only (shown_from w a) ss a h.0 h.3 (specifiers_end a w ss ds body h.0 h.1 h.4 h.5)) (leading_of (shown w) ss) refl ds body (h.1 + 1)
    (declared_only a w (leading_of (shown w) ss) ds body h.0 h.1 h.4 h.5) d' b' h' in
    (same.0, h.6 ∙ same.1)
heads_only w (Asserts_of x) a b h d' b' h' =
    asserts_same w a (was_assert a w a (asserts_first (shown_from w a) x a b h)) x b (assertion_only (shown_from w a) x a b (everywhere (shown_from w a) a) h) d' b' h'

-- what they begin with
start_expression : (k : Kind) → is_start k ≡ true → starts_expression k ≡ true
start_expression Identifier h = refl
start_expression Constant h = refl
start_expression Text h = refl
start_expression OpenParen h = refl
start_expression Step h = refl
start_expression Ampersand h = refl
start_expression Star h = refl
start_expression Sign h = refl
start_expression Complement h = refl
start_expression SizeOf h = refl
start_expression AlignOf h = refl
start_expression Generic h = refl
start_expression OffsetOf h = refl
start_expression _ h = absurd (true≢false (sym h))

type_declares : (k : Kind) → starts_type k ≡ true → starts_declaration k ≡ true
type_declares TypeWord h = refl
type_declares Qualifier h = refl
type_declares Tag h = refl
type_declares Enum h = refl
type_declares Align h = refl
type_declares (TypeName n) h = refl
type_declares Atomic h = refl
type_declares Storage h = refl
type_declares Typedef h = refl
type_declares Static h = refl
type_declares _ h = absurd (true≢false (sym h))

head_starts : (w : Words) → (d : Heading) → (a b : ℕ) → HoldsHead w d a b → starts_declaration (kind_in w a) ≡ true
head_starts w (Declares_of ss ds body) a b h =
    ap starts_declaration (sym (own_start (shown w) a))
    ∙ type_declares (kind_at (shown_from w a) a) (some_starts (shown_from w a) false ss a h.0 h.2 h.3)
head_starts w (Asserts_of x) a b h =
    ap starts_declaration (sym (own_start (shown w) a) ∙ asserts_first (shown_from w a) x a b h)

-- no `:` stands behind the first token of one
abbrev is_colon : Kind → Bool
is_colon Colon = true
is_colon _ = false

abbrev kind_from : ℕ → Words → ℕ → Kind
kind_from o w at = kind_at (shown_from w o) at

colon_is : (k : Kind) → is_colon k ≡ true → k ≡ Colon
colon_is Colon h = refl
colon_is _ h = absurd (true≢false (sym h))

colon_from : (o : ℕ) → (w : Words) → (at : ℕ) → kind_in w at ≡ Colon → kind_from o w at ≡ Colon
colon_from o w at k =
    colon_is (kind_from o w at) (from_at is_colon (λ x. refl) w o at ∙ sym (plain_at is_colon (λ x. refl) w at) ∙ ap is_colon k)

colon_types_not : (k : Kind) → k ≡ Colon → starts_type k ≡ true → ⊥
colon_types_not k e h = true≢false (sym h ∙ ap starts_type e)

declares_on : (o : ℕ) → (w : Words) → (s : Leading) → (ds : List Piece) → (body : Bool) → (m n : ℕ) → HoldAll w o s ds m n → Closes w.kinds ds body n
    → kind_from o w m ≡ Colon → ⊥
declares_on o w s [] false m n h c k =
    true≢false
    (sym (ap is_colon k) ∙ from_at is_colon (λ x. refl) w o m ∙ ap (λ x. is_colon (kind_at w.kinds x)) (sym h) ∙ ap is_colon c)
declares_on o w s [] true m n h c k = true≢false (sym c.1)
declares_on o w s (p ∷ ps) body m n h c k =
    true≢false (sym (declarator_starts (shown_from w o) (not s.typed) p.0 m h.1.0 h.1.1) ∙ ap starts_declarator k)

specifiers_on : (o : ℕ) → (w : Words) → (y : Bool) → (s : Leading) → (ss : Specifyings) → (ds : List Piece) → (body : Bool) → (a m n : ℕ)
    → HoldSpecifyings (shown_from w o) y ss a m → HoldAll w o s ds m n → Closes w.kinds ds body n → kind_from o w a ≡ Colon → ⊥
specifiers_on o w y s No_specifiers ds body a m n h g c k = declares_on o w s ds body m n g c (ap (kind_from o w) h ∙ k)
specifiers_on o w y s (Specifier_then x ss) ds body a m n h g c k = colon_types_not (kind_from o w a) k (starting (shown_from w o) y x a h.0 h.1)

word_colon_not : (k : Kind) → is_word k ≡ true → k ≡ Colon → ⊥
word_colon_not k h e = true≢false (sym h ∙ ap is_word e)

paren_colon_not : (k : Kind) → k ≡ OpenParen → k ≡ Colon → ⊥
paren_colon_not k e f = true≢false (sym (ap is_colon f) ∙ ap is_colon e)

brace_colon_not : (k : Kind) → k ≡ OpenBrace → k ≡ Colon → ⊥
brace_colon_not k e f = true≢false (sym (ap is_colon f) ∙ ap is_colon e)

-- behind `struct`
tag_colon_not : (o : ℕ) → (w : Words) → (g : Option ℕ) → (a q : ℕ) → HoldsTag (shown_from w o) g (a + 1) q → kind_from o w q ≡ OpenBrace → kind_from o w (a + 1) ≡ Colon → ⊥
tag_colon_not o w None a q h e k = brace_colon_not (kind_from o w (a + 1)) (ap (kind_from o w) (sym h) ∙ e) k
tag_colon_not o w (Some n) a q h e k = word_colon_not (kind_from o w (a + 1)) h.1 k

-- behind the first specifier, if it is one token
second_on : (o : ℕ) → (w : Words) → (y : Bool) → (s : Leading) → (ss : Specifyings) → (ds : List Piece) → (body : Bool) → (a p m n : ℕ) → p ≡ a + 1
    → HoldSpecifyings (shown_from w o) y ss p m → HoldAll w o s ds m n → Closes w.kinds ds body n → kind_from o w (a + 1) ≡ Colon → ⊥
second_on o w y s ss ds body a p m n e h g c k = specifiers_on o w y s ss ds body p m n h g c (ap (kind_from o w) e ∙ k)

first_unlabelled : (o : ℕ) → (w : Words) → (s : Leading) → (x : Specifying) → (ss : Specifyings) → (ds : List Piece) → (body : Bool) → (a p m n : ℕ)
    → HoldSpecifying (shown_from w o) false x a p → HoldSpecifyings (shown_from w o) (has_type (shown_from w o) x || false) ss p m → HoldAll w o s ds m n
    → Closes w.kinds ds body n → kind_from o w (a + 1) ≡ Colon → ⊥
first_unlabelled o w s (Word_of i) ss ds body a p m n f h g c k = second_on o w (has_type (shown_from w o) (Word_of i) || false) s ss ds body a p m n f.2 h g c k
first_unlabelled o w s (Typedef_of i) ss ds body a p m n f h g c k =
    second_on o w (has_type (shown_from w o) (Typedef_of i) || false) s ss ds body a p m n f.3 h g c k
first_unlabelled o w s (Tag_of i j) ss ds body a p m n f h g c k =
    word_colon_not (kind_from o w (a + 1)) (ap (λ x. is_word (kind_from o w x)) (sym f.2) ∙ f.3) k
first_unlabelled o w s (Atomic_of i q t j) ss ds body a p m n f h g c k =
    paren_colon_not (kind_from o w (a + 1)) (ap (kind_from o w) (sym f.2) ∙ f.3) k
first_unlabelled o w s (Aligned_as_of i q t j) ss ds body a p m n f h g c k =
    paren_colon_not (kind_from o w (a + 1)) (ap (kind_from o w) (sym f.2) ∙ f.3) k
first_unlabelled o w s (Aligned_of i q t j) ss ds body a p m n f h g c k =
    paren_colon_not (kind_from o w (a + 1)) (ap (kind_from o w) (sym f.2) ∙ f.3) k
first_unlabelled o w s (Members_of i x q ms j) ss ds body a p m n f h g c k = tag_colon_not o w x a q f.2 f.3 k
first_unlabelled o w s (Enumerators_of i x q e es t j) ss ds body a p m n f h g c k = tag_colon_not o w x a q f.4 f.5 k

head_unlabelled : (w : Words) → (d : Heading) → (a b : ℕ) → HoldsHead w d a b → kind_in w (a + 1) ≡ Colon → ⊥
head_unlabelled w (Declares_of No_specifiers ds body) a b h k = h.2
head_unlabelled w (Declares_of (Specifier_then x ss) ds body) a b h k =
    first_unlabelled a w (leading_of (shown w) (Specifier_then x ss)) x ss ds body a h.3.0 h.0 h.1 h.3.1 h.3.2 h.4 h.5 (colon_from a w (a + 1) k)
head_unlabelled w (Asserts_of (Assertion_of i o t j ns p e)) a b h k =
    paren_colon_not (kind_from a w (a + 1)) (ap (kind_from a w) (sym h.2) ∙ h.3) (colon_from a w (a + 1) k)

-- behind them
head_kinds : (w : Words) → (d : Heading) → (past_declaration w d).kinds ≡ w.kinds
head_kinds w (Declares_of ss ds body) =
    past_numbers_kinds (past_all w (leading_of (shown w) ss) ds) (spell_specifyings ss ++ spell_all ds)
    ∙ past_all_kinds w (leading_of (shown w) ss) ds
head_kinds w (Asserts_of x) = past_numbers_kinds w (spell_assertion x)

tree_kinds : (w : Words) → (t : Tree) → (past_tree w t).kinds ≡ w.kinds
tree_kinds w t = past_numbers_kinds w (spell t)

tree_blind : (f : Kind → Bool) → IsBlind f → (w : Words) → (t : Tree) → (at : ℕ) → f (kind_in (past_tree w t) at) ≡ f (kind_in w at)
tree_blind f i w t at =
    plain_at f i (past_tree w t) at ∙ ap (λ ks. f (kind_at ks at)) (tree_kinds w t) ∙ sym (plain_at f i w at)

head_blind : (f : Kind → Bool) → IsBlind f → (w : Words) → (d : Heading) → (at : ℕ) → f (kind_in (past_declaration w d) at) ≡ f (kind_in w at)
head_blind f i w d at =
    plain_at f i (past_declaration w d) at ∙ ap (λ ks. f (kind_at ks at)) (head_kinds w d) ∙ sym (plain_at f i w at)

stops_from : (w : Words) → (n a b : ℕ) → Stops (shown w) n b → Stops (shown_from w a) n b
stops_from w n a b h = subst (λ l. l < n) (sym (level_settled (shown w) a b)) h

pub parts_law : PartsLaw
parts_law = record {
  expression_only = λ w n t u a b c le h s g r.
      reads_only (shown_from w a) n t a b le h (stops_from w n a b s) u c g (stops_from w n a c r);
  declaration_only = λ w d e a b c h g. heads_only w d a b h.1 e c g.1;
  expression_starts = λ w n t a b h.
      ap starts_expression (sym (own_start (shown w) a))
      ∙ start_expression (kind_at (shown_from w a) a) (starts (shown_from w a) t a b h.1);
  name_reads = λ w a k. (omega arith, (refl, own_start (shown w) a ∙ k, refl));
  declaration_starts = λ w d a b h. head_starts w d a b h.1;
  declaration_unlabelled = λ w d a b h. head_unlabelled w d a b h.1;
  tree_blind = tree_blind;
  declaration_blind = head_blind;
  tree_kinds = tree_kinds;
  declaration_kinds = head_kinds;
}
