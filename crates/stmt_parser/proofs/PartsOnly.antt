-- No two expressions stand from one place on as parts of statements, and an expression is no declaration.
use Rattle.std.proofs.Common.{◌≡◌, refl, ap, sym, ◌∙◌, subst, ℕ, ◌+◌, ◌≤◌, arith, Bool, true, false, true≢false, Option, None, Some}
use Rattle.tree_data.specs.Trees.{Tree, Heading}
use Rattle.c_parser.specs.declared.kinds.Kind.{Kind}
use Rattle.c_parser.specs.declared.kinds.Kind.TheVariants.{CloseParen, Semicolon}
use Rattle.c_parser.specs.Parts.{PartsLaw, IsBlind, HoldsDeclaration}
use Rattle.c_parser.specs.Reading.{Reads}
use Rattle.c_parser.specs.Words.{Words, shown_from, kind_in}
use Rattle.stmt_parser.specs.InForce.{past_optional}
use Rattle.stmt_parser.specs.Reading.{HoldsOptional, HoldsTest, ends_expression}
use Rattle.stmt_parser.proofs.InForceLemmas.{ends_blind, optional_blind}
use Rattle.stmt_parser.proofs.Marks.{code_of, coded, declaring_code, start_declares_not, end_starts_not, stops_before, ended}

-- expressions
pub no_expression : PartsLaw → (ks : Words) → (n : ℕ) → (t : Tree) → (a b m : ℕ) → Reads (shown_from ks a) n t a b → m ≡ a → ends_expression (kind_in ks m) ≡ true → ⊥
no_expression law ks n t a b m h e f =
    let f' : ends_expression (kind_in ks a) ≡ true = subst (λ x. ends_expression (kind_in ks x) ≡ true) e f in
    true≢false (sym (law.expression_starts ks n t a b h) ∙ end_starts_not (kind_in ks a) f')

pub tree_only : PartsLaw → (ks : Words) → (n : ℕ) → (t : Tree) → (a b : ℕ) → 1 ≤ n → Reads (shown_from ks a) n t a b → ends_expression (kind_in ks b) ≡ true
    → (t' : Tree) → (b' : ℕ) → Reads (shown_from ks a) n t' a b' → ends_expression (kind_in ks b') ≡ true → (t ≡ t') × (b ≡ b')
tree_only law ks n t a b le h e t' b' h' e' =
    law.expression_only ks n t t' a b b' le h (stops_before ks n b le e) h' (stops_before ks n b' le e')

pub optional_only : PartsLaw → (ks : Words) → (x : Option Tree) → (a b : ℕ) → HoldsOptional ks x a b → ends_expression (kind_in ks b) ≡ true
    → (x' : Option Tree) → (b' : ℕ) → HoldsOptional ks x' a b' → ends_expression (kind_in ks b') ≡ true → (x ≡ x') × (b ≡ b')
optional_only law ks None a b h e None b' h' e' = (refl, h ∙ sym h')
optional_only law ks None a b h e (Some t') b' h' e' = absurd (no_expression law ks 1 t' a b' b h' h e)
optional_only law ks (Some t) a b h e None b' h' e' = absurd (no_expression law ks 1 t a b b' h h' e')
optional_only law ks (Some t) a b h e (Some t') b' h' e' =
    let r = tree_only law ks 1 t a b (omega arith) h e t' b' h' e' in
    (ap (λ x. Some x) r.0, r.1)

pub test_only : PartsLaw → (ks : Words) → (o : ℕ) → (t : Tree) → (c a b : ℕ) → HoldsTest ks o t c a b
    → (o' : ℕ) → (t' : Tree) → (c' b' : ℕ) → HoldsTest ks o' t' c' a b' → (o ≡ o') × (t ≡ t') × (c ≡ c') × (b ≡ b')
test_only law ks o t c a b h o' t' c' b' h' =
    let r = tree_only law ks 1 t (a + 1) c (omega arith) h.2 (ended ks c CloseParen h.3 refl) t' c' h'.2 (ended ks c' CloseParen h'.3 refl) in
    (h.0 ∙ sym h'.0, r.0, r.1, h.4 ∙ ap (λ x. x + 1) r.1 ∙ sym h'.4)

-- a list of kinds that differs in typedef names alone
abbrev pub Alike_but_names : Words → Words → Type 0
Alike_but_names qs ks = (f : Kind → Bool) → IsBlind f → (a : ℕ) → f (kind_in qs a) ≡ f (kind_in ks a)

pub seen_under : (ks qs : Words) → Alike_but_names qs ks → (a : ℕ) → (k : Kind) → kind_in ks a ≡ k → ends_expression k ≡ true
    → ends_expression (kind_in qs a) ≡ true
seen_under ks qs u a k e f = u ends_expression ends_blind a ∙ ended ks a k e f

-- the second and the third part of a `for`
pub tail_only : PartsLaw → (ks qs : Words) → Alike_but_names qs ks → (y : Option Tree) → (a n : ℕ) → (z : Option Tree) → (c : ℕ)
    → HoldsOptional qs y a n → kind_in ks n ≡ Semicolon → HoldsOptional (past_optional qs y) z (n + 1) c → kind_in ks c ≡ CloseParen
    → (y' : Option Tree) → (n' : ℕ) → (z' : Option Tree) → (c' : ℕ)
    → HoldsOptional qs y' a n' → kind_in ks n' ≡ Semicolon → HoldsOptional (past_optional qs y') z' (n' + 1) c' → kind_in ks c' ≡ CloseParen
    → (y ≡ y') × (n ≡ n') × (z ≡ z') × (c ≡ c')
tail_only law ks qs u y a n z c h e g f y' n' z' c' h' e' g' f' =
    let r = optional_only law qs y a n h (seen_under ks qs u n Semicolon e refl) y' n' h' (seen_under ks qs u n' Semicolon e' refl) in
    let v : Alike_but_names (past_optional qs y) ks = λ t i p. optional_blind law t i qs y p ∙ u t i p in
    let g'' : HoldsOptional (past_optional qs y) z' (n + 1) c' =
    subst (λ x. HoldsOptional (past_optional qs x) z' (n + 1) c') (sym r.0) (subst (λ x. HoldsOptional (past_optional qs y') z' (x + 1) c') (sym r.1) g') in
    let q =
    optional_only
    law
    (past_optional qs y)
    z
    (n + 1)
    c
    g
    (seen_under ks (past_optional qs y) v c CloseParen f refl)
    z'
    c'
    g''
    (seen_under ks (past_optional qs y) v c' CloseParen f' refl) in
    (r.0, r.1, q.0, q.1)

-- the first part of a `for` is an expression or a declaration
pub first_apart : PartsLaw → (ks : Words) → (x : Option Tree) → (a m : ℕ) → HoldsOptional ks x a m → kind_in ks m ≡ Semicolon
    → (d : Heading) → (q : ℕ) → HoldsDeclaration ks d a q → ⊥
first_apart law ks None a m h e d q g =
    let low : code_of (kind_in ks a) ≤ 1 = declaring_code (kind_in ks a) (law.declaration_starts ks d a q g) in
    let here : code_of (kind_in ks a) ≡ 8 = ap (λ x. code_of (kind_in ks x)) (sym h) ∙ coded ks m Semicolon e in
    omega arith
first_apart law ks (Some t) a m h e d q g =
    start_declares_not (kind_in ks a) (law.expression_starts ks 1 t a m h) (law.declaration_starts ks d a q g)
