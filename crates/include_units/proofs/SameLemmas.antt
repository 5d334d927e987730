-- The test of two definitions is that of ISO C11 6.10.3p2.
use Rattle.std.proofs.Common.{◌≡◌, refl, sym, ap, ap₂, ◌∙◌, arith, inl, inr, subst, ℕ, ◌==◌, ◌&&◌, Bool, true, false, T, List, [], ◌∷◌, Option, None, Some, cond, bytes_eq}
use Rattle.std.proofs.lemmas.Slice.Eq.{bytes_eq-Decides}
use Rattle.tok_data.specs.declared.tokens.PpKind.{PpKind}
use Rattle.tok_data.specs.declared.tokens.PpKind.TheVariants as pp
use Rattle.tok_data.specs.declared.sources.TokId.{TokId}
use Rattle.tok_data.specs.declared.tokens.OutToken.{OutToken}
use Rattle.macro_table.specs.declared.definition.MacroDef.{MacroDef}
use Rattle.macro_table.specs.declared.table.Defined.TheVariants.{Fresh, Same, Clash}
use Rattle.macro_table.specs.declared.table.Defined.{Defined}
use Rattle.macro_table.specs.Same.{Spelled, IsSame, replacement}
use Rattle.macro_table.specs.Defining.{IsOutcome}
use Rattle.include_units.specs.Conditionals.{same_bool}
use Rattle.include_units.specs.Definitions.{kind_number, same_spelled, same_names, same_params, same_definition, define_over}
use Rattle.include_units.specs.Made.{Made, with_fault}

clash : {X : Type 0} → false ≡ true → X
clash e = absurd (subst T (sym e) tt)

both_true : (x y : Bool) → (x && y) ≡ true → (x ≡ true) × (y ≡ true)
both_true true y e = (refl, e)
both_true false y e = clash e

true_both : (x y : Bool) → x ≡ true → y ≡ true → (x && y) ≡ true
true_both true y e f = f
true_both false y e f = e

kind_of : ℕ → PpKind
kind_of n =
    cond (n == 0) pp.Ident (cond (n == 1) pp.Number (cond (n == 2) pp.Char (cond (n == 3) pp.Str (cond (n == 4) pp.Header (cond (n == 5) pp.Punct pp.Stray)))))

kind_back : (k : PpKind) → kind_of (kind_number k) ≡ k
unfolding kind_of
kind_back pp.Ident = refl
kind_back pp.Number = refl
kind_back pp.Char = refl
kind_back pp.Str = refl
kind_back pp.Header = refl
kind_back pp.Punct = refl
kind_back pp.Stray = refl

kind_self : (k : PpKind) → (kind_number k == kind_number k) ≡ true
kind_self pp.Ident = refl
kind_self pp.Number = refl
kind_self pp.Char = refl
kind_self pp.Str = refl
kind_self pp.Header = refl
kind_self pp.Punct = refl
kind_self pp.Stray = refl

number_is : (m n : ℕ) → (m == n) ≡ true → m ≡ n
number_is m n e = grind (arith, e)

kind_is : (a b : PpKind) → (kind_number a == kind_number b) ≡ true → a ≡ b
kind_is a b e = sym (kind_back a) ∙ ap kind_of (number_is (kind_number a) (kind_number b) e) ∙ kind_back b

bool_is : (a b : Bool) → same_bool a b ≡ true → a ≡ b
bool_is true b e = sym e
bool_is false true e = clash e
bool_is false false e = refl

bool_self : (a : Bool) → same_bool a a ≡ true
bool_self true = refl
bool_self false = refl

spelled_from : PpKind → List ℕ → Bool → Spelled
spelled_from k s b = record { kind = k; spelling = s; spaced = b }

one_is : (a b : Spelled) → a.kind ≡ b.kind → a.spelling ≡ b.spelling → a.spaced ≡ b.spaced → a ≡ b
unfolding spelled_from
one_is a b e f g =
    ap (λ k. spelled_from k a.spelling a.spaced) e ∙ ap (λ s. spelled_from b.kind s a.spaced) f ∙ ap (λ s. spelled_from b.kind b.spelling s) g

spelled_is : (xs ys : List Spelled) → same_spelled xs ys ≡ true → xs ≡ ys
spelled_is [] [] e = refl
spelled_is [] (b ∷ bs) e = clash e
spelled_is (a ∷ more) [] e = clash e
spelled_is (a ∷ more) (b ∷ bs) e =
    let p = both_true (kind_number a.kind == kind_number b.kind) (bytes_eq a.spelling b.spelling && (same_bool a.spaced b.spaced && same_spelled more bs)) e in
    let q = both_true (bytes_eq a.spelling b.spelling) (same_bool a.spaced b.spaced && same_spelled more bs) p.1 in
    let r = both_true (same_bool a.spaced b.spaced) (same_spelled more bs) q.1 in
    ap₂ (λ x xs. x ∷ xs) (one_is a b (kind_is a.kind b.kind p.0) ((bytes_eq-Decides a.spelling b.spelling).0 q.0) (bool_is a.spaced b.spaced r.0)) (spelled_is more bs r.1)

spelled_self : (xs : List Spelled) → same_spelled xs xs ≡ true
spelled_self [] = refl
spelled_self (a ∷ more) =
    true_both (kind_number a.kind == kind_number a.kind) (bytes_eq a.spelling a.spelling && (same_bool a.spaced a.spaced && same_spelled more more)) (kind_self a.kind)
    (true_both (bytes_eq a.spelling a.spelling) (same_bool a.spaced a.spaced && same_spelled more more) ((bytes_eq-Decides a.spelling a.spelling).1 refl)
    (true_both (same_bool a.spaced a.spaced) (same_spelled more more) (bool_self a.spaced) (spelled_self more)))

names_is : (xs ys : List (List ℕ)) → same_names xs ys ≡ true → xs ≡ ys
names_is [] [] e = refl
names_is [] (b ∷ bs) e = clash e
names_is (a ∷ more) [] e = clash e
names_is (a ∷ more) (b ∷ bs) e =
    let p = both_true (bytes_eq a b) (same_names more bs) e in
    ap₂ (λ x xs. x ∷ xs) ((bytes_eq-Decides a b).0 p.0) (names_is more bs p.1)

names_self : (xs : List (List ℕ)) → same_names xs xs ≡ true
names_self [] = refl
names_self (a ∷ more) = true_both (bytes_eq a a) (same_names more more) ((bytes_eq-Decides a a).1 refl) (names_self more)

params_is : (a b : Option (List (List ℕ))) → same_params a b ≡ true → a ≡ b
params_is None None e = refl
params_is None (Some b) e = clash e
params_is (Some a) None e = clash e
params_is (Some a) (Some b) e = ap Some (names_is a b e)

params_self : (a : Option (List (List ℕ))) → same_params a a ≡ true
params_self None = refl
params_self (Some a) = names_self a

same_is : (a b : MacroDef) → same_definition a b ≡ true → IsSame a b
same_is a b e =
    let p = both_true (same_params a.params b.params) (same_bool a.variadic b.variadic && same_spelled (replacement a.body) (replacement b.body)) e in
    let q = both_true (same_bool a.variadic b.variadic) (same_spelled (replacement a.body) (replacement b.body)) p.1 in
    record { params = params_is a.params b.params p.0; variadic = bool_is a.variadic b.variadic q.0; body = spelled_is (replacement a.body) (replacement b.body) q.1 }

is_same : (a b : MacroDef) → IsSame a b → same_definition a b ≡ true
is_same a b s =
    true_both (same_params a.params b.params) (same_bool a.variadic b.variadic && same_spelled (replacement a.body) (replacement b.body))
    (subst (λ p. same_params a.params p ≡ true) s.params (params_self a.params))
    (true_both (same_bool a.variadic b.variadic) (same_spelled (replacement a.body) (replacement b.body))
    (subst (λ v. same_bool a.variadic v ≡ true) s.variadic (bool_self a.variadic))
    (subst (λ r. same_spelled (replacement a.body) r ≡ true) s.body (spelled_self (replacement a.body))))

not_same : (a b : MacroDef) (x : Bool) → same_definition a b ≡ x → (¬ IsSame a b) → x ≡ false
not_same a b true e n = absurd (n (same_is a b e))
not_same a b false e n = refl

is_fresh : Defined → Bool
is_fresh Fresh = true
is_fresh Same = false
is_fresh (Clash tok) = false

is_clash : Defined → Bool
is_clash Fresh = false
is_clash Same = false
is_clash (Clash tok) = true

pub define_same : (o : Option MacroDef) (name : OutToken) (def : MacroDef) (m : Made) → IsOutcome o def Same → define_over o name def m ≡ m
unfolding is_fresh is_clash
define_same None name def m e = clash (ap is_fresh e)
define_same (Some kept) name def m (inl h) = ap (λ b. cond b m (with_fault 201 name.site name.spelling m)) (is_same kept def h.0)
define_same (Some kept) name def m (inr h) = clash (ap is_clash h.1)

pub define_clash : (o : Option MacroDef) (name : OutToken) (def : MacroDef) (m : Made) (tok : TokId) → IsOutcome o def (Clash tok) →
    define_over o name def m ≡ with_fault 201 name.site name.spelling m
unfolding is_fresh is_clash
define_clash None name def m tok e = clash (ap is_fresh e)
define_clash (Some kept) name def m tok (inl h) = clash (sym (ap is_clash h.1))
define_clash (Some kept) name def m tok (inr h) =
    ap (λ b. cond b m (with_fault 201 name.site name.spelling m)) (not_same kept def (same_definition kept def) refl h.0)
