-- Declarators, with a name where one may stand, as the code reads their parts one behind another.
use Rattle.std.proofs.Common.{◌≡◌, refl, ap, sym, ◌∙◌, subst, ℕ, zero, suc, ◌+◌, ◌<◌, ◌≤◌, List, [], ◌∷◌, ◌++◌, length, arith, Bool, true, false, true≢false, ◌&&◌, inl, inr, is_some}
use Rattle.std.proofs.lemmas.List.{map-append}
use Rattle.tree_data.specs.declared.types.Deriving as code
use Rattle.tree_data.specs.Seen.{deriving_of, derivings_of}
use Rattle.tree_data.specs.Trees.{Tree, Declaring, Declaring_of, Grouping, No_group, Named_of, Group_of, Parameters, Deriving, Array_of, Function_of, Derivings, No_derivings, Deriving_then, derivings, Bound, Unsized_of, Any_size_of, Sized_of, Static_sized_of, Sized_static_of, needs_name}
use Rattle.c_parser.specs.Enumerations.{bars}
use Rattle.c_parser.specs.declared.answers.Stop.{Stop}
use Rattle.c_parser.specs.declared.answers.Stop.TheVariants as stop
use Rattle.c_parser.specs.declared.kinds.Kind.{Kind}
use Rattle.c_parser.specs.declared.kinds.Kind.TheVariants.{OpenParen, CloseParen, OpenBracket, CloseBracket, Star, Static}
use Rattle.c_parser.specs.Declarators.{AreThere, IsWritten, need_name, MayDerive, name_in}
use Rattle.c_parser.specs.Kinds.{kind_at, ends_type, is_deriving, any_size_at, is_star, is_closing_bracket, names_at, opens_parameters, is_word, may_name, grouped, behind_pointers}
use Rattle.c_parser.specs.Reading.{HoldQualifiers, HoldPointers, HoldsDeclaring, HoldsGrouping, HoldsDeriving, HoldDerivings, HoldsBound, HoldParameters, Reads, Found, IsWant}
use Rattle.c_parser.specs.TypeNames.{FoundQualifiers, FoundPointers, FoundDeclaring, FoundGrouping, FoundDeriving, FoundDerivings, FoundBound, FoundParameters}
use Rattle.c_parser.proofs.Marks.{clash, stops_at}
use Rattle.c_parser.proofs.SameParts.{Only}
use Rattle.c_parser.proofs.Parsing.{Fails}
use Rattle.c_parser.proofs.DeclaratorReading.{Bounding, Behind, nothing, a_star, a_size, a_static, bound_view, bound_only, no_start, no_star, no_qualifier, grouping_begins, parameters_next, written_begins, no_name_next, deriving_only, moved, first_static, first_others}
use Rattle.c_parser.proofs.TypeReading.{everywhere}
use Rattle.c_parser.proofs.Types.{between, pointers_only, qualifiers_only}
use Rattle.c_parser.proofs.Views.{starts}
use Rattle.c_parser.proofs.Words.{either, or_left, or_right, left_of, right_of, test_inside, name_stands, named_word}
use Rattle.c_parser.specs.declared.kinds.Named.{Named}

-- what a call has for all that stand there, where it read something and where it stopped
abbrev pub OnlyDeclaring : List Kind → Named → ℕ → Declaring → ℕ → Type 0
OnlyDeclaring ks y a d c = (d' : Declaring) → (c' : ℕ) → HoldsDeclaring ks y d' a c' → ends_type (kind_at ks c') ≡ true → (d ≡ d') × (c ≡ c')

abbrev pub FailsDeclaring : List Kind → Named → ℕ → Stop → Type 0
FailsDeclaring ks y a e = (d : Declaring) → (c : ℕ) → HoldsDeclaring ks y d a c → ends_type (kind_at ks c) ≡ true → IsWant e

abbrev pub OnlyGrouping : List Kind → Named → ℕ → Grouping → ℕ → Type 0
OnlyGrouping ks y a g m =
    (g' : Grouping) → (m' : ℕ) → (ds : Derivings) → (c : ℕ) → HoldsGrouping ks y g' a m' → HoldDerivings ks ds m' c → MayDerive g' ds
    → ends_type (kind_at ks c) ≡ true → (g ≡ g') × (m ≡ m')

abbrev pub FailsGrouping : List Kind → Named → ℕ → Stop → Type 0
FailsGrouping ks y a e =
    (g : Grouping) → (m : ℕ) → (ds : Derivings) → (c : ℕ) → HoldsGrouping ks y g a m → HoldDerivings ks ds m c → MayDerive g ds
    → ends_type (kind_at ks c) ≡ true → IsWant e

abbrev pub OnlyDerivings : List Kind → Bool → ℕ → Derivings → ℕ → Type 0
OnlyDerivings ks z a ds c =
    (ds' : Derivings) → (c' : ℕ) → HoldDerivings ks ds' a c' → (need_name ds' ≡ true → z ≡ true) → ends_type (kind_at ks c') ≡ true → (ds ≡ ds') × (c ≡ c')

abbrev pub FailsDerivings : List Kind → Bool → ℕ → Stop → Type 0
FailsDerivings ks z a e = (ds : Derivings) → (c : ℕ) → HoldDerivings ks ds a c → (need_name ds ≡ true → z ≡ true) → ends_type (kind_at ks c) ≡ true → IsWant e

abbrev pub OnlyDeriving : List Kind → ℕ → Deriving → ℕ → Type 0
OnlyDeriving ks a d c = (d' : Deriving) → (c' : ℕ) → HoldsDeriving ks d' a c' → (d ≡ d') × (c ≡ c')

abbrev pub FailsDeriving : List Kind → ℕ → Stop → Type 0
FailsDeriving ks a e = (d : Deriving) → (c : ℕ) → HoldsDeriving ks d a c → IsWant e

abbrev pub OnlyBound : List Kind → ℕ → Bound → ℕ → Type 0
OnlyBound ks a x c = (x' : Bound) → (c' : ℕ) → HoldsBound ks x' a c' → kind_at ks c' ≡ CloseBracket → (x ≡ x') × (c ≡ c')

abbrev pub FailsBound : List Kind → ℕ → Stop → Type 0
FailsBound ks a e = (x : Bound) → (c : ℕ) → HoldsBound ks x a c → kind_at ks c ≡ CloseBracket → IsWant e

abbrev pub OnlyParameters : List Kind → ℕ → Parameters → ℕ → Type 0
OnlyParameters ks a ps c = (ps' : Parameters) → (c' : ℕ) → HoldParameters ks ps' a c' → kind_at ks c' ≡ CloseParen → (ps ≡ ps') × (c ≡ c')

abbrev pub FailsParameters : List Kind → ℕ → Stop → Type 0
FailsParameters ks a e = (ps : Parameters) → (c : ℕ) → HoldParameters ks ps a c → kind_at ks c ≡ CloseParen → IsWant e

-- a declarator
pointers_same : (ks : List Kind) → (y : Named) → (a : ℕ) → (ps : List (ℕ × List ℕ)) → (m : ℕ) → FoundPointers ks a ps m → (ps' : List (ℕ × List ℕ)) → (m' : ℕ)
    → HoldPointers ks ps' a m' → (g : Grouping) → (ds : Derivings) → (n c : ℕ) → HoldsGrouping ks y g m' n → HoldDerivings ks ds n c
    → ends_type (kind_at ks c) ≡ true → (ps ≡ ps') × (m ≡ m')
pointers_same ks y a ps m x ps' m' h g ds n c i j e =
    let begun = grouping_begins ks y g ds m' n c i j e in
    let free = no_qualifier ks m' begun in
    pointers_only ks ps a m x.reads x.no_more (x.unqualified (between ks ps' a m' h free)) ps' m' h (no_star ks m' begun) free

pub group_missing : (ks : List Kind) → (y : Named) → (a : ℕ) → (ps : List (ℕ × List ℕ)) → (m : ℕ) → FoundPointers ks a ps m → (n : Named)
    → n ≡ behind_pointers y ps → (e : Stop) → FailsGrouping ks n m e → FailsDeclaring ks y a e
group_missing ks y a ps m x n is e fails (Declaring_of ps' g ds) c h f =
    let same = pointers_same ks (behind_pointers y ps') a ps m x ps' h.0 h.2 g ds h.1 c h.3 h.4 f in
    fails g h.1 ds c (moved ks y n ps ps' m h.0 h.1 g is same.0 same.1 h.3) h.4 h.5 f

pub derivings_missing : (ks : List Kind) → (y : Named) → (a : ℕ) → (ps : List (ℕ × List ℕ)) → (m : ℕ) → FoundPointers ks a ps m → (g : Grouping) → (n : ℕ)
    → (v : Named) → v ≡ behind_pointers y ps → OnlyGrouping ks v m g n → (z : Bool) → z ≡ is_some (name_in g) → (e : Stop)
    → FailsDerivings ks z n e → FailsDeclaring ks y a e
derivings_missing ks y a ps m x g n v by only z is e fails (Declaring_of ps' g' ds) c h f =
    let same = pointers_same ks (behind_pointers y ps') a ps m x ps' h.0 h.2 g' ds h.1 c h.3 h.4 f in
    let more = only g' h.1 ds c (moved ks y v ps ps' m h.0 h.1 g' by same.0 same.1 h.3) h.4 h.5 f in
    fails
    ds
    c
    (subst (λ y. HoldDerivings ks ds y c) (sym more.1) h.4)
    (λ q. is ∙ ap (λ x. is_some (name_in x)) more.0 ∙ h.5 q)
    f

pub declaring_found : (ks : List Kind) → (y : Named) → (a : ℕ) → (ps : List (ℕ × List ℕ)) → (m : ℕ) → FoundPointers ks a ps m → (g : Grouping) → (n : ℕ)
    → (v : Named) → v ≡ behind_pointers y ps → FoundGrouping ks v m g n → (w : Bool) → w ≡ is_some (name_in g) → (ds : Derivings) → (b : ℕ)
    → FoundDerivings ks w n ds b → FoundDeclaring ks y a (Declaring_of ps g ds) b
declaring_found ks y a ps m x g n v by u w is ds b z =
    let one : a ≤ m = x.forth in
    let two : m ≤ n = u.forth in
    let three : n ≤ b = z.forth in
    record {
      reads = (m, n, x.reads, subst (λ k. HoldsGrouping ks k g m n) by u.reads, z.reads, λ q. sym is ∙ z.fits q);
      forth = omega arith;
      inside = z.inside;
    }

pub declaring_same : (ks : List Kind) → (y : Named) → (a : ℕ) → (ps : List (ℕ × List ℕ)) → (m : ℕ) → FoundPointers ks a ps m → (g : Grouping) → (n : ℕ)
    → (v : Named) → v ≡ behind_pointers y ps → OnlyGrouping ks v m g n → (w : Bool) → w ≡ is_some (name_in g) → (ds : Derivings) → (b : ℕ)
    → OnlyDerivings ks w n ds b → OnlyDeclaring ks y a (Declaring_of ps g ds) b
declaring_same ks y a ps m x g n v by u w is ds b z (Declaring_of ps' g' ds') c h f =
    let one = pointers_same ks (behind_pointers y ps') a ps m x ps' h.0 h.2 g' ds' h.1 c h.3 h.4 f in
    let two = u g' h.1 ds' c (moved ks y v ps ps' m h.0 h.1 g' by one.0 one.1 h.3) h.4 h.5 f in
    let three =
    z
    ds'
    c
    (subst (λ k. HoldDerivings ks ds' k c) (sym two.1) h.4)
    (λ q. is ∙ ap (λ x. is_some (name_in x)) two.0 ∙ h.5 q)
    f in (
      ap (λ k. Declaring_of k g ds) one.0 ∙ ap (λ k. Declaring_of ps' k ds) two.0 ∙ ap (λ k. Declaring_of ps' g' k) three.0,
      three.1,
    )

-- a name, a group, or nothing
pub no_group : (ks : List Kind) → (y : Named) → (a : ℕ) → (may_name y (kind_at ks a) ≡ true → ⊥)
    → (kind_at ks a ≡ OpenParen → opens_parameters (kind_at ks (a + 1)) ≡ true) → OnlyGrouping ks y a No_group a
no_group ks y a n k No_group m ds c h i q f = (refl, sym h)
no_group ks y a n k (Named_of x) m ds c h i q f = absurd (n h.1)
no_group ks y a n k (Group_of o d e) m ds c h i q f =
    absurd (true≢false (sym (k h.1) ∙ written_begins ks y d (a + 1) e h.2 h.3))

pub name_same : (ks : List Kind) → (y : Named) → (a : ℕ) → may_name y (kind_at ks a) ≡ true → OnlyGrouping ks y a (Named_of a) (a + 1)
name_same ks y a k No_group m ds c h i q f =
    no_name_next ks ds a c (subst (λ x. HoldDerivings ks ds x c) h i) f (named_word y (kind_at ks a) k)
name_same ks y a k (Named_of n) m ds c h i q f = (ap Named_of (sym h.0), sym h.2)
name_same ks y a k (Group_of o d e) m ds c h i q f = absurd (true≢false (sym (named_word y (kind_at ks a) k) ∙ ap is_word h.1))

pub name_found : (ks : List Kind) → (y : Named) → (a : ℕ) → names_at ks a y ≡ true → FoundGrouping ks y a (Named_of a) (a + 1)
name_found ks y a h =
    let k = name_stands ks a y h in
    let i : a < length ks = test_inside is_word refl ks a (named_word y (kind_at ks a) k) in
    record { reads = (refl, k, refl); forth = omega arith; inside = omega arith }

closes_not : {A : Type 0} → (ks : List Kind) → (a c : ℕ) → kind_at ks a ≡ OpenParen → opens_parameters (kind_at ks (a + 1)) ≡ false
    → (ds : Derivings) → (m : ℕ) → m ≡ a → HoldDerivings ks ds m c → MayDerive No_group ds → ends_type (kind_at ks c) ≡ true → A
closes_not ks a c k n ds m e i q f =
    absurd (true≢false (sym (parameters_next ks ds a c (subst (λ x. HoldDerivings ks ds x c) e i) q f k) ∙ n))

no_word : {A : Type 0} → (ks : List Kind) → (y : Named) → (a : ℕ) → kind_at ks a ≡ OpenParen → may_name y (kind_at ks a) ≡ true → A
no_word ks y a k h = absurd (true≢false (sym (named_word y (kind_at ks a) h) ∙ ap is_word k))

pub group_fails : (ks : List Kind) → (y : Named) → (a : ℕ) → kind_at ks a ≡ OpenParen → opens_parameters (kind_at ks (a + 1)) ≡ false → (v : Named)
    → v ≡ grouped y → (e : Stop) → FailsDeclaring ks v (a + 1) e → FailsGrouping ks y a e
group_fails ks y a k n v by e fails No_group m ds c h i q f = closes_not ks a c k n ds m h i q f
group_fails ks y a k n v by e fails (Named_of x) m ds c h i q f = no_word ks y a k h.1
group_fails ks y a k n v by e fails (Group_of o d b) m ds c h i q f =
    fails d b (subst (λ x. HoldsDeclaring ks x d (a + 1) b) (sym by) h.3) (ap ends_type h.4)

pub group_left_open : (ks : List Kind) → (y : Named) → (a : ℕ) → kind_at ks a ≡ OpenParen → opens_parameters (kind_at ks (a + 1)) ≡ false
    → (d : Declaring) → (b : ℕ) → (v : Named) → v ≡ grouped y → OnlyDeclaring ks v (a + 1) d b → (kind_at ks b ≡ CloseParen → ⊥) → (n : ℕ)
    → FailsGrouping ks y a (stop.Syntax n)
group_left_open ks y a k n d b v by only u at No_group m ds c h i q f = closes_not ks a c k n ds m h i q f
group_left_open ks y a k n d b v by only u at (Named_of x) m ds c h i q f = no_word ks y a k h.1
group_left_open ks y a k n d b v by only u at (Group_of o d' b') m ds c h i q f =
    u (ap (λ x. kind_at ks x) (only d' b' (subst (λ x. HoldsDeclaring ks x d' (a + 1) b') (sym by) h.3) (ap ends_type h.4)).1 ∙ h.4)

written_by : (ks : List Kind) → (y : Named) → (d : Declaring) → (a c : ℕ) → HoldsDeclaring ks y d a c → kind_at ks c ≡ CloseParen
    → opens_parameters (kind_at ks a) ≡ false → IsWritten d
written_by ks y (Declaring_of (p ∷ ps) g ds) a c h e n = tt
written_by ks y (Declaring_of [] (Named_of x) ds) a c h e n = tt
written_by ks y (Declaring_of [] (Group_of o d b) ds) a c h e n = tt
written_by ks y (Declaring_of [] No_group (Deriving_then d ds)) a c h e n = tt
written_by ks y (Declaring_of [] No_group No_derivings) a c h e n =
    true≢false (sym (ap opens_parameters (ap (λ x. kind_at ks x) (sym (h.4 ∙ h.3 ∙ h.2)) ∙ e)) ∙ n)

pub group_found : (ks : List Kind) → (y : Named) → (a : ℕ) → kind_at ks a ≡ OpenParen → opens_parameters (kind_at ks (a + 1)) ≡ false
    → (d : Declaring) → (b : ℕ) → (v : Named) → v ≡ grouped y → FoundDeclaring ks v (a + 1) d b → kind_at ks b ≡ CloseParen → b < length ks
    → FoundGrouping ks y a (Group_of a d b) (b + 1)
group_found ks y a k n d b v by found l i =
    let one : a + 1 ≤ b = found.forth in
    record {
      reads = (
        refl,
        k,
        written_by ks v d (a + 1) b found.reads l n,
        subst (λ x. HoldsDeclaring ks x d (a + 1) b) by found.reads,
        l,
        refl,
      );
      forth = omega arith;
      inside = omega arith;
    }

pub group_same : (ks : List Kind) → (y : Named) → (a : ℕ) → kind_at ks a ≡ OpenParen → opens_parameters (kind_at ks (a + 1)) ≡ false
    → (d : Declaring) → (b : ℕ) → (v : Named) → v ≡ grouped y → OnlyDeclaring ks v (a + 1) d b → OnlyGrouping ks y a (Group_of a d b) (b + 1)
group_same ks y a k n d b v by only No_group m ds c h i q f = closes_not ks a c k n ds m h i q f
group_same ks y a k n d b v by only (Named_of x) m ds c h i q f = no_word ks y a k h.1
group_same ks y a k n d b v by only (Group_of o d' b') m ds c h i q f =
    let same = only d' b' (subst (λ x. HoldsDeclaring ks x d' (a + 1) b') (sym by) h.3) (ap ends_type h.4) in (
      ap (λ x. Group_of x d b) (sym h.0) ∙ ap (λ x. Group_of o x b) same.0 ∙ ap (λ x. Group_of o d' x) same.1,
      ap (λ x. x + 1) same.1 ∙ sym h.5,
    )

-- functions and arrays
pub function_found : (ks : List Kind) → (a : ℕ) → kind_at ks a ≡ OpenParen → (ps : Parameters) → (c : ℕ) → FoundParameters ks (a + 1) ps c
    → kind_at ks c ≡ CloseParen → c < length ks → bars ks a c ≡ false → FoundDeriving ks a (Function_of a ps c) (c + 1)
function_found ks a k ps c found l i n =
    let one : a + 1 ≤ c = found.forth in
    record { reads = (refl, k, found.reads, l, refl, n); forth = omega arith; inside = omega arith }

pub found_deriving_only : (ks : List Kind) → (a : ℕ) → (d : Deriving) → (b : ℕ) → FoundDeriving ks a d b → OnlyDeriving ks a d b
found_deriving_only ks a d b found = deriving_only ks d a b (everywhere ks a) found.reads

pub function_fails : (ks : List Kind) → (a : ℕ) → kind_at ks a ≡ OpenParen → (e : Stop) → FailsParameters ks (a + 1) e → FailsDeriving ks a e
function_fails ks a k e fails (Array_of o x c) b h = clash (kind_at ks a) OpenBracket OpenParen h.1 k (λ y. omega (arith, y))
function_fails ks a k e fails (Function_of o ps c) b h = fails ps c h.2 h.3

pub function_left_open : (ks : List Kind) → (a : ℕ) → kind_at ks a ≡ OpenParen → (ps : Parameters) → (c : ℕ) → OnlyParameters ks (a + 1) ps c
    → (kind_at ks c ≡ CloseParen → ⊥) → (n : ℕ) → FailsDeriving ks a (stop.Syntax n)
function_left_open ks a k ps c only u n (Array_of o x c') b h = clash (kind_at ks a) OpenBracket OpenParen h.1 k (λ y. omega (arith, y))
function_left_open ks a k ps c only u n (Function_of o ps' c') b h = u (ap (λ y. kind_at ks y) (only ps' c' h.2 h.3).1 ∙ h.3)

pub function_barred : (ks : List Kind) → (a : ℕ) → kind_at ks a ≡ OpenParen → (ps : Parameters) → (c : ℕ) → OnlyParameters ks (a + 1) ps c
    → bars ks a c ≡ true → (n : ℕ) → FailsDeriving ks a (stop.Syntax n)
function_barred ks a k ps c only u n (Array_of o x c') b h = clash (kind_at ks a) OpenBracket OpenParen h.1 k (λ y. omega (arith, y))
function_barred ks a k ps c only u n (Function_of o ps' c') b h =
    true≢false (sym u ∙ ap (λ y. bars ks a y) (only ps' c' h.2 h.3).1 ∙ ap (λ y. bars ks y c') (sym h.0) ∙ h.5)

pub array_fails : (ks : List Kind) → (a : ℕ) → kind_at ks a ≡ OpenBracket → (e : Stop) → FailsBound ks (a + 1) e → FailsDeriving ks a e
array_fails ks a k e fails (Array_of o x c) b h = fails x c h.2 h.3
array_fails ks a k e fails (Function_of o ps c) b h = clash (kind_at ks a) OpenBracket OpenParen k h.1 (λ y. omega (arith, y))

pub array_left_open : (ks : List Kind) → (a : ℕ) → kind_at ks a ≡ OpenBracket → (x : Bound) → (c : ℕ) → OnlyBound ks (a + 1) x c
    → (kind_at ks c ≡ CloseBracket → ⊥) → (n : ℕ) → FailsDeriving ks a (stop.Syntax n)
array_left_open ks a k x c only u n (Array_of o x' c') b h = u (ap (λ y. kind_at ks y) (only x' c' h.2 h.3).1 ∙ h.3)
array_left_open ks a k x c only u n (Function_of o ps c') b h = clash (kind_at ks a) OpenBracket OpenParen k h.1 (λ y. omega (arith, y))

pub array_found : (ks : List Kind) → (a : ℕ) → kind_at ks a ≡ OpenBracket → (x : Bound) → (c : ℕ) → FoundBound ks (a + 1) x c
    → kind_at ks c ≡ CloseBracket → c < length ks → FoundDeriving ks a (Array_of a x c) (c + 1)
array_found ks a k x c found l i =
    let one : a + 1 ≤ c = found.forth in
    record { reads = (refl, k, found.reads, l, refl); forth = omega arith; inside = omega arith }

derives_by : (k : Kind) → is_deriving k ≡ true → (k ≡ OpenBracket → ⊥) → (k ≡ OpenParen → ⊥) → ⊥
derives_by OpenBracket h u v = u refl
derives_by OpenParen h u v = v refl
derives_by _ h u v = true≢false (sym h)

pub nothing_derives : (ks : List Kind) → (a : ℕ) → (k : Kind) → k ≡ kind_at ks a → is_deriving (kind_at ks a) ≡ true → (k ≡ OpenBracket → ⊥)
    → (k ≡ OpenParen → ⊥) → (n : ℕ) → FailsDeriving ks a (stop.Syntax n)
nothing_derives ks a k e h u v n d c g = derives_by (kind_at ks a) h (λ x. u (e ∙ x)) (λ x. v (e ∙ x))

-- the loop over them
derivings_snoc : (done : List Deriving) → (d : Deriving) → (more : Derivings) → derivings (done ++ d ∷ []) more ≡ derivings done (Deriving_then d more)
derivings_snoc [] d more = refl
derivings_snoc (x ∷ xs) d more = ap (Deriving_then x) (derivings_snoc xs d more)

pub record DerivingsLeft (ks : List Kind) (done : List Deriving) (at : ℕ) (ds : Derivings) (m : ℕ) : Type 0 where
  pub left : Derivings
  pub is : ds ≡ derivings done left
  pub holds : HoldDerivings ks left at m

pub record Derived (ks : List Kind) (z : Bool) (start : ℕ) (done : List Deriving) (at : ℕ) : Type 0 where
  pub grows : (ds : Derivings) → (b : ℕ) → HoldDerivings ks ds at b → HoldDerivings ks (derivings done ds) start b
  pub only : (ds : Derivings) → (b : ℕ) → HoldDerivings ks ds start b → ends_type (kind_at ks b) ≡ true → DerivingsLeft ks done at ds b
  pub fits : (ds : Derivings) → (need_name ds ≡ true → z ≡ true) → need_name (derivings done ds) ≡ true → z ≡ true
  pub forth : start ≤ at
  pub inside : at ≤ length ks

pub derived_start : (ks : List Kind) → (z : Bool) → (at : ℕ) → at ≤ length ks → Derived ks z at [] at
derived_start ks z at i = record {
  grows = λ ds b h. h;
  only = λ ds b h e. record { left = ds; is = refl; holds = h };
  fits = λ ds f. f;
  forth = omega arith;
  inside = i;
}

begins_deriving : (ks : List Kind) → (d : Deriving) → (a b : ℕ) → HoldsDeriving ks d a b → is_deriving (kind_at ks a) ≡ true
begins_deriving ks (Array_of o x c) a b h = ap is_deriving h.1
begins_deriving ks (Function_of o ps c) a b h = ap is_deriving h.1

ends_derives_not : {A : Type 0} → (k : Kind) → is_deriving k ≡ true → ends_type k ≡ true → A
ends_derives_not OpenBracket h e = absurd (true≢false (sym e))
ends_derives_not OpenParen h e = absurd (true≢false (sym e))
ends_derives_not _ h e = absurd (true≢false (sym h))

left_turns : (ks : List Kind) → (done : List Deriving) → (at : ℕ) → is_deriving (kind_at ks at) ≡ true → (d : Deriving) → (k : ℕ) → OnlyDeriving ks at d k
    → (ds left : Derivings) → (m : ℕ) → ds ≡ derivings done left → HoldDerivings ks left at m → ends_type (kind_at ks m) ≡ true
    → DerivingsLeft ks (done ++ d ∷ []) k ds m
left_turns ks done at i d k only ds No_derivings m is h e =
    ends_derives_not (kind_at ks at) i (ap (λ x. ends_type (kind_at ks x)) (sym h) ∙ e)
left_turns ks done at i d k only ds (Deriving_then d' left) m is h e =
    let one = only d' h.0 h.1 in
    record {
      left = left;
      is = is ∙ ap (λ x. derivings done (Deriving_then x left)) (sym one.0) ∙ sym (derivings_snoc done d left);
      holds = subst (λ x. HoldDerivings ks left x m) (sym one.1) h.2;
    }

need_then : (z : Bool) → (d : Deriving) → (ds : Derivings) → (needs_name d ≡ true → z ≡ true) → (need_name ds ≡ true → z ≡ true)
    → need_name (Deriving_then d ds) ≡ true → z ≡ true
need_then z d ds one more e = elim (either (needs_name d) (need_name ds) e) [
  | inl p ↦ one p
  | inr q ↦ more q
]

derived_turn : (ks : List Kind) → (z : Bool) → (start : ℕ) → (done : List Deriving) → (at : ℕ) → (d : Deriving) → (m : ℕ) → Derived ks z start done at
    → is_deriving (kind_at ks at) ≡ true → FoundDeriving ks at d m → OnlyDeriving ks at d m → (needs_name d ≡ true → z ≡ true)
    → Derived ks z start (done ++ d ∷ []) m
derived_turn ks z start done at d m loop i found only told =
    let one : start ≤ at = loop.forth in
    let two : at < m = found.forth in
    record {
      grows = λ ds b h.
          subst
          (λ xs. HoldDerivings ks xs start b)
          (sym (derivings_snoc done d ds))
          (loop.grows (Deriving_then d ds) b (m, found.reads, h));
      only = λ ds b h e.
          let a = loop.only ds b h e in
          left_turns ks done at i d m only ds a.left b a.is a.holds e;
      fits = λ ds f.
          subst
          (λ xs. need_name xs ≡ true → z ≡ true)
          (sym (derivings_snoc done d ds))
          (loop.fits (Deriving_then d ds) (need_then z d ds told f));
      forth = omega arith;
      inside = found.inside;
    }

pub derivings_push : (ks : List Kind) → (z : Bool) → (start : ℕ) → (items more : List code.Deriving) → (at : ℕ) → (d : code.Deriving) → (m : ℕ)
    → Derived ks z start (derivings_of items) at → is_deriving (kind_at ks at) ≡ true → FoundDeriving ks at (deriving_of d) m
    → OnlyDeriving ks at (deriving_of d) m → (needs_name (deriving_of d) ≡ true → z ≡ true) → more ≡ items ++ d ∷ []
    → Derived ks z start (derivings_of more) m
derivings_push ks z start items more at d m loop i found only told grown =
    subst
    (λ xs. Derived ks z start xs m)
    (sym (ap derivings_of grown ∙ map-append deriving_of items (d ∷ [])))
    (derived_turn ks z start (derivings_of items) at (deriving_of d) m loop i found only told)

pub derivings_found : (ks : List Kind) → (z : Bool) → (start : ℕ) → (done : List Deriving) → (at : ℕ) → Derived ks z start done at
    → FoundDerivings ks z start (derivings done No_derivings) at
derivings_found ks z start done at loop =
    record {
      reads = loop.grows No_derivings at refl;
      fits = loop.fits No_derivings (λ e. absurd (true≢false (sym e)));
      forth = loop.forth;
      inside = loop.inside;
    }

none_left : (ks : List Kind) → (done : List Deriving) → (at : ℕ) → is_deriving (kind_at ks at) ≡ false → (ds left : Derivings) → (m : ℕ)
    → ds ≡ derivings done left → HoldDerivings ks left at m → (derivings done No_derivings ≡ ds) × (at ≡ m)
none_left ks done at n ds No_derivings m is h = (sym is, sym h)
none_left ks done at n ds (Deriving_then d left) m is h = absurd (true≢false (sym (begins_deriving ks d at h.0 h.1) ∙ n))

pub derivings_same : (ks : List Kind) → (z : Bool) → (start : ℕ) → (done : List Deriving) → (at : ℕ) → Derived ks z start done at
    → is_deriving (kind_at ks at) ≡ false → OnlyDerivings ks z start (derivings done No_derivings) at
derivings_same ks z start done at loop n ds m h f e =
    let a = loop.only ds m h e in
    none_left ks done at n ds a.left m a.is a.holds

stop_left : (ks : List Kind) → (at : ℕ) → is_deriving (kind_at ks at) ≡ true → (e : Stop) → FailsDeriving ks at e → (left : Derivings) → (m : ℕ)
    → HoldDerivings ks left at m → ends_type (kind_at ks m) ≡ true → IsWant e
stop_left ks at i e fails No_derivings m h f = ends_derives_not (kind_at ks at) i (ap (λ x. ends_type (kind_at ks x)) (sym h) ∙ f)
stop_left ks at i e fails (Deriving_then d left) m h f = fails d h.0 h.1

pub derivings_fail : (ks : List Kind) → (z : Bool) → (start : ℕ) → (done : List Deriving) → (at : ℕ) → Derived ks z start done at
    → is_deriving (kind_at ks at) ≡ true → (e : Stop) → FailsDeriving ks at e → FailsDerivings ks z start e
derivings_fail ks z start done at loop i e fails ds m h g f =
    let a = loop.only ds m h f in
    stop_left ks at i e fails a.left m a.holds f

-- one that stands behind a name alone, behind none
need_through : (done : List Deriving) → (ds : Derivings) → need_name ds ≡ true → need_name (derivings done ds) ≡ true
need_through [] ds h = h
need_through (d ∷ done) ds h = or_right (needs_name d) (need_name (derivings done ds)) (need_through done ds h)

unnamed_left : (ks : List Kind) → (z : Bool) → (done : List Deriving) → (at : ℕ) → is_deriving (kind_at ks at) ≡ true → (d : Deriving) → (k : ℕ)
    → OnlyDeriving ks at d k → needs_name d ≡ true → (z ≡ true → ⊥) → (ds left : Derivings) → (m : ℕ) → ds ≡ derivings done left
    → HoldDerivings ks left at m → (need_name ds ≡ true → z ≡ true) → ends_type (kind_at ks m) ≡ true → ⊥
unnamed_left ks z done at i d k only needs none ds No_derivings m is h g e =
    ends_derives_not (kind_at ks at) i (ap (λ x. ends_type (kind_at ks x)) (sym h) ∙ e)
unnamed_left ks z done at i d k only needs none ds (Deriving_then d' left) m is h g e =
    let one = only d' h.0 h.1 in
    let here : needs_name d' ≡ true = ap needs_name (sym one.0) ∙ needs in
    let all = need_through done (Deriving_then d' left) (or_left (needs_name d') (need_name left) here) in
    none (g (ap need_name is ∙ all))

pub derivings_unnamed : (ks : List Kind) → (z : Bool) → (start : ℕ) → (done : List Deriving) → (at : ℕ) → Derived ks z start done at
    → is_deriving (kind_at ks at) ≡ true → (d : Deriving) → (k : ℕ) → OnlyDeriving ks at d k → needs_name d ≡ true → (z ≡ true → ⊥) → (n : ℕ)
    → FailsDerivings ks z start (stop.Syntax n)
derivings_unnamed ks z start done at loop i d k only needs none n ds m h g f =
    let a = loop.only ds m h f in
    unnamed_left ks z done at i d k only needs none ds a.left m a.is a.holds g f

-- what stands in the brackets
star_is : (k : Kind) → is_star k ≡ true → k ≡ Star
star_is Star h = refl
star_is _ h = absurd (true≢false (sym h))

bracket_is : (k : Kind) → is_closing_bracket k ≡ true → k ≡ CloseBracket
bracket_is CloseBracket h = refl
bracket_is _ h = absurd (true≢false (sym h))

any_star : (ks : List Kind) → (a : ℕ) → any_size_at ks a ≡ true → kind_at ks a ≡ Star
unfolding any_size_at
any_star ks a h = star_is (kind_at ks a) (left_of (is_star (kind_at ks a)) (is_closing_bracket (kind_at ks (a + 1))) h)

any_closes : (ks : List Kind) → (a : ℕ) → any_size_at ks a ≡ true → kind_at ks (a + 1) ≡ CloseBracket
unfolding any_size_at
any_closes ks a h = bracket_is (kind_at ks (a + 1)) (right_of (is_star (kind_at ks a)) (is_closing_bracket (kind_at ks (a + 1))) h)

both_true : (p q : Bool) → p ≡ true → q ≡ true → (p && q) ≡ true
both_true true q h g = g
both_true false q h g = absurd (true≢false (sym h))

any_both : (ks : List Kind) → (a : ℕ) → kind_at ks a ≡ Star → kind_at ks (a + 1) ≡ CloseBracket → any_size_at ks a ≡ true
unfolding any_size_at
any_both ks a k l =
    both_true (is_star (kind_at ks a)) (is_closing_bracket (kind_at ks (a + 1))) (ap is_star k) (ap is_closing_bracket l)

star_inside : (ks : List Kind) → (a : ℕ) → is_star (kind_at ks a) ≡ true → a < length ks
star_inside [] a h = absurd (true≢false (sym h))
star_inside (k ∷ ks) zero h = omega arith
star_inside (k ∷ ks) (suc a) h = omega (arith, star_inside ks a h)

pub any_found : (ks : List Kind) → (a : ℕ) → (ns : List ℕ) → (k : ℕ) → FoundQualifiers ks a ns k → any_size_at ks k ≡ true
    → FoundBound ks a (Any_size_of ns k) (k + 1)
any_found ks a ns k x h =
    let here : k < length ks = star_inside ks k (ap is_star (any_star ks k h)) in
    let one : a ≤ k = x.forth in
    record { reads = (x.reads, any_star ks k h, refl); forth = omega arith; inside = omega arith }

pub any_same : (ks : List Kind) → (a : ℕ) → (ns : List ℕ) → (k : ℕ) → FoundQualifiers ks a ns k → any_size_at ks k ≡ true
    → OnlyBound ks a (Any_size_of ns k) (k + 1)
any_same ks a ns k x h =
    bound_only ks (Any_size_of ns k) a (k + 1) (everywhere ks a) (x.reads, any_star ks k h, refl) (any_closes ks k h)

-- with `static` first
pub static_found : (ks : List Kind) → (a : ℕ) → kind_at ks a ≡ Static → (ns : List ℕ) → (k : ℕ) → FoundQualifiers ks (a + 1) ns k → (t : Tree) → (c : ℕ)
    → Found ks 2 k t c → FoundBound ks a (Static_sized_of a ns t) c
static_found ks a s ns k x t c y =
    let one : a + 1 ≤ k = x.forth in
    let two : k < c = y.forth in
    record { reads = (k, refl, s, x.reads, y.reads.0, y.reads.1); forth = omega arith; inside = y.inside }

static_by : (ks : List Kind) → (a : ℕ) → kind_at ks a ≡ Static → (ns : List ℕ) → (k : ℕ) → FoundQualifiers ks (a + 1) ns k → (t : Tree) → (c : ℕ)
    → Only ks 2 k t c → (x' : Bound) → (c' : ℕ) → kind_at ks c' ≡ CloseBracket → Bounding ks x' a c' → (Static_sized_of a ns t ≡ x') × (c ≡ c')
static_by ks a s ns k x t c only x' c' e (first_static ns' k' t' i s' h n r) =
    let one = qualifiers_only ks ns (a + 1) k x.reads x.no_more ns' k' h n in
    let two = only t' c' (subst (λ y. Reads ks 2 t' y c') (sym one.1) r) (stops_at ks 2 c' CloseBracket e (omega arith)) in
    (ap (λ y. Static_sized_of a y t) one.0 ∙ ap (λ y. Static_sized_of a ns' y) two.0 ∙ sym i, two.1)
static_by ks a s ns k x t c only x' c' e (first_others ns' k' h n u v) = absurd (u s)

pub static_same : (ks : List Kind) → (a : ℕ) → kind_at ks a ≡ Static → (ns : List ℕ) → (k : ℕ) → FoundQualifiers ks (a + 1) ns k → (t : Tree) → (c : ℕ)
    → Only ks 2 k t c → OnlyBound ks a (Static_sized_of a ns t) c
static_same ks a s ns k x t c only x' c' h e = static_by ks a s ns k x t c only x' c' e (bound_view ks x' a c' h e)

static_none : (ks : List Kind) → (a : ℕ) → kind_at ks a ≡ Static → (ns : List ℕ) → (k : ℕ) → FoundQualifiers ks (a + 1) ns k → (e : Stop) → Fails ks 2 k e
    → (x' : Bound) → (c' : ℕ) → kind_at ks c' ≡ CloseBracket → Bounding ks x' a c' → IsWant e
static_none ks a s ns k x e fails x' c' l (first_static ns' k' t' i s' h n r) =
    let one = qualifiers_only ks ns (a + 1) k x.reads x.no_more ns' k' h n in
    fails t' c' (subst (λ y. Reads ks 2 t' y c') (sym one.1) r) (stops_at ks 2 c' CloseBracket l (omega arith))
static_none ks a s ns k x e fails x' c' l (first_others ns' k' h n u v) = absurd (u s)

pub static_fails : (ks : List Kind) → (a : ℕ) → kind_at ks a ≡ Static → (ns : List ℕ) → (k : ℕ) → FoundQualifiers ks (a + 1) ns k → (e : Stop) → Fails ks 2 k e
    → FailsBound ks a e
static_fails ks a s ns k x e fails x' c' h l = static_none ks a s ns k x e fails x' c' l (bound_view ks x' a c' h l)

-- with qualifiers first, or without a word: what stands behind them tells
behind_of : (ks : List Kind) → (a : ℕ) → (kind_at ks a ≡ Static → ⊥) → (ns : List ℕ) → (k : ℕ) → FoundQualifiers ks a ns k → (x' : Bound) → (c' : ℕ)
    → Bounding ks x' a c' → Behind ks a k c' ns x'
behind_of ks a u ns k x x' c' (first_static ns' k' t' i s h n r) = absurd (u s)
behind_of ks a u ns k x x' c' (first_others ns' k' h n u' v) =
    let one = qualifiers_only ks ns a k x.reads x.no_more ns' k' h n in
    subst (λ y. Behind ks a k c' y x') (sym one.0) (subst (λ y. Behind ks a y c' ns' x') (sym one.1) v)

pub unsized_found : (ks : List Kind) → (a : ℕ) → (ns : List ℕ) → (k : ℕ) → FoundQualifiers ks a ns k → FoundBound ks a (Unsized_of ns) k
unsized_found ks a ns k x = record { reads = x.reads; forth = x.forth; inside = x.inside }

pub unsized_same : (ks : List Kind) → (a : ℕ) → (ns : List ℕ) → (k : ℕ) → FoundQualifiers ks a ns k → kind_at ks k ≡ CloseBracket
    → OnlyBound ks a (Unsized_of ns) k
unsized_same ks a ns k x e = bound_only ks (Unsized_of ns) a k (everywhere ks a) x.reads e

words_there : (ks : List Kind) → (ns : List ℕ) → (a k : ℕ) → HoldQualifiers ks ns a k → (kind_at ks a ≡ Static → ⊥) → kind_at ks k ≡ Static → AreThere ns
words_there ks [] a k h u s = u (ap (λ x. kind_at ks x) (sym h) ∙ s)
words_there ks (n ∷ ns) a k h u s = tt

pub last_static_found : (ks : List Kind) → (a : ℕ) → (kind_at ks a ≡ Static → ⊥) → (ns : List ℕ) → (k : ℕ) → FoundQualifiers ks a ns k
    → kind_at ks k ≡ Static → (t : Tree) → (c : ℕ) → Found ks 2 (k + 1) t c → FoundBound ks a (Sized_static_of ns k t) c
last_static_found ks a u ns k x s t c y =
    let one : a ≤ k = x.forth in
    let two : k + 1 < c = y.forth in
    record {
      reads = (words_there ks ns a k x.reads u s, x.reads, s, y.reads.0, y.reads.1);
      forth = omega arith;
      inside = y.inside;
    }

last_static_by : (ks : List Kind) → (a : ℕ) → (ns : List ℕ) → (k : ℕ) → kind_at ks k ≡ Static → (t : Tree) → (c : ℕ) → Only ks 2 (k + 1) t c
    → (x' : Bound) → (c' : ℕ) → kind_at ks c' ≡ CloseBracket → Behind ks a k c' ns x' → (Sized_static_of ns k t ≡ x') × (c ≡ c')
last_static_by ks a ns k s t c only x' c' e (nothing i f) =
    clash (kind_at ks k) Static CloseBracket s (ap (λ y. kind_at ks y) (sym f) ∙ e) (λ y. omega (arith, y))
last_static_by ks a ns k s t c only x' c' e (a_star i s' f) = clash (kind_at ks k) Static Star s s' (λ y. omega (arith, y))
last_static_by ks a ns k s t c only x' c' e (a_size t' i r) = no_start ks k Static (starts ks t' k c' r.1) s refl
last_static_by ks a ns k s t c only x' c' e (a_static t' i n s' r) =
    let same = only t' c' r (stops_at ks 2 c' CloseBracket e (omega arith)) in
    (ap (λ y. Sized_static_of ns k y) same.0 ∙ sym i, same.1)

pub last_static_same : (ks : List Kind) → (a : ℕ) → (kind_at ks a ≡ Static → ⊥) → (ns : List ℕ) → (k : ℕ) → FoundQualifiers ks a ns k
    → kind_at ks k ≡ Static → (t : Tree) → (c : ℕ) → Only ks 2 (k + 1) t c → OnlyBound ks a (Sized_static_of ns k t) c
last_static_same ks a u ns k x s t c only x' c' h e =
    last_static_by ks a ns k s t c only x' c' e (behind_of ks a u ns k x x' c' (bound_view ks x' a c' h e))

last_static_none : (ks : List Kind) → (a : ℕ) → (ns : List ℕ) → (k : ℕ) → kind_at ks k ≡ Static → (e : Stop) → Fails ks 2 (k + 1) e
    → (x' : Bound) → (c' : ℕ) → kind_at ks c' ≡ CloseBracket → Behind ks a k c' ns x' → IsWant e
last_static_none ks a ns k s e fails x' c' l (nothing i f) =
    clash (kind_at ks k) Static CloseBracket s (ap (λ y. kind_at ks y) (sym f) ∙ l) (λ y. omega (arith, y))
last_static_none ks a ns k s e fails x' c' l (a_star i s' f) = clash (kind_at ks k) Static Star s s' (λ y. omega (arith, y))
last_static_none ks a ns k s e fails x' c' l (a_size t' i r) = no_start ks k Static (starts ks t' k c' r.1) s refl
last_static_none ks a ns k s e fails x' c' l (a_static t' i n s' r) = fails t' c' r (stops_at ks 2 c' CloseBracket l (omega arith))

pub last_static_fails : (ks : List Kind) → (a : ℕ) → (kind_at ks a ≡ Static → ⊥) → (ns : List ℕ) → (k : ℕ) → FoundQualifiers ks a ns k
    → kind_at ks k ≡ Static → (e : Stop) → Fails ks 2 (k + 1) e → FailsBound ks a e
last_static_fails ks a u ns k x s e fails x' c' h l =
    last_static_none ks a ns k s e fails x' c' l (behind_of ks a u ns k x x' c' (bound_view ks x' a c' h l))

pub sized_found : (ks : List Kind) → (a : ℕ) → (ns : List ℕ) → (k : ℕ) → FoundQualifiers ks a ns k → (t : Tree) → (c : ℕ) → Found ks 2 k t c
    → FoundBound ks a (Sized_of ns t) c
sized_found ks a ns k x t c y =
    let one : a ≤ k = x.forth in
    let two : k < c = y.forth in
    record { reads = (k, x.reads, y.reads.0, y.reads.1); forth = omega arith; inside = y.inside }

-- no `]`, `*` with `]` behind it, or `static` stands behind the qualifiers
pub record IsSize (ks : List Kind) (a k : ℕ) : Type 0 where
  pub sized : kind_at ks k ≡ CloseBracket → ⊥
  pub told : any_size_at ks k ≡ false
  pub plain : kind_at ks k ≡ Static → ⊥

starred : {A : Type 0} → (ks : List Kind) → (k c : ℕ) → any_size_at ks k ≡ false → kind_at ks k ≡ Star → c ≡ k + 1 → kind_at ks c ≡ CloseBracket → A
starred ks k c n s f e = absurd (true≢false (sym (any_both ks k s (ap (λ y. kind_at ks y) (sym f) ∙ e)) ∙ n))

sized_by : (ks : List Kind) → (a : ℕ) → (ns : List ℕ) → (k : ℕ) → IsSize ks a k → (t : Tree) → (c : ℕ) → Only ks 2 k t c
    → (x' : Bound) → (c' : ℕ) → kind_at ks c' ≡ CloseBracket → Behind ks a k c' ns x' → (Sized_of ns t ≡ x') × (c ≡ c')
sized_by ks a ns k z t c only x' c' e (nothing i f) = absurd (z.sized (ap (λ y. kind_at ks y) (sym f) ∙ e))
sized_by ks a ns k z t c only x' c' e (a_star i s f) = starred ks k c' z.told s f e
sized_by ks a ns k z t c only x' c' e (a_size t' i r) =
    let same = only t' c' r (stops_at ks 2 c' CloseBracket e (omega arith)) in
    (ap (λ y. Sized_of ns y) same.0 ∙ sym i, same.1)
sized_by ks a ns k z t c only x' c' e (a_static t' i n s r) = absurd (z.plain s)

pub sized_same : (ks : List Kind) → (a : ℕ) → (kind_at ks a ≡ Static → ⊥) → (ns : List ℕ) → (k : ℕ) → FoundQualifiers ks a ns k → IsSize ks a k
    → (t : Tree) → (c : ℕ) → Only ks 2 k t c → OnlyBound ks a (Sized_of ns t) c
sized_same ks a u ns k x z t c only x' c' h e =
    sized_by ks a ns k z t c only x' c' e (behind_of ks a u ns k x x' c' (bound_view ks x' a c' h e))

sized_none : (ks : List Kind) → (a : ℕ) → (ns : List ℕ) → (k : ℕ) → IsSize ks a k → (e : Stop) → Fails ks 2 k e
    → (x' : Bound) → (c' : ℕ) → kind_at ks c' ≡ CloseBracket → Behind ks a k c' ns x' → IsWant e
sized_none ks a ns k z e fails x' c' l (nothing i f) = absurd (z.sized (ap (λ y. kind_at ks y) (sym f) ∙ l))
sized_none ks a ns k z e fails x' c' l (a_star i s f) = starred ks k c' z.told s f l
sized_none ks a ns k z e fails x' c' l (a_size t' i r) = fails t' c' r (stops_at ks 2 c' CloseBracket l (omega arith))
sized_none ks a ns k z e fails x' c' l (a_static t' i n s r) = absurd (z.plain s)

pub sized_fails : (ks : List Kind) → (a : ℕ) → (kind_at ks a ≡ Static → ⊥) → (ns : List ℕ) → (k : ℕ) → FoundQualifiers ks a ns k → IsSize ks a k
    → (e : Stop) → Fails ks 2 k e → FailsBound ks a e
sized_fails ks a u ns k x z e fails x' c' h l =
    sized_none ks a ns k z e fails x' c' l (behind_of ks a u ns k x x' c' (bound_view ks x' a c' h l))
