-- Declarators with a name as the code reads their parts one behind another.
use Rattle.std.proofs.Common.{◌≡◌, refl, ap, sym, ◌∙◌, subst, ℕ, ◌+◌, ◌<◌, ◌≤◌, List, [], ◌∷◌, length, arith, Bool, true, false, not, true≢false}
use Rattle.tree_data.specs.Trees.{Declaring, Declaring_of, Grouping, No_group, Named_of, Group_of, Derivings}
use Rattle.c_parser.specs.declared.answers.Stop.{Stop}
use Rattle.c_parser.specs.declared.answers.Stop.TheVariants as stop
use Rattle.c_parser.specs.declared.kinds.Kind.{Kind}
use Rattle.c_parser.specs.declared.kinds.Kind.TheVariants.{OpenParen, CloseParen}
use Rattle.c_parser.specs.HeadsFound.{FoundDeclarator, FoundDirect}
use Rattle.c_parser.specs.Kinds.{kind_at, is_word, ends_type, names_it, plain_behind}
use Rattle.c_parser.specs.Reading.{HoldPointers, HoldDerivings, HoldsDeclarator, HoldsDirect, IsWant}
use Rattle.c_parser.specs.TypeNames.{FoundPointers, FoundDerivings}
use Rattle.c_parser.proofs.Abstract.{OnlyDerivings, FailsDerivings}
use Rattle.c_parser.proofs.DeclaratorReading.{no_star, no_qualifier}
use Rattle.c_parser.proofs.NamedReading.{named_it, not_opening, direct_begins}
use Rattle.c_parser.proofs.Types.{between, pointers_only}
use Rattle.c_parser.proofs.Words.{test_inside}

abbrev pub OnlyDeclarator : List Kind → Bool → ℕ → Declaring → ℕ → Type 0
OnlyDeclarator ks y a d c = (d' : Declaring) → (c' : ℕ) → HoldsDeclarator ks y d' a c' → ends_type (kind_at ks c') ≡ true → (d ≡ d') × (c ≡ c')

abbrev pub FailsDeclarator : List Kind → Bool → ℕ → Stop → Type 0
FailsDeclarator ks y a e = (d : Declaring) → (c : ℕ) → HoldsDeclarator ks y d a c → ends_type (kind_at ks c) ≡ true → IsWant e

abbrev pub OnlyDirect : List Kind → Bool → ℕ → Grouping → ℕ → Type 0
OnlyDirect ks y a g m = (g' : Grouping) → (m' : ℕ) → HoldsDirect ks y g' a m' → (g ≡ g') × (m ≡ m')

abbrev pub FailsDirect : List Kind → Bool → ℕ → Stop → Type 0
FailsDirect ks y a e = (g : Grouping) → (m : ℕ) → HoldsDirect ks y g a m → IsWant e

-- a name, or a group
pub name_found : (ks : List Kind) → (y : Bool) → (a : ℕ) → names_it y (kind_at ks a) ≡ true → FoundDirect ks y a (Named_of a) (a + 1)
name_found ks y a k =
    let i : a < length ks = test_inside is_word refl ks a (named_it y (kind_at ks a) k) in
    record { reads = (refl, k, refl); forth = omega arith; inside = omega arith }

pub name_same : (ks : List Kind) → (y : Bool) → (a : ℕ) → names_it y (kind_at ks a) ≡ true → OnlyDirect ks y a (Named_of a) (a + 1)
name_same ks y a k No_group m h = absurd h
name_same ks y a k (Named_of n) m h = (ap Named_of (sym h.0), sym h.2)
name_same ks y a k (Group_of o d c) m h = not_opening ks y a h.1 k

pub nothing_direct : (ks : List Kind) → (y : Bool) → (a : ℕ) → names_it y (kind_at ks a) ≡ false → (kind_at ks a ≡ OpenParen → ⊥) → (n : ℕ)
    → FailsDirect ks y a (stop.Syntax n)
nothing_direct ks y a f p n No_group m h = h
nothing_direct ks y a f p n (Named_of x) m h = true≢false (sym h.1 ∙ f)
nothing_direct ks y a f p n (Group_of o d c) m h = p h.1

pub direct_fails : (ks : List Kind) → (y : Bool) → (a : ℕ) → kind_at ks a ≡ OpenParen → (e : Stop) → FailsDeclarator ks false (a + 1) e
    → FailsDirect ks y a e
direct_fails ks y a k e fails No_group m h = absurd h
direct_fails ks y a k e fails (Named_of x) m h = not_opening ks y a k h.1
direct_fails ks y a k e fails (Group_of o d c) m h = fails d c h.2 (ap ends_type h.3)

pub direct_left_open : (ks : List Kind) → (y : Bool) → (a : ℕ) → kind_at ks a ≡ OpenParen → (d : Declaring) → (b : ℕ)
    → OnlyDeclarator ks false (a + 1) d b → (kind_at ks b ≡ CloseParen → ⊥) → (n : ℕ) → FailsDirect ks y a (stop.Syntax n)
direct_left_open ks y a k d b only u n No_group m h = h
direct_left_open ks y a k d b only u n (Named_of x) m h = not_opening ks y a k h.1
direct_left_open ks y a k d b only u n (Group_of o d' c) m h = u (ap (λ x. kind_at ks x) (only d' c h.2 (ap ends_type h.3)).1 ∙ h.3)

pub direct_found : (ks : List Kind) → (y : Bool) → (a : ℕ) → kind_at ks a ≡ OpenParen → (d : Declaring) → (b : ℕ)
    → FoundDeclarator ks false (a + 1) d b → kind_at ks b ≡ CloseParen → b < length ks → FoundDirect ks y a (Group_of a d b) (b + 1)
direct_found ks y a k d b found l i =
    let one : a + 1 < b = found.forth in
    record { reads = (refl, k, found.reads, l, refl); forth = omega arith; inside = omega arith }

pub direct_same : (ks : List Kind) → (y : Bool) → (a : ℕ) → kind_at ks a ≡ OpenParen → (d : Declaring) → (b : ℕ)
    → OnlyDeclarator ks false (a + 1) d b → OnlyDirect ks y a (Group_of a d b) (b + 1)
direct_same ks y a k d b only No_group m h = absurd h
direct_same ks y a k d b only (Named_of x) m h = not_opening ks y a k h.1
direct_same ks y a k d b only (Group_of o d' c) m h =
    let same = only d' c h.2 (ap ends_type h.3) in (
      ap (λ x. Group_of x d b) (sym h.0) ∙ ap (λ x. Group_of o x b) same.0 ∙ ap (λ x. Group_of o d' x) same.1,
      ap (λ x. x + 1) same.1 ∙ sym h.4,
    )

pointers_same : (ks : List Kind) → (y : Bool) → (a : ℕ) → (ps : List (ℕ × List ℕ)) → (m : ℕ) → FoundPointers ks a ps m → (ps' : List (ℕ × List ℕ)) → (m' : ℕ)
    → HoldPointers ks ps' a m' → (g : Grouping) → (n : ℕ) → HoldsDirect ks y g m' n → (ps ≡ ps') × (m ≡ m')
pointers_same ks y a ps m x ps' m' h g n i =
    let begun = direct_begins ks y g m' n i in
    let free = no_qualifier ks m' begun in
    pointers_only ks ps a m x.reads x.no_more (x.unqualified (between ks ps' a m' h free)) ps' m' h (no_star ks m' begun) free

moved : (ks : List Kind) → (y v : Bool) → (ps ps' : List (ℕ × List ℕ)) → (m m' n : ℕ) → (g : Grouping) → v ≡ plain_behind y ps → ps ≡ ps' → m ≡ m'
    → HoldsDirect ks (plain_behind y ps') g m' n → HoldsDirect ks v g m n
moved ks y v ps ps' m m' n g by e f h =
    subst
    (λ x. HoldsDirect ks x g m n)
    (sym (by ∙ ap (plain_behind y) e))
    (subst (λ x. HoldsDirect ks (plain_behind y ps') g x n) (sym f) h)

pub direct_missing : (ks : List Kind) → (y : Bool) → (a : ℕ) → (ps : List (ℕ × List ℕ)) → (m : ℕ) → FoundPointers ks a ps m → (v : Bool)
    → v ≡ plain_behind y ps → (e : Stop) → FailsDirect ks v m e → FailsDeclarator ks y a e
direct_missing ks y a ps m x v by e fails (Declaring_of ps' g ds) c h f =
    let same = pointers_same ks (plain_behind y ps') a ps m x ps' h.0 h.2 g h.1 h.3 in
    fails g h.1 (moved ks y v ps ps' m h.0 h.1 g by same.0 same.1 h.3)

pub derived_missing : (ks : List Kind) → (y : Bool) → (a : ℕ) → (ps : List (ℕ × List ℕ)) → (m : ℕ) → FoundPointers ks a ps m → (g : Grouping) → (n : ℕ)
    → (v : Bool) → v ≡ plain_behind y ps → OnlyDirect ks v m g n → (e : Stop) → FailsDerivings ks true n e → FailsDeclarator ks y a e
derived_missing ks y a ps m x g n v by only e fails (Declaring_of ps' g' ds) c h f =
    let same = pointers_same ks (plain_behind y ps') a ps m x ps' h.0 h.2 g' h.1 h.3 in
    let more = only g' h.1 (moved ks y v ps ps' m h.0 h.1 g' by same.0 same.1 h.3) in
    fails ds c (subst (λ k. HoldDerivings ks ds k c) (sym more.1) h.4) (λ q. refl) f

pub declarator_found : (ks : List Kind) → (y : Bool) → (a : ℕ) → (ps : List (ℕ × List ℕ)) → (m : ℕ) → FoundPointers ks a ps m → (g : Grouping) → (n : ℕ)
    → (v : Bool) → v ≡ plain_behind y ps → FoundDirect ks v m g n → (ds : Derivings) → (b : ℕ) → FoundDerivings ks true n ds b
    → FoundDeclarator ks y a (Declaring_of ps g ds) b
declarator_found ks y a ps m x g n v by u ds b z =
    let one : a ≤ m = x.forth in
    let two : m < n = u.forth in
    let three : n ≤ b = z.forth in
    record {
      reads = (m, n, x.reads, subst (λ k. HoldsDirect ks k g m n) by u.reads, z.reads);
      forth = omega arith;
      inside = z.inside;
    }

pub declarator_same : (ks : List Kind) → (y : Bool) → (a : ℕ) → (ps : List (ℕ × List ℕ)) → (m : ℕ) → FoundPointers ks a ps m → (g : Grouping) → (n : ℕ)
    → (v : Bool) → v ≡ plain_behind y ps → OnlyDirect ks v m g n → (ds : Derivings) → (b : ℕ) → OnlyDerivings ks true n ds b
    → OnlyDeclarator ks y a (Declaring_of ps g ds) b
declarator_same ks y a ps m x g n v by u ds b z (Declaring_of ps' g' ds') c h f =
    let one = pointers_same ks (plain_behind y ps') a ps m x ps' h.0 h.2 g' h.1 h.3 in
    let two = u g' h.1 (moved ks y v ps ps' m h.0 h.1 g' by one.0 one.1 h.3) in
    let three = z ds' c (subst (λ k. HoldDerivings ks ds' k c) (sym two.1) h.4) (λ q. refl) f in (
      ap (λ k. Declaring_of k g ds) one.0 ∙ ap (λ k. Declaring_of ps' k ds) two.0 ∙ ap (λ k. Declaring_of ps' g' k) three.0,
      three.1,
    )
