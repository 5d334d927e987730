-- Members as the code reads them one behind another.
use Rattle.std.proofs.Common.{◌≡◌, refl, ap, sym, ◌∙◌, subst, ℕ, ◌+◌, ◌<◌, ◌≤◌, List, [], ◌∷◌, ◌++◌, length, ◌==◌, arith, Bool, true, false, not, true≢false}
use Rattle.std.proofs.lemmas.List.{map-append}
use Rattle.tree_data.specs.declared.members.Field as code
use Rattle.tree_data.specs.declared.members.Member as whole
use Rattle.tree_data.specs.declared.types.Specifier.{Specifier}
use Rattle.tree_data.specs.Seen.{field_of, fields_of, member_of, members_of, specifiers_of}
use Rattle.tree_data.specs.Trees.{Tree, Declaring, Specifyings, No_specifiers, specifyings, Member, Bare_of, Fields_of, Asserted_of, Members, No_members, Member_then, members, Field, Declared_of, Bits_of, Padding_of, Fields, No_fields, Field_then, fields, Assertion, Assertion_of}
use Rattle.c_parser.specs.declared.answers.Stop.{Stop}
use Rattle.c_parser.specs.declared.answers.Stop.TheVariants as stop
use Rattle.c_parser.specs.declared.kinds.Kind.{Kind}
use Rattle.c_parser.specs.declared.kinds.Kind.TheVariants.{Colon, Comma, Semicolon, Assert, CloseBrace}
use Rattle.c_parser.specs.declared.kinds.Site.TheVariants.{OfMember}
use Rattle.c_parser.specs.Grammar.{AreSome, HasMembers, typed_by}
use Rattle.c_parser.specs.HeadsFound.{FoundAssertion, FoundDeclarator}
use Rattle.c_parser.specs.Kinds.{kind_at, ends_type, ends_specifiers}
use Rattle.c_parser.specs.MembersFound.{FoundMembers, FailsMembers, FoundMember, FailsMember, FoundField, ends_field, FoundFields, FoundList, FailsList}
use Rattle.c_parser.specs.Reading.{Holds, HoldSpecifyings, HoldsMember, HoldMembers, HoldsField, HoldFields, Found, Reads, Stops, IsWant}
use Rattle.c_parser.specs.TypeNames.{FoundSpecifiers}
use Rattle.c_parser.proofs.Forth.{tree_forth}
use Rattle.c_parser.proofs.HeadDeclarators.{OnlyDeclarator, FailsDeclarator}
use Rattle.c_parser.proofs.HeadWholes.{FailsAssertion}
use Rattle.c_parser.proofs.Marks.{clash}
use Rattle.c_parser.proofs.MemberReading.{asserted_first, field_type, field_colon_not, field_stops, declarator_colon_not, fields_end, field_next, unasserted, member_only}
use Rattle.c_parser.proofs.Parsing.{Fails}
use Rattle.c_parser.proofs.SameParts.{Only}
use Rattle.c_parser.proofs.SpecifierLists.{OnlySpecifiers, FailsSpecifiers, some_specifying}
use Rattle.c_parser.proofs.TypeReading.{everywhere}

-- declarators
abbrev pub OnlyField : List Kind → Bool → ℕ → Field → ℕ → Type 0
OnlyField ks y a f b = (f' : Field) → (b' : ℕ) → HoldsField ks y f' a b' → ends_field (kind_at ks b') ≡ true → (f ≡ f') × (b ≡ b')

abbrev pub FailsField : List Kind → Bool → ℕ → Stop → Type 0
FailsField ks y a e = (f : Field) → (b : ℕ) → HoldsField ks y f a b → ends_field (kind_at ks b) ≡ true → IsWant e

pub padding_found : (ks : List Kind) → (y : Bool) → (a : ℕ) → kind_at ks a ≡ Colon → (t : Tree) → (b : ℕ) → Found ks 3 (a + 1) t b
    → FoundField ks y a (Padding_of a t) b
padding_found ks y a k t b found =
    let one : a + 1 < b = found.forth in
    record { reads = (refl, k, found.reads.0, found.reads.1); forth = omega arith; inside = found.inside }

pub padding_same : (ks : List Kind) → (y : Bool) → (a : ℕ) → kind_at ks a ≡ Colon → (t : Tree) → (b : ℕ) → Only ks 3 (a + 1) t b
    → OnlyField ks y a (Padding_of a t) b
padding_same ks y a k t b only (Declared_of d) b' h e = declarator_colon_not ks y d a b' h k
padding_same ks y a k t b only (Bits_of d c w) b' h e = declarator_colon_not ks y d a c h.0 k
padding_same ks y a k t b only (Padding_of c w) b' h e =
    let same = only w b' (h.2, h.3) (field_stops ks b' e) in
    (ap (λ x. Padding_of x t) (sym h.0) ∙ ap (λ x. Padding_of c x) same.0, same.1)

pub padding_fails : (ks : List Kind) → (y : Bool) → (a : ℕ) → kind_at ks a ≡ Colon → (e : Stop) → Fails ks 3 (a + 1) e → FailsField ks y a e
padding_fails ks y a k e fails (Declared_of d) b h f = declarator_colon_not ks y d a b h k
padding_fails ks y a k e fails (Bits_of d c w) b h f = declarator_colon_not ks y d a c h.0 k
padding_fails ks y a k e fails (Padding_of c w) b h f = fails w b (h.2, h.3) (field_stops ks b f)

pub no_declarator : (ks : List Kind) → (y : Bool) → (a : ℕ) → (kind_at ks a ≡ Colon → ⊥) → (e : Stop) → FailsDeclarator ks y a e → FailsField ks y a e
no_declarator ks y a u e fails (Declared_of d) b h f = fails d b h (field_type (kind_at ks b) f)
no_declarator ks y a u e fails (Bits_of d c w) b h f = fails d c h.0 (ap ends_type h.1)
no_declarator ks y a u e fails (Padding_of c w) b h f = absurd (u h.1)

pub declared_found : (ks : List Kind) → (y : Bool) → (a : ℕ) → (d : Declaring) → (b : ℕ) → FoundDeclarator ks y a d b → FoundField ks y a (Declared_of d) b
declared_found ks y a d b found = record { reads = found.reads; forth = found.forth; inside = found.inside }

pub declared_same : (ks : List Kind) → (y : Bool) → (a : ℕ) → (kind_at ks a ≡ Colon → ⊥) → (d : Declaring) → (b : ℕ) → OnlyDeclarator ks y a d b
    → (kind_at ks b ≡ Colon → ⊥) → OnlyField ks y a (Declared_of d) b
declared_same ks y a u d b only n (Declared_of d') b' h e =
    let same = only d' b' h (field_type (kind_at ks b') e) in
    (ap Declared_of same.0, same.1)
declared_same ks y a u d b only n (Bits_of d' c w) b' h e =
    let same = only d' c h.0 (ap ends_type h.1) in
    absurd (n (ap (λ x. kind_at ks x) same.1 ∙ h.1))
declared_same ks y a u d b only n (Padding_of c w) b' h e = absurd (u h.1)

pub bits_found : (ks : List Kind) → (y : Bool) → (a : ℕ) → (d : Declaring) → (c : ℕ) → FoundDeclarator ks y a d c → kind_at ks c ≡ Colon → (t : Tree)
    → (b : ℕ) → Found ks 3 (c + 1) t b → FoundField ks y a (Bits_of d c t) b
bits_found ks y a d c one k t b two =
    let first : a < c = one.forth in
    let second : c + 1 < b = two.forth in
    record { reads = (one.reads, k, two.reads.0, two.reads.1); forth = omega arith; inside = two.inside }

pub bits_same : (ks : List Kind) → (y : Bool) → (a : ℕ) → (kind_at ks a ≡ Colon → ⊥) → (d : Declaring) → (c : ℕ) → OnlyDeclarator ks y a d c
    → kind_at ks c ≡ Colon → (t : Tree) → (b : ℕ) → Only ks 3 (c + 1) t b → OnlyField ks y a (Bits_of d c t) b
bits_same ks y a u d c one k t b two (Declared_of d') b' h e =
    let same = one d' b' h (field_type (kind_at ks b') e) in
    field_colon_not (kind_at ks b') e (ap (λ x. kind_at ks x) (sym same.1) ∙ k)
bits_same ks y a u d c one k t b two (Bits_of d' c' w) b' h e =
    let first = one d' c' h.0 (ap ends_type h.1) in
    let second = two w b' (h.2, subst (λ x. Holds ks w (x + 1) b') (sym first.1) h.3) (field_stops ks b' e) in
    (ap (λ x. Bits_of x c t) first.0 ∙ ap (λ x. Bits_of d' x t) first.1 ∙ ap (λ x. Bits_of d' c' x) second.0, second.1)
bits_same ks y a u d c one k t b two (Padding_of c' w) b' h e = absurd (u h.1)

pub width_fails : (ks : List Kind) → (y : Bool) → (a : ℕ) → (kind_at ks a ≡ Colon → ⊥) → (d : Declaring) → (c : ℕ) → OnlyDeclarator ks y a d c
    → kind_at ks c ≡ Colon → (e : Stop) → Fails ks 3 (c + 1) e → FailsField ks y a e
width_fails ks y a u d c one k e fails (Declared_of d') b h f =
    let same = one d' b h (field_type (kind_at ks b) f) in
    field_colon_not (kind_at ks b) f (ap (λ x. kind_at ks x) (sym same.1) ∙ k)
width_fails ks y a u d c one k e fails (Bits_of d' c' w) b h f =
    let first = one d' c' h.0 (ap ends_type h.1) in
    fails w b (h.2, subst (λ x. Holds ks w (x + 1) b) (sym first.1) h.3) (field_stops ks b f)
width_fails ks y a u d c one k e fails (Padding_of c' w) b h f = absurd (u h.1)

-- further declarators
fields_snoc : (done : List (ℕ × Field)) → (o : ℕ) → (f : Field) → (more : Fields) → fields (done ++ (o, f) ∷ []) more ≡ fields done (Field_then o f more)
fields_snoc [] o f more = refl
fields_snoc (x ∷ xs) o f more = ap (Field_then x.0 x.1) (fields_snoc xs o f more)

pub record FieldsLeft (ks : List Kind) (done : List (ℕ × Field)) (at : ℕ) (fs : Fields) (b : ℕ) : Type 0 where
  pub left : Fields
  pub is : fs ≡ fields done left
  pub holds : HoldFields ks left at b

pub record Fielding (ks : List Kind) (start : ℕ) (done : List (ℕ × Field)) (at : ℕ) : Type 0 where
  pub grows : (fs : Fields) → (b : ℕ) → HoldFields ks fs at b → HoldFields ks (fields done fs) start b
  pub only : (fs : Fields) → (b : ℕ) → HoldFields ks fs start b → kind_at ks b ≡ Semicolon → FieldsLeft ks done at fs b
  pub forth : start ≤ at
  pub inside : at ≤ length ks

pub fielding_start : (ks : List Kind) → (at : ℕ) → at ≤ length ks → Fielding ks at [] at
fielding_start ks at i = record {
  grows = λ fs b h. h;
  only = λ fs b h e. record { left = fs; is = refl; holds = h };
  forth = omega arith;
  inside = i;
}

pub fielding_start_with : (ks : List Kind) → (at : ℕ) → (items : List (ℕ × code.Field)) → items ≡ [] → at ≤ length ks → Fielding ks at (fields_of items) at
fielding_start_with ks at items e i = subst (λ xs. Fielding ks at (fields_of xs) at) (sym e) (fielding_start ks at i)

field_left : (ks : List Kind) → (done : List (ℕ × Field)) → (at : ℕ) → kind_at ks at ≡ Comma → (f : Field) → (m : ℕ) → OnlyField ks false (at + 1) f m
    → (fs left : Fields) → (b : ℕ) → fs ≡ fields done left → HoldFields ks left at b → kind_at ks b ≡ Semicolon
    → FieldsLeft ks (done ++ (at, f) ∷ []) m fs b
field_left ks done at k f m only fs No_fields b is h e =
    clash (kind_at ks at) Semicolon Comma (ap (λ x. kind_at ks x) (sym h) ∙ e) k (λ x. omega (arith, x))
field_left ks done at k f m only fs (Field_then o g left) b is h e =
    let one = only g h.0 h.3 (fields_end ks left h.0 b h.4 e) in
    record {
      left = left;
      is =
          is
          ∙ ap (λ x. fields done (Field_then x g left)) h.1
          ∙ ap (λ x. fields done (Field_then at x left)) (sym one.0)
          ∙ sym (fields_snoc done at f left);
      holds = subst (λ x. HoldFields ks left x b) (sym one.1) h.4;
    }

pub fielding_turn : (ks : List Kind) → (start : ℕ) → (done : List (ℕ × Field)) → (at : ℕ) → Fielding ks start done at → kind_at ks at ≡ Comma
    → (f : Field) → (m : ℕ) → FoundField ks false (at + 1) f m → OnlyField ks false (at + 1) f m → Fielding ks start (done ++ (at, f) ∷ []) m
fielding_turn ks start done at loop k f m found only =
    let one : start ≤ at = loop.forth in
    let two : at + 1 < m = found.forth in
    record {
      grows = λ fs b h.
          subst
          (λ xs. HoldFields ks xs start b)
          (sym (fields_snoc done at f fs))
          (loop.grows (Field_then at f fs) b (m, refl, k, found.reads, h));
      only = λ fs b h e.
          let a = loop.only fs b h e in
          field_left ks done at k f m only fs a.left b a.is a.holds e;
      forth = omega arith;
      inside = found.inside;
    }

pub fielding_push : (ks : List Kind) → (start : ℕ) → (items more : List (ℕ × code.Field)) → (at : ℕ) → Fielding ks start (fields_of items) at
    → kind_at ks at ≡ Comma → (x : code.Field) → (m : ℕ) → FoundField ks false (at + 1) (field_of x) m → OnlyField ks false (at + 1) (field_of x) m
    → more ≡ items ++ (at, x) ∷ [] → Fielding ks start (fields_of more) m
fielding_push ks start items more at loop k x m found only grown =
    subst
    (λ xs. Fielding ks start xs m)
    (sym (ap fields_of grown ∙ map-append (λ y. (y.0, field_of y.1)) items ((at, x) ∷ [])))
    (fielding_turn ks start (fields_of items) at loop k (field_of x) m found only)

pub fielding_end : (ks : List Kind) → (start : ℕ) → (done : List (ℕ × Field)) → (at : ℕ) → Fielding ks start done at → (kind_at ks at ≡ Comma → ⊥)
    → FoundFields ks start (fields done No_fields) at
fielding_end ks start done at loop n =
    record { reads = loop.grows No_fields at refl; no_more = n; forth = loop.forth; inside = loop.inside }

abbrev pub OnlyFields : List Kind → ℕ → Fields → ℕ → Type 0
OnlyFields ks a fs b = (fs' : Fields) → (b' : ℕ) → HoldFields ks fs' a b' → kind_at ks b' ≡ Semicolon → (fs ≡ fs') × (b ≡ b')

abbrev pub FailsFields : List Kind → ℕ → Stop → Type 0
FailsFields ks a e = (fs : Fields) → (b : ℕ) → HoldFields ks fs a b → kind_at ks b ≡ Semicolon → IsWant e

none_left : (ks : List Kind) → (done : List (ℕ × Field)) → (at : ℕ) → (kind_at ks at ≡ Comma → ⊥) → (fs left : Fields) → (b : ℕ)
    → fs ≡ fields done left → HoldFields ks left at b → (fields done No_fields ≡ fs) × (at ≡ b)
none_left ks done at n fs No_fields b is h = (sym is, sym h)
none_left ks done at n fs (Field_then o f left) b is h = absurd (n h.2)

pub fielding_only : (ks : List Kind) → (start : ℕ) → (done : List (ℕ × Field)) → (at : ℕ) → Fielding ks start done at → (kind_at ks at ≡ Comma → ⊥)
    → OnlyFields ks start (fields done No_fields) at
fielding_only ks start done at loop n fs b h e =
    let a = loop.only fs b h e in
    none_left ks done at n fs a.left b a.is a.holds

field_stop : (ks : List Kind) → (at : ℕ) → kind_at ks at ≡ Comma → (e : Stop) → FailsField ks false (at + 1) e → (left : Fields) → (b : ℕ)
    → HoldFields ks left at b → kind_at ks b ≡ Semicolon → IsWant e
field_stop ks at k e fails No_fields b h f =
    clash (kind_at ks at) Semicolon Comma (ap (λ x. kind_at ks x) (sym h) ∙ f) k (λ x. omega (arith, x))
field_stop ks at k e fails (Field_then o g left) b h f = fails g h.0 h.3 (fields_end ks left h.0 b h.4 f)

pub fielding_fails : (ks : List Kind) → (start : ℕ) → (done : List (ℕ × Field)) → (at : ℕ) → Fielding ks start done at → kind_at ks at ≡ Comma
    → (e : Stop) → FailsField ks false (at + 1) e → FailsFields ks start e
fielding_fails ks start done at loop k e fails fs b h f =
    let a = loop.only fs b h f in
    field_stop ks at k e fails a.left b a.holds f

-- all of them up to the `;`
pub first_fails : (ks : List Kind) → (y : Bool) → (a : ℕ) → (e : Stop) → FailsField ks y a e → FailsList ks y a e
first_fails ks y a e fails f fs m b h g s = fails f m h (fields_end ks fs m b g s)

pub rest_fails : (ks : List Kind) → (y : Bool) → (a : ℕ) → (f : Field) → (m : ℕ) → OnlyField ks y a f m → (e : Stop) → FailsFields ks m e → FailsList ks y a e
rest_fails ks y a f m only e fails f' fs m' b h g s =
    let one = only f' m' h (fields_end ks fs m' b g s) in
    fails fs b (subst (λ x. HoldFields ks fs x b) (sym one.1) g) s

pub list_unended : (ks : List Kind) → (y : Bool) → (a : ℕ) → (f : Field) → (m : ℕ) → OnlyField ks y a f m → (fs : Fields) → (b : ℕ) → OnlyFields ks m fs b
    → (kind_at ks b ≡ Semicolon → ⊥) → (n : ℕ) → FailsList ks y a (stop.Syntax n)
list_unended ks y a f m only fs b more u n f' fs' m' b' h g s =
    let one = only f' m' h (fields_end ks fs' m' b' g s) in
    let two = more fs' b' (subst (λ x. HoldFields ks fs' x b') (sym one.1) g) s in
    u (ap (λ x. kind_at ks x) two.1 ∙ s)

pub list_found : (ks : List Kind) → (y : Bool) → (a : ℕ) → (f : Field) → (m : ℕ) → FoundField ks y a f m → (fs : Fields) → (b : ℕ) → FoundFields ks m fs b
    → kind_at ks b ≡ Semicolon → b < length ks → FoundList ks y a f fs b
list_found ks y a f m one fs b two k i =
    let first : a < m = one.forth in
    let second : m ≤ b = two.forth in
    record { place = m; first = one.reads; more = two.reads; ends = k; forth = omega arith; inside = i }

-- a declaration of members
specs_end : (ks : List Kind) → (ss : Specifyings) → (m : ℕ) → kind_at ks m ≡ Semicolon → ends_specifiers (kind_at ks m) (typed_by ks false ss) ≡ true
specs_end ks ss m k = ap (λ x. ends_specifiers x (typed_by ks false ss)) k

pub specs_fail : (ks : List Kind) → (a : ℕ) → (kind_at ks a ≡ Assert → ⊥) → (e : Stop) → FailsSpecifiers ks OfMember a e → FailsMember ks a e
specs_fail ks a u e fails (Bare_of ss z) b h = fails ss z h.1 h.2 (specs_end ks ss z h.3)
specs_fail ks a u e fails (Fields_of ss f fs z) b h = fails ss h.0 h.3 h.4 (field_next ks (typed_by ks false ss) f h.0 h.1 h.5)
specs_fail ks a u e fails (Asserted_of x) b h = absurd (u (asserted_first ks x a b h))

some_not : (ss : Specifyings) → No_specifiers ≡ ss → AreSome ss → ⊥
some_not ss e i = subst AreSome (sym e) i

no_specs_by : (ks : List Kind) → (a : ℕ) → (kind_at ks a ≡ Assert → ⊥) → (m : ℕ) → OnlySpecifiers ks OfMember a No_specifiers m → (n : ℕ)
    → FailsMember ks a (stop.Syntax n)
no_specs_by ks a u m only n (Bare_of ss z) b h = some_not ss (only ss z h.1 h.2 (specs_end ks ss z h.3)).0 h.0
no_specs_by ks a u m only n (Fields_of ss f fs z) b h =
    some_not ss (only ss h.0 h.3 h.4 (field_next ks (typed_by ks false ss) f h.0 h.1 h.5)).0 h.2
no_specs_by ks a u m only n (Asserted_of x) b h = u (asserted_first ks x a b h)

pub no_specs : (ks : List Kind) → (a : ℕ) → (kind_at ks a ≡ Assert → ⊥) → (m : ℕ) → (xs : List Specifier) → (length xs == 0) ≡ true
    → OnlySpecifiers ks OfMember a (specifyings (specifiers_of xs) No_specifiers) m → (n : ℕ) → FailsMember ks a (stop.Syntax n)
no_specs ks a u m [] h only n = no_specs_by ks a u m only n
no_specs ks a u m (x ∷ xs) h only n = λ y b g. grind (arith, h)

pub bare_found : (ks : List Kind) → (a : ℕ) → (xs : List Specifier) → (length xs == 0) ≡ false → (m : ℕ)
    → FoundSpecifiers ks OfMember a (specifyings (specifiers_of xs) No_specifiers) m → kind_at ks m ≡ Semicolon → m < length ks
    → FoundMember ks a (Bare_of (specifyings (specifiers_of xs) No_specifiers) m) (m + 1)
bare_found ks a xs h m found k i =
    let one : a ≤ m = found.forth in
    record { reads = (some_specifying xs h, found.reads, found.fits, k, refl); forth = omega arith; inside = omega (arith, i) }

pub list_missing : (ks : List Kind) → (a : ℕ) → (kind_at ks a ≡ Assert → ⊥) → (ss : Specifyings) → (m : ℕ) → OnlySpecifiers ks OfMember a ss m
    → (kind_at ks m ≡ Semicolon → ⊥) → (y : Bool) → y ≡ not (typed_by ks false ss) → (e : Stop) → FailsList ks y m e → FailsMember ks a e
list_missing ks a u ss m only n y by e fails (Bare_of ss' z) b h =
    let same = only ss' z h.1 h.2 (specs_end ks ss' z h.3) in
    absurd (n (ap (λ x. kind_at ks x) same.1 ∙ h.3))
list_missing ks a u ss m only n y by e fails (Fields_of ss' f fs z) b h =
    let same = only ss' h.0 h.3 h.4 (field_next ks (typed_by ks false ss') f h.0 h.1 h.5) in
    let moved : HoldsField ks y f m h.1 =
    subst (λ x. HoldsField ks x f m h.1) (ap (λ x. not (typed_by ks false x)) (sym same.0) ∙ sym by)
    (subst (λ x. HoldsField ks (not (typed_by ks false ss')) f x h.1) (sym same.1) h.5) in
    fails f fs h.1 z moved h.6 h.7
list_missing ks a u ss m only n y by e fails (Asserted_of x) b h = absurd (u (asserted_first ks x a b h))

pub fields_found : (ks : List Kind) → (a : ℕ) → (xs : List Specifier) → (length xs == 0) ≡ false → (m : ℕ)
    → FoundSpecifiers ks OfMember a (specifyings (specifiers_of xs) No_specifiers) m → (y : Bool)
    → y ≡ not (typed_by ks false (specifyings (specifiers_of xs) No_specifiers)) → (f : Field) → (fs : Fields) → (b : ℕ) → FoundList ks y m f fs b
    → FoundMember ks a (Fields_of (specifyings (specifiers_of xs) No_specifiers) f fs b) (b + 1)
fields_found ks a xs h m found y by f fs b list =
    let one : a ≤ m = found.forth in
    let two : m < b = list.forth in
    let three : b < length ks = list.inside in
    record {
      reads = (
        m,
        list.place,
        some_specifying xs h,
        found.reads,
        found.fits,
        subst (λ x. HoldsField ks x f m list.place) by list.first,
        list.more,
        list.ends,
        refl,
      );
      forth = omega arith;
      inside = omega arith;
    }

-- a static assertion among them
assertion_forth : (ks : List Kind) → (x : Assertion) → (a b : ℕ) → FoundAssertion ks a x b → a < b
assertion_forth ks (Assertion_of k o t c ns p e) a b found =
    let h = found.reads in
    let one : o + 1 ≤ c = tree_forth ks t (o + 1) c h.5 in
    omega (arith, one, h.2, h.7, h.10, h.12)

pub asserted_found : (ks : List Kind) → (a : ℕ) → (x : Assertion) → (b : ℕ) → FoundAssertion ks a x b → FoundMember ks a (Asserted_of x) b
asserted_found ks a x b found = record { reads = found.reads; forth = assertion_forth ks x a b found; inside = found.inside }

pub asserted_fails : (ks : List Kind) → (a : ℕ) → kind_at ks a ≡ Assert → (e : Stop) → FailsAssertion ks a e → FailsMember ks a e
asserted_fails ks a k e fails (Bare_of ss z) b h = unasserted ks ss a z h.0 h.1 k
asserted_fails ks a k e fails (Fields_of ss f fs z) b h = unasserted ks ss a h.0 h.2 h.3 k
asserted_fails ks a k e fails (Asserted_of x) b h = fails x b h

-- all members
members_snoc : (done : List Member) → (x : Member) → (more : Members) → members (done ++ x ∷ []) more ≡ members done (Member_then x more)
members_snoc [] x more = refl
members_snoc (y ∷ ys) x more = ap (Member_then y) (members_snoc ys x more)

some_members : (done : List Member) → (x : Member) → (more : Members) → HasMembers (members done (Member_then x more))
some_members [] x more = tt
some_members (y ∷ ys) x more = tt

pub record MembersLeft (ks : List Kind) (done : List Member) (at : ℕ) (ms : Members) (b : ℕ) : Type 0 where
  pub left : Members
  pub some : HasMembers left
  pub is : ms ≡ members done left
  pub holds : HoldMembers ks left at b

pub record Membering (ks : List Kind) (start : ℕ) (done : List Member) (at : ℕ) : Type 0 where
  pub grows : (ms : Members) → (b : ℕ) → HoldMembers ks ms at b → HoldMembers ks (members done ms) start b
  pub only : (ms : Members) → (b : ℕ) → HasMembers ms → HoldMembers ks ms start b → kind_at ks b ≡ CloseBrace → MembersLeft ks done at ms b
  pub forth : start ≤ at
  pub inside : at ≤ length ks

pub membering_start : (ks : List Kind) → (at : ℕ) → at ≤ length ks → Membering ks at [] at
membering_start ks at i = record {
  grows = λ ms b h. h;
  only = λ ms b s h e. record { left = ms; some = s; is = refl; holds = h };
  forth = omega arith;
  inside = i;
}

pub membering_start_with : (ks : List Kind) → (at : ℕ) → (items : List whole.Member) → items ≡ [] → at ≤ length ks → Membering ks at (members_of items) at
membering_start_with ks at items e i = subst (λ xs. Membering ks at (members_of xs) at) (sym e) (membering_start ks at i)

-- behind a member that is the same
rest_left : (ks : List Kind) → (done : List Member) → (m : ℕ) → (kind_at ks m ≡ CloseBrace → ⊥) → (x : Member) → (ms left : Members) → (b : ℕ)
    → ms ≡ members done (Member_then x left) → HoldMembers ks left m b → kind_at ks b ≡ CloseBrace → MembersLeft ks (done ++ x ∷ []) m ms b
rest_left ks done m n x ms No_members b is h e = absurd (n (ap (λ y. kind_at ks y) (sym h) ∙ e))
rest_left ks done m n x ms (Member_then y left) b is h e =
    record { left = Member_then y left; some = tt; is = is ∙ sym (members_snoc done x (Member_then y left)); holds = h }

member_left : (ks : List Kind) → (done : List Member) → (at : ℕ) → (x : Member) → (m : ℕ) → HoldsMember ks x at m → (kind_at ks m ≡ CloseBrace → ⊥)
    → (ms left : Members) → (b : ℕ) → HasMembers left → ms ≡ members done left → HoldMembers ks left at b → kind_at ks b ≡ CloseBrace
    → MembersLeft ks (done ++ x ∷ []) m ms b
member_left ks done at x m r n ms No_members b s is h e = absurd s
member_left ks done at x m r n ms (Member_then y left) b s is h e =
    let one = member_only ks x at m (everywhere ks at) r y h.0 h.1 in
    rest_left ks done m n x ms left b (is ∙ ap (λ z. members done (Member_then z left)) (sym one.0))
    (subst (λ z. HoldMembers ks left z b) (sym one.1) h.2) e

pub membering_turn : (ks : List Kind) → (start : ℕ) → (done : List Member) → (at : ℕ) → Membering ks start done at → (x : Member) → (m : ℕ)
    → FoundMember ks at x m → (kind_at ks m ≡ CloseBrace → ⊥) → Membering ks start (done ++ x ∷ []) m
membering_turn ks start done at loop x m found n =
    let one : start ≤ at = loop.forth in
    let two : at < m = found.forth in
    record {
      grows = λ ms b h.
          subst (λ xs. HoldMembers ks xs start b) (sym (members_snoc done x ms)) (loop.grows (Member_then x ms) b (m, found.reads, h));
      only = λ ms b s h e.
          let a = loop.only ms b s h e in
          member_left ks done at x m found.reads n ms a.left b a.some a.is a.holds e;
      forth = omega arith;
      inside = found.inside;
    }

pub membering_push : (ks : List Kind) → (start : ℕ) → (items more : List whole.Member) → (at : ℕ) → Membering ks start (members_of items) at
    → (x : whole.Member) → (m : ℕ) → FoundMember ks at (member_of x) m → (kind_at ks m ≡ CloseBrace → ⊥) → more ≡ items ++ x ∷ []
    → Membering ks start (members_of more) m
membering_push ks start items more at loop x m found n grown =
    subst
    (λ xs. Membering ks start xs m)
    (sym (ap members_of grown ∙ map-append member_of items (x ∷ [])))
    (membering_turn ks start (members_of items) at loop (member_of x) m found n)

membering_end : (ks : List Kind) → (start : ℕ) → (done : List Member) → (at : ℕ) → Membering ks start done at → (x : Member) → (m : ℕ)
    → FoundMember ks at x m → kind_at ks m ≡ CloseBrace → m < length ks → FoundMembers ks start (members (done ++ x ∷ []) No_members) m
membering_end ks start done at loop x m found k i =
    let one : start ≤ at = loop.forth in
    let two : at < m = found.forth in
    record {
      some = subst HasMembers (sym (members_snoc done x No_members)) (some_members done x No_members);
      reads =
          subst
          (λ xs. HoldMembers ks xs start m)
          (sym (members_snoc done x No_members))
          (loop.grows (Member_then x No_members) m (m, found.reads, refl));
      closes = k;
      forth = omega arith;
      inside = i;
    }

pub members_end : (ks : List Kind) → (start : ℕ) → (items more : List whole.Member) → (at : ℕ) → Membering ks start (members_of items) at
    → (x : whole.Member) → (m : ℕ) → FoundMember ks at (member_of x) m → kind_at ks m ≡ CloseBrace → m < length ks → more ≡ items ++ x ∷ []
    → FoundMembers ks start (members (members_of more) No_members) m
members_end ks start items more at loop x m found k i grown =
    subst
    (λ xs. FoundMembers ks start (members xs No_members) m)
    (sym (ap members_of grown ∙ map-append member_of items (x ∷ [])))
    (membering_end ks start (members_of items) at loop (member_of x) m found k i)

member_stop : (ks : List Kind) → (at : ℕ) → (e : Stop) → FailsMember ks at e → (left : Members) → (b : ℕ) → HasMembers left → HoldMembers ks left at b
    → IsWant e
member_stop ks at e fails No_members b s h = absurd s
member_stop ks at e fails (Member_then x left) b s h = fails x h.0 h.1

pub membering_fails : (ks : List Kind) → (start : ℕ) → (done : List Member) → (at : ℕ) → Membering ks start done at → (e : Stop) → FailsMember ks at e
    → FailsMembers ks start e
membering_fails ks start done at loop e fails ms b s h f =
    let a = loop.only ms b s h f in
    member_stop ks at e fails a.left b a.some a.holds
