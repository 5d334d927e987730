-- Parameters, as the code reads them one behind another.
use Rattle.std.proofs.Common.{◌≡◌, refl, ap, sym, ◌∙◌, subst, ℕ, ◌+◌, ◌<◌, ◌≤◌, List, [], ◌∷◌, ◌++◌, length, arith, Bool, true, false, true≢false}
use Rattle.std.proofs.lemmas.List.{map-append}
use Rattle.tree_data.specs.declared.types.TypeName.{TypeName}
use Rattle.tree_data.specs.Seen.{type_of, parameter_row_of}
use Rattle.tree_data.specs.Trees.{Naming, Parameters, No_parameters, Fixed_of, Variadic_of, Row, No_more, Parameter_then, row, Names_of}
use Rattle.c_parser.specs.declared.answers.Stop.{Stop}
use Rattle.c_parser.specs.declared.kinds.Kind.{Kind}
use Rattle.c_parser.specs.declared.kinds.Kind.TheVariants.{CloseParen, Comma, Ellipsis, Identifier}
use Rattle.c_parser.specs.Kinds.{kind_at, ends_type, starts_type}
use Rattle.c_parser.specs.Reading.{HoldsNaming, HoldRow, FoundNaming, IsWant, HoldNames}
use Rattle.c_parser.specs.TypeNames.{RowEnd, at_close, at_dots, FoundParameters, FoundRow}
use Rattle.c_parser.proofs.Abstract.{OnlyParameters, FailsParameters}
use Rattle.c_parser.proofs.Marks.{clash}
use Rattle.c_parser.proofs.SpecifierLists.{FailsNaming}
use Rattle.c_parser.proofs.DeclaratorReading.{parameters_view, Parametered, Closing, no_parameter, row_moved, past_ends, none_told, some_told, fixed, variadic, names_told}
use Rattle.c_parser.proofs.Types.{naming_starts}
use Rattle.c_parser.proofs.Words.{test_inside}
use Rattle.c_parser.specs.Grammar.{past, name_by}
use Rattle.c_parser.proofs.Hiding.{hidden_length, row_end_kept, comma_kept, dots_was}

abbrev pub OnlyParameter : List Kind → ℕ → Naming → ℕ → Type 0
OnlyParameter ks a t c = (t' : Naming) → (c' : ℕ) → HoldsNaming ks true t' a c' → ends_type (kind_at ks c') ≡ true → (t ≡ t') × (c ≡ c')

abbrev pub OnlyRow : List Kind → ℕ → Row → ℕ → Type 0
OnlyRow ks a ps c = (ps' : Row) → (c' : ℕ) → HoldRow ks ps' a c' → RowEnd ks c' → (ps ≡ ps') × (c ≡ c')

abbrev pub FailsRow : List Kind → ℕ → Stop → Type 0
FailsRow ks a e = (ps : Row) → (c : ℕ) → HoldRow ks ps a c → RowEnd ks c → IsWant e

abbrev pub OnlyNames : List Kind → ℕ → List (ℕ × ℕ) → ℕ → Type 0
OnlyNames ks a ns c = (ns' : List (ℕ × ℕ)) → (c' : ℕ) → HoldNames ks ns' a c' → kind_at ks c' ≡ CloseParen → (ns ≡ ns') × (c ≡ c')

abbrev pub FailsNames : List Kind → ℕ → Stop → Type 0
FailsNames ks a e = (ns : List (ℕ × ℕ)) → (c : ℕ) → HoldNames ks ns a c → kind_at ks c ≡ CloseParen → IsWant e

row_snoc : (done : List (ℕ × Naming)) → (p : ℕ × Naming) → (more : Row) → row (done ++ p ∷ []) more ≡ row done (Parameter_then p.0 p.1 more)
row_snoc [] p more = refl
row_snoc (x ∷ xs) p more = ap (λ y. Parameter_then x.0 x.1 y) (row_snoc xs p more)

pub record RowLeft (ks : List Kind) (done : List (ℕ × Naming)) (at : ℕ) (ps : Row) (m : ℕ) : Type 0 where
  pub left : Row
  pub is : ps ≡ row done left
  pub holds : HoldRow ks left at m
  pub ends : RowEnd ks m

-- under the kinds of tokens in front of all of these, and those behind the last one
pub record Rowing (first : List Kind) (start : ℕ) (done : List (ℕ × Naming)) (at : ℕ) (ks : List Kind) : Type 0 where
  pub grows : (ps : Row) → (b : ℕ) → HoldRow ks ps at b → HoldRow first (row done ps) start b
  pub only : (ps : Row) → (b : ℕ) → HoldRow first ps start b → RowEnd first b → RowLeft ks done at ps b
  pub same : length ks ≡ length first
  pub commas : (x : ℕ) → kind_at first x ≡ Comma → kind_at ks x ≡ Comma
  pub dots : (x : ℕ) → kind_at ks x ≡ Ellipsis → kind_at first x ≡ Ellipsis
  pub forth : start ≤ at
  pub inside : at ≤ length ks

rowing_start : (ks : List Kind) → (at : ℕ) → at ≤ length ks → Rowing ks at [] at ks
rowing_start ks at i = record {
  grows = λ ps b h. h;
  only = λ ps b h e. record { left = ps; is = refl; holds = h; ends = e };
  same = refl;
  commas = λ x h. h;
  dots = λ x h. h;
  forth = omega arith;
  inside = i;
}

pub rowing_start_with : (ks : List Kind) → (at : ℕ) → (items : List (ℕ × TypeName)) → items ≡ [] → at ≤ length ks → Rowing ks at (parameter_row_of items) at ks
rowing_start_with ks at items is i = subst (λ xs. Rowing ks at (parameter_row_of xs) at ks) (sym is) (rowing_start ks at i)

-- behind a comma in front of no `...` a parameter stands
goes_on : {A : Type 0} → (ks : List Kind) → (at : ℕ) → kind_at ks at ≡ Comma → (kind_at ks (at + 1) ≡ Ellipsis → ⊥) → RowEnd ks at → A
goes_on ks at k n (at_close e) = clash (kind_at ks at) Comma CloseParen k e (λ x. omega (arith, x))
goes_on ks at k n (at_dots e d) = absurd (n d)

left_turns : (ks : List Kind) → (done : List (ℕ × Naming)) → (at : ℕ) → kind_at ks at ≡ Comma → (kind_at ks (at + 1) ≡ Ellipsis → ⊥) → (p : Naming)
    → (k : ℕ) → OnlyParameter ks (at + 1) p k → (ls : List Kind) → ls ≡ past ks p → (ps left : Row) → (m : ℕ) → ps ≡ row done left → HoldRow ks left at m
    → RowEnd ks m → RowLeft ls (done ++ (at, p) ∷ []) k ps m
left_turns ks done at c n p k only ls told ps No_more m is h e = goes_on ks at c n (subst (λ x. RowEnd ks x) h e)
left_turns ks done at c n p k only ls told ps (Parameter_then o p' left) m is h e =
    let one = only p' h.0 h.3 (past_ends ks p' left h.0 m h.4 e) in
    record {
      left = left;
      is =
          is
          ∙ ap (λ x. row done (Parameter_then x p' left)) h.1
          ∙ ap (λ x. row done (Parameter_then at x left)) (sym one.0)
          ∙ sym (row_snoc done (at, p) left);
      holds = subst (λ x. HoldRow x left k m) (sym told) (row_moved ks p p' one.0 left k h.0 m one.1 h.4);
      ends = subst (λ x. RowEnd x m) (sym told) (row_end_kept ks (name_by p) m e);
    }

past_length : (ks ls : List Kind) → (p : Naming) → ls ≡ past ks p → length ls ≡ length ks
past_length ks ls p told = ap (λ x. length x) told ∙ hidden_length ks (name_by p)

rowing_turn : (first : List Kind) → (start : ℕ) → (done : List (ℕ × Naming)) → (at : ℕ) → (ks : List Kind) → (p : Naming) → (m : ℕ)
    → Rowing first start done at ks → kind_at ks at ≡ Comma → (kind_at ks (at + 1) ≡ Ellipsis → ⊥) → FoundNaming ks true (at + 1) p m
    → OnlyParameter ks (at + 1) p m → (ls : List Kind) → ls ≡ past ks p → Rowing first start (done ++ (at, p) ∷ []) m ls
rowing_turn first start done at ks p m loop c n found only ls told =
    let one : start ≤ at = loop.forth in
    let two : at + 1 < m = found.forth in
    let three : length ls ≡ length ks = past_length ks ls p told in
    record {
      grows = λ ps b h.
          subst
          (λ xs. HoldRow first xs start b)
          (sym (row_snoc done (at, p) ps))
          (loop.grows (Parameter_then at p ps) b (m, refl, c, found.reads, subst (λ x. HoldRow x ps m b) told h));
      only = λ ps b h e.
          let a = loop.only ps b h e in
          left_turns ks done at c n p m only ls told ps a.left b a.is a.holds a.ends;
      same = three ∙ loop.same;
      commas = λ x h. subst (λ y. kind_at y x ≡ Comma) (sym told) (comma_kept ks (name_by p) x (loop.commas x h));
      dots = λ x h. loop.dots x (dots_was ks (name_by p) x (subst (λ y. kind_at y x ≡ Ellipsis) told h));
      forth = omega arith;
      inside = subst (λ x. m ≤ x) (sym three) found.inside;
    }

pub parameter_row_push : (first : List Kind) → (start : ℕ) → (items more : List (ℕ × TypeName)) → (at : ℕ) → (ks : List Kind) → (t : TypeName)
    → (m : ℕ) → Rowing first start (parameter_row_of items) at ks → kind_at ks at ≡ Comma → (kind_at ks (at + 1) ≡ Ellipsis → ⊥)
    → FoundNaming ks true (at + 1) (type_of t) m → OnlyParameter ks (at + 1) (type_of t) m → (ls : List Kind) → ls ≡ past ks (type_of t)
    → more ≡ items ++ (at, t) ∷ [] → Rowing first start (parameter_row_of more) m ls
parameter_row_push first start items more at ks t m loop c n found only ls told grown =
    subst
    (λ xs. Rowing first start xs m ls)
    (sym (ap parameter_row_of grown ∙ map-append (λ p. (p.0, type_of p.1)) items ((at, t) ∷ [])))
    (rowing_turn first start (parameter_row_of items) at ks (type_of t) m loop c n found only ls told)

pub parameter_row_found : (first : List Kind) → (start : ℕ) → (done : List (ℕ × Naming)) → (at : ℕ) → (ks : List Kind) → Rowing first start done at ks
    → (kind_at ks at ≡ Comma → kind_at ks (at + 1) ≡ Ellipsis) → FoundRow first start (row done No_more) at
parameter_row_found first start done at ks loop d =
    record {
      reads = loop.grows No_more at refl;
      dots = λ e. loop.dots (at + 1) (d (loop.commas at e));
      forth = loop.forth;
      inside = subst (λ x. at ≤ x) loop.same loop.inside;
    }

-- the same under a list that is equal
pub row_found_under : (first ks : List Kind) → first ≡ ks → (a : ℕ) → (ps : Row) → (b : ℕ) → FoundRow first a ps b → FoundRow ks a ps b
row_found_under first ks is a ps b found = subst (λ x. FoundRow x a ps b) is found

pub row_only_under : (first ks : List Kind) → first ≡ ks → (a : ℕ) → (ps : Row) → (b : ℕ) → OnlyRow first a ps b → OnlyRow ks a ps b
row_only_under first ks is a ps b only = subst (λ x. OnlyRow x a ps b) is only

pub row_fails_under : (first ks : List Kind) → first ≡ ks → (a : ℕ) → (e : Stop) → FailsRow first a e → FailsRow ks a e
row_fails_under first ks is a e fails = subst (λ x. FailsRow x a e) is fails

no_more_left : (ks : List Kind) → (done : List (ℕ × Naming)) → (at : ℕ) → (kind_at ks at ≡ Comma → kind_at ks (at + 1) ≡ Ellipsis)
    → (ps left : Row) → (m : ℕ) → ps ≡ row done left → HoldRow ks left at m → (row done No_more ≡ ps) × (at ≡ m)
no_more_left ks done at d ps No_more m is h = (sym is, sym h)
no_more_left ks done at d ps (Parameter_then o p left) m is h =
    absurd (true≢false (sym (naming_starts ks true p (at + 1) h.0 h.3) ∙ ap starts_type (d h.2)))

pub parameter_row_same : (first : List Kind) → (start : ℕ) → (done : List (ℕ × Naming)) → (at : ℕ) → (ks : List Kind) → Rowing first start done at ks
    → (kind_at ks at ≡ Comma → kind_at ks (at + 1) ≡ Ellipsis) → OnlyRow first start (row done No_more) at
parameter_row_same first start done at ks loop d ps m h e =
    let a = loop.only ps m h e in
    no_more_left ks done at d ps a.left m a.is a.holds

stop_left : (ks : List Kind) → (at : ℕ) → kind_at ks at ≡ Comma → (kind_at ks (at + 1) ≡ Ellipsis → ⊥) → (e : Stop) → FailsNaming ks true (at + 1) e
    → (left : Row) → (m : ℕ) → HoldRow ks left at m → RowEnd ks m → IsWant e
stop_left ks at c n e fails No_more m h f = goes_on ks at c n (subst (λ x. RowEnd ks x) h f)
stop_left ks at c n e fails (Parameter_then o p left) m h f = fails p h.0 h.3 (past_ends ks p left h.0 m h.4 f)

pub parameter_row_fails : (first : List Kind) → (start : ℕ) → (done : List (ℕ × Naming)) → (at : ℕ) → (ks : List Kind) → Rowing first start done at ks
    → kind_at ks at ≡ Comma → (kind_at ks (at + 1) ≡ Ellipsis → ⊥) → (e : Stop) → FailsNaming ks true (at + 1) e → FailsRow first start e
parameter_row_fails first start done at ks loop c n e fails ps m h f =
    let a = loop.only ps m h f in
    stop_left ks at c n e fails a.left m a.holds a.ends

-- all of them
none_by : (ks : List Kind) → (a : ℕ) → kind_at ks a ≡ CloseParen → (ps : Parameters) → (c : ℕ) → Parametered ks ps a c → (No_parameters ≡ ps) × (a ≡ c)
none_by ks a k ps c (none_told i f) = (sym i, sym f)
none_by ks a k ps c (names_told ns i l h) = clash (kind_at ks a) CloseParen Identifier k l (λ x. omega (arith, x))
none_by ks a k ps c (some_told p q m n h g z v) = no_parameter ks a a refl k p m h

pub none_same : (ks : List Kind) → (a : ℕ) → kind_at ks a ≡ CloseParen → OnlyParameters ks a No_parameters a
none_same ks a k ps c h e = none_by ks a k ps c (parameters_view ks ps a c h e)

first_by : (ks : List Kind) → (a : ℕ) → (kind_at ks a ≡ CloseParen → ⊥) → (kind_at ks a ≡ Identifier → ⊥) → (e : Stop) → FailsNaming ks true a e → (ps : Parameters) → (c : ℕ)
    → kind_at ks c ≡ CloseParen → Parametered ks ps a c → IsWant e
first_by ks a u s e fails ps c l (names_told ns i k h) = absurd (s k)
first_by ks a u s e fails ps c l (none_told i f) = absurd (u (ap (λ x. kind_at ks x) (sym f) ∙ l))
first_by ks a u s e fails ps c l (some_told p q m n h g z v) = fails p m h (past_ends ks p q m n g z)

pub first_missing : (ks : List Kind) → (a : ℕ) → (kind_at ks a ≡ CloseParen → ⊥) → (kind_at ks a ≡ Identifier → ⊥) → (e : Stop) → FailsNaming ks true a e → FailsParameters ks a e
first_missing ks a u s e fails ps c h l = first_by ks a u s e fails ps c l (parameters_view ks ps a c h l)

rest_by : (ks : List Kind) → (a : ℕ) → (kind_at ks a ≡ CloseParen → ⊥) → (kind_at ks a ≡ Identifier → ⊥) → (t : Naming) → (k : ℕ) → OnlyParameter ks a t k → (ls : List Kind)
    → ls ≡ past ks t → (e : Stop) → FailsRow ls k e
    → (ps : Parameters) → (c : ℕ) → kind_at ks c ≡ CloseParen → Parametered ks ps a c → IsWant e
rest_by ks a u s t k only ls told e fails ps c l (names_told ns i l' h) = absurd (s l')
rest_by ks a u s t k only ls told e fails ps c l (none_told i f) = absurd (u (ap (λ x. kind_at ks x) (sym f) ∙ l))
rest_by ks a u s t k only ls told e fails ps c l (some_told p q m n h g z v) =
    let same = only p m h (past_ends ks p q m n g z) in
    fails
    q
    n
    (subst (λ x. HoldRow x q k n) (sym told) (row_moved ks t p same.0 q k m n same.1 g))
    (subst (λ x. RowEnd x n) (sym told) (row_end_kept ks (name_by t) n z))

pub rest_missing : (ks : List Kind) → (a : ℕ) → (kind_at ks a ≡ CloseParen → ⊥) → (kind_at ks a ≡ Identifier → ⊥) → (t : Naming) → (k : ℕ) → OnlyParameter ks a t k → (ls : List Kind)
    → ls ≡ past ks t → (e : Stop) → FailsRow ls k e → FailsParameters ks a e
rest_missing ks a u s t k only ls told e fails ps c h l = rest_by ks a u s t k only ls told e fails ps c l (parameters_view ks ps a c h l)

-- names alone
names_by : (ks : List Kind) → (a : ℕ) → kind_at ks a ≡ Identifier → (ns : List (ℕ × ℕ)) → (b : ℕ) → OnlyNames ks (a + 1) ns b → (ps : Parameters)
    → (c : ℕ) → kind_at ks c ≡ CloseParen → Parametered ks ps a c → (Names_of a ns ≡ ps) × (b ≡ c)
names_by ks a k ns b only ps c l (none_told i f) =
    clash (kind_at ks a) CloseParen Identifier (ap (λ x. kind_at ks x) (sym f) ∙ l) k (λ x. omega (arith, x))
names_by ks a k ns b only ps c l (some_told p q m n h g z v) = absurd (true≢false (sym (naming_starts ks true p a m h) ∙ ap starts_type k))
names_by ks a k ns b only ps c l (names_told ns' i k' h) =
    let same = only ns' c h l in
    (ap (λ x. Names_of a x) same.0 ∙ sym i, same.1)

pub names_same : (ks : List Kind) → (a : ℕ) → kind_at ks a ≡ Identifier → (ns : List (ℕ × ℕ)) → (b : ℕ) → OnlyNames ks (a + 1) ns b
    → OnlyParameters ks a (Names_of a ns) b
names_same ks a k ns b only ps c h l = names_by ks a k ns b only ps c l (parameters_view ks ps a c h l)

missing_by : (ks : List Kind) → (a : ℕ) → kind_at ks a ≡ Identifier → (e : Stop) → FailsNames ks (a + 1) e → (ps : Parameters)
    → (c : ℕ) → kind_at ks c ≡ CloseParen → Parametered ks ps a c → IsWant e
missing_by ks a k e fails ps c l (none_told i f) =
    clash (kind_at ks a) CloseParen Identifier (ap (λ x. kind_at ks x) (sym f) ∙ l) k (λ x. omega (arith, x))
missing_by ks a k e fails ps c l (some_told p q m n h g z v) = absurd (true≢false (sym (naming_starts ks true p a m h) ∙ ap starts_type k))
missing_by ks a k e fails ps c l (names_told ns i k' h) = fails ns c h l

pub names_missing : (ks : List Kind) → (a : ℕ) → kind_at ks a ≡ Identifier → (e : Stop) → FailsNames ks (a + 1) e → FailsParameters ks a e
names_missing ks a k e fails ps c h l = missing_by ks a k e fails ps c l (parameters_view ks ps a c h l)

-- what stands behind the last parameter closes the list
closed_by : (ks : List Kind) → (ps : Parameters) → (p : Naming) → (q : Row) → (n c : ℕ) → (kind_at ks n ≡ Comma → ⊥) → Closing ks ps p q n c
    → (Fixed_of p q ≡ ps) × (n ≡ c)
closed_by ks ps p q n c u (fixed i f k) = (sym i, sym f)
closed_by ks ps p q n c u (variadic i f k) = absurd (u k)

dots_by : (ks : List Kind) → (ps : Parameters) → (p : Naming) → (q : Row) → (n c : ℕ) → kind_at ks n ≡ Comma → Closing ks ps p q n c
    → (Variadic_of p q n (n + 1) ≡ ps) × (n + 2 ≡ c)
dots_by ks ps p q n c k (fixed i f l) = clash (kind_at ks n) Comma CloseParen k l (λ x. omega (arith, x))
dots_by ks ps p q n c k (variadic i f l) = (sym i, sym f)

fixed_by : (ks : List Kind) → (a : ℕ) → (kind_at ks a ≡ CloseParen → ⊥) → (kind_at ks a ≡ Identifier → ⊥) → (t : Naming) → (k : ℕ) → OnlyParameter ks a t k → (ls : List Kind)
    → ls ≡ past ks t → (r : Row) → (b : ℕ) → OnlyRow ls k r b → (kind_at ks b ≡ Comma → ⊥) → (ps : Parameters) → (c : ℕ) → kind_at ks c ≡ CloseParen → Parametered ks ps a c
    → (Fixed_of t r ≡ ps) × (b ≡ c)
fixed_by ks a u s t k only ls told r b rest n ps c l (names_told ns i l' h) = absurd (s l')
fixed_by ks a u s t k only ls told r b rest n ps c l (none_told i f) = absurd (u (ap (λ x. kind_at ks x) (sym f) ∙ l))
fixed_by ks a u s t k only ls told r b rest n ps c l (some_told p q m o h g z v) =
    let one = only p m h (past_ends ks p q m o g z) in
    let two =
    rest
    q
    o
    (subst (λ x. HoldRow x q k o) (sym told) (row_moved ks t p one.0 q k m o one.1 g))
    (subst (λ x. RowEnd x o) (sym told) (row_end_kept ks (name_by t) o z)) in
    let last = closed_by ks ps p q o c (λ e. n (ap (λ x. kind_at ks x) two.1 ∙ e)) v in
    (ap (λ x. Fixed_of x r) one.0 ∙ ap (λ x. Fixed_of p x) two.0 ∙ last.0, two.1 ∙ last.1)

pub fixed_same : (ks : List Kind) → (a : ℕ) → (kind_at ks a ≡ CloseParen → ⊥) → (kind_at ks a ≡ Identifier → ⊥) → (t : Naming) → (k : ℕ) → OnlyParameter ks a t k → (ls : List Kind)
    → ls ≡ past ks t → (r : Row) → (b : ℕ) → OnlyRow ls k r b → (kind_at ks b ≡ Comma → ⊥) → OnlyParameters ks a (Fixed_of t r) b
fixed_same ks a u s t k only ls told r b rest n ps c h l = fixed_by ks a u s t k only ls told r b rest n ps c l (parameters_view ks ps a c h l)

variadic_by : (ks : List Kind) → (a : ℕ) → (kind_at ks a ≡ CloseParen → ⊥) → (kind_at ks a ≡ Identifier → ⊥) → (t : Naming) → (k : ℕ) → OnlyParameter ks a t k → (ls : List Kind)
    → ls ≡ past ks t → (r : Row) → (b : ℕ) → OnlyRow ls k r b → kind_at ks b ≡ Comma → (ps : Parameters) → (c : ℕ) → kind_at ks c ≡ CloseParen → Parametered ks ps a c
    → (Variadic_of t r b (b + 1) ≡ ps) × (b + 2 ≡ c)
variadic_by ks a u s t k only ls told r b rest e ps c l (names_told ns i l' h) = absurd (s l')
variadic_by ks a u s t k only ls told r b rest e ps c l (none_told i f) = absurd (u (ap (λ x. kind_at ks x) (sym f) ∙ l))
variadic_by ks a u s t k only ls told r b rest e ps c l (some_told p q m o h g z v) =
    let one = only p m h (past_ends ks p q m o g z) in
    let two =
    rest
    q
    o
    (subst (λ x. HoldRow x q k o) (sym told) (row_moved ks t p one.0 q k m o one.1 g))
    (subst (λ x. RowEnd x o) (sym told) (row_end_kept ks (name_by t) o z)) in
    let last = dots_by ks ps p q o c (ap (λ x. kind_at ks x) (sym two.1) ∙ e) v in (
      ap (λ x. Variadic_of x r b (b + 1)) one.0
          ∙ ap (λ x. Variadic_of p x b (b + 1)) two.0
          ∙ ap (λ x. Variadic_of p q x (x + 1)) two.1
          ∙ last.0,
      ap (λ x. x + 2) two.1 ∙ last.1,
    )

pub variadic_same : (ks : List Kind) → (a : ℕ) → (kind_at ks a ≡ CloseParen → ⊥) → (kind_at ks a ≡ Identifier → ⊥) → (t : Naming) → (k : ℕ) → OnlyParameter ks a t k → (ls : List Kind)
    → ls ≡ past ks t → (r : Row) → (b : ℕ) → OnlyRow ls k r b → kind_at ks b ≡ Comma → OnlyParameters ks a (Variadic_of t r b (b + 1)) (b + 2)
variadic_same ks a u s t k only ls told r b rest e ps c h l = variadic_by ks a u s t k only ls told r b rest e ps c l (parameters_view ks ps a c h l)

pub fixed_found : (ks : List Kind) → (a : ℕ) → (t : Naming) → (k : ℕ) → FoundNaming ks true a t k → (ls : List Kind)
    → ls ≡ past ks t → (r : Row) → (b : ℕ) → FoundRow ls k r b → FoundParameters ks a (Fixed_of t r) b
fixed_found ks a t k x ls told r b y =
    let one : a < k = x.forth in
    let two : k ≤ b = y.forth in
    record {
      reads = (k, x.reads, subst (λ z. HoldRow z r k b) told y.reads);
      forth = omega arith;
      inside = subst (λ n. b ≤ n) (past_length ks ls t told) y.inside;
    }

abbrev is_dots : Kind → Bool
is_dots Ellipsis = true
is_dots _ = false

-- behind the comma that ends the row stands `...`
pub row_dots : (ks : List Kind) → (t : Naming) → (ls : List Kind) → ls ≡ past ks t → (k : ℕ) → (r : Row) → (b : ℕ) → FoundRow ls k r b → kind_at ks b ≡ Comma
    → kind_at ks (b + 1) ≡ Ellipsis
row_dots ks t ls told k r b y e =
    let here : kind_at ls b ≡ Comma = subst (λ x. kind_at x b ≡ Comma) (sym told) (comma_kept ks (name_by t) b e) in
    dots_was ks (name_by t) (b + 1) (subst (λ x. kind_at x (b + 1) ≡ Ellipsis) told (y.dots here))

pub variadic_found : (ks : List Kind) → (a : ℕ) → (t : Naming) → (k : ℕ) → FoundNaming ks true a t k → (ls : List Kind)
    → ls ≡ past ks t → (r : Row) → (b : ℕ) → FoundRow ls k r b → kind_at ks b ≡ Comma → FoundParameters ks a (Variadic_of t r b (b + 1)) (b + 2)
variadic_found ks a t k x ls told r b y e =
    let dots = row_dots ks t ls told k r b y e in
    let i : b + 1 < length ks = test_inside is_dots refl ks (b + 1) (ap is_dots dots) in
    let one : a < k = x.forth in
    let two : k ≤ b = y.forth in
    let three : b + 2 ≡ (b + 1) + 1 = omega arith in
    record {
      reads = (k, x.reads, subst (λ z. HoldRow z r k b) told y.reads, e, refl, dots, three);
      forth = omega arith;
      inside = omega arith;
    }
