-- Declarators with their initializers, one behind another, each under the identifiers that those in front of it declare.
use Rattle.std.proofs.Common.{◌≡◌, refl, ap, sym, ◌∙◌, subst, ℕ, ◌+◌, ◌<◌, ◌≤◌, List, [], ◌∷◌, ◌++◌, length, append_assoc, arith, Option, Some, None, Bool, true, false, not, true≢false}
use Rattle.std.proofs.lemmas.List.{map-append}
use Rattle.tree_data.specs.declared.inits.Init.{Init}
use Rattle.tree_data.specs.declared.types.Declarator.{Declarator}
use Rattle.tree_data.specs.Heads.{declared_one, declared_of}
use Rattle.tree_data.specs.Trees.{Declaring, Initial}
use Rattle.c_parser.specs.declared.answers.Stop.{Stop}
use Rattle.c_parser.specs.declared.kinds.Kind.{Kind}
use Rattle.c_parser.specs.declared.kinds.Kind.TheVariants.{Comma, Equals, Semicolon, OpenBrace}
use Rattle.c_parser.specs.Heads.{Leading, past, HoldsValue, HoldsOne, HoldOthers, HoldAll, past_all, freely}
use Rattle.c_parser.specs.HeadsFound.{FoundDeclarator, FoundValue, FoundOne, FoundAll, ends_one, ends_all}
use Rattle.c_parser.specs.Kinds.{kind_at, level_of, is_equals, ends_type}
use Rattle.c_parser.specs.Reading.{HoldsInitial, Stops, FoundInitial, IsWant}
use Rattle.c_parser.specs.Words.{Words, shown_from}
use Rattle.c_parser.proofs.HeadDeclarators.{OnlyDeclarator, FailsDeclarator}
use Rattle.c_parser.proofs.HeadWords.{from_length, from_at, past_kinds}

abbrev pub Piece : Type 0
Piece = Declaring × Option Initial

abbrev pub pair : Declaring → Option Initial → Piece
pair d i = (d, i)

abbrev pub OnlyInitial : List Kind → ℕ → Initial → ℕ → Type 0
OnlyInitial ks a x b = (x' : Initial) → (b' : ℕ) → HoldsInitial ks x' a b' → Stops ks 2 b' → (x ≡ x') × (b ≡ b')

abbrev pub FailsInitial : List Kind → ℕ → Stop → Type 0
FailsInitial ks a e = (x : Initial) → (b : ℕ) → HoldsInitial ks x a b → Stops ks 2 b → IsWant e

abbrev pub OnlyValue : List Kind → ℕ → Option Initial → ℕ → Type 0
OnlyValue ks a i b = (i' : Option Initial) → (b' : ℕ) → HoldsValue ks i' a b' → ends_one (kind_at ks b') ≡ true → (i ≡ i') × (b ≡ b')

abbrev pub FailsValue : List Kind → ℕ → Stop → Type 0
FailsValue ks a e = (i : Option Initial) → (b : ℕ) → HoldsValue ks i a b → ends_one (kind_at ks b) ≡ true → IsWant e

abbrev pub OnlyOne : ℕ → Words → Leading → ℕ → Declaring → Option Initial → ℕ → Type 0
OnlyOne o w s a d i b =
    (d' : Declaring) → (i' : Option Initial) → (b' : ℕ) → HoldsOne w o s d' i' a b' → ends_one (kind_at w.kinds b') ≡ true
    → (pair d i ≡ pair d' i') × (b ≡ b')

abbrev pub FailsOne : ℕ → Words → Leading → ℕ → Stop → Type 0
FailsOne o w s a e =
    (d : Declaring) → (i : Option Initial) → (b : ℕ) → HoldsOne w o s d i a b → ends_one (kind_at w.kinds b) ≡ true → IsWant e

abbrev pub OnlyAll : ℕ → Words → Leading → ℕ → List Piece → ℕ → Type 0
OnlyAll o w s a ds b =
    (p : Piece) → (ps : List Piece) → (b' : ℕ) → HoldAll w o s (p ∷ ps) a b' → ends_all (kind_at w.kinds b') ≡ true → (ds ≡ p ∷ ps) × (b ≡ b')

abbrev pub FailsAll : ℕ → Words → Leading → ℕ → Stop → Type 0
FailsAll o w s a e = (p : Piece) → (ps : List Piece) → (b : ℕ) → HoldAll w o s (p ∷ ps) a b → ends_all (kind_at w.kinds b) ≡ true → IsWant e

-- what stands behind a value
equals_is : (k : Kind) → is_equals k ≡ true → k ≡ Equals
equals_is Equals h = refl
equals_is _ h = absurd (true≢false (sym h))

ends_low : (k : Kind) → ends_one k ≡ true → level_of k < 2
ends_low Comma h = omega arith
ends_low Semicolon h = omega arith
ends_low OpenBrace h = omega arith
ends_low _ h = absurd (true≢false (sym h))

ends_declarator : (k : Kind) → ends_one k ≡ true → ends_type k ≡ true
ends_declarator Comma h = refl
ends_declarator Semicolon h = refl
ends_declarator OpenBrace h = refl
ends_declarator _ h = absurd (true≢false (sym h))

pub ends_last : (k : Kind) → ends_all k ≡ true → ends_one k ≡ true
ends_last Semicolon h = refl
ends_last OpenBrace h = refl
ends_last _ h = absurd (true≢false (sym h))

-- `=` and an initializer, or nothing
pub value_none_found : (o : ℕ) → (w : Words) → (a : ℕ) → a ≤ length w.kinds → FoundValue (shown_from w o) a None a
value_none_found o w a i = record { reads = refl; forth = omega arith; inside = subst (λ n. a ≤ n) (sym (from_length w o)) i }

pub value_none : (ks : List Kind) → (a : ℕ) → (kind_at ks a ≡ Equals → ⊥) → OnlyValue ks a None a
value_none ks a n None b h e = (refl, sym h)
value_none ks a n (Some i) b h e = absurd (n (equals_is (kind_at ks a) h.0))

pub value_fails : (ks : List Kind) → (a : ℕ) → kind_at ks a ≡ Equals → (e : Stop) → FailsInitial ks (a + 1) e → FailsValue ks a e
value_fails ks a k e fails None b h f = absurd (true≢false (sym f ∙ ap (λ x. ends_one (kind_at ks x)) h ∙ ap ends_one k))
value_fails ks a k e fails (Some i) b h f = fails i b h.1 (ends_low (kind_at ks b) f)

pub value_found : (ks : List Kind) → (a : ℕ) → kind_at ks a ≡ Equals → (x : Initial) → (b : ℕ) → FoundInitial ks (a + 1) x b → FoundValue ks a (Some x) b
value_found ks a k x b found =
    let one : a + 1 < b = found.forth in
    record { reads = (ap is_equals k, found.reads); forth = omega arith; inside = found.inside }

pub value_same : (ks : List Kind) → (a : ℕ) → kind_at ks a ≡ Equals → (x : Initial) → (b : ℕ) → OnlyInitial ks (a + 1) x b → OnlyValue ks a (Some x) b
value_same ks a k x b only None b' h f = absurd (true≢false (sym f ∙ ap (λ y. ends_one (kind_at ks y)) h ∙ ap ends_one k))
value_same ks a k x b only (Some i) b' h f =
    let same = only i b' h.1 (ends_low (kind_at ks b') f) in
    (ap Some same.0, same.1)

-- a declarator with its value
value_ends : (ks : List Kind) → (i : Option Initial) → (m b : ℕ) → HoldsValue ks i m b → ends_one (kind_at ks b) ≡ true → ends_type (kind_at ks m) ≡ true
value_ends ks None m b h e = ends_declarator (kind_at ks m) (ap (λ x. ends_one (kind_at ks x)) (sym h) ∙ e)
value_ends ks (Some i) m b h e = ap ends_type (equals_is (kind_at ks m) h.0)

-- under the identifiers behind it as in front of it
in_front : (o : ℕ) → (w : Words) → (s : Leading) → (d : Declaring) → (f : Kind → Bool) → ((n : ℕ) → f (kind_at (shown_from (past w s d) o) n) ≡ f (kind_at (past w s d).kinds n))
    → (n : ℕ) → f (kind_at (shown_from (past w s d) o) n) ≡ f (kind_at w.kinds n)
in_front o w s d f same n = same n ∙ ap (λ ks. f (kind_at ks n)) (past_kinds w s d)

pub ends_behind : (o : ℕ) → (w : Words) → (s : Leading) → (d : Declaring) → (b : ℕ) → ends_one (kind_at w.kinds b) ≡ true
    → ends_one (kind_at (shown_from (past w s d) o) b) ≡ true
ends_behind o w s d b e = in_front o w s d ends_one (λ n. from_at ends_one (λ x. refl) (past w s d) o n) b ∙ e

pub ends_here : (o : ℕ) → (w : Words) → (s : Leading) → (d : Declaring) → (i : Option Initial) → (m b : ℕ) → HoldsValue (shown_from (past w s d) o) i m b
    → ends_one (kind_at w.kinds b) ≡ true → ends_type (kind_at (shown_from w o) m) ≡ true
ends_here o w s d i m b h e =
    from_at ends_type (λ x. refl) w o m
    ∙ sym (in_front o w s d ends_type (λ n. from_at ends_type (λ x. refl) (past w s d) o n) m)
    ∙ value_ends (shown_from (past w s d) o) i m b h (ends_behind o w s d b e)

pub declarator_missing : (o : ℕ) → (w : Words) → (s : Leading) → (a : ℕ) → (e : Stop) → FailsDeclarator (shown_from w o) (not s.typed) a e → FailsOne o w s a e
declarator_missing o w s a e fails d i b h f = fails d h.0 h.1 (ends_here o w s d i h.0 b h.2 f)

value_moved : (o : ℕ) → (w : Words) → (s : Leading) → (w' : Words) → (d d' : Declaring) → (m m' : ℕ) → (i : Option Initial) → (b : ℕ) → w' ≡ past w s d → d ≡ d' → m ≡ m'
    → HoldsValue (shown_from (past w s d') o) i m' b → HoldsValue (shown_from w' o) i m b
value_moved o w s w' d d' m m' i b is e f h =
    subst (λ x. HoldsValue (shown_from x o) i m b) (sym (is ∙ ap (past w s) e)) (subst (λ x. HoldsValue (shown_from (past w s d') o) i x b) (sym f) h)

ends_moved : (o : ℕ) → (w : Words) → (s : Leading) → (w' : Words) → (d : Declaring) → (b : ℕ) → w' ≡ past w s d → ends_one (kind_at w.kinds b) ≡ true
    → ends_one (kind_at (shown_from w' o) b) ≡ true
ends_moved o w s w' d b is e = ap (λ x. ends_one (kind_at (shown_from x o) b)) is ∙ ends_behind o w s d b e

pub value_missing : (o : ℕ) → (w : Words) → (s : Leading) → (a : ℕ) → (d : Declaring) → (m : ℕ) → OnlyDeclarator (shown_from w o) (not s.typed) a d m → (w' : Words)
    → w' ≡ past w s d → (e : Stop) → FailsValue (shown_from w' o) m e → FailsOne o w s a e
value_missing o w s a d m only w' is e fails d' i b h f =
    let same = only d' h.0 h.1 (ends_here o w s d' i h.0 b h.2 f) in
    fails i b (value_moved o w s w' d d' m h.0 i b is same.0 same.1 h.2) (ends_moved o w s w' d b is f)

pub one_found : (o : ℕ) → (w : Words) → (s : Leading) → (a : ℕ) → (d : Declaring) → (m : ℕ) → FoundDeclarator (shown_from w o) (not s.typed) a d m → (w' : Words)
    → w' ≡ past w s d → (i : Option Initial) → (b : ℕ) → FoundValue (shown_from w' o) m i b → FoundOne w o s a d i b
one_found o w s a d m x w' is i b y =
    let one : a < m = x.forth in
    let two : m ≤ b = y.forth in
    record {
      reads = (m, x.reads, subst (λ k. HoldsValue (shown_from k o) i m b) is y.reads);
      forth = omega arith;
      inside =
          subst
          (λ n. b ≤ n)
          (from_length w' o ∙ ap (λ k. length k.kinds) is ∙ ap (λ ks. length ks) (past_kinds w s d))
          y.inside;
    }

pub one_same : (o : ℕ) → (w : Words) → (s : Leading) → (a : ℕ) → (d : Declaring) → (m : ℕ) → OnlyDeclarator (shown_from w o) (not s.typed) a d m → (w' : Words)
    → w' ≡ past w s d → (i : Option Initial) → (b : ℕ) → OnlyValue (shown_from w' o) m i b → OnlyOne o w s a d i b
one_same o w s a d m only w' is i b more d' i' b' h f =
    let one = only d' h.0 h.1 (ends_here o w s d' i' h.0 b' h.2 f) in
    let two = more i' b' (value_moved o w s w' d d' m h.0 i' b' is one.0 one.1 h.2) (ends_moved o w s w' d b' is f) in
    (ap (λ x. pair x i) one.0 ∙ ap (λ x. pair d' x) two.0, two.1)

-- all of them: what is left of a list behind those that were read, which is some
pub record PiecesLeft (o : ℕ) (w : Words) (s : Leading) (done : List Piece) (at : ℕ) (ps : List Piece) (b : ℕ) : Type 0 where
  pub first : Piece
  pub rest : List Piece
  pub is : ps ≡ done ++ first ∷ rest
  pub holds : HoldAll w o s (first ∷ rest) at b

pub record Listing (o : ℕ) (w0 : Words) (s : Leading) (start : ℕ) (done : List Piece) (w : Words) (t : Leading) (at : ℕ) : Type 0 where
  pub grows : (p : Piece) → (ps : List Piece) → (b : ℕ) → HoldAll w o t (p ∷ ps) at b → HoldAll w0 o s (done ++ p ∷ ps) start b
  pub only : (p : Piece) → (ps : List Piece) → (b : ℕ) → HoldAll w0 o s (p ∷ ps) start b → ends_all (kind_at w0.kinds b) ≡ true
      → PiecesLeft o w t done at (p ∷ ps) b
  pub behind : (ps : List Piece) → past_all w t ps ≡ past_all w0 s (done ++ ps)
  pub same : w.kinds ≡ w0.kinds
  pub forth : start ≤ at
  pub inside : at ≤ length w.kinds

reading_start : (o : ℕ) → (w : Words) → (s : Leading) → (at : ℕ) → at ≤ length w.kinds → Listing o w s at [] w s at
reading_start o w s at i = record {
  grows = λ p ps b h. h;
  only = λ p ps b h e. record { first = p; rest = ps; is = refl; holds = h };
  behind = λ ps. refl;
  same = refl;
  forth = omega arith;
  inside = i;
}

pub reading_start_with : (o : ℕ) → (w : Words) → (s : Leading) → (at : ℕ) → (items : List (Declarator × Option Init)) → items ≡ [] → at ≤ length w.kinds
    → Listing o w s at (declared_of items) w s at
reading_start_with o w s at items is i = subst (λ xs. Listing o w s at (declared_of xs) w s at) (sym is) (reading_start o w s at i)

others_end : (o : ℕ) → (w : Words) → (s : Leading) → (ks : List Kind) → w.kinds ≡ ks → (ps : List Piece) → (m b : ℕ) → HoldOthers w o s ps m b
    → ends_all (kind_at ks b) ≡ true → ends_one (kind_at ks m) ≡ true
others_end o w s ks is [] m b h e = ends_last (kind_at ks m) (ap (λ x. ends_all (kind_at ks x)) (sym h) ∙ e)
others_end o w s ks is (p ∷ ps) m b h e = ap ends_one (ap (λ x. kind_at x m) (sym is) ∙ h.1)

first_same : (o : ℕ) → (w0 w : Words) → (s : Leading) → (at : ℕ) → w.kinds ≡ w0.kinds → (d : Declaring) → (i : Option Initial) → (m : ℕ) → OnlyOne o w s at d i m
    → (p : Piece) → (ps : List Piece) → (b : ℕ) → (h : HoldAll w o s (p ∷ ps) at b) → ends_all (kind_at w0.kinds b) ≡ true
    → (pair d i ≡ p) × (m ≡ h.0)
first_same o w0 w s at is d i m only p ps b h e =
    only
    p.0
    p.1
    h.0
    h.1
    (ap (λ x. ends_one (kind_at x h.0)) is
    ∙ others_end o (past w s p.0) (freely s) w0.kinds (past_kinds w s p.0 ∙ is) ps h.0 b h.2 e)

pub all_fails : (o : ℕ) → (w0 : Words) → (s : Leading) → (start : ℕ) → (done : List Piece) → (w : Words) → (t : Leading) → (at : ℕ) → Listing o w0 s start done w t at → (e : Stop)
    → FailsOne o w t at e → FailsAll o w0 s start e
all_fails o w0 s start done w t at loop e fails p ps b h f =
    let a = loop.only p ps b h f in
    fails
    a.first.0
    a.first.1
    a.holds.0
    a.holds.1
    (ap (λ x. ends_one (kind_at x a.holds.0)) loop.same
    ∙ others_end o (past w t a.first.0) (freely t) w0.kinds (past_kinds w t a.first.0 ∙ loop.same) a.rest a.holds.0 b a.holds.2 f)

-- one more, with the comma behind it
comma_left : (o : ℕ) → (w0 w w' : Words) → (s : Leading) → (done : List Piece) → (at : ℕ) → w.kinds ≡ w0.kinds → (d : Declaring) → (i : Option Initial) → (m : ℕ)
    → OnlyOne o w s at d i m → w' ≡ past w s d → kind_at w0.kinds m ≡ Comma → (all : List Piece) → (p : Piece) → (ps : List Piece) → (b : ℕ)
    → all ≡ done ++ p ∷ ps → HoldAll w o s (p ∷ ps) at b → ends_all (kind_at w0.kinds b) ≡ true
    → PiecesLeft o w' (freely s) (done ++ (d, i) ∷ []) (m + 1) all b
comma_left o w0 w w' s done at is d i m only by c all p [] b told h e =
    let same = first_same o w0 w s at is d i m only p [] b h e in
    absurd
    (true≢false
    (sym e ∙ ap (λ x. ends_all (kind_at w0.kinds x)) (h.2 ∙ sym same.1) ∙ ap ends_all c))
comma_left o w0 w w' s done at is d i m only by c all p (q ∷ qs) b told h e =
    let same = first_same o w0 w s at is d i m only p (q ∷ qs) b h e in
    let next : past w s p.0 ≡ w' = ap (λ x. past w s x.0) (sym same.0) ∙ sym by in
    record {
      first = q;
      rest = qs;
      is = told ∙ ap (λ x. done ++ x ∷ q ∷ qs) (sym same.0) ∙ sym (append_assoc done ((d, i) ∷ []) (q ∷ qs));
      holds =
          subst
          (λ x. HoldAll x o (freely s) (q ∷ qs) (m + 1) b)
          next
          (subst (λ k. HoldAll (past w s p.0) o (freely s) (q ∷ qs) (k + 1) b) (sym same.1) (h.2.0, h.2.2, h.2.3));
    }

others_from : (o : ℕ) → (w : Words) → (s : Leading) → (p : Piece) → (ps : List Piece) → (m b : ℕ) → kind_at w.kinds m ≡ Comma → HoldAll w o (freely s) (p ∷ ps) (m + 1) b
    → HoldOthers w o (freely s) (p ∷ ps) m b
others_from o w s p ps m b c h = (h.0, c, h.1, h.2)

past_all_freely : (w : Words) → (s : Leading) → (ps : List Piece) → past_all w (freely s) ps ≡ past_all w s ps
past_all_freely w s [] = refl
past_all_freely w s (p ∷ ps) = past_all_freely (past w s p.0) s ps

reading_turn : (o : ℕ) → (w0 : Words) → (s : Leading) → (start : ℕ) → (done : List Piece) → (w : Words) → (t : Leading) → (at : ℕ) → Listing o w0 s start done w t at → (d : Declaring)
    → (i : Option Initial) → (m : ℕ) → FoundOne w o t at d i m → OnlyOne o w t at d i m → (w' : Words) → w' ≡ past w t d → kind_at w'.kinds m ≡ Comma
    → m < length w'.kinds → Listing o w0 s start (done ++ (d, i) ∷ []) w' (freely t) (m + 1)
reading_turn o w0 s start done w t at loop d i m found only w' by c here =
    let all : w'.kinds ≡ w0.kinds = ap (λ x. x.kinds) by ∙ past_kinds w t d ∙ loop.same in
    let one : start ≤ at = loop.forth in
    let two : at < m = found.forth in
    record {
      grows = λ p ps b h.
          subst
          (λ x. HoldAll w0 o s x start b)
          (sym (append_assoc done ((d, i) ∷ []) (p ∷ ps)))
          (loop.grows
          (d, i)
          (p ∷ ps)
          b
          (m, found.reads, subst (λ x. HoldOthers x o (freely t) (p ∷ ps) m b) by (others_from o w' t p ps m b c h)));
      only = λ p ps b h e.
          let a = loop.only p ps b h e in
          comma_left o w0 w w' t done at loop.same d i m only by (ap (λ x. kind_at x m) (sym all) ∙ c) (p ∷ ps) a.first a.rest b a.is a.holds e;
      behind = λ ps.
          ap (λ x. past_all x (freely t) ps) by
          ∙ past_all_freely (past w t d) t ps
          ∙ loop.behind ((d, i) ∷ ps)
          ∙ ap (past_all w0 s) (sym (append_assoc done ((d, i) ∷ []) ps));
      same = all;
      forth = omega arith;
      inside = omega (arith, here);
    }

-- the last one
all_found : (o : ℕ) → (w0 : Words) → (s : Leading) → (start : ℕ) → (done : List Piece) → (w : Words) → (t : Leading) → (at : ℕ) → Listing o w0 s start done w t at → (d : Declaring)
    → (i : Option Initial) → (m : ℕ) → FoundOne w o t at d i m → FoundAll w0 o s start (done ++ (d, i) ∷ []) m
all_found o w0 s start done w t at loop d i m found =
    let one : start ≤ at = loop.forth in
    let two : at < m = found.forth in
    record {
      reads = loop.grows (d, i) [] m (m, found.reads, refl);
      forth = omega arith;
      inside = subst (λ ks. m ≤ length ks) loop.same found.inside;
    }

last_left : (o : ℕ) → (w0 w : Words) → (s : Leading) → (done : List Piece) → (at : ℕ) → w.kinds ≡ w0.kinds → (d : Declaring) → (i : Option Initial) → (m : ℕ)
    → OnlyOne o w s at d i m → (kind_at w0.kinds m ≡ Comma → ⊥) → (all : List Piece) → (p : Piece) → (ps : List Piece) → (b : ℕ)
    → all ≡ done ++ p ∷ ps → HoldAll w o s (p ∷ ps) at b → ends_all (kind_at w0.kinds b) ≡ true → (done ++ (d, i) ∷ [] ≡ all) × (m ≡ b)
last_left o w0 w s done at is d i m only n all p [] b told h e =
    let same = first_same o w0 w s at is d i m only p [] b h e in
    (ap (λ x. done ++ x ∷ []) same.0 ∙ sym told, same.1 ∙ sym h.2)
last_left o w0 w s done at is d i m only n all p (q ∷ qs) b told h e =
    let same = first_same o w0 w s at is d i m only p (q ∷ qs) b h e in
    absurd (n (ap (λ k. kind_at k m) (sym (past_kinds w s p.0 ∙ is)) ∙ ap (λ k. kind_at (past w s p.0).kinds k) same.1 ∙ h.2.1))

all_same : (o : ℕ) → (w0 : Words) → (s : Leading) → (start : ℕ) → (done : List Piece) → (w : Words) → (t : Leading) → (at : ℕ) → Listing o w0 s start done w t at → (d : Declaring)
    → (i : Option Initial) → (m : ℕ) → OnlyOne o w t at d i m → (kind_at w0.kinds m ≡ Comma → ⊥) → OnlyAll o w0 s start (done ++ (d, i) ∷ []) m
all_same o w0 s start done w t at loop d i m only n p ps b h e =
    let a = loop.only p ps b h e in
    last_left o w0 w t done at loop.same d i m only n (p ∷ ps) a.first a.rest b a.is a.holds e

-- the same of the code's list
code_more : (items more : List (Declarator × Option Init)) → (x : Declarator × Option Init) → more ≡ items ++ x ∷ []
    → declared_of more ≡ declared_of items ++ declared_one x ∷ []
code_more items more x e = ap declared_of e ∙ map-append declared_one items (x ∷ [])

pub code_turn : (o : ℕ) → (w0 : Words) → (s : Leading) → (start : ℕ) → (items more : List (Declarator × Option Init)) → (w : Words) → (t : Leading) → (at : ℕ)
    → Listing o w0 s start (declared_of items) w t at → (x : Declarator × Option Init) → (m : ℕ)
    → FoundOne w o t at (declared_one x).0 (declared_one x).1 m → OnlyOne o w t at (declared_one x).0 (declared_one x).1 m
    → (w' : Words) → w' ≡ past w t (declared_one x).0 → more ≡ items ++ x ∷ [] → kind_at w'.kinds m ≡ Comma → m < length w'.kinds
    → Listing o w0 s start (declared_of more) w' (freely t) (m + 1)
code_turn o w0 s start items more w t at loop x m found only w' by e c here =
    subst
    (λ ds. Listing o w0 s start ds w' (freely t) (m + 1))
    (sym (code_more items more x e))
    (reading_turn o w0 s start (declared_of items) w t at loop (declared_one x).0 (declared_one x).1 m found only w' by c here)

pub code_found : (o : ℕ) → (w0 : Words) → (s : Leading) → (start : ℕ) → (items more : List (Declarator × Option Init)) → (w : Words) → (t : Leading) → (at : ℕ)
    → Listing o w0 s start (declared_of items) w t at → (x : Declarator × Option Init) → (m : ℕ)
    → FoundOne w o t at (declared_one x).0 (declared_one x).1 m → more ≡ items ++ x ∷ [] → FoundAll w0 o s start (declared_of more) m
code_found o w0 s start items more w t at loop x m found e =
    subst
    (λ ds. FoundAll w0 o s start ds m)
    (sym (code_more items more x e))
    (all_found o w0 s start (declared_of items) w t at loop (declared_one x).0 (declared_one x).1 m found)

pub code_past : (o : ℕ) → (w0 : Words) → (s : Leading) → (start : ℕ) → (items more : List (Declarator × Option Init)) → (w : Words) → (t : Leading) → (at : ℕ)
    → Listing o w0 s start (declared_of items) w t at → (x : Declarator × Option Init) → (w' : Words) → w' ≡ past w t (declared_one x).0
    → more ≡ items ++ x ∷ [] → w' ≡ past_all w0 s (declared_of more)
code_past o w0 s start items more w t at loop x w' by e =
    by ∙ loop.behind (declared_one x ∷ []) ∙ ap (past_all w0 s) (sym (code_more items more x e))

pub code_same : (o : ℕ) → (w0 : Words) → (s : Leading) → (start : ℕ) → (items more : List (Declarator × Option Init)) → (w : Words) → (t : Leading) → (at : ℕ)
    → Listing o w0 s start (declared_of items) w t at → (x : Declarator × Option Init) → (m : ℕ)
    → OnlyOne o w t at (declared_one x).0 (declared_one x).1 m → (w' : Words) → w' ≡ past w t (declared_one x).0 → more ≡ items ++ x ∷ []
    → (kind_at w'.kinds m ≡ Comma → ⊥) → OnlyAll o w0 s start (declared_of more) m
code_same o w0 s start items more w t at loop x m only w' by e n =
    let all : w'.kinds ≡ w0.kinds = ap (λ y. y.kinds) by ∙ past_kinds w t (declared_one x).0 ∙ loop.same in
    subst
    (λ ds. OnlyAll o w0 s start ds m)
    (sym (code_more items more x e))
    (all_same o w0 s start (declared_of items) w t at loop (declared_one x).0 (declared_one x).1 m only (λ k. n (ap (λ y. kind_at y m) all ∙ k)))
