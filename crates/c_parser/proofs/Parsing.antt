-- What a call of the parser found is the only tree there; where a part has none, the whole has none.
use Rattle.std.proofs.Common.{◌≡◌, refl, ap, sym, ◌∙◌, subst, ℕ, ◌+◌, ◌<◌, ◌≤◌, List, [], ◌∷◌, ◌++◌, length, arith, true, false, true≢false, append_assoc, append-nil, Bool, ◌&&◌}
use Rattle.tree_data.specs.Trees.{Naming, Tree, Name_of, Constant_of, Text_of, Paren_of, Postfix_of, Binary_of, Behind, Operand_of, Index_of, Call_of, Call_with_of, Member_of, Step_of, Behinds, None_behind, Behind_then, behinds}
use Rattle.c_parser.specs.declared.answers.Stop.{Stop}
use Rattle.c_parser.specs.declared.kinds.Kind.{Kind}
use Rattle.c_parser.specs.declared.kinds.Kind.TheVariants.{Identifier, Constant, Text, OpenParen, CloseParen, OpenBracket, CloseBracket, Step, Generic, OffsetOf}
use Rattle.c_parser.specs.Joining.{followed}
use Rattle.c_parser.specs.Kinds.{kind_at, level_at, is_word, is_size, is_member, is_opening, starts_type, type_at, size_at}
use Rattle.c_parser.specs.Levels.{IsBinary, behinds_level, rank}
use Rattle.c_parser.specs.Reading.{HoldsType, HoldTexts, HoldsBehind, HoldBehinds, Reads, Stops, Found, FoundTexts, FoundBehind, FoundBehinds, IsWant}
use Rattle.c_parser.specs.Grammar.{goes_on}
use Rattle.c_parser.proofs.Marks.{clash}
use Rattle.c_parser.proofs.Types.{type_starts}
use Rattle.c_parser.proofs.SameParts.{Only, OnlyBehinds, any_stop, closed, index_closes}
use Rattle.c_parser.proofs.Uniqueness.{reads_only, behinds_only, behind_only}
use Rattle.c_parser.proofs.Views.{lowered, loosely, Following, Primary, a_name, a_constant, a_text, a_paren, a_size, a_compound, a_generic, an_offset, primary_view, index_view, Calling, no_arguments, arguments, call_view, member_view, operand_view, begins}

-- no tree of this level, whose call gave e, but for want of memory
abbrev pub Fails : List Kind → ℕ → ℕ → Stop → Type 0
Fails ks n a e = (t : Tree) → (b : ℕ) → Reads ks n t a b → Stops ks n b → IsWant e

abbrev pub FailsBehind : List Kind → ℕ → ℕ → Stop → Type 0
FailsBehind ks l a e = (x : Behind) → (b : ℕ) → HoldsBehind ks l x a b → Stops ks (l + 1) b → IsWant e

abbrev pub FailsBehinds : List Kind → ℕ → ℕ → Stop → Type 0
FailsBehinds ks l a e = (xs : Behinds) → (b : ℕ) → HoldBehinds ks l xs a b → Stops ks l b → IsWant e

both_true : (p q : Bool) → p ≡ true → q ≡ true → (p && q) ≡ true
both_true true q h g = g
both_true false q h g = absurd (true≢false (sym h))

pub found_only : (ks : List Kind) → (n a : ℕ) → (t : Tree) → (b : ℕ) → 1 ≤ n → Found ks n a t b → Only ks n a t b
found_only ks n a t b low f = reads_only ks n t a b low f.reads f.stops

pub found_behinds_only : (ks : List Kind) → (l a : ℕ) → (xs : Behinds) → (b : ℕ) → FoundBehinds ks l a xs b → OnlyBehinds ks l a xs b
found_behinds_only ks l a xs b f = behinds_only ks l xs a b f.reads f.stops

pub found_behind_only : (ks : List Kind) → (a : ℕ) → (x : Behind) → (b : ℕ) → FoundBehind ks 16 a x b
    → (x' : Behind) → (b' : ℕ) → HoldsBehind ks 16 x' a b' → (x ≡ x') × (b ≡ b')
found_behind_only ks a x b f x' b' h = behind_only ks 16 x a b f.reads f.stops x' b' h (any_stop ks b')

-- an expression with what goes on behind it
pub first_fails : (ks : List Kind) → (l a : ℕ) → (make : Tree → Behinds → Tree) → (e : Stop)
    → ((t : Tree) → (b : ℕ) → Reads ks l t a b → Following ks l make t a b)
    → Fails ks (l + 1) a e → Fails ks l a e
first_fails ks l a make e view fails t b h s =
    let v = view t b h in
    fails v.first v.behind v.reads (loosely ks l v.more v.behind b v.goes s)

pub more_fails : (ks : List Kind) → (l a : ℕ) → (make : Tree → Behinds → Tree) → (e : Stop)
    → ((t : Tree) → (b : ℕ) → Reads ks l t a b → Following ks l make t a b)
    → (f : Tree) → (m : ℕ) → Found ks (l + 1) a f m → FailsBehinds ks l m e → Fails ks l a e
more_fails ks l a make e view f m found fails t b h s =
    let v = view t b h in
    let one =
    found_only ks (l + 1) a f m (omega arith) found v.first v.behind v.reads (loosely ks l v.more v.behind b v.goes s) in
    fails v.more b (subst (λ k. HoldBehinds ks l v.more k b) (sym one.1) v.goes) s

-- the level of what goes on is that of its first token
begins_with : (ks : List Kind) → (l : ℕ) → (x : Behind) → (xs : Behinds) → (a m : ℕ) → HoldsBehind ks l x a m
    → behinds_level ks (Behind_then x xs) ≡ l
begins_with ks l (Operand_of o t) xs a m h = ap (λ k. level_at ks k) h.1 ∙ h.2
begins_with ks l (Index_of o t c) xs a m h = sym h.0
begins_with ks l (Call_of o c) xs a m h = sym h.0
begins_with ks l (Call_with_of o t bs c) xs a m h = sym h.1
begins_with ks l (Member_of o n) xs a m h = sym h.0
begins_with ks l (Step_of o) xs a m h = sym h.0

binary_made : (ks : List Kind) → (l a : ℕ) → IsBinary l → (f : Tree) → (m : ℕ) → (xs : Behinds) → (b : ℕ)
    → Reads ks (l + 1) f a m → HoldBehinds ks l xs m b → Reads ks l (followed Binary_of f xs) a b
binary_made ks l a i f m None_behind b h g =
    subst (λ x. Reads ks l f a x) (sym g) (lowered ks l (l + 1) f a m (omega arith) h)
binary_made ks l a i f m (Behind_then x xs) b h g =
    let same = begins_with ks l x xs m g.0 g.1 in
    let le : l ≤ behinds_level ks (Behind_then x xs) = omega (arith, same) in (
      le,
      (
        m,
        tt,
        subst IsBinary (sym same) i,
        subst (λ k. k + 1 ≤ rank ks f) (sym same) h.0,
        h.1,
        subst (λ k. HoldBehinds ks k (Behind_then x xs) m b) (sym same) g,
      ),
    )

postfix_made : (ks : List Kind) → (a : ℕ) → (f : Tree) → (m : ℕ) → (xs : Behinds) → (b : ℕ)
    → (level_at ks m ≡ 16 → goes_on f ≡ true) → Reads ks 17 f a m → HoldBehinds ks 16 xs m b → Reads ks 16 (followed Postfix_of f xs) a b
postfix_made ks a f m None_behind b fit h g =
    subst (λ x. Reads ks 16 f a x) (sym g) (lowered ks 16 17 f a m (omega arith) h)
postfix_made ks a f m (Behind_then x xs) b fit h g =
    (omega arith, (m, tt, h.0, h.1, g, fit (begins ks 16 x m g.0 g.1)))

pub binary_found : (ks : List Kind) → (l a : ℕ) → IsBinary l → (f : Tree) → (m : ℕ) → (xs : Behinds) → (b : ℕ)
    → Found ks (l + 1) a f m → FoundBehinds ks l m xs b → Found ks l a (followed Binary_of f xs) b
binary_found ks l a i f m xs b x y =
    let one : a < m = x.forth in
    let two : m ≤ b = y.forth in
    record { reads = binary_made ks l a i f m xs b x.reads y.reads; stops = y.stops; forth = omega arith; inside = y.inside }

pub postfix_found : (ks : List Kind) → (a : ℕ) → (f : Tree) → (m : ℕ) → (xs : Behinds) → (b : ℕ)
    → (level_at ks m ≡ 16 → goes_on f ≡ true) → Found ks 17 a f m → FoundBehinds ks 16 m xs b → Found ks 16 a (followed Postfix_of f xs) b
postfix_found ks a f m xs b fit x y =
    let one : a < m = x.forth in
    let two : m ≤ b = y.forth in
    record {
      reads = postfix_made ks a f m xs b fit x.reads y.reads;
      stops = y.stops;
      forth = omega arith;
      inside = y.inside;
    }

-- what the loop over things behind keeps
pub record Tail (ks : List Kind) (l : ℕ) (done : List Behind) (at : ℕ) (xs : Behinds) (b : ℕ) : Type 0 where
  pub left : Behinds
  pub is : xs ≡ behinds done left
  pub holds : HoldBehinds ks l left at b

pub record Loop (ks : List Kind) (l start : ℕ) (done : List Behind) (at : ℕ) : Type 0 where
  pub grows : (xs : Behinds) → (b : ℕ) → HoldBehinds ks l xs at b → HoldBehinds ks l (behinds done xs) start b
  pub only : (xs : Behinds) → (b : ℕ) → HoldBehinds ks l xs start b → Stops ks l b → Tail ks l done at xs b
  pub loose : Stops ks (l + 1) at
  pub forth : start ≤ at
  pub inside : at ≤ length ks

pub loop_starts : (ks : List Kind) → (l at : ℕ) → Stops ks (l + 1) at → at ≤ length ks → Loop ks l at [] at
loop_starts ks l at s i = record {
  grows = λ xs b h. h;
  only = λ xs b h s'. record { left = xs; is = refl; holds = h };
  loose = s;
  forth = omega arith;
  inside = i;
}

behinds_snoc : (done : List Behind) → (x : Behind) → (more : Behinds) → behinds (done ++ x ∷ []) more ≡ behinds done (Behind_then x more)
behinds_snoc [] x more = refl
behinds_snoc (y ∷ ys) x more = ap (Behind_then y) (behinds_snoc ys x more)

nothing_left : {A : Type 0} → (ks : List Kind) → (l at b : ℕ) → level_at ks at ≡ l → b ≡ at → Stops ks l b → A
nothing_left ks l at b same e s =
    let here : level_at ks at < l = subst (λ x. level_at ks x < l) e s in
    absurd (omega arith)

left_turns : (ks : List Kind) → (l : ℕ) → (done : List Behind) → (at : ℕ) → (x : Behind) → (m : ℕ) → (xs left : Behinds) → (b : ℕ)
    → level_at ks at ≡ l → FoundBehind ks l at x m
    → xs ≡ behinds done left → HoldBehinds ks l left at b → Stops ks l b
    → Tail ks l (done ++ x ∷ []) m xs b
left_turns ks l done at x m xs None_behind b same found is holds s = nothing_left ks l at b same holds s
left_turns ks l done at x m xs (Behind_then x' left) b same found is holds s =
    let one = behind_only ks l x at m found.reads found.stops x' holds.0 holds.1 (loosely ks l left holds.0 b holds.2 s) in
    record {
      left = left;
      is = is ∙ ap (λ y. behinds done (Behind_then y left)) (sym one.0) ∙ sym (behinds_snoc done x left);
      holds = subst (λ y. HoldBehinds ks l left y b) (sym one.1) holds.2;
    }

pub loop_turns : (ks : List Kind) → (l start : ℕ) → (done : List Behind) → (at : ℕ) → (x : Behind) → (m : ℕ)
    → Loop ks l start done at → level_at ks at ≡ l → FoundBehind ks l at x m → Loop ks l start (done ++ x ∷ []) m
loop_turns ks l start done at x m loop same found =
    let forth : start ≤ at = loop.forth in
    let more : at < m = found.forth in
    record {
      grows = λ xs b h.
          subst
          (λ y. HoldBehinds ks l y start b)
          (sym (behinds_snoc done x xs))
          (loop.grows (Behind_then x xs) b (m, found.reads, h));
      only = λ xs b h s.
          let tail = loop.only xs b h s in
          left_turns ks l done at x m xs tail.left b same found tail.is tail.holds s;
      loose = found.stops;
      forth = omega arith;
      inside = found.inside;
    }

pub loop_ends : (ks : List Kind) → (l start : ℕ) → (done : List Behind) → (at : ℕ)
    → Loop ks l start done at → (level_at ks at ≡ l → ⊥) → FoundBehinds ks l start (behinds done None_behind) at
loop_ends ks l start done at loop ne =
    let loose : level_at ks at < l + 1 = loop.loose in
    record { reads = loop.grows None_behind at refl; stops = omega arith; forth = loop.forth; inside = loop.inside }

left_fails : (ks : List Kind) → (l at : ℕ) → (left : Behinds) → (b : ℕ) → (e : Stop) → level_at ks at ≡ l
    → FailsBehind ks l at e → HoldBehinds ks l left at b → Stops ks l b → IsWant e
left_fails ks l at None_behind b e same fails holds s = nothing_left ks l at b same holds s
left_fails ks l at (Behind_then x left) b e same fails holds s =
    fails x holds.0 holds.1 (loosely ks l left holds.0 b holds.2 s)

pub loop_fails : (ks : List Kind) → (l start : ℕ) → (done : List Behind) → (at : ℕ) → (e : Stop)
    → Loop ks l start done at → level_at ks at ≡ l → FailsBehind ks l at e → FailsBehinds ks l start e
loop_fails ks l start done at e loop same fails xs b h s =
    let tail = loop.only xs b h s in
    left_fails ks l at tail.left b e same fails tail.holds s

pub operand_found : (ks : List Kind) → (l at : ℕ) → IsBinary l → (t : Tree) → (m : ℕ) → level_at ks at ≡ l → Found ks (l + 1) (at + 1) t m
    → FoundBehind ks l at (Operand_of at t) m
operand_found ks l at i t m same found =
    let more : at + 1 < m = found.forth in
    record {
      reads = (i, refl, same, found.reads.0, found.reads.1);
      stops = found.stops;
      forth = omega arith;
      inside = found.inside;
    }

pub operand_fails : (ks : List Kind) → (l at : ℕ) → IsBinary l → (e : Stop) → Fails ks (l + 1) (at + 1) e → FailsBehind ks l at e
operand_fails ks l at i e fails x b h s =
    let v = operand_view ks l x at b i h in
    fails v.operand b v.reads s

-- postfix operators
pub index_found : (ks : List Kind) → (at : ℕ) → kind_at ks at ≡ OpenBracket → (t : Tree) → (c : ℕ) → Found ks 1 (at + 1) t c
    → kind_at ks c ≡ CloseBracket → c < length ks → FoundBehind ks 16 at (Index_of at t c) (c + 1)
index_found ks at k t c found l i =
    let more : at + 1 < c = found.forth in
    record {
      reads = (refl, refl, k, found.reads.0, found.reads.1, l, refl);
      stops = any_stop ks (c + 1);
      forth = omega arith;
      inside = omega arith;
    }

pub index_fails : (ks : List Kind) → (at : ℕ) → kind_at ks at ≡ OpenBracket → (e : Stop) → Fails ks 1 (at + 1) e
    → (x : Behind) → (b : ℕ) → HoldsBehind ks 16 x at b → IsWant e
index_fails ks at k e fails x b h =
    let v = index_view ks x at b k h in
    fails v.inner v.closing v.reads (index_closes ks v.closing v.closes)

pub index_left_open : (ks : List Kind) → (at : ℕ) → kind_at ks at ≡ OpenBracket → (t : Tree) → (c : ℕ) → (last : Kind)
    → Found ks 1 (at + 1) t c → last ≡ kind_at ks c → (last ≡ CloseBracket → ⊥)
    → (x : Behind) → (b : ℕ) → HoldsBehind ks 16 x at b → ⊥
index_left_open ks at k t c last found e not x b h =
    let v = index_view ks x at b k h in
    let one = found_only ks 1 (at + 1) t c (omega arith) found v.inner v.closing v.reads (index_closes ks v.closing v.closes) in
    not (e ∙ ap (λ y. kind_at ks y) one.1 ∙ v.closes)

pub empty_found : (ks : List Kind) → (at : ℕ) → kind_at ks at ≡ OpenParen → kind_at ks (at + 1) ≡ CloseParen → at + 1 < length ks
    → FoundBehind ks 16 at (Call_of at (at + 1)) (at + 2)
empty_found ks at k l i =
    let e : at + 2 ≡ (at + 1) + 1 = omega arith in
    record {
      reads = (refl, refl, k, refl, l, e);
      stops = any_stop ks (at + 2);
      forth = omega arith;
      inside = omega arith;
    }

pub call_found : (ks : List Kind) → (at : ℕ) → kind_at ks at ≡ OpenParen → (t : Tree) → (m : ℕ) → (xs : Behinds) → (c : ℕ)
    → Found ks 2 (at + 1) t m → FoundBehinds ks 1 m xs c → kind_at ks c ≡ CloseParen → c < length ks
    → FoundBehind ks 16 at (Call_with_of at t xs c) (c + 1)
call_found ks at k t m xs c x y l i =
    let one : at + 1 < m = x.forth in
    let two : m ≤ c = y.forth in
    record {
      reads = (m, refl, refl, k, x.reads.0, x.reads.1, y.reads, l, refl);
      stops = any_stop ks (c + 1);
      forth = omega arith;
      inside = omega arith;
    }

call_first : (ks : List Kind) → (at : ℕ) → (k : Kind) → k ≡ kind_at ks (at + 1) → (k ≡ CloseParen → ⊥) → (e : Stop) → Fails ks 2 (at + 1) e
    → (x : Behind) → (b : ℕ) → Calling ks x at b → IsWant e
call_first ks at k e not r fails x b (no_arguments f l g) = absurd (not (e ∙ l))
call_first ks at k e not r fails x b (arguments t m bs c f h g l i) = fails t m h (loosely ks 1 bs m c g (closed ks c l))

pub call_first_fails : (ks : List Kind) → (at : ℕ) → kind_at ks at ≡ OpenParen → (k : Kind) → k ≡ kind_at ks (at + 1) → (k ≡ CloseParen → ⊥)
    → (e : Stop) → Fails ks 2 (at + 1) e → (x : Behind) → (b : ℕ) → HoldsBehind ks 16 x at b → IsWant e
call_first_fails ks at o k f not e fails x b h = call_first ks at k f not e fails x b (call_view ks x at b o h)

call_more : (ks : List Kind) → (at : ℕ) → (k : Kind) → k ≡ kind_at ks (at + 1) → (k ≡ CloseParen → ⊥) → (t : Tree) → (m : ℕ)
    → Found ks 2 (at + 1) t m → (e : Stop) → FailsBehinds ks 1 m e → (x : Behind) → (b : ℕ) → Calling ks x at b → IsWant e
call_more ks at k e not t m found r fails x b (no_arguments f l g) = absurd (not (e ∙ l))
call_more ks at k e not t m found r fails x b (arguments t' m' bs c f h g l i) =
    let end = closed ks c l in
    let one = found_only ks 2 (at + 1) t m (omega arith) found t' m' h (loosely ks 1 bs m' c g end) in
    fails bs c (subst (λ y. HoldBehinds ks 1 bs y c) (sym one.1) g) end

pub call_more_fails : (ks : List Kind) → (at : ℕ) → kind_at ks at ≡ OpenParen → (k : Kind) → k ≡ kind_at ks (at + 1) → (k ≡ CloseParen → ⊥)
    → (t : Tree) → (m : ℕ) → Found ks 2 (at + 1) t m → (e : Stop) → FailsBehinds ks 1 m e
    → (x : Behind) → (b : ℕ) → HoldsBehind ks 16 x at b → IsWant e
call_more_fails ks at o k f not t m found e fails x b h = call_more ks at k f not t m found e fails x b (call_view ks x at b o h)

call_open : (ks : List Kind) → (at : ℕ) → (k : Kind) → k ≡ kind_at ks (at + 1) → (k ≡ CloseParen → ⊥) → (t : Tree) → (m : ℕ) → (xs : Behinds)
    → (c : ℕ) → (last : Kind) → Found ks 2 (at + 1) t m → FoundBehinds ks 1 m xs c → last ≡ kind_at ks c → (last ≡ CloseParen → ⊥)
    → (x : Behind) → (b : ℕ) → Calling ks x at b → ⊥
call_open ks at k e not t m xs c last found more e' not' x b (no_arguments f l g) = not (e ∙ l)
call_open ks at k e not t m xs c last found more e' not' x b (arguments t' m' bs c' f h g l i) =
    let end = closed ks c' l in
    let one = found_only ks 2 (at + 1) t m (omega arith) found t' m' h (loosely ks 1 bs m' c' g end) in
    let two = found_behinds_only ks 1 m xs c more bs c' (subst (λ y. HoldBehinds ks 1 bs y c') (sym one.1) g) end in
    not' (e' ∙ ap (λ y. kind_at ks y) two.1 ∙ l)

pub call_left_open : (ks : List Kind) → (at : ℕ) → kind_at ks at ≡ OpenParen → (k : Kind) → k ≡ kind_at ks (at + 1) → (k ≡ CloseParen → ⊥)
    → (t : Tree) → (m : ℕ) → (xs : Behinds) → (c : ℕ) → (last : Kind) → Found ks 2 (at + 1) t m → FoundBehinds ks 1 m xs c
    → last ≡ kind_at ks c → (last ≡ CloseParen → ⊥) → (x : Behind) → (b : ℕ) → HoldsBehind ks 16 x at b → ⊥
call_left_open ks at o k f not t m xs c last found more e not' x b h =
    call_open ks at k f not t m xs c last found more e not' x b (call_view ks x at b o h)

pub member_found : (ks : List Kind) → (at : ℕ) → is_member (kind_at ks at) ≡ true → is_word (kind_at ks (at + 1)) ≡ true → at + 1 < length ks
    → FoundBehind ks 16 at (Member_of at (at + 1)) (at + 2)
member_found ks at k w i =
    let e : at + 2 ≡ (at + 1) + 1 = omega arith in
    record {
      reads = (refl, refl, k, refl, w, e);
      stops = any_stop ks (at + 2);
      forth = omega arith;
      inside = omega arith;
    }

pub member_unnamed : (ks : List Kind) → (at : ℕ) → is_member (kind_at ks at) ≡ true → is_word (kind_at ks (at + 1)) ≡ false
    → (x : Behind) → (b : ℕ) → HoldsBehind ks 16 x at b → ⊥
member_unnamed ks at k w x b h =
    let v = member_view ks x at b k h in
    true≢false (sym v.word ∙ w)

pub step_found : (ks : List Kind) → (at : ℕ) → kind_at ks at ≡ Step → at < length ks → FoundBehind ks 16 at (Step_of at) (at + 1)
step_found ks at k i = record {
  reads = (refl, refl, k, refl);
  stops = any_stop ks (at + 1);
  forth = omega arith;
  inside = omega arith;
}

-- primary expressions
pub name_found : (ks : List Kind) → (at : ℕ) → Identifier ≡ kind_at ks at → at < length ks → Found ks 17 at (Name_of at) (at + 1)
name_found ks at k i = record {
  reads = (omega arith, (refl, sym k, refl));
  stops = any_stop ks (at + 1);
  forth = omega arith;
  inside = omega arith;
}

pub constant_found : (ks : List Kind) → (at : ℕ) → Constant ≡ kind_at ks at → at < length ks → Found ks 17 at (Constant_of at) (at + 1)
constant_found ks at k i = record {
  reads = (omega arith, (refl, sym k, refl));
  stops = any_stop ks (at + 1);
  forth = omega arith;
  inside = omega arith;
}

texts_forth : (ks : List Kind) → (ns : List ℕ) → (a b : ℕ) → HoldTexts ks ns a b → a ≤ b
texts_forth ks [] a b h = omega (arith, h.0)
texts_forth ks (n ∷ ns) a b h = omega (arith, texts_forth ks ns (a + 1) b h.2)

text_forth : (ks : List Kind) → (ns : List ℕ) → (a b : ℕ) → kind_at ks a ≡ Text → a ≤ b → HoldTexts ks ns a b → a < b
text_forth ks [] a b k le h = absurd (h.1 k)
text_forth ks (n ∷ ns) a b k le h = omega (arith, texts_forth ks ns (a + 1) b h.2)

pub text_found : (ks : List Kind) → (at : ℕ) → (ns : List ℕ) → (b : ℕ) → kind_at ks at ≡ Text → FoundTexts ks at ns b
    → Found ks 17 at (Text_of ns) b
text_found ks at ns b k f = record {
  reads = (omega arith, (k, f.reads));
  stops = any_stop ks b;
  forth = text_forth ks ns at b k f.forth f.reads;
  inside = f.inside;
}

pub paren_found : (ks : List Kind) → (at : ℕ) → kind_at ks at ≡ OpenParen → (t : Tree) → (c : ℕ) → Found ks 1 (at + 1) t c
    → kind_at ks c ≡ CloseParen → c < length ks → Found ks 17 at (Paren_of at t c) (c + 1)
paren_found ks at k t c found l i =
    let more : at + 1 < c = found.forth in
    record {
      reads = (omega arith, (refl, k, found.reads.0, found.reads.1, l, refl));
      stops = any_stop ks (c + 1);
      forth = omega arith;
      inside = omega arith;
    }

-- the tests of what stands there
pub typed_here : (ks : List Kind) → (y : Naming) → (a c : ℕ) → kind_at ks a ≡ OpenParen → HoldsType ks y (a + 1) c → type_at ks a ≡ true
unfolding type_at
typed_here ks y a c k h =
    both_true (is_opening (kind_at ks a)) (starts_type (kind_at ks (a + 1))) (ap is_opening k) (type_starts ks y (a + 1) c h)

pub sized_here : (ks : List Kind) → (y : Naming) → (a c : ℕ) → is_size (kind_at ks a) ≡ true → kind_at ks (a + 1) ≡ OpenParen
    → HoldsType ks y (a + 2) c → size_at ks a ≡ true
unfolding size_at
sized_here ks y a c s k h =
    let two : a + 2 ≡ (a + 1) + 1 = omega arith in
    both_true (is_size (kind_at ks a)) (type_at ks (a + 1)) s (typed_here ks y (a + 1) c k (subst (λ x. HoldsType ks y x c) two h))

-- in parentheses stands an expression
record Enclosed (ks : List Kind) (a b : ℕ) : Type 0 where
  inner : Tree
  closing : ℕ
  reads : Reads ks 1 inner (a + 1) closing
  closes : kind_at ks closing ≡ CloseParen

enclosed : (ks : List Kind) → (t : Tree) → (a b : ℕ) → kind_at ks a ≡ OpenParen → type_at ks a ≡ false → Primary ks t a b → Enclosed ks a b
enclosed ks t a b k n (a_name e k' f) = clash (kind_at ks a) OpenParen Identifier k k' (λ x. omega (arith, x))
enclosed ks t a b k n (a_constant e k' f) = clash (kind_at ks a) OpenParen Constant k k' (λ x. omega (arith, x))
enclosed ks t a b k n (a_text ns e k' f) = clash (kind_at ks a) OpenParen Text k k' (λ x. omega (arith, x))
enclosed ks t a b k n (a_size y c e k' o h l f u) = absurd (true≢false (sym k' ∙ ap is_size k))
enclosed ks t a b k n (a_paren u c e k' r l f) = record { inner = u; closing = c; reads = r; closes = l }
enclosed ks t a b k n (a_compound y c i e k' h l g) = absurd (true≢false (sym (typed_here ks y a c k' h) ∙ n))
enclosed ks t a b k n (a_generic k' v) = clash (kind_at ks a) OpenParen Generic k k' (λ x. omega (arith, x))
enclosed ks t a b k n (an_offset k' v) = clash (kind_at ks a) OpenParen OffsetOf k k' (λ x. omega (arith, x))

pub paren_fails : (ks : List Kind) → (at : ℕ) → kind_at ks at ≡ OpenParen → type_at ks at ≡ false → (e : Stop) → Fails ks 1 (at + 1) e → Fails ks 17 at e
paren_fails ks at k n e fails t b h s =
    let v = enclosed ks t at b k n (primary_view ks t at b h) in
    fails v.inner v.closing v.reads (closed ks v.closing v.closes)

pub paren_left_open : (ks : List Kind) → (at : ℕ) → kind_at ks at ≡ OpenParen → type_at ks at ≡ false → (u : Tree) → (c : ℕ) → (last : Kind)
    → Found ks 1 (at + 1) u c → last ≡ kind_at ks c → (last ≡ CloseParen → ⊥)
    → (t : Tree) → (b : ℕ) → Reads ks 17 t at b → Stops ks 17 b → ⊥
paren_left_open ks at k n u c last found e not t b h s =
    let v = enclosed ks t at b k n (primary_view ks t at b h) in
    let one = found_only ks 1 (at + 1) u c (omega arith) found v.inner v.closing v.reads (closed ks v.closing v.closes) in
    not (e ∙ ap (λ y. kind_at ks y) one.1 ∙ v.closes)

other_first : (ks : List Kind) → (at : ℕ) → (k : Kind) → k ≡ kind_at ks at → size_at ks at ≡ false → (k ≡ Identifier → ⊥) → (k ≡ Constant → ⊥)
    → (k ≡ Text → ⊥) → (k ≡ OpenParen → ⊥) → (k ≡ Generic → ⊥) → (k ≡ OffsetOf → ⊥) → (t : Tree) → (b : ℕ) → Primary ks t at b → ⊥
other_first ks at k e n w x y z p q t b (a_name e' k' f) = w (e ∙ k')
other_first ks at k e n w x y z p q t b (a_constant e' k' f) = x (e ∙ k')
other_first ks at k e n w x y z p q t b (a_text ns e' k' f) = y (e ∙ k')
other_first ks at k e n w x y z p q t b (a_paren i c e' k' r l f) = z (e ∙ k')
other_first ks at k e n w x y z p q t b (a_size i c e' k' o h l f u) = true≢false (sym (sized_here ks i at c k' o h) ∙ n)
other_first ks at k e n w x y z p q t b (a_compound i c j e' k' h l g) = z (e ∙ k')
other_first ks at k e n w x y z p q t b (a_generic k' v) = p (e ∙ k')
other_first ks at k e n w x y z p q t b (an_offset k' v) = q (e ∙ k')

pub other_fails : (ks : List Kind) → (at : ℕ) → (k : Kind) → k ≡ kind_at ks at → size_at ks at ≡ false → (k ≡ Identifier → ⊥) → (k ≡ Constant → ⊥)
    → (k ≡ Text → ⊥) → (k ≡ OpenParen → ⊥) → (k ≡ Generic → ⊥) → (k ≡ OffsetOf → ⊥) → (t : Tree) → (b : ℕ) → Reads ks 17 t at b → Stops ks 17 b → ⊥
other_fails ks at k e n w x y z p q t b h s = other_first ks at k e n w x y z p q t b (primary_view ks t at b h)

-- what the loop over string literals keeps
pub record Pieces (ks : List Kind) (start : ℕ) (done : List ℕ) (at : ℕ) : Type 0 where
  pub grows : (ns : List ℕ) → (b : ℕ) → HoldTexts ks ns at b → HoldTexts ks (done ++ ns) start b
  pub forth : start ≤ at
  pub inside : at ≤ length ks

pub pieces_start : (ks : List Kind) → (at : ℕ) → at ≤ length ks → Pieces ks at [] at
pieces_start ks at i = record { grows = λ ns b h. h; forth = omega arith; inside = i }

pub pieces_turn : (ks : List Kind) → (start : ℕ) → (done : List ℕ) → (at : ℕ) → Pieces ks start done at → kind_at ks at ≡ Text
    → at < length ks → Pieces ks start (done ++ at ∷ []) (at + 1)
pieces_turn ks start done at loop k i =
    let forth : start ≤ at = loop.forth in
    record {
      grows = λ ns b h.
          subst (λ xs. HoldTexts ks xs start b) (sym (append_assoc done (at ∷ []) ns)) (loop.grows (at ∷ ns) b (refl, k, h));
      forth = omega arith;
      inside = omega arith;
    }

pub pieces_end : (ks : List Kind) → (start : ℕ) → (done : List ℕ) → (at : ℕ) → Pieces ks start done at → (kind_at ks at ≡ Text → ⊥)
    → FoundTexts ks start done at
pieces_end ks start done at loop not = record {
  reads = subst (λ xs. HoldTexts ks xs start at) (append-nil done) (loop.grows [] at (refl, not));
  forth = loop.forth;
  inside = loop.inside;
}
