-- What stands in front of an expression: unary operators, tests with `?`, places with an assignment operator.
use Rattle.std.proofs.Common.{◌≡◌, refl, ap, sym, ◌∙◌, subst, ℕ, ◌+◌, ◌<◌, ◌≤◌, List, [], ◌∷◌, ◌++◌, length, arith, true, false, true≢false}
use Rattle.tree_data.specs.Trees.{Tree, Name_of, Constant_of, Text_of, Paren_of, Postfix_of, Unary_of, Binary_of, Conditional_of, Assign_of, Front, Operator_of, Choice_of, Left_of, Fronts, None_before, Front_then, fronts, is_unary, Of_type, Cast_of, Compound_of, Generic_of, Offset_of}
use Rattle.c_parser.specs.declared.answers.Stop.{Stop}
use Rattle.c_parser.specs.declared.kinds.Kind.{Kind}
use Rattle.c_parser.specs.declared.kinds.Kind.TheVariants.{Question, Colon}
use Rattle.c_parser.specs.Joining.{preceded}
use Rattle.c_parser.specs.Kinds.{kind_at, level_at}
use Rattle.c_parser.specs.Levels.{behinds_level, rank}
use Rattle.c_parser.specs.Reading.{HoldFronts, Reads, Stops, Found, IsWant, FoundFront, FoundPrefixes}
use Rattle.c_parser.proofs.SameParts.{below}
use Rattle.c_parser.proofs.Uniqueness.{front_only}
use Rattle.c_parser.proofs.Marks.{leveled, level_gap, stops_at, not_question}
use Rattle.c_parser.proofs.Parsing.{Fails, found_only}
use Rattle.c_parser.proofs.Views.{lowered, looser, conditional_view, assign_view, prefixed_view, choice_view, left_view, fronts_low}

pub fronts_snoc : (done : List Front) → (x : Front) → (more : Fronts) → fronts (done ++ x ∷ []) more ≡ fronts done (Front_then x more)
fronts_snoc [] x more = refl
fronts_snoc (y ∷ ys) x more = ap (Front_then y) (fronts_snoc ys x more)

-- what the loops over tests and over places keep
pub record Ahead (ks : List Kind) (l : ℕ) (done : List Front) (at : ℕ) (xs : Fronts) (m : ℕ) : Type 0 where
  pub left : Fronts
  pub is : xs ≡ fronts done left
  pub holds : HoldFronts ks l left at m

pub record Fore (ks : List Kind) (l start : ℕ) (done : List Front) (at : ℕ) : Type 0 where
  pub grows : (xs : Fronts) → (m : ℕ) → HoldFronts ks l xs at m → HoldFronts ks l (fronts done xs) start m
  pub only : (xs : Fronts) → (m : ℕ) → (t : Tree) → (b : ℕ) → HoldFronts ks l xs start m → Reads ks (l + 1) t m b → Stops ks l b
      → Ahead ks l done at xs m
  pub forth : start ≤ at
  pub inside : at ≤ length ks

pub fore_starts : (ks : List Kind) → (l at : ℕ) → at ≤ length ks → Fore ks l at [] at
fore_starts ks l at i = record {
  grows = λ xs m h. h;
  only = λ xs m t b h r s. record { left = xs; is = refl; holds = h };
  forth = omega arith;
  inside = i;
}

left_turns_by : (ks : List Kind) → (l : ℕ) → (done : List Front) → (at : ℕ) → (x : Front) → (k : ℕ) → FoundFront ks l at x k
    → (xs left : Fronts) → (m : ℕ) → (t : Tree) → (b : ℕ) → xs ≡ fronts done left → HoldFronts ks l left at m → Reads ks (l + 1) t m b
    → Stops ks l b → Ahead ks l (done ++ x ∷ []) k xs m
left_turns_by ks l done at x k found xs None_before m t b is h r s =
    absurd (found.bare t b (subst (λ y. Reads ks (l + 1) t y b) h r))
left_turns_by ks l done at x k found xs (Front_then x' left) m t b is h r s =
    let one = (front_only ks l x at k found.reads).same x' h.0 h.1 in
    record {
      left = left;
      is = is ∙ ap (λ y. fronts done (Front_then y left)) (sym one.0) ∙ sym (fronts_snoc done x left);
      holds = subst (λ y. HoldFronts ks l left y m) (sym one.1) h.2;
    }

pub fore_turns : (ks : List Kind) → (l start : ℕ) → (done : List Front) → (at : ℕ) → (x : Front) → (k : ℕ) → Fore ks l start done at
    → FoundFront ks l at x k → Fore ks l start (done ++ x ∷ []) k
fore_turns ks l start done at x k loop found =
    let one : start ≤ at = loop.forth in
    let two : at < k = found.forth in
    record {
      grows = λ xs m h.
          subst
          (λ y. HoldFronts ks l y start m)
          (sym (fronts_snoc done x xs))
          (loop.grows (Front_then x xs) m (k, found.reads, h));
      only = λ xs m t b h r s.
          let a = loop.only xs m t b h r s in
          left_turns_by ks l done at x k found xs a.left m t b a.is a.holds r s;
      forth = omega arith;
      inside = found.inside;
    }

-- unary operators and casts: a call that reads them has this for every list of them with an operand behind it
abbrev pub Without : List Kind → ℕ → Stop → Type 0
Without ks a e =
    (xs : Fronts) → (m : ℕ) → (t : Tree) → (b : ℕ) → HoldFronts ks 15 xs a m → Reads ks 16 t m b → Stops ks 15 b → IsWant e

abbrev pub OnlyPrefixes : List Kind → ℕ → Fronts → ℕ → Type 0
OnlyPrefixes ks a xs m =
    (xs' : Fronts) → (m' : ℕ) → (t : Tree) → (b : ℕ) → HoldFronts ks 15 xs' a m' → Reads ks 16 t m' b → Stops ks 15 b
    → (xs ≡ xs') × (m ≡ m')

pub unary_fails : (ks : List Kind) → (a : ℕ) → (e : Stop) → Without ks a e → Fails ks 14 a e
unary_fails ks a e fails t b h s =
    let v = prefixed_view ks t a b h in
    fails v.before v.behind v.last b v.goes v.reads (looser ks 14 15 b (omega arith) s)

pub operand_of_fails : (ks : List Kind) → (a : ℕ) → (xs : Fronts) → (m : ℕ) → OnlyPrefixes ks a xs m → (e : Stop) → Fails ks 16 m e → Fails ks 14 a e
operand_of_fails ks a xs m only e fails t b h s =
    let v = prefixed_view ks t a b h in
    let same = only v.before v.behind v.last b v.goes v.reads (looser ks 14 15 b (omega arith) s) in
    fails v.last b (subst (λ k. Reads ks 16 v.last k b) (sym same.1) v.reads) (looser ks 14 16 b (omega arith) s)

unary_made : (ks : List Kind) → (a : ℕ) → (xs : Fronts) → (m : ℕ) → (t : Tree) → (b : ℕ) → HoldFronts ks 15 xs a m → Reads ks 16 t m b
    → Reads ks 14 (preceded Unary_of xs t) a b
unary_made ks a None_before m t b g h = subst (λ k. Reads ks 14 t k b) g (lowered ks 14 16 t m b (omega arith) h)
unary_made ks a (Front_then x xs) m t b g h = (fronts_low (Front_then x xs), (m, tt, g, h.0, h.1))

pub unary_found : (ks : List Kind) → (a : ℕ) → (xs : Fronts) → (m : ℕ) → (t : Tree) → (b : ℕ) → FoundPrefixes ks a xs m → Found ks 16 m t b
    → Found ks 14 a (preceded Unary_of xs t) b
unary_found ks a xs m t b x y =
    let one : a ≤ m = x.forth in
    let two : m < b = y.forth in
    record {
      reads = unary_made ks a xs m t b x.reads y.reads;
      stops = level_gap (kind_at ks b) y.stops;
      forth = omega arith;
      inside = y.inside;
    }

-- tests
choice_next : (ks : List Kind) → (at : ℕ) → (e : Stop) → Fails ks 4 at e → (left : Fronts) → (m : ℕ) → (t : Tree) → (b : ℕ)
    → HoldFronts ks 3 left at m → Reads ks 4 t m b → Stops ks 3 b → IsWant e
choice_next ks at e fails None_before m t b h r s =
    fails t b (subst (λ k. Reads ks 4 t k b) h r) (looser ks 3 4 b (omega arith) s)
choice_next ks at e fails (Front_then x xs) m t b h r s =
    let v = choice_view ks x at h.0 h.1 in
    fails v.test v.question v.tests (stops_at ks 4 v.question Question v.asks (omega arith))

pub test_fails : (ks : List Kind) → (start : ℕ) → (done : List Front) → (at : ℕ) → (e : Stop) → Fore ks 3 start done at → Fails ks 4 at e → Fails ks 3 start e
test_fails ks start done at e loop fails t b h s =
    let v = conditional_view ks t start b h in
    let a = loop.only v.before v.behind v.last b v.goes v.reads s in
    choice_next ks at e fails a.left v.behind v.last b a.holds v.reads s

-- behind a test with `?`
asked : {A : Type 0} → (ks : List Kind) → (at : ℕ) → (test : Tree) → (q : ℕ) → Found ks 4 at test q → kind_at ks q ≡ Question
    → (t : Tree) → (b : ℕ) → Reads ks 4 t at b → Stops ks 3 b → A
asked ks at test q found k t b r s =
    let one = found_only ks 4 at test q (omega arith) found t b r (looser ks 3 4 b (omega arith) s) in
    let low : level_at ks b < 3 = s in
    let here : level_at ks b ≡ 3 = ap (λ y. level_at ks y) (sym one.1) ∙ leveled (kind_at ks q) Question k in
    absurd (omega arith)

middle_next : (ks : List Kind) → (at : ℕ) → (test : Tree) → (q : ℕ) → (e : Stop) → Found ks 4 at test q → kind_at ks q ≡ Question
    → Fails ks 1 (q + 1) e → (left : Fronts) → (m : ℕ) → (t : Tree) → (b : ℕ)
    → HoldFronts ks 3 left at m → Reads ks 4 t m b → Stops ks 3 b → IsWant e
middle_next ks at test q e found k fails None_before m t b h r s =
    asked ks at test q found k t b (subst (λ y. Reads ks 4 t y b) h r) s
middle_next ks at test q e found k fails (Front_then x xs) m t b h r s =
    let v = choice_view ks x at h.0 h.1 in
    let one = found_only ks 4 at test q (omega arith) found v.test v.question v.tests (stops_at ks 4 v.question Question v.asks (omega arith)) in
    fails
    v.middle
    v.colon
    (subst (λ y. Reads ks 1 v.middle (y + 1) v.colon) (sym one.1) v.reads)
    (stops_at ks 1 v.colon Colon v.parts (omega arith))

pub middle_fails : (ks : List Kind) → (start : ℕ) → (done : List Front) → (at : ℕ) → (test : Tree) → (q : ℕ) → (e : Stop) → Fore ks 3 start done at
    → Found ks 4 at test q → kind_at ks q ≡ Question → Fails ks 1 (q + 1) e → Fails ks 3 start e
middle_fails ks start done at test q e loop found k fails t b h s =
    let v = conditional_view ks t start b h in
    let a = loop.only v.before v.behind v.last b v.goes v.reads s in
    middle_next ks at test q e found k fails a.left v.behind v.last b a.holds v.reads s

uncoloned : (ks : List Kind) → (at : ℕ) → (test : Tree) → (q : ℕ) → (middle : Tree) → (c : ℕ) → (last : Kind)
    → Found ks 4 at test q → kind_at ks q ≡ Question → Found ks 1 (q + 1) middle c → last ≡ kind_at ks c → (last ≡ Colon → ⊥)
    → (left : Fronts) → (m : ℕ) → (t : Tree) → (b : ℕ) → HoldFronts ks 3 left at m → Reads ks 4 t m b → Stops ks 3 b → ⊥
uncoloned ks at test q middle c last found k found' e not None_before m t b h r s =
    asked ks at test q found k t b (subst (λ y. Reads ks 4 t y b) h r) s
uncoloned ks at test q middle c last found k found' e not (Front_then x xs) m t b h r s =
    let v = choice_view ks x at h.0 h.1 in
    let one = found_only ks 4 at test q (omega arith) found v.test v.question v.tests (stops_at ks 4 v.question Question v.asks (omega arith)) in
    let two =
    found_only
    ks
    1
    (q + 1)
    middle
    c
    (omega arith)
    found'
    v.middle
    v.colon
    (subst (λ y. Reads ks 1 v.middle (y + 1) v.colon) (sym one.1) v.reads)
    (stops_at ks 1 v.colon Colon v.parts (omega arith)) in
    not (e ∙ ap (λ y. kind_at ks y) two.1 ∙ v.parts)

pub no_colon : (ks : List Kind) → (start : ℕ) → (done : List Front) → (at : ℕ) → (test : Tree) → (q : ℕ) → (middle : Tree) → (c : ℕ) → (last : Kind)
    → Fore ks 3 start done at → Found ks 4 at test q → kind_at ks q ≡ Question → Found ks 1 (q + 1) middle c
    → last ≡ kind_at ks c → (last ≡ Colon → ⊥) → (t : Tree) → (b : ℕ) → Reads ks 3 t start b → Stops ks 3 b → ⊥
no_colon ks start done at test q middle c last loop found k found' e not t b h s =
    let v = conditional_view ks t start b h in
    let a = loop.only v.before v.behind v.last b v.goes v.reads s in
    uncoloned ks at test q middle c last found k found' e not a.left v.behind v.last b a.holds v.reads s

choice_turns : (ks : List Kind) → (done : List Front) → (at : ℕ) → (test : Tree) → (q : ℕ) → (middle : Tree) → (c : ℕ)
    → Found ks 4 at test q → kind_at ks q ≡ Question → Found ks 1 (q + 1) middle c
    → (xs left : Fronts) → (m : ℕ) → (t : Tree) → (b : ℕ) → xs ≡ fronts done left → HoldFronts ks 3 left at m → Reads ks 4 t m b
    → Stops ks 3 b → Ahead ks 3 (done ++ Choice_of test q middle c ∷ []) (c + 1) xs m
choice_turns ks done at test q middle c found k found' xs None_before m t b is h r s =
    asked ks at test q found k t b (subst (λ y. Reads ks 4 t y b) h r) s
choice_turns ks done at test q middle c found k found' xs (Front_then x left) m t b is h r s =
    let v = choice_view ks x at h.0 h.1 in
    let one = found_only ks 4 at test q (omega arith) found v.test v.question v.tests (stops_at ks 4 v.question Question v.asks (omega arith)) in
    let two =
    found_only
    ks
    1
    (q + 1)
    middle
    c
    (omega arith)
    found'
    v.middle
    v.colon
    (subst (λ y. Reads ks 1 v.middle (y + 1) v.colon) (sym one.1) v.reads)
    (stops_at ks 1 v.colon Colon v.parts (omega arith)) in
    let same : x ≡ Choice_of test q middle c =
    v.is
    ∙ ap (λ y. Choice_of y v.question v.middle v.colon) (sym one.0)
    ∙ ap (λ y. Choice_of test y v.middle v.colon) (sym one.1)
    ∙ ap (λ y. Choice_of test q y v.colon) (sym two.0)
    ∙ ap (λ y. Choice_of test q middle y) (sym two.1) in
    record {
      left = left;
      is =
          is
          ∙ ap (λ y. fronts done (Front_then y left)) same
          ∙ sym (fronts_snoc done (Choice_of test q middle c) left);
      holds = subst (λ y. HoldFronts ks 3 left y m) (v.ends ∙ ap (λ y. y + 1) (sym two.1)) h.2;
    }

pub tests_turn : (ks : List Kind) → (start : ℕ) → (done : List Front) → (at : ℕ) → (test : Tree) → (q : ℕ) → (middle : Tree) → (c : ℕ)
    → Fore ks 3 start done at → Found ks 4 at test q → kind_at ks q ≡ Question → Found ks 1 (q + 1) middle c
    → kind_at ks c ≡ Colon → c < length ks → Fore ks 3 start (done ++ Choice_of test q middle c ∷ []) (c + 1)
tests_turn ks start done at test q middle c loop found k found' l i =
    let one : start ≤ at = loop.forth in
    let two : at < q = found.forth in
    let three : q + 1 < c = found'.forth in
    record {
      grows = λ xs m h.
          subst
          (λ y. HoldFronts ks 3 y start m)
          (sym (fronts_snoc done (Choice_of test q middle c) xs))
          (loop.grows
          (Front_then (Choice_of test q middle c) xs)
          m
          (c + 1, (refl, found.reads.0, found.reads.1, k, found'.reads.0, found'.reads.1, l, refl), h));
      only = λ xs m t b h r s.
          let a = loop.only xs m t b h r s in
          choice_turns ks done at test q middle c found k found' xs a.left m t b a.is a.holds r s;
      forth = omega arith;
      inside = omega arith;
    }

conditional_made : (ks : List Kind) → (a : ℕ) → (xs : Fronts) → (m : ℕ) → (t : Tree) → (b : ℕ) → HoldFronts ks 3 xs a m → Reads ks 4 t m b
    → Reads ks 3 (preceded Conditional_of xs t) a b
conditional_made ks a None_before m t b g h = subst (λ k. Reads ks 3 t k b) g (lowered ks 3 4 t m b (omega arith) h)
conditional_made ks a (Front_then x xs) m t b g h = (omega arith, (m, tt, g, h.0, h.1))

pub tests_end : (ks : List Kind) → (start : ℕ) → (done : List Front) → (at : ℕ) → (test : Tree) → (q : ℕ) → (k : Kind) → Fore ks 3 start done at
    → Found ks 4 at test q → k ≡ kind_at ks q → (k ≡ Question → ⊥)
    → Found ks 3 start (preceded Conditional_of (fronts done None_before) test) q
tests_end ks start done at test q k loop found e not =
    let one : start ≤ at = loop.forth in
    let two : at < q = found.forth in
    record {
      reads = conditional_made ks start (fronts done None_before) at test q (loop.grows None_before at refl) found.reads;
      stops = not_question (kind_at ks q) found.stops (λ f. not (e ∙ f));
      forth = omega arith;
      inside = found.inside;
    }

-- places
unary_rank : (ks : List Kind) → (t : Tree) → (a b : ℕ) → is_unary t ≡ true → 15 ≤ rank ks t
unary_rank ks (Name_of n) a b e = omega arith
unary_rank ks (Constant_of n) a b e = omega arith
unary_rank ks (Text_of ns) a b e = omega arith
unary_rank ks (Paren_of o t c) a b e = omega arith
unary_rank ks (Postfix_of f bs) a b e = omega arith
unary_rank ks (Of_type k o y c) a b e = omega arith
unary_rank ks (Compound_of o y c i) a b e = omega arith
unary_rank ks (Generic_of k o u gs c) a b e = omega arith
unary_rank ks (Offset_of k o y m n bs c) a b e = omega arith
unary_rank ks (Unary_of None_before t) a b e = omega arith
unary_rank ks (Unary_of (Front_then (Operator_of o) fs) t) a b e = omega arith
unary_rank ks (Unary_of (Front_then (Cast_of o y c) fs) t) a b e = absurd (true≢false (sym e))
unary_rank ks (Unary_of (Front_then (Choice_of u q x c) fs) t) a b e = omega arith
unary_rank ks (Unary_of (Front_then (Left_of u o) fs) t) a b e = omega arith
unary_rank ks (Binary_of f bs) a b e = absurd (true≢false (sym e))
unary_rank ks (Conditional_of fs t) a b e = absurd (true≢false (sym e))
unary_rank ks (Assign_of fs t) a b e = absurd (true≢false (sym e))

rank_unary : (ks : List Kind) → (t : Tree) → (a b : ℕ) → Reads ks 15 t a b → is_unary t ≡ true
rank_unary ks (Name_of n) a b h = refl
rank_unary ks (Constant_of n) a b h = refl
rank_unary ks (Text_of ns) a b h = refl
rank_unary ks (Paren_of o t c) a b h = refl
rank_unary ks (Postfix_of f bs) a b h = refl
rank_unary ks (Of_type k o y c) a b h = refl
rank_unary ks (Compound_of o y c i) a b h = refl
rank_unary ks (Generic_of k o u gs c) a b h = refl
rank_unary ks (Offset_of k o y m n bs c) a b h = refl
rank_unary ks (Unary_of None_before t) a b h = absurd h.1.1
rank_unary ks (Unary_of (Front_then (Operator_of o) fs) t) a b h = refl
rank_unary ks (Unary_of (Front_then (Cast_of o y c) fs) t) a b h = absurd (omega (arith, h.0))
rank_unary ks (Unary_of (Front_then (Choice_of u q x c) fs) t) a b h = absurd (omega (arith, h.1.2.1.0))
rank_unary ks (Unary_of (Front_then (Left_of u o) fs) t) a b h = absurd (omega (arith, h.1.2.1.0))
rank_unary ks (Binary_of f bs) a b h =
    let le : 15 ≤ behinds_level ks bs = h.0 in
    let most : behinds_level ks bs ≤ 13 = h.1.2.1 in
    absurd (omega arith)
rank_unary ks (Conditional_of fs t) a b h = absurd (omega (arith, h.0))
rank_unary ks (Assign_of fs t) a b h = absurd (omega (arith, h.0))

place_next : (ks : List Kind) → (at : ℕ) → (e : Stop) → Fails ks 3 at e → (left : Fronts) → (m : ℕ) → (t : Tree) → (b : ℕ)
    → HoldFronts ks 2 left at m → Reads ks 3 t m b → Stops ks 2 b → IsWant e
place_next ks at e fails None_before m t b h r s =
    fails t b (subst (λ k. Reads ks 3 t k b) h r) (looser ks 2 3 b (omega arith) s)
place_next ks at e fails (Front_then x xs) m t b h r s =
    let v = left_view ks x at h.0 h.1 in
    fails
    v.place
    v.operator
    (lowered ks 3 15 v.place at v.operator (omega arith) v.reads)
    (below ks v.operator v.assigns)

pub value_fails : (ks : List Kind) → (start : ℕ) → (done : List Front) → (at : ℕ) → (e : Stop) → Fore ks 2 start done at → Fails ks 3 at e → Fails ks 2 start e
value_fails ks start done at e loop fails t b h s =
    let v = assign_view ks t start b h in
    let a = loop.only v.before v.behind v.last b v.goes v.reads s in
    place_next ks at e fails a.left v.behind v.last b a.holds v.reads s

assigned : {A : Type 0} → (ks : List Kind) → (at : ℕ) → (value : Tree) → (o : ℕ) → Found ks 3 at value o → level_at ks o ≡ 2
    → (t : Tree) → (b : ℕ) → Reads ks 3 t at b → Stops ks 2 b → A
assigned ks at value o found k t b r s =
    let one = found_only ks 3 at value o (omega arith) found t b r (looser ks 2 3 b (omega arith) s) in
    let low : level_at ks b < 2 = s in
    let here : level_at ks b ≡ 2 = ap (λ y. level_at ks y) (sym one.1) ∙ k in
    absurd (omega arith)

-- the place that stands there is what was read
same_place : (ks : List Kind) → (at : ℕ) → (value : Tree) → (o : ℕ) → Found ks 3 at value o
    → (place : Tree) → (o' : ℕ) → Reads ks 15 place at o' → level_at ks o' ≡ 2 → (value ≡ place) × (o ≡ o')
same_place ks at value o found place o' r k =
    found_only
    ks
    3
    at
    value
    o
    (omega arith)
    found
    place
    o'
    (lowered ks 3 15 place at o' (omega arith) r)
    (below ks o' k)

unplaced : (ks : List Kind) → (at : ℕ) → (value : Tree) → (o : ℕ) → Found ks 3 at value o → level_at ks o ≡ 2
    → is_unary value ≡ false → (left : Fronts) → (m : ℕ) → (t : Tree) → (b : ℕ)
    → HoldFronts ks 2 left at m → Reads ks 3 t m b → Stops ks 2 b → ⊥
unplaced ks at value o found k not None_before m t b h r s =
    assigned ks at value o found k t b (subst (λ y. Reads ks 3 t y b) h r) s
unplaced ks at value o found k not (Front_then x xs) m t b h r s =
    let v = left_view ks x at h.0 h.1 in
    let one = same_place ks at value o found v.place v.operator v.reads v.assigns in
    true≢false (sym (rank_unary ks v.place at v.operator v.reads) ∙ ap is_unary (sym one.0) ∙ not)

pub no_place : (ks : List Kind) → (start : ℕ) → (done : List Front) → (at : ℕ) → (value : Tree) → (o : ℕ) → Fore ks 2 start done at
    → Found ks 3 at value o → level_at ks o ≡ 2 → is_unary value ≡ false
    → (t : Tree) → (b : ℕ) → Reads ks 2 t start b → Stops ks 2 b → ⊥
no_place ks start done at value o loop found k not t b h s =
    let v = assign_view ks t start b h in
    let a = loop.only v.before v.behind v.last b v.goes v.reads s in
    unplaced ks at value o found k not a.left v.behind v.last b a.holds v.reads s

left_turns : (ks : List Kind) → (done : List Front) → (at : ℕ) → (value : Tree) → (o : ℕ) → Found ks 3 at value o → level_at ks o ≡ 2
    → (xs left : Fronts) → (m : ℕ) → (t : Tree) → (b : ℕ) → xs ≡ fronts done left → HoldFronts ks 2 left at m → Reads ks 3 t m b
    → Stops ks 2 b → Ahead ks 2 (done ++ Left_of value o ∷ []) (o + 1) xs m
left_turns ks done at value o found k xs None_before m t b is h r s =
    assigned ks at value o found k t b (subst (λ y. Reads ks 3 t y b) h r) s
left_turns ks done at value o found k xs (Front_then x left) m t b is h r s =
    let v = left_view ks x at h.0 h.1 in
    let one = same_place ks at value o found v.place v.operator v.reads v.assigns in
    let same : x ≡ Left_of value o =
    v.is ∙ ap (λ y. Left_of y v.operator) (sym one.0) ∙ ap (λ y. Left_of value y) (sym one.1) in
    record {
      left = left;
      is = is ∙ ap (λ y. fronts done (Front_then y left)) same ∙ sym (fronts_snoc done (Left_of value o) left);
      holds = subst (λ y. HoldFronts ks 2 left y m) (v.ends ∙ ap (λ y. y + 1) (sym one.1)) h.2;
    }

pub places_turn : (ks : List Kind) → (start : ℕ) → (done : List Front) → (at : ℕ) → (value : Tree) → (o : ℕ) → Fore ks 2 start done at
    → Found ks 3 at value o → level_at ks o ≡ 2 → is_unary value ≡ true → o < length ks
    → Fore ks 2 start (done ++ Left_of value o ∷ []) (o + 1)
places_turn ks start done at value o loop found k is i =
    let one : start ≤ at = loop.forth in
    let two : at < o = found.forth in
    record {
      grows = λ xs m h.
          subst
          (λ y. HoldFronts ks 2 y start m)
          (sym (fronts_snoc done (Left_of value o) xs))
          (loop.grows
          (Front_then (Left_of value o) xs)
          m
          (o + 1, (refl, unary_rank ks value at o is, found.reads.1, k, refl), h));
      only = λ xs m t b h r s.
          let a = loop.only xs m t b h r s in
          left_turns ks done at value o found k xs a.left m t b a.is a.holds r s;
      forth = omega arith;
      inside = omega arith;
    }

assign_made : (ks : List Kind) → (a : ℕ) → (xs : Fronts) → (m : ℕ) → (t : Tree) → (b : ℕ) → HoldFronts ks 2 xs a m → Reads ks 3 t m b
    → Reads ks 2 (preceded Assign_of xs t) a b
assign_made ks a None_before m t b g h = subst (λ k. Reads ks 2 t k b) g (lowered ks 2 3 t m b (omega arith) h)
assign_made ks a (Front_then x xs) m t b g h = (omega arith, (m, tt, g, h.0, h.1))

pub places_end : (ks : List Kind) → (start : ℕ) → (done : List Front) → (at : ℕ) → (value : Tree) → (o : ℕ) → Fore ks 2 start done at
    → Found ks 3 at value o → (level_at ks o ≡ 2 → ⊥)
    → Found ks 2 start (preceded Assign_of (fronts done None_before) value) o
places_end ks start done at value o loop found not =
    let one : start ≤ at = loop.forth in
    let two : at < o = found.forth in
    let low : level_at ks o < 3 = found.stops in
    record {
      reads = assign_made ks start (fronts done None_before) at value o (loop.grows None_before at refl) found.reads;
      stops = omega arith;
      forth = omega arith;
      inside = found.inside;
    }
