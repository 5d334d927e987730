-- What a head declares by its enumerators, by its tokens one behind another as by its spelling: marks between its parts declare nothing.
use Rattle.std.proofs.Common.{◌≡◌, refl, ap, sym, ◌∙◌, subst, ℕ, zero, suc, ◌+◌, ◌-◌, ◌<◌, ◌≤◌, List, [], ◌∷◌, ◌++◌, append_assoc, arith, Option, Some, None, Bool, true, false, true≢false, ◌&&◌, ◌||◌, not, if◌then◌else◌}
use Rattle.tree_data.specs.Trees.{Declaring, Initial, Specifyings, Assertion, Heading, Declares_of, Asserts_of}
use Rattle.c_parser.specs.declared.kinds.Kind.{Kind}
use Rattle.c_parser.specs.declared.kinds.Kind.TheVariants.{Equals, Comma, Semicolon, OpenBrace}
use Rattle.c_parser.specs.Enumerations.{enumerates, is_constant, innermost, open_at, is_comma}
use Rattle.c_parser.specs.Grammar.{spell_declaring, spell_initial, spell_specifyings, spell_assertion}
use Rattle.c_parser.specs.Heads.{HoldsValue, HoldsOne, HoldOthers, HoldAll, Closes, Leading, leading_of, past, past_all, freely, HoldsHead, past_head, spell_value, spell_all}
use Rattle.c_parser.specs.Kinds.{kind_at, is_brace, is_equals, is_word}
use Rattle.c_parser.specs.Numbers.{Spans}
use Rattle.c_parser.specs.Reading.{HoldsAssertion}
use Rattle.c_parser.specs.Words.{Words, shown, shown_from, declared, past_one, past_numbers, past_range}
use Rattle.c_parser.proofs.Enumerated.{numbers_range}
use Rattle.c_parser.proofs.HeadLists.{Piece}
use Rattle.c_parser.proofs.HeadWords.{from_at, past_kinds, past_all_kinds, past_numbers_kinds}
use Rattle.c_parser.proofs.Numbers.{spans_forth}
use Rattle.c_parser.proofs.Spanned.{spanned_declarator, spanned_initial, spanned_specifyings, spanned_assertion}

-- from one place to another these are the identifiers behind
record Over (w : Words) (a b : ℕ) (v : Words) : Type 0 where
  pub forth : a ≤ b
  pub is : past_range w a (b - a) ≡ v

range_join : (w : Words) → (a j k : ℕ) → past_range w a (j + k) ≡ past_range (past_range w a j) (a + j) k
range_join w a zero k =
    let none : zero + k ≡ k = omega arith in
    let here : a ≡ a + zero = omega arith in
    ap (past_range w a) none ∙ ap (λ x. past_range w x k) here
range_join w a (suc j) k =
    let one : suc j + k ≡ suc (j + k) = omega arith in
    let there : a + 1 + j ≡ a + suc j = omega arith in
    ap (past_range w a) one
    ∙ range_join (past_one w a) (a + 1) j k
    ∙ ap (λ x. past_range (past_range (past_one w a) (a + 1) j) x k) there

parted : (a m b : ℕ) → a ≤ m → m ≤ b → b - a ≡ (m - a) + (b - m)
parted a m b h g = omega (arith, h, g)

reached : (a m : ℕ) → a ≤ m → a + (m - a) ≡ m
reached a m h = omega (arith, h)

over_join : (w v u : Words) → (a m b : ℕ) → Over w a m v → Over v m b u → Over w a b u
over_join w v u a m b x y =
    let one : a ≤ m = x.forth in
    let two : m ≤ b = y.forth in
    record {
      forth = omega (arith, one, two);
      is =
          ap (past_range w a) (parted a m b one two)
          ∙ range_join w a (m - a) (b - m)
          ∙ ap (λ k. past_range (past_range w a (m - a)) k (b - m)) (reached a m one)
          ∙ ap (λ z. past_range z m (b - m)) x.is
          ∙ y.is;
    }

nothing : (a : ℕ) → a - a ≡ 0
nothing a = omega arith

over_none : (w : Words) → (a b : ℕ) → b ≡ a → Over w a b w
over_none w a b e =
    subst (λ x. Over w a x w) (sym e) (record { forth = omega arith; is = ap (past_range w a) (nothing a) })

over_spans : (w : Words) → (ns : List ℕ) → (a b : ℕ) → Spans ns a b → Over w a b (past_numbers w ns)
over_spans w ns a b h = record { forth = spans_forth ns a b h; is = sym (numbers_range w ns a b h) }

-- a mark
one_token : (a : ℕ) → (a + 1) - a ≡ suc zero
one_token a = omega arith

no_constant : (b c : Bool) → (b && (false && c)) ≡ false
no_constant true c = refl
no_constant false c = refl

mark_plain : (ks : List Kind) → (a : ℕ) → is_word (kind_at ks a) ≡ false → enumerates ks a ≡ false
unfolding is_constant
mark_plain ks a h =
    ap (λ b. innermost (open_at ks a) && (b && (is_brace (kind_at ks (a - 1)) || is_comma (kind_at ks (a - 1))))) h
    ∙ no_constant (innermost (open_at ks a)) (is_brace (kind_at ks (a - 1)) || is_comma (kind_at ks (a - 1)))

over_mark : (w : Words) → (a : ℕ) → is_word (kind_at w.kinds a) ≡ false → Over w a (a + 1) w
over_mark w a h = record {
  forth = omega arith;
  is = ap (past_range w a) (one_token a) ∙ ap (λ b. if b then declared w false a else w) (mark_plain w.kinds a h);
}

numbers_join : (w : Words) → (xs ys : List ℕ) → past_numbers w (xs ++ ys) ≡ past_numbers (past_numbers w xs) ys
numbers_join w [] ys = refl
numbers_join w (x ∷ xs) ys = numbers_join (past_one w x) xs ys

over_both : (v : Words) → (xs ys : List ℕ) → (a m b : ℕ) → Over v a m (past_numbers v xs)
    → Over (past_numbers v xs) m b (past_numbers (past_numbers v xs) ys) → Over v a b (past_numbers v (xs ++ ys))
over_both v xs ys a m b x y =
    subst
    (λ z. Over v a b z)
    (sym (numbers_join v xs ys))
    (over_join v (past_numbers v xs) (past_numbers (past_numbers v xs) ys) a m b x y)

-- the parts of a head, whatever they stand behind
equals_plain : (k : Kind) → is_equals k ≡ true → is_word k ≡ false
equals_plain Equals h = refl
equals_plain _ h = absurd (true≢false (sym h))

mark_at : (w v : Words) → v.kinds ≡ w.kinds → (a : ℕ) → (k : Kind) → kind_at w.kinds a ≡ k → is_word k ≡ false → Over v a (a + 1) v
mark_at w v e a k h g = over_mark v a (ap (λ ks. is_word (kind_at ks a)) e ∙ ap is_word h ∙ g)

over_value : (w v : Words) → v.kinds ≡ w.kinds → (o : ℕ) → (i : Option Initial) → (a b : ℕ) → HoldsValue (shown_from w o) i a b
    → Over v a b (past_numbers v (spell_value i))
over_value w v e o None a b h = over_none v a b h
over_value w v e o (Some i) a b h =
    over_join v v (past_numbers v (spell_initial i)) a (a + 1) b
    (over_mark v a
    (ap (λ ks. is_word (kind_at ks a)) e
    ∙ sym (from_at is_word (λ n. refl) w o a)
    ∙ equals_plain (kind_at (shown_from w o) a) h.0))
    (over_spans v (spell_initial i) (a + 1) b (spanned_initial (shown_from w o) i (a + 1) b h.1))

over_one : (w v : Words) → v.kinds ≡ w.kinds → (o : ℕ) → (s : Leading) → (d : Declaring) → (i : Option Initial) → (a b : ℕ) → HoldsOne w o s d i a b
    → Over v a b (past_numbers v (spell_declaring d ++ spell_value i))
over_one w v e o s d i a b h =
    over_both v (spell_declaring d) (spell_value i) a h.0 b
    (over_spans v (spell_declaring d) a h.0 (spanned_declarator (shown_from w o) (not s.typed) d a h.0 h.1))
    (over_value (past w s d) (past_numbers v (spell_declaring d))
    (past_numbers_kinds v (spell_declaring d) ∙ e ∙ sym (past_kinds w s d)) o i h.0 b h.2)

-- an init-declarator and those behind it
over_more : (v : Words) → (p : Piece) → (ns : List ℕ) → (a m b : ℕ) → Over v a m (past_numbers v (spell_declaring p.0 ++ spell_value p.1))
    → Over (past_numbers v (spell_declaring p.0 ++ spell_value p.1)) m b (past_numbers (past_numbers v (spell_declaring p.0 ++ spell_value p.1)) ns)
    → Over v a b (past_numbers v (spell_declaring p.0 ++ (spell_value p.1 ++ ns)))
over_more v p ns a m b x y =
    let front : List ℕ = spell_declaring p.0 in
    let value : List ℕ = spell_value p.1 in
    subst
    (λ z. Over v a b z)
    (ap (past_numbers v) (append_assoc front value ns))
    (over_both v (front ++ value) ns a m b x y)

over_others : (w v : Words) → v.kinds ≡ w.kinds → (o : ℕ) → (s : Leading) → (ps : List Piece) → (a b : ℕ) → HoldOthers w o s ps a b
    → Over v a b (past_numbers v (spell_all ps))
over_others w v e o s [] a b h = over_none v a b h
over_others w v e o s (p ∷ ps) a b h =
    let first : List ℕ = spell_declaring p.0 ++ spell_value p.1 in
    over_join v v (past_numbers v (spell_all (p ∷ ps))) a (a + 1) b (mark_at w v e a Comma h.1 refl)
    (over_more v p (spell_all ps) (a + 1) h.0 b (over_one w v e o s p.0 p.1 (a + 1) h.0 h.2)
    (over_others (past w s p.0) (past_numbers v first) (past_numbers_kinds v first ∙ e ∙ sym (past_kinds w s p.0)) o s ps h.0 b h.3))

over_all : (w v : Words) → v.kinds ≡ w.kinds → (o : ℕ) → (s : Leading) → (ps : List Piece) → (a b : ℕ) → HoldAll w o s ps a b
    → Over v a b (past_numbers v (spell_all ps))
over_all w v e o s [] a b h = over_none v a b h
over_all w v e o s (p ∷ ps) a b h =
    let first : List ℕ = spell_declaring p.0 ++ spell_value p.1 in
    over_more v p (spell_all ps) a h.0 b (over_one w v e o s p.0 p.1 a h.0 h.1)
    (over_others (past w s p.0) (past_numbers v first) (past_numbers_kinds v first ∙ e ∙ sym (past_kinds w s p.0)) o (freely s) ps h.0 b h.2)

over_closed : (w v : Words) → v.kinds ≡ w.kinds → (ds : List Piece) → (body : Bool) → (n : ℕ) → Closes w.kinds ds body n → Over v n (n + 1) v
over_closed w v e ds false n c = mark_at w v e n Semicolon c refl
over_closed w v e ds true n c = mark_at w v e n OpenBrace c.0 refl

-- of all the tokens of a head
pub declared_past : (w : Words) → (a : ℕ) → (ss : Specifyings) → (ds : List Piece) → (body : Bool) → (b : ℕ) → HoldsHead w (Declares_of ss ds body) a b
    → (v : Words) → v ≡ past_all w (leading_of (shown w) ss) ds → past_range v a (b - a) ≡ past_head w (Declares_of ss ds body)
declared_past w a ss ds body b h v is =
    let same : v.kinds ≡ w.kinds = ap (λ x. x.kinds) is ∙ past_all_kinds w (leading_of (shown w) ss) ds in
    let front : List ℕ = spell_specifyings ss in
    let over : Over v a h.1 (past_numbers v (front ++ spell_all ds)) =
    over_both v front (spell_all ds) a h.0 h.1
    (over_spans v front a h.0 (spanned_specifyings (shown_from w a) false ss a h.0 h.3))
    (over_all w (past_numbers v front) (past_numbers_kinds v front ∙ same) a (leading_of (shown w) ss) ds h.0 h.1 h.4) in
    let behind : Words = past_numbers v (front ++ spell_all ds) in
    let closed : Over behind h.1 (h.1 + 1) behind =
    over_closed w behind (past_numbers_kinds v (front ++ spell_all ds) ∙ same) ds body h.1 h.5 in
    ap (λ x. past_range v a (x - a)) h.6
    ∙ (over_join v behind behind a h.1 (h.1 + 1) over closed).is
    ∙ ap (λ x. past_numbers x (front ++ spell_all ds)) is

pub asserted_past : (w : Words) → (a : ℕ) → (x : Assertion) → (b : ℕ) → HoldsAssertion (shown_from w a) x a b
    → past_range w a (b - a) ≡ past_head w (Asserts_of x)
asserted_past w a x b h = sym (numbers_range w (spell_assertion x) a b (spanned_assertion (shown_from w a) x a b h))
