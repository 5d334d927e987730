-- Expressions inside statements, as the parser finds them.
use Rattle.std.proofs.Common.{◌≡◌, refl, ap, sym, ◌∙◌, subst, ℕ, ◌+◌, ◌<◌, ◌≤◌, length, arith, Bool, true, false, true≢false, Option, None, Some, is_some}
use Rattle.tree_data.specs.Trees.{Tree}
use Rattle.c_parser.specs.declared.answers.Stop.{Stop}
use Rattle.c_parser.specs.declared.kinds.Kind.{Kind}
use Rattle.c_parser.specs.declared.kinds.Kind.TheVariants.{OpenParen, CloseParen, Semicolon}
use Rattle.c_parser.specs.Parts.{PartsLaw, FoundExpression, past_tree}
use Rattle.c_parser.specs.Reading.{Holds, Reads, Stops, IsWant}
use Rattle.c_parser.specs.Words.{Words, shown, shown_from, kind_in}
use Rattle.stmt_parser.specs.Found.{FoundOptional, FoundTest, FoundTail, Alike}
use Rattle.stmt_parser.specs.InForce.{past_optional}
use Rattle.stmt_parser.specs.Reading.{HoldsOptional, HoldsTest, ends_expression}
use Rattle.stmt_parser.proofs.InForceLemmas.{ends_blind, optional_blind}
use Rattle.stmt_parser.proofs.Marks.{stops_before, ended}
use Rattle.stmt_parser.proofs.PartsOnly.{optional_only}

-- behind one that is there or not
pub past_none : (w : Words) → (x : Option Tree) → is_some x ≡ false → w ≡ past_optional w x
past_none w None h = refl
past_none w (Some t) h = absurd (true≢false h)

pub past_some : (w s : Words) → (a b : ℕ) → ((t : Tree) → Holds (shown_from w a) t a b → s ≡ past_tree w t) → (x : Option Tree) → is_some x ≡ true
    → HoldsOptional w x a b → s ≡ past_optional w x
past_some w s a b f None h g = absurd (true≢false (sym h))
past_some w s a b f (Some t) h g = f t g.1

pub optional_kinds : PartsLaw → (w : Words) → (x : Option Tree) → (past_optional w x).kinds ≡ w.kinds
optional_kinds law w None = refl
optional_kinds law w (Some t) = law.tree_kinds w t

-- nothing
pub nothing_found : (w : Words) → (a : ℕ) → a ≤ length w.kinds → FoundOptional w a None a
nothing_found w a le = record { reads = refl; forth = omega arith; inside = le }

pub nothing_only : PartsLaw → (w : Words) → (a : ℕ) → ends_expression (kind_in w a) ≡ true → (x : Option Tree) → (b : ℕ) → HoldsOptional w x a b
    → ends_expression (kind_in w b) ≡ true → (None ≡ x) × (a ≡ b)
nothing_only law w a e x b h f = optional_only law w None a a refl e x b h f

pub something_found : (w : Words) → (a : ℕ) → (t : Tree) → (b : ℕ) → FoundExpression w 1 a t b → FoundOptional w a (Some t) b
something_found w a t b f =
    let forth : a < b = f.forth in
    record { reads = f.reads; forth = omega (arith, forth); inside = f.inside }

-- whatever holds of each expression from here on holds of each part that may be left out
pub something_by : (w : Words) → (a : ℕ) → ends_expression (kind_in w a) ≡ false → (P : Option Tree → ℕ → Type 0)
    → ((t : Tree) → (b : ℕ) → Reads (shown_from w a) 1 t a b → Stops (shown w) 1 b → P (Some t) b)
    → (x : Option Tree) → (b : ℕ) → HoldsOptional w x a b → ends_expression (kind_in w b) ≡ true → P x b
something_by w a n P f None b h e = absurd (true≢false (sym e ∙ ap (λ y. ends_expression (kind_in w y)) h ∙ n))
something_by w a n P f (Some t) b h e = f t b h (stops_before w 1 b (omega arith) e)

pub something_only : (w : Words) → (a : ℕ) → ends_expression (kind_in w a) ≡ false → (t : Tree) → (m : ℕ)
    → ((u : Tree) → (b : ℕ) → Reads (shown_from w a) 1 u a b → Stops (shown w) 1 b → (t ≡ u) × (m ≡ b))
    → (x : Option Tree) → (b : ℕ) → HoldsOptional w x a b → ends_expression (kind_in w b) ≡ true → (Some t ≡ x) × (m ≡ b)
something_only w a n t m f =
    something_by w a n (λ x b. (Some t ≡ x) × (m ≡ b)) (λ u b r s. (ap (λ y. Some y) (f u b r s).0, (f u b r s).1))

pub something_fails : (w : Words) → (a : ℕ) → ends_expression (kind_in w a) ≡ false → (e : Stop)
    → ((u : Tree) → (b : ℕ) → Reads (shown_from w a) 1 u a b → Stops (shown w) 1 b → IsWant e)
    → (x : Option Tree) → (b : ℕ) → HoldsOptional w x a b → ends_expression (kind_in w b) ≡ true → IsWant e
something_fails w a n e f = something_by w a n (λ x b. IsWant e) f

-- ( expression )
pub test_found : (w : Words) → (a : ℕ) → kind_in w a ≡ OpenParen → (t : Tree) → (c : ℕ) → FoundExpression w 1 (a + 1) t c
    → kind_in w c ≡ CloseParen → c < length w.kinds → FoundTest w a t c
test_found w a o t c f e le =
    let forth : a + 1 < c = f.forth in
    record { reads = (refl, o, f.reads, e, refl); forth = omega (arith, forth); inside = le }

-- what stands in the parentheses
pub test_expression : (w : Words) → (a : ℕ) → (t : Tree) → (c : ℕ) → FoundTest w (a + 1) t c → Holds (shown_from w (a + 2)) t (a + 2) c
test_expression w a t c f =
    let e : a + 1 + 1 ≡ a + 2 = omega arith in
    subst (λ p. Holds (shown_from w p) t p c) e f.reads.2.1

pub test_unopened : (w : Words) → (a : ℕ) → (kind_in w a ≡ OpenParen → ⊥) → (o : ℕ) → (t : Tree) → (c b : ℕ) → HoldsTest w o t c a b → ⊥
test_unopened w a n o t c b h = n h.1

pub test_by : (w : Words) → (a : ℕ) → (P : Tree → ℕ → Type 0)
    → ((t : Tree) → (c : ℕ) → Reads (shown_from w (a + 1)) 1 t (a + 1) c → Stops (shown w) 1 c → P t c)
    → (o : ℕ) → (t : Tree) → (c b : ℕ) → HoldsTest w o t c a b → P t c
test_by w a P f o t c b h = f t c h.2 (stops_before w 1 c (omega arith) (ended w c CloseParen h.3 refl))

pub test_fails : (w : Words) → (a : ℕ) → (e : Stop) → ((t : Tree) → (c : ℕ) → Reads (shown_from w (a + 1)) 1 t (a + 1) c → Stops (shown w) 1 c → IsWant e)
    → (o : ℕ) → (t : Tree) → (c b : ℕ) → HoldsTest w o t c a b → IsWant e
test_fails w a e f = test_by w a (λ t c. IsWant e) f

pub test_same : (w : Words) → (a : ℕ) → (t : Tree) → (m : ℕ)
    → ((u : Tree) → (c : ℕ) → Reads (shown_from w (a + 1)) 1 u (a + 1) c → Stops (shown w) 1 c → (t ≡ u) × (m ≡ c))
    → (o : ℕ) → (u : Tree) → (c b : ℕ) → HoldsTest w o u c a b → (t ≡ u) × (m ≡ c)
test_same w a t m f = test_by w a (λ u c. (t ≡ u) × (m ≡ c)) f

pub test_unclosed : (w : Words) → (a : ℕ) → (t : Tree) → (m : ℕ)
    → ((u : Tree) → (c : ℕ) → Reads (shown_from w (a + 1)) 1 u (a + 1) c → Stops (shown w) 1 c → (t ≡ u) × (m ≡ c)) → (kind_in w m ≡ CloseParen → ⊥)
    → (o : ℕ) → (u : Tree) → (c b : ℕ) → HoldsTest w o u c a b → ⊥
test_unclosed w a t m f n o u c b h = n (ap (kind_in w) (test_same w a t m f o u c b h).1 ∙ h.3)

-- the parts of a `for`
pub alike_itself : (w : Words) → Alike w w
alike_itself w f i a = refl

pub ends_under : (w v : Words) → Alike w v → (a : ℕ) → (k : Kind) → kind_in v a ≡ k → ends_expression k ≡ true
    → ends_expression (kind_in w a) ≡ true
ends_under w v alike a k e f = alike ends_expression ends_blind a ∙ ended v a k e f

-- marks are the same in scopes that differ in typedef names alone
abbrev is_semicolon : Kind → Bool
is_semicolon Semicolon = true
is_semicolon _ = false

semicolon_is : (k : Kind) → is_semicolon k ≡ true → k ≡ Semicolon
semicolon_is Semicolon h = refl
semicolon_is _ h = absurd (true≢false (sym h))

abbrev is_closing : Kind → Bool
is_closing CloseParen = true
is_closing _ = false

closing_is : (k : Kind) → is_closing k ≡ true → k ≡ CloseParen
closing_is CloseParen h = refl
closing_is _ h = absurd (true≢false (sym h))

pub semicolon_seen : (v w : Words) → Alike v w → (n : ℕ) → kind_in w n ≡ Semicolon → kind_in v n ≡ Semicolon
semicolon_seen v w alike n k = semicolon_is (kind_in v n) (alike is_semicolon (λ i. refl) n ∙ ap is_semicolon k)

pub closing_seen : (v w : Words) → Alike v w → (n : ℕ) → kind_in w n ≡ CloseParen → kind_in v n ≡ CloseParen
closing_seen v w alike n k = closing_is (kind_in v n) (alike is_closing (λ i. refl) n ∙ ap is_closing k)

abbrev pub OnlyOptional : Words → ℕ → Option Tree → ℕ → Type 0
OnlyOptional w a x m = (y : Option Tree) → (b : ℕ) → HoldsOptional w y a b → ends_expression (kind_in w b) ≡ true → (x ≡ y) × (m ≡ b)

abbrev pub FailsOptional : Words → ℕ → Stop → Type 0
FailsOptional w a e = (y : Option Tree) → (b : ℕ) → HoldsOptional w y a b → ends_expression (kind_in w b) ≡ true → IsWant e

-- the same up to a `;`
abbrev pub OnlyEnded : Words → ℕ → Option Tree → ℕ → Type 0
OnlyEnded w a x m = (y : Option Tree) → (b : ℕ) → HoldsOptional w y a b → kind_in w b ≡ Semicolon → (x ≡ y) × (m ≡ b)

abbrev pub FailsEnded : Words → ℕ → Stop → Type 0
FailsEnded w a e = (y : Option Tree) → (b : ℕ) → HoldsOptional w y a b → kind_in w b ≡ Semicolon → IsWant e

pub unbegun : (w : Words) → (a : ℕ) → (e : Stop) → FailsOptional w a e → FailsEnded w a e
unbegun w a e f y b h k = f y b h (ended w b Semicolon k refl)

pub unended : (w : Words) → (a : ℕ) → (x : Option Tree) → (m : ℕ) → OnlyOptional w a x m → (kind_in w m ≡ Semicolon → ⊥) → (y : Option Tree) → (b : ℕ)
    → HoldsOptional w y a b → kind_in w b ≡ Semicolon → ⊥
unended w a x m only lack y b h k = lack (ap (kind_in w) (only y b h (ended w b Semicolon k refl)).1 ∙ k)

pub ended_only : (w : Words) → (a : ℕ) → (x : Option Tree) → (m : ℕ) → OnlyOptional w a x m → OnlyEnded w a x m
ended_only w a x m only y b h k = only y b h (ended w b Semicolon k refl)

abbrev pub FailsTail : Words → Words → ℕ → Stop → Type 0
FailsTail v w a e = (y : Option Tree) → (n : ℕ) → (z : Option Tree) → (c : ℕ) → HoldsOptional w y a n → kind_in v n ≡ Semicolon
    → HoldsOptional (past_optional w y) z (n + 1) c → kind_in v c ≡ CloseParen → IsWant e

pub tail_unbegun : (w v : Words) → Alike w v → (a : ℕ) → (e : Stop) → FailsEnded w a e → FailsTail v w a e
tail_unbegun w v alike a e f y n z c h k g m = f y n h (semicolon_seen w v alike n k)

-- under the identifiers behind the first part
behind_alike : PartsLaw → (w v : Words) → Alike w v → (x : Option Tree) → (j : Words) → j ≡ past_optional w x → Alike j v
behind_alike law w v alike x j is f i a = ap (λ y. f (kind_in y a)) is ∙ optional_blind law f i w x a ∙ alike f i a

-- the second part, from the place where the first one was found to end
second_part : (w v : Words) → Alike w v → (a : ℕ) → (x : Option Tree) → (m : ℕ) → OnlyEnded w a x m → (j : Words) → j ≡ past_optional w x
    → (y : Option Tree) → (n : ℕ) → (z : Option Tree) → (c : ℕ) → HoldsOptional w y a n → kind_in v n ≡ Semicolon
    → HoldsOptional (past_optional w y) z (n + 1) c → HoldsOptional j z (m + 1) c
second_part w v alike a x m only j is y n z c h k g =
    let r = only y n h (semicolon_seen w v alike n k) in
    subst (λ p. HoldsOptional j z (p + 1) c) (sym r.1)
    (subst (λ u. HoldsOptional u z (n + 1) c) (ap (past_optional w) (sym r.0) ∙ sym is) g)

pub tail_unstepped : PartsLaw → (w v : Words) → Alike w v → (a : ℕ) → (x : Option Tree) → (m : ℕ) → OnlyEnded w a x m → (j : Words)
    → j ≡ past_optional w x → (e : Stop) → FailsOptional j (m + 1) e → FailsTail v w a e
tail_unstepped law w v alike a x m only j is e f y n z c h k g q =
    f z c (second_part w v alike a x m only j is y n z c h k g) (ends_under j v (behind_alike law w v alike x j is) c CloseParen q refl)

pub tail_unclosed : PartsLaw → (w v : Words) → Alike w v → (a : ℕ) → (x : Option Tree) → (m : ℕ) → OnlyEnded w a x m → (j : Words)
    → j ≡ past_optional w x → (u : Option Tree) → (p : ℕ) → OnlyOptional j (m + 1) u p → (kind_in j p ≡ CloseParen → ⊥)
    → (y : Option Tree) → (n : ℕ) → (z : Option Tree) → (c : ℕ) → HoldsOptional w y a n → kind_in v n ≡ Semicolon
    → HoldsOptional (past_optional w y) z (n + 1) c → kind_in v c ≡ CloseParen → ⊥
tail_unclosed law w v alike a x m only j is u p next lack y n z c h k g q =
    let under : Alike j v = behind_alike law w v alike x j is in
    let same = next z c (second_part w v alike a x m only j is y n z c h k g) (ends_under j v under c CloseParen q refl) in
    lack (ap (kind_in j) same.1 ∙ closing_seen j v under c q)

pub tail_same : PartsLaw → (w v : Words) → Alike w v → (a : ℕ) → (x : Option Tree) → (m : ℕ) → OnlyEnded w a x m → (j : Words)
    → j ≡ past_optional w x → (u : Option Tree) → (p : ℕ) → OnlyOptional j (m + 1) u p
    → (y : Option Tree) → (n : ℕ) → (z : Option Tree) → (c : ℕ) → HoldsOptional w y a n → kind_in v n ≡ Semicolon
    → HoldsOptional (past_optional w y) z (n + 1) c → kind_in v c ≡ CloseParen → (x ≡ y) × (m ≡ n) × (u ≡ z) × (p ≡ c)
tail_same law w v alike a x m only j is u p next y n z c h k g q =
    let r = only y n h (semicolon_seen w v alike n k) in
    let s =
    next z c (second_part w v alike a x m only j is y n z c h k g) (ends_under j v (behind_alike law w v alike x j is) c CloseParen q refl) in
    (r.0, r.1, s.0, s.1)

pub tail_found : PartsLaw → (w : Words) → (a : ℕ) → (x : Option Tree) → (m : ℕ) → FoundOptional w a x m → kind_in w m ≡ Semicolon → (j : Words)
    → j ≡ past_optional w x → (u : Option Tree) → (p : ℕ) → FoundOptional j (m + 1) u p → kind_in j p ≡ CloseParen → p < length j.kinds
    → FoundTail w w a x m u p
tail_found law w a x m f k j is u p g q le =
    let first : a ≤ m = f.forth in
    let second : m + 1 ≤ p = g.forth in
    let same : length j.kinds ≡ length w.kinds = ap (λ y. length y.kinds) is ∙ ap (λ ks. length ks) (optional_kinds law w x) in
    record {
      test = f.reads;
      semicolon = k;
      step = subst (λ y. HoldsOptional y u (m + 1) p) is g.reads;
      closing = closing_seen w j (λ f i b. sym (behind_alike law w w (alike_itself w) x j is f i b)) p q;
      forth = omega (arith, first, second);
      inside = omega (arith, le, same);
    }

pub tail_past : (w j s : Words) → (x u : Option Tree) → j ≡ past_optional w x → s ≡ past_optional j u → s ≡ past_optional (past_optional w x) u
tail_past w j s x u is e = e ∙ ap (λ y. past_optional y u) is
