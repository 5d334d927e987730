-- Lists of numbers from one place up to another.
use Rattle.std.proofs.Common.{◌≡◌, refl, ap, ◌∙◌, subst, ℕ, zero, suc, ◌+◌, ◌≤◌, List, [], ◌∷◌, ◌++◌, arith}
use Rattle.c_parser.specs.Grammar.{numbers}
use Rattle.c_parser.specs.Numbers.{Spans}

-- the numbers are those from a up to b
pub spans_join : (xs ys : List ℕ) → (a m b : ℕ) → Spans xs a m → Spans ys m b → Spans (xs ++ ys) a b
spans_join [] ys a m b h g = subst (λ k. Spans ys k b) h g
spans_join (x ∷ xs) ys a m b h g = (h.0, spans_join xs ys (a + 1) m b h.1 g)

pub record Split (xs ys : List ℕ) (a b : ℕ) : Type 0 where
  pub at : ℕ
  pub front : Spans xs a at
  pub back : Spans ys at b

pub spans_split : (xs ys : List ℕ) → (a b : ℕ) → Spans (xs ++ ys) a b → Split xs ys a b
spans_split [] ys a b h = record { at = a; front = refl; back = h }
spans_split (x ∷ xs) ys a b h =
    let r = spans_split xs ys (a + 1) b h.1 in
    record { at = r.at; front = (h.0, r.front); back = r.back }

pub spans_forth : (xs : List ℕ) → (a b : ℕ) → Spans xs a b → a ≤ b
spans_forth [] a b h = omega (arith, h)
spans_forth (x ∷ xs) a b h = omega (arith, spans_forth xs (a + 1) b h.1)

pub numbers_span : (k a : ℕ) → Spans (numbers a k) a (a + k)
numbers_span zero a = omega arith
numbers_span (suc k) a =
    let e : (a + 1) + k ≡ a + suc k = omega arith in
    (refl, subst (λ b. Spans (numbers (a + 1) k) (a + 1) b) e (numbers_span k (a + 1)))

pub span_numbers : (xs : List ℕ) → (a b k : ℕ) → Spans xs a b → b ≡ a + k → xs ≡ numbers a k
span_numbers [] a b zero h e = refl
span_numbers [] a b (suc k) h e =
    let h' : b ≡ a = h in
    absurd (omega arith)
span_numbers (x ∷ xs) a b zero h e =
    let more : a + 1 ≤ b = spans_forth xs (a + 1) b h.1 in
    absurd (omega arith)
span_numbers (x ∷ xs) a b (suc k) h e =
    let e' : b ≡ (a + 1) + k = omega arith in
    ap (λ y. y ∷ xs) h.0 ∙ ap (λ ys. a ∷ ys) (span_numbers xs (a + 1) b k h.1 e')
