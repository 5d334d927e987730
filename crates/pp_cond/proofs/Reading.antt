-- A proper tree is read as its value.
use Rattle.std.proofs.Common.{inl, inr, ◌≡◌, refl, ap, sym, ◌∙◌, append_assoc, append-nil, ℕ, ◌<◌, ◌≤◌, nat_le, arith, true, false, List, [], ◌∷◌, ◌++◌, Some, if◌then◌else◌}
use Rattle.std.proofs.lemmas.Bool.{le-leb}
use Rattle.std.proofs.lemmas.Bool.Decides.{leb_tells}
use Rattle.pp_cond.specs.declared.marks.Mark.{Mark}
use Rattle.pp_cond.specs.declared.marks.Mark.TheVariants as mark
use Rattle.pp_cond.specs.declared.numbers.Number.{Number}
use Rattle.pp_cond.specs.declared.frames.Frame.{Frame}
use Rattle.pp_cond.specs.declared.frames.Frame.TheVariants.{Unary, Left, Test, Choice, Comma, Paren}
use Rattle.pp_cond.specs.declared.reader.Reader.{Reader}
use Rattle.pp_cond.specs.declared.symbols.Symbol.{Symbol}
use Rattle.pp_cond.specs.declared.symbols.Symbol.TheVariants as symbol
use Rattle.pp_cond.specs.Marks.{level_of}
use Rattle.pp_cond.specs.Frames.{binds, completed, reduced}
use Rattle.pp_cond.specs.declared.reader.At.TheVariants.{Start}
use Rattle.pp_cond.specs.Machine.{waits, behind, opened, go_on_mark, chosen_in, closed_in, ended_with, run, at_first}
use Rattle.pp_cond.specs.Grammar.{Tree, Constant_of, Paren_of, Unary_of, Binary_of, Choice_of, Comma_of, spell, level, Proper, value}

-- what waits where a tree was read, the innermost first
abbrev pub spine : Tree → List Frame → List Frame
spine (Constant_of v) fs = fs
spine (Paren_of t) fs = fs
spine (Unary_of m t) fs = spine t (Unary m ∷ fs)
spine (Binary_of m a b) fs = spine b (Left m (value a) ∷ fs)
spine (Choice_of c a b) fs = spine b (Choice (value c) (value a) ∷ fs)
spine (Comma_of a b) fs = spine b (Comma ∷ fs)

-- the operand that was read last
abbrev pub last : Tree → Number
last (Constant_of v) = v
last (Paren_of t) = value t
last (Unary_of m t) = last t
last (Binary_of m a b) = last b
last (Choice_of c a b) = last b
last (Comma_of a b) = last b

-- an operator of the level of a tree's first one puts together what binds as much
abbrev pub first_level : Tree → ℕ
first_level (Constant_of v) = 13
first_level (Paren_of t) = 13
first_level (Unary_of m t) = 13
first_level (Binary_of m a b) = level_of m
first_level (Choice_of c a b) = 2
first_level (Comma_of a b) = 0

pub le_true : (a b : ℕ) → a ≤ b → nat_le a b ≡ true
le_true a b h = le-leb a b h

pub le_false : (a b : ℕ) → b < a → nat_le a b ≡ false
le_false a b h = elim (leb_tells a b) [ inl p ↦ absurd (omega arith) | inr p ↦ p.0 ]

pub bound_by : (n : ℕ) → (f : Frame) → (fs : List Frame) → (v : Number) → binds n f ≡ true
    → reduced n (f ∷ fs) v ≡ reduced n fs (completed f v)
bound_by n f fs v h = ap (λ b. if b then reduced n fs (completed f v) else (f ∷ fs, v)) h

-- what waits in a tree is put together to the tree's value
pub spine_reduces : (t : Tree) → (n : ℕ) → (fs : List Frame) → n ≤ level t → Proper t
    → reduced n (spine t fs) (last t) ≡ reduced n fs (value t)
spine_reduces (Constant_of v) n fs h p = refl
spine_reduces (Paren_of t) n fs h p = refl
spine_reduces (Unary_of m t) n fs h p =
    spine_reduces t n (Unary m ∷ fs) (omega (arith, p.1)) p.2 ∙ bound_by n (Unary m) fs (value t) (le_true n 12 h)
spine_reduces (Binary_of m a b) n fs h p =
    spine_reduces b n (Left m (value a) ∷ fs) (omega (arith, p.2)) p.4
    ∙ bound_by n (Left m (value a)) fs (value b) (le_true n (level_of m) h)
spine_reduces (Choice_of c a b) n fs h p =
    spine_reduces b n (Choice (value c) (value a) ∷ fs) (omega (arith, p.1)) p.4
    ∙ bound_by n (Choice (value c) (value a)) fs (value b) (le_true n 1 h)
spine_reduces (Comma_of a b) n fs h p =
    spine_reduces b n (Comma ∷ fs) (omega (arith, p.0)) p.2 ∙ bound_by n Comma fs (value b) (le_true n 0 h)

-- no operator of this level puts anything together
abbrev pub IsLoose : ℕ → List Frame → Type 0
IsLoose n [] = Unit {0}
IsLoose n (Unary m ∷ fs) = 12 < n
IsLoose n (Left m a ∷ fs) = level_of m < n
IsLoose n (Choice c a ∷ fs) = 1 < n
IsLoose n (Comma ∷ fs) = 0 < n
IsLoose n (Test c ∷ fs) = Unit {0}
IsLoose n (Paren ∷ fs) = Unit {0}

pub loose_more : (n m : ℕ) → (fs : List Frame) → n ≤ m → IsLoose n fs → IsLoose m fs
loose_more n m [] h l = tt
loose_more n m (Unary k ∷ fs) h l = omega arith
loose_more n m (Left k a ∷ fs) h l = omega arith
loose_more n m (Choice c a ∷ fs) h l = omega arith
loose_more n m (Comma ∷ fs) h l = omega arith
loose_more n m (Test c ∷ fs) h l = tt
loose_more n m (Paren ∷ fs) h l = tt

unbound_by : (n : ℕ) → (f : Frame) → (fs : List Frame) → (v : Number) → binds n f ≡ false
    → reduced n (f ∷ fs) v ≡ (f ∷ fs, v)
unbound_by n f fs v h = ap (λ b. if b then reduced n fs (completed f v) else (f ∷ fs, v)) h

pub loose_stays : (n : ℕ) → (fs : List Frame) → (v : Number) → IsLoose n fs → reduced n fs v ≡ (fs, v)
loose_stays n [] v l = refl
loose_stays n (Unary m ∷ fs) v l = unbound_by n (Unary m) fs v (le_false n 12 l)
loose_stays n (Left m a ∷ fs) v l = unbound_by n (Left m a) fs v (le_false n (level_of m) l)
loose_stays n (Choice c a ∷ fs) v l = unbound_by n (Choice c a) fs v (le_false n 1 l)
loose_stays n (Comma ∷ fs) v l = unbound_by n Comma fs v (le_false n 0 l)
loose_stays n (Test c ∷ fs) v l = refl
loose_stays n (Paren ∷ fs) v l = refl

pub level_low : (m : Mark) → level_of m < 12
level_low mark.Plus = omega arith
level_low mark.Minus = omega arith
level_low mark.Tilde = omega arith
level_low mark.Not = omega arith
level_low mark.Star = omega arith
level_low mark.Slash = omega arith
level_low mark.Percent = omega arith
level_low mark.ShiftLeft = omega arith
level_low mark.ShiftRight = omega arith
level_low mark.Less = omega arith
level_low mark.Greater = omega arith
level_low mark.LessEqual = omega arith
level_low mark.GreaterEqual = omega arith
level_low mark.Equal = omega arith
level_low mark.NotEqual = omega arith
level_low mark.And = omega arith
level_low mark.Caret = omega arith
level_low mark.Or = omega arith
level_low mark.AndAnd = omega arith
level_low mark.OrOr = omega arith
level_low mark.Question = omega arith
level_low mark.Colon = omega arith
level_low mark.Comma = omega arith
level_low mark.OpenParen = omega arith
level_low mark.CloseParen = omega arith
level_low mark.Other = omega arith

level_first : (t : Tree) → level t ≤ first_level t
level_first (Constant_of v) = omega arith
level_first (Paren_of t) = omega arith
level_first (Unary_of m t) = omega arith
level_first (Binary_of m a b) = omega arith
level_first (Choice_of c a b) = omega arith
level_first (Comma_of a b) = omega arith

first_high : (t : Tree) → 12 ≤ level t → 12 < first_level t
first_high (Constant_of v) h = omega arith
first_high (Paren_of t) h = omega arith
first_high (Unary_of m t) h = omega arith
first_high (Binary_of m a b) h = absurd (omega (arith, level_low m))
first_high (Choice_of c a b) h = absurd (omega arith)
first_high (Comma_of a b) h = absurd (omega arith)

first_above : (t : Tree) → Proper t → 1 ≤ level t → 1 < first_level t
first_above (Constant_of v) p h = omega arith
first_above (Paren_of t) p h = omega arith
first_above (Unary_of m t) p h = omega arith
first_above (Binary_of m a b) p h = omega (arith, p.0)
first_above (Choice_of c a b) p h = omega arith
first_above (Comma_of a b) p h = absurd (omega arith)

-- a binary operator behind an operand
abbrev pub joined : Mark → List Frame × Number → Reader
joined m p = waits (Left m p.1) p.0

pub operator_goes : (m : Mark) → (fs : List Frame) → (v : Number) → 2 ≤ level_of m
    → go_on_mark m fs v ≡ joined m (reduced (level_of m) fs v)
operator_goes mark.Plus fs v h = refl
operator_goes mark.Minus fs v h = refl
operator_goes mark.Tilde fs v h = absurd (omega arith)
operator_goes mark.Not fs v h = absurd (omega arith)
operator_goes mark.Star fs v h = refl
operator_goes mark.Slash fs v h = refl
operator_goes mark.Percent fs v h = refl
operator_goes mark.ShiftLeft fs v h = refl
operator_goes mark.ShiftRight fs v h = refl
operator_goes mark.Less fs v h = refl
operator_goes mark.Greater fs v h = refl
operator_goes mark.LessEqual fs v h = refl
operator_goes mark.GreaterEqual fs v h = refl
operator_goes mark.Equal fs v h = refl
operator_goes mark.NotEqual fs v h = refl
operator_goes mark.And fs v h = refl
operator_goes mark.Caret fs v h = refl
operator_goes mark.Or fs v h = refl
operator_goes mark.AndAnd fs v h = refl
operator_goes mark.OrOr fs v h = refl
operator_goes mark.Question fs v h = absurd (omega arith)
operator_goes mark.Colon fs v h = absurd (omega arith)
operator_goes mark.Comma fs v h = absurd (omega arith)
operator_goes mark.OpenParen fs v h = absurd (omega arith)
operator_goes mark.CloseParen fs v h = absurd (omega arith)
operator_goes mark.Other fs v h = absurd (omega arith)

abbrev pub begun : List Frame → Reader
begun fs = record { frames = fs; at = Start }

abbrev tested : List Frame × Number → Reader
tested p = waits (Test p.1) p.0

-- what waits in a tree, and nothing else, is put together by an operator of this level
whole_reduces : (t : Tree) → (n : ℕ) → (fs : List Frame) → n ≤ level t → Proper t → IsLoose n fs
    → reduced n (spine t fs) (last t) ≡ (fs, value t)
whole_reduces t n fs h p l = spine_reduces t n fs h p ∙ loose_stays n fs (value t) l

-- a proper tree is read, with its operands that wait
pub reads : (t : Tree) → (fs : List Frame) → (more : List Symbol) → Proper t → IsLoose (first_level t) fs
    → run (begun fs) (spell t ++ more) ≡ run (behind (last t) (spine t fs)) more
reads (Constant_of v) fs more p l = refl
reads (Paren_of t) fs more p l =
    let rest : List Symbol = symbol.Mark mark.CloseParen ∷ more in
    ap (run (begun (Paren ∷ fs))) (append_assoc (spell t) (symbol.Mark mark.CloseParen ∷ []) more)
    ∙ reads t (Paren ∷ fs) rest p tt
    ∙ ap (λ q. run (closed_in q) more) (whole_reduces t 0 (Paren ∷ fs) (omega arith) p tt)
reads (Unary_of m t) fs more p l =
    ap (λ b. run (if b then waits (Unary m) fs else opened m fs) (spell t ++ more)) p.0
    ∙ reads t (Unary m ∷ fs) more p.2 (first_high t p.1)
reads (Binary_of m a b) fs more p l =
    let rest : List Symbol = symbol.Mark m ∷ (spell b ++ more) in
    let la : IsLoose (first_level a) fs = loose_more (level_of m) (first_level a) fs (omega (arith, p.1, level_first a)) l in
    ap (run (begun fs)) (append_assoc (spell a) (symbol.Mark m ∷ spell b) more)
    ∙ reads a fs rest p.3 la
    ∙ ap (λ r. run r (spell b ++ more)) (operator_goes m (spine a fs) (last a) p.0)
    ∙ ap (λ q. run (joined m q) (spell b ++ more)) (whole_reduces a (level_of m) fs p.1 p.3 l)
    ∙ reads b (Left m (value a) ∷ fs) more p.4 (omega (arith, p.2, level_first b))
reads (Choice_of c a b) fs more p l =
    let tail : List Symbol = spell a ++ symbol.Mark mark.Colon ∷ spell b in
    let rest : List Symbol = symbol.Mark mark.Colon ∷ (spell b ++ more) in
    let lc : IsLoose (first_level c) fs = loose_more 2 (first_level c) fs (omega (arith, p.0, level_first c)) l in
    let fs' : List Frame = Test (value c) ∷ fs in
    ap (run (begun fs)) (append_assoc (spell c) (symbol.Mark mark.Question ∷ tail) more)
    ∙ reads c fs (symbol.Mark mark.Question ∷ (tail ++ more)) p.2 lc
    ∙ ap (λ q. run (tested q) (tail ++ more)) (whole_reduces c 2 fs p.0 p.2 l)
    ∙ ap (run (begun fs')) (append_assoc (spell a) (symbol.Mark mark.Colon ∷ spell b) more)
    ∙ reads a fs' rest p.3 tt
    ∙ ap (λ q. run (chosen_in q) (spell b ++ more)) (whole_reduces a 0 fs' (omega arith) p.3 tt)
    ∙ reads b (Choice (value c) (value a) ∷ fs) more p.4 (first_above b p.4 p.1)
reads (Comma_of a b) fs more p l =
    let rest : List Symbol = symbol.Mark mark.Comma ∷ (spell b ++ more) in
    let la : IsLoose (first_level a) fs = loose_more 0 (first_level a) fs (omega arith) l in
    ap (run (begun fs)) (append_assoc (spell a) (symbol.Mark mark.Comma ∷ spell b) more)
    ∙ reads a fs rest p.1 la
    ∙ ap (λ q. run (waits Comma q.0) (spell b ++ more)) (whole_reduces a 0 fs (omega arith) p.1 l)
    ∙ reads b (Comma ∷ fs) more p.2 (omega (arith, p.0, level_first b))

-- the whole is read as the tree's value
pub tree_is_read : (t : Tree) → Proper t → run at_first (spell t) ≡ Some (value t)
tree_is_read t p =
    ap (run at_first) (sym (append-nil (spell t)))
    ∙ reads t [] [] p tt
    ∙ ap ended_with (whole_reduces t 0 [] (omega arith) p tt)
