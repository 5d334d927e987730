-- What is read as a value is a proper tree.
use Rattle.std.proofs.Common.{inl, inr, ◌≡◌, refl, ap, sym, ◌∙◌, subst, append_assoc, append-nil, ℕ, ◌+◌, ◌<◌, ◌≤◌, ◌==◌, nat_le, ◌⊎◌, arith, Bool, true, false, List, [], ◌∷◌, ◌++◌, Some, None, if◌then◌else◌}
use Rattle.pp_cond.specs.declared.marks.Mark.{Mark}
use Rattle.pp_cond.specs.declared.marks.Mark.TheVariants as mark
use Rattle.pp_cond.specs.declared.numbers.Number.{Number}
use Rattle.pp_cond.specs.declared.frames.Frame.{Frame}
use Rattle.pp_cond.specs.declared.frames.Frame.TheVariants.{Unary, Left, Test, Choice, Comma, Paren}
use Rattle.pp_cond.specs.declared.reader.At.{At}
use Rattle.pp_cond.specs.declared.reader.At.TheVariants.{Start, Behind, Wrong}
use Rattle.pp_cond.specs.declared.reader.Reader.{Reader}
use Rattle.pp_cond.specs.declared.symbols.Symbol.{Symbol}
use Rattle.pp_cond.specs.declared.symbols.Symbol.TheVariants as symbol
use Rattle.pp_cond.specs.Marks.{level_of, is_prefix}
use Rattle.pp_cond.specs.Numbers.{binary, choice}
use Rattle.pp_cond.specs.Frames.{completed, reduced}
use Rattle.pp_cond.specs.Machine.{waits, wrong, opened, start, tested, chosen, chosen_in, closed, closed_in, operated, operator, go_on, go_on_mark, step, step_at, run, finished_at, ended_with}
use Rattle.pp_cond.specs.Grammar.{Tree, Constant_of, Paren_of, Unary_of, Binary_of, Choice_of, Comma_of, spell, level, Proper, value}
use Rattle.pp_cond.proofs.Reading.{level_low, IsLoose}
use Rattle.std.proofs.lemmas.Bool.{leb-true}
use Rattle.std.proofs.lemmas.Bool.Decides.{leb_tells}

-- the production of what is waited for
abbrev pub need : List Frame → ℕ
need [] = 0
need (Unary m ∷ fs) = 12
need (Left m a ∷ fs) = level_of m + 1
need (Choice c a ∷ fs) = 1
need (Comma ∷ fs) = 1
need (Test c ∷ fs) = 0
need (Paren ∷ fs) = 0

-- frames stand for these symbols
abbrev pub Stands : List Frame → List Symbol → Type 0
Stands [] read = read ≡ []
Stands (Unary m ∷ fs) read =
    (front : List Symbol) × (Stands fs front) × (need fs ≤ 12) × (is_prefix m ≡ true) × (read ≡ front ++ symbol.Mark m ∷ [])
Stands (Left m v ∷ fs) read =
    (front : List Symbol) × (a : Tree) × (Stands fs front) × (need fs ≤ level_of m) × (2 ≤ level_of m)
    × (level_of m ≤ level a) × (Proper a) × (v ≡ value a) × (read ≡ front ++ (spell a ++ symbol.Mark m ∷ []))
Stands (Test v ∷ fs) read =
    (front : List Symbol) × (c : Tree) × (Stands fs front) × (need fs ≤ 1) × (2 ≤ level c) × (Proper c) × (v ≡ value c)
    × (read ≡ front ++ (spell c ++ symbol.Mark mark.Question ∷ []))
Stands (Choice v w ∷ fs) read =
    (front : List Symbol) × (c : Tree) × (a : Tree) × (Stands fs front) × (need fs ≤ 1) × (2 ≤ level c) × (Proper c)
    × (v ≡ value c) × (Proper a) × (w ≡ value a)
    × (read ≡ front ++ (spell c ++ symbol.Mark mark.Question ∷ (spell a ++ symbol.Mark mark.Colon ∷ [])))
Stands (Comma ∷ fs) read =
    (front : List Symbol) × (a : Tree) × (Stands fs front) × (need fs ≤ 0) × (Proper a)
    × (read ≡ front ++ (spell a ++ symbol.Mark mark.Comma ∷ []))
Stands (Paren ∷ fs) read =
    (front : List Symbol) × (Stands fs front) × (read ≡ front ++ symbol.Mark mark.OpenParen ∷ [])

-- frames and a tree behind them stand for these symbols; an operator of this level puts nothing more together
pub record Put (n : ℕ) (read : List Symbol) (p : List Frame × Number) : Type 0 where
  pub front : List Symbol
  pub tree : Tree
  pub stands : Stands p.0 front
  pub proper : Proper tree
  pub value : p.1 ≡ value tree
  pub spells : front ++ spell tree ≡ read
  pub needed : need p.0 ≤ level tree
  pub above : n ≤ level tree
  pub loose : IsLoose n p.0

regroup : (front a : List Symbol) → (x : Symbol) → (b : List Symbol) → front ++ (a ++ x ∷ b) ≡ (front ++ (a ++ x ∷ [])) ++ b
regroup front a x b =
    ap (λ y. front ++ y) (sym (append_assoc a (x ∷ []) b)) ∙ sym (append_assoc front (a ++ x ∷ []) b)

regroup_choice : (front c a b : List Symbol)
    → front ++ (c ++ symbol.Mark mark.Question ∷ (a ++ symbol.Mark mark.Colon ∷ b))
    ≡ (front ++ (c ++ symbol.Mark mark.Question ∷ (a ++ symbol.Mark mark.Colon ∷ []))) ++ b
regroup_choice front c a b =
    let e : a ++ symbol.Mark mark.Colon ∷ b ≡ (a ++ symbol.Mark mark.Colon ∷ []) ++ b = sym (append_assoc a (symbol.Mark mark.Colon ∷ []) b) in
    ap (λ y. front ++ (c ++ symbol.Mark mark.Question ∷ y)) e
    ∙ ap (λ y. front ++ y) (sym (append_assoc c (symbol.Mark mark.Question ∷ (a ++ symbol.Mark mark.Colon ∷ [])) b))
    ∙ sym (append_assoc front (c ++ symbol.Mark mark.Question ∷ (a ++ symbol.Mark mark.Colon ∷ [])) b)

-- the frames as they are
left : (n : ℕ) → (fs : List Frame) → (front : List Symbol) → (t : Tree) → (v : Number) → (read : List Symbol)
    → Stands fs front → Proper t → v ≡ value t → front ++ spell t ≡ read → need fs ≤ level t → n ≤ level t → IsLoose n fs
    → Put n read (fs, v)
left n fs front t v read st p e s h a l =
    record { front = front; tree = t; stands = st; proper = p; value = e; spells = s; needed = h; above = a; loose = l }

-- a frame is put together with the tree behind it, or stays
bind_or : (n : ℕ) → (f : Frame) → (fs : List Frame) → (v : Number) → (read : List Symbol) → (b : Bool)
    → (b ≡ true → Put n read (reduced n fs (completed f v))) → (b ≡ false → Put n read (f ∷ fs, v))
    → Put n read (if b then reduced n fs (completed f v) else (f ∷ fs, v))
bind_or n f fs v read true g h = g refl
bind_or n f fs v read false g h = h refl

clash : true ≡ false → ⊥
clash e = cc

not_le : (a b : ℕ) → nat_le a b ≡ false → b < a
not_le a b h = elim (leb_tells a b) [ inl p ↦ absurd (clash (sym p.0 ∙ h)) | inr p ↦ p.1 ]

pub puts : (n : ℕ) → (fs : List Frame) → (front : List Symbol) → (t : Tree) → (read : List Symbol) → Stands fs front
    → Proper t → front ++ spell t ≡ read → need fs ≤ level t → n ≤ level t → Put n read (reduced n fs (value t))
puts n [] front t read st p s h a = left n [] front t (value t) read st p refl s h a tt
puts n (Unary m ∷ fs) front t read st p s h a =
    bind_or n (Unary m) fs (value t) read (nat_le n 12)
    (λ b. puts n fs st.0 (Unary_of m t) read st.1 (st.3, h, p)
    (sym (append_assoc st.0 (symbol.Mark m ∷ []) (spell t)) ∙ ap (λ x. x ++ spell t) (sym st.4) ∙ s)
    st.2 (leb-true n 12 b))
    (λ b. left n (Unary m ∷ fs) front t (value t) read st p refl s h a (not_le n 12 b))
puts n (Left m v ∷ fs) front t read st p s h a =
    bind_or n (Left m v) fs (value t) read (nat_le n (level_of m))
    (λ b. subst (λ x. Put n read (reduced n fs (binary m x (value t)))) (sym st.7)
    (puts n fs st.0 (Binary_of m st.1 t) read st.2 (st.4, st.5, h, st.6, p)
    (regroup st.0 (spell st.1) (symbol.Mark m) (spell t) ∙ ap (λ x. x ++ spell t) (sym st.8) ∙ s)
    st.3 (leb-true n (level_of m) b)))
    (λ b. left n (Left m v ∷ fs) front t (value t) read st p refl s h a (not_le n (level_of m) b))
puts n (Test v ∷ fs) front t read st p s h a = left n (Test v ∷ fs) front t (value t) read st p refl s h a tt
puts n (Choice v w ∷ fs) front t read st p s h a =
    bind_or n (Choice v w) fs (value t) read (nat_le n 1)
    (λ b. subst (λ x. Put n read (reduced n fs (choice x w (value t)))) (sym st.7)
    (subst (λ x. Put n read (reduced n fs (choice (value st.1) x (value t)))) (sym st.9)
    (puts n fs st.0 (Choice_of st.1 st.2 t) read st.3 (st.5, h, st.6, st.8, p)
    (regroup_choice st.0 (spell st.1) (spell st.2) (spell t) ∙ ap (λ x. x ++ spell t) (sym st.10) ∙ s)
    st.4 (leb-true n 1 b))))
    (λ b. left n (Choice v w ∷ fs) front t (value t) read st p refl s h a (not_le n 1 b))
puts n (Comma ∷ fs) front t read st p s h a =
    bind_or n Comma fs (value t) read (nat_le n 0)
    (λ b. puts n fs st.0 (Comma_of st.1 t) read st.2 (h, st.4, p)
    (regroup st.0 (spell st.1) (symbol.Mark mark.Comma) (spell t) ∙ ap (λ x. x ++ spell t) (sym st.5) ∙ s)
    st.3 (leb-true n 0 b))
    (λ b. left n (Comma ∷ fs) front t (value t) read st p refl s h a (not_le n 0 b))
puts n (Paren ∷ fs) front t read st p s h a = left n (Paren ∷ fs) front t (value t) read st p refl s h a tt

need_low : (fs : List Frame) → need fs ≤ 12
need_low [] = omega arith
need_low (Unary m ∷ fs) = omega arith
need_low (Left m a ∷ fs) = omega (arith, level_low m)
need_low (Choice c a ∷ fs) = omega arith
need_low (Comma ∷ fs) = omega arith
need_low (Test c ∷ fs) = omega arith
need_low (Paren ∷ fs) = omega arith

-- what is waited for where no operator of this level puts anything together
loose_need : (n : ℕ) → (fs : List Frame) → IsLoose n fs → need fs ≤ n
loose_need n [] l = omega arith
loose_need n (Unary m ∷ fs) l = omega arith
loose_need n (Left m a ∷ fs) l = omega arith
loose_need n (Choice c a ∷ fs) l = omega arith
loose_need n (Comma ∷ fs) l = omega arith
loose_need n (Test c ∷ fs) l = omega arith
loose_need n (Paren ∷ fs) l = omega arith

condition_need : (fs : List Frame) → (read : List Symbol) → Stands fs read → IsLoose 2 fs → need fs ≤ 1
condition_need [] read st l = omega arith
condition_need (Unary m ∷ fs) read st l = absurd (omega arith)
condition_need (Left m a ∷ fs) read st l = absurd (omega (arith, st.4))
condition_need (Choice c a ∷ fs) read st l = omega arith
condition_need (Comma ∷ fs) read st l = omega arith
condition_need (Test c ∷ fs) read st l = omega arith
condition_need (Paren ∷ fs) read st l = omega arith

-- a reader stands behind these symbols
abbrev pub StandsAt : List Frame → At → List Symbol → Type 0
StandsAt fs Start read = Stands fs read
StandsAt fs (Behind v) read =
    (front : List Symbol) × (t : Tree) × (Stands fs front) × (Proper t) × (13 ≤ level t) × (v ≡ value t)
    × (front ++ spell t ≡ read)
StandsAt fs Wrong read = Unit {0}

abbrev pub IsBehind : Reader → List Symbol → Type 0
IsBehind r read = StandsAt r.frames r.at read

-- a symbol more
with_one : (front a read : List Symbol) → (s : Symbol) → front ++ a ≡ read → read ++ s ∷ [] ≡ front ++ (a ++ s ∷ [])
with_one front a read s h = ap (λ x. x ++ s ∷ []) (sym h) ∙ append_assoc front a (s ∷ [])

puts_behind : (n : ℕ) → (fs : List Frame) → (v : Number) → (read : List Symbol) → n ≤ 13 → StandsAt fs (Behind v) read
    → Put n read (reduced n fs v)
puts_behind n fs v read h g =
    subst (λ x. Put n read (reduced n fs x)) (sym g.5)
    (puts n fs g.0 g.1 read g.2 g.3 g.6 (omega (arith, need_low fs, g.4)) (omega (arith, g.4)))

operated_stands : (m : Mark) → (read : List Symbol) → (p : List Frame × Number) → 2 ≤ level_of m → Put (level_of m) read p
    → IsBehind (operated m p) (read ++ symbol.Mark m ∷ [])
operated_stands m read p h q = (
  q.front,
  q.tree,
  q.stands,
  loose_need (level_of m) p.0 q.loose,
  h,
  q.above,
  q.proper,
  q.value,
  with_one q.front (spell q.tree) read (symbol.Mark m) q.spells,
)

tested_stands : (read : List Symbol) → (p : List Frame × Number) → Put 2 read p
    → IsBehind (tested p) (read ++ symbol.Mark mark.Question ∷ [])
tested_stands read p q = (
  q.front,
  q.tree,
  q.stands,
  condition_need p.0 q.front q.stands q.loose,
  q.above,
  q.proper,
  q.value,
  with_one q.front (spell q.tree) read (symbol.Mark mark.Question) q.spells,
)

comma_stands : (read : List Symbol) → (p : List Frame × Number) → Put 0 read p
    → IsBehind (waits Comma p.0) (read ++ symbol.Mark mark.Comma ∷ [])
comma_stands read p q = (
  q.front,
  q.tree,
  q.stands,
  loose_need 0 p.0 q.loose,
  q.proper,
  with_one q.front (spell q.tree) read (symbol.Mark mark.Comma) q.spells,
)

choice_spells : (front c a : List Symbol)
    → ((front ++ (c ++ symbol.Mark mark.Question ∷ [])) ++ a) ++ symbol.Mark mark.Colon ∷ []
    ≡ front ++ (c ++ symbol.Mark mark.Question ∷ (a ++ symbol.Mark mark.Colon ∷ []))
choice_spells front c a =
    append_assoc (front ++ (c ++ symbol.Mark mark.Question ∷ [])) a (symbol.Mark mark.Colon ∷ [])
    ∙ append_assoc front (c ++ symbol.Mark mark.Question ∷ []) (a ++ symbol.Mark mark.Colon ∷ [])
    ∙ ap (λ x. front ++ x) (append_assoc c (symbol.Mark mark.Question ∷ []) (a ++ symbol.Mark mark.Colon ∷ []))

chosen_stands : (read : List Symbol) → (f : Frame) → (fs : List Frame) → (v : Number) → Put 0 read (f ∷ fs, v)
    → IsBehind (chosen f fs v) (read ++ symbol.Mark mark.Colon ∷ [])
chosen_stands read (Test c) fs v q =
    let st : Stands (Test c ∷ fs) q.front = q.stands in (
      st.0,
      st.1,
      q.tree,
      st.2,
      st.3,
      st.4,
      st.5,
      st.6,
      q.proper,
      q.value,
      ap (λ x. x ++ symbol.Mark mark.Colon ∷ []) (sym q.spells)
          ∙ ap (λ x. (x ++ spell q.tree) ++ symbol.Mark mark.Colon ∷ []) st.7
          ∙ choice_spells st.0 (spell st.1) (spell q.tree),
    )
chosen_stands read (Unary m) fs v q = tt
chosen_stands read (Left m a) fs v q = tt
chosen_stands read (Choice c a) fs v q = tt
chosen_stands read Comma fs v q = tt
chosen_stands read Paren fs v q = tt

choice_stands : (read : List Symbol) → (fs : List Frame) → (v : Number) → Put 0 read (fs, v)
    → IsBehind (chosen_in (fs, v)) (read ++ symbol.Mark mark.Colon ∷ [])
choice_stands read [] v q = tt
choice_stands read (f ∷ fs) v q = chosen_stands read f fs v q

paren_spells : (front a : List Symbol)
    → front ++ (symbol.Mark mark.OpenParen ∷ (a ++ symbol.Mark mark.CloseParen ∷ []))
    ≡ ((front ++ symbol.Mark mark.OpenParen ∷ []) ++ a) ++ symbol.Mark mark.CloseParen ∷ []
paren_spells front a =
    sym (append_assoc front (symbol.Mark mark.OpenParen ∷ []) (a ++ symbol.Mark mark.CloseParen ∷ []))
    ∙ sym (append_assoc (front ++ symbol.Mark mark.OpenParen ∷ []) a (symbol.Mark mark.CloseParen ∷ []))

closed_stands : (read : List Symbol) → (f : Frame) → (fs : List Frame) → (v : Number) → Put 0 read (f ∷ fs, v)
    → IsBehind (closed f fs v) (read ++ symbol.Mark mark.CloseParen ∷ [])
closed_stands read Paren fs v q =
    let st : Stands (Paren ∷ fs) q.front = q.stands in (
      st.0,
      Paren_of q.tree,
      st.1,
      q.proper,
      omega arith,
      q.value,
      paren_spells st.0 (spell q.tree)
          ∙ ap (λ x. (x ++ spell q.tree) ++ symbol.Mark mark.CloseParen ∷ []) (sym st.2)
          ∙ ap (λ x. x ++ symbol.Mark mark.CloseParen ∷ []) q.spells,
    )
closed_stands read (Unary m) fs v q = tt
closed_stands read (Left m a) fs v q = tt
closed_stands read (Choice c a) fs v q = tt
closed_stands read Comma fs v q = tt
closed_stands read (Test c) fs v q = tt

close_stands : (read : List Symbol) → (fs : List Frame) → (v : Number) → Put 0 read (fs, v)
    → IsBehind (closed_in (fs, v)) (read ++ symbol.Mark mark.CloseParen ∷ [])
close_stands read [] v q = tt
close_stands read (f ∷ fs) v q = closed_stands read f fs v q

-- any other mark behind an operand: a level that isn't 0 is 2 at least
level_high : (m : Mark) → (level_of m ≡ 0) ⊎ (2 ≤ level_of m)
level_high mark.Plus = inr (omega arith)
level_high mark.Minus = inr (omega arith)
level_high mark.Tilde = inl refl
level_high mark.Not = inl refl
level_high mark.Star = inr (omega arith)
level_high mark.Slash = inr (omega arith)
level_high mark.Percent = inr (omega arith)
level_high mark.ShiftLeft = inr (omega arith)
level_high mark.ShiftRight = inr (omega arith)
level_high mark.Less = inr (omega arith)
level_high mark.Greater = inr (omega arith)
level_high mark.LessEqual = inr (omega arith)
level_high mark.GreaterEqual = inr (omega arith)
level_high mark.Equal = inr (omega arith)
level_high mark.NotEqual = inr (omega arith)
level_high mark.And = inr (omega arith)
level_high mark.Caret = inr (omega arith)
level_high mark.Or = inr (omega arith)
level_high mark.AndAnd = inr (omega arith)
level_high mark.OrOr = inr (omega arith)
level_high mark.Question = inl refl
level_high mark.Colon = inl refl
level_high mark.Comma = inl refl
level_high mark.OpenParen = inl refl
level_high mark.CloseParen = inl refl
level_high mark.Other = inl refl

operator_or : (m : Mark) → (fs : List Frame) → (v : Number) → (read : List Symbol) → StandsAt fs (Behind v) read
    → (b : Bool) → (b ≡ false → 2 ≤ level_of m)
    → IsBehind (if b then wrong fs else operated m (reduced (level_of m) fs v)) (read ++ symbol.Mark m ∷ [])
operator_or m fs v read g true h = tt
operator_or m fs v read g false h =
    operated_stands m read (reduced (level_of m) fs v) (h refl)
    (puts_behind (level_of m) fs v read (omega (arith, level_low m)) g)

not_zero : (m : Mark) → (level_of m == 0) ≡ false → 2 ≤ level_of m
not_zero m h = elim (level_high m) [ inl e ↦ absurd (clash (sym (ap (λ x. x == 0) e) ∙ h)) | inr l ↦ l ]

operator_stands : (m : Mark) → (fs : List Frame) → (v : Number) → (read : List Symbol) → StandsAt fs (Behind v) read
    → IsBehind (operator m fs v) (read ++ symbol.Mark m ∷ [])
operator_stands m fs v read g = operator_or m fs v read g (level_of m == 0) (not_zero m)

go_on_stands : (m : Mark) → (fs : List Frame) → (v : Number) → (read : List Symbol) → StandsAt fs (Behind v) read
    → IsBehind (go_on_mark m fs v) (read ++ symbol.Mark m ∷ [])
go_on_stands mark.Question fs v read g = tested_stands read (reduced 2 fs v) (puts_behind 2 fs v read (omega arith) g)
go_on_stands mark.Colon fs v read g =
    let p = reduced 0 fs v in choice_stands read p.0 p.1 (puts_behind 0 fs v read (omega arith) g)
go_on_stands mark.Comma fs v read g = comma_stands read (reduced 0 fs v) (puts_behind 0 fs v read (omega arith) g)
go_on_stands mark.CloseParen fs v read g =
    let p = reduced 0 fs v in close_stands read p.0 p.1 (puts_behind 0 fs v read (omega arith) g)
go_on_stands mark.Plus fs v read g = operator_stands mark.Plus fs v read g
go_on_stands mark.Minus fs v read g = operator_stands mark.Minus fs v read g
go_on_stands mark.Tilde fs v read g = operator_stands mark.Tilde fs v read g
go_on_stands mark.Not fs v read g = operator_stands mark.Not fs v read g
go_on_stands mark.Star fs v read g = operator_stands mark.Star fs v read g
go_on_stands mark.Slash fs v read g = operator_stands mark.Slash fs v read g
go_on_stands mark.Percent fs v read g = operator_stands mark.Percent fs v read g
go_on_stands mark.ShiftLeft fs v read g = operator_stands mark.ShiftLeft fs v read g
go_on_stands mark.ShiftRight fs v read g = operator_stands mark.ShiftRight fs v read g
go_on_stands mark.Less fs v read g = operator_stands mark.Less fs v read g
go_on_stands mark.Greater fs v read g = operator_stands mark.Greater fs v read g
go_on_stands mark.LessEqual fs v read g = operator_stands mark.LessEqual fs v read g
go_on_stands mark.GreaterEqual fs v read g = operator_stands mark.GreaterEqual fs v read g
go_on_stands mark.Equal fs v read g = operator_stands mark.Equal fs v read g
go_on_stands mark.NotEqual fs v read g = operator_stands mark.NotEqual fs v read g
go_on_stands mark.And fs v read g = operator_stands mark.And fs v read g
go_on_stands mark.Caret fs v read g = operator_stands mark.Caret fs v read g
go_on_stands mark.Or fs v read g = operator_stands mark.Or fs v read g
go_on_stands mark.AndAnd fs v read g = operator_stands mark.AndAnd fs v read g
go_on_stands mark.OrOr fs v read g = operator_stands mark.OrOr fs v read g
go_on_stands mark.OpenParen fs v read g = operator_stands mark.OpenParen fs v read g
go_on_stands mark.Other fs v read g = operator_stands mark.Other fs v read g

opened_stands : (m : Mark) → (fs : List Frame) → (read : List Symbol) → Stands fs read
    → IsBehind (opened m fs) (read ++ symbol.Mark m ∷ [])
opened_stands mark.OpenParen fs read st = (read, st, refl)
opened_stands mark.Plus fs read st = tt
opened_stands mark.Minus fs read st = tt
opened_stands mark.Tilde fs read st = tt
opened_stands mark.Not fs read st = tt
opened_stands mark.Star fs read st = tt
opened_stands mark.Slash fs read st = tt
opened_stands mark.Percent fs read st = tt
opened_stands mark.ShiftLeft fs read st = tt
opened_stands mark.ShiftRight fs read st = tt
opened_stands mark.Less fs read st = tt
opened_stands mark.Greater fs read st = tt
opened_stands mark.LessEqual fs read st = tt
opened_stands mark.GreaterEqual fs read st = tt
opened_stands mark.Equal fs read st = tt
opened_stands mark.NotEqual fs read st = tt
opened_stands mark.And fs read st = tt
opened_stands mark.Caret fs read st = tt
opened_stands mark.Or fs read st = tt
opened_stands mark.AndAnd fs read st = tt
opened_stands mark.OrOr fs read st = tt
opened_stands mark.Question fs read st = tt
opened_stands mark.Colon fs read st = tt
opened_stands mark.Comma fs read st = tt
opened_stands mark.CloseParen fs read st = tt
opened_stands mark.Other fs read st = tt

start_or : (m : Mark) → (fs : List Frame) → (read : List Symbol) → Stands fs read → (b : Bool) → (b ≡ true → is_prefix m ≡ true)
    → IsBehind (if b then waits (Unary m) fs else opened m fs) (read ++ symbol.Mark m ∷ [])
start_or m fs read st true h = (read, st, need_low fs, h refl, refl)
start_or m fs read st false h = opened_stands m fs read st

start_stands : (s : Symbol) → (fs : List Frame) → (read : List Symbol) → Stands fs read
    → IsBehind (start s fs) (read ++ s ∷ [])
start_stands (symbol.Constant v) fs read st = (read, Constant_of v, st, tt, omega arith, refl, refl)
start_stands (symbol.Mark m) fs read st = start_or m fs read st (is_prefix m) (λ e. e)

go_stands : (s : Symbol) → (fs : List Frame) → (v : Number) → (read : List Symbol) → StandsAt fs (Behind v) read
    → IsBehind (go_on s fs v) (read ++ s ∷ [])
go_stands (symbol.Constant w) fs v read g = tt
go_stands (symbol.Mark m) fs v read g = go_on_stands m fs v read g

at_stands : (s : Symbol) → (fs : List Frame) → (at : At) → (read : List Symbol) → StandsAt fs at read
    → IsBehind (step_at s fs at) (read ++ s ∷ [])
at_stands s fs Start read g = start_stands s fs read g
at_stands s fs (Behind v) read g = go_stands s fs v read g
at_stands s fs Wrong read g = tt

-- a proper tree that spells what was read
pub record Whole (read : List Symbol) (v : Number) : Type 0 where
  pub tree : Tree
  pub proper : Proper tree
  pub spells : spell tree ≡ read
  pub value : v ≡ value tree

none_is_some : {A : Type 0} → (v : A) → None ≡ Some v → ⊥
none_is_some v h = cc

ended_whole : (read : List Symbol) → (fs : List Frame) → (w v : Number) → Put 0 read (fs, w) → ended_with (fs, w) ≡ Some v
    → Whole read v
ended_whole read [] w v q h =
    let e : w ≡ v = cc in
    record {
      tree = q.tree;
      proper = q.proper;
      spells = ap (λ x. x ++ spell q.tree) (sym q.stands) ∙ q.spells;
      value = sym e ∙ q.value;
    }
ended_whole read (f ∷ fs) w v q h = absurd (none_is_some v h)

finished_whole : (fs : List Frame) → (at : At) → (read : List Symbol) → (v : Number) → StandsAt fs at read
    → finished_at fs at ≡ Some v → Whole read v
finished_whole fs Start read v g h = absurd (none_is_some v h)
finished_whole fs (Behind w) read v g h =
    let p = reduced 0 fs w in ended_whole read p.0 p.1 v (puts_behind 0 fs w read (omega arith) g) h
finished_whole fs Wrong read v g h = absurd (none_is_some v h)

pub runs_whole : (ss : List Symbol) → (r : Reader) → (read : List Symbol) → (v : Number) → IsBehind r read
    → run r ss ≡ Some v → Whole (read ++ ss) v
runs_whole [] r read v g h =
    subst (λ x. Whole x v) (sym (append-nil read)) (finished_whole r.frames r.at read v g h)
runs_whole (s ∷ ss) r read v g h =
    subst (λ x. Whole x v) (append_assoc read (s ∷ []) ss)
    (runs_whole ss (step s r) (read ++ s ∷ []) v (at_stands s r.frames r.at read g) h)
