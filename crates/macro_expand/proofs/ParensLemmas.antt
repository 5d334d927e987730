-- What the count of parentheses says of a list and of the call that it begins with.
use Rattle.std.proofs.Common.{◌≡◌, ℕ, suc, ◌+◌, ◌-◌, ◌<◌, ◌≤◌, Bool, true, false, ◌&&◌, List, [], ◌∷◌, ◌++◌, length}
use Rattle.std.proofs.Common.{refl, ap, ◌∙◌, arith, eqb, codes, if◌then◌else◌}
use Rattle.std.proofs.lemmas.Bool.{and_left, and_right, ne_eqb}
use Rattle.std.specs.Prelude.{Option, Some, None, option_map}
use Rattle.tok_data.specs.declared.tokens.OutToken.{OutToken}
use Rattle.macro_expand.specs.declared.types.Marked.{Marked}
use Rattle.macro_table.specs.declared.definition.MacroDef.{MacroDef}
use Rattle.macro_expand.specs.declared.arguments.Called.TheVariants.{Absent, Unclosed}
use Rattle.macro_expand.specs.Tokens.{is_mark}
use Rattle.macro_expand.specs.Arguments as call
use Rattle.macro_expand.specs.Arguments.{balanced}
use Rattle.macro_expand.specs.Ties.Parens.{before, all_before, parens, counted}
use Rattle.macro_expand.proofs.Cases.{if_cases}
use Rattle.macro_expand.proofs.ReadingLemmas.{IsOpen, open_snoc, balanced_is, no_mark}

-- a list that is counted from its end
pub all_before_snoc : (ts : List Marked) (t : Marked) (p : ℕ × List ℕ)
    → all_before (ts ++ t ∷ []) p ≡ all_before ts (before t.token p)
all_before_snoc [] t p = refl
all_before_snoc (u ∷ us) t p = ap (before u.token) (all_before_snoc us t p)

pub all_before_append : (ts us : List Marked) (p : ℕ × List ℕ) → all_before (ts ++ us) p ≡ all_before ts (all_before us p)
all_before_append [] us p = refl
all_before_append (t ∷ ts) us p = ap (before t.token) (all_before_append ts us p)

-- no more are free than there are tokens
one_more : (t : OutToken) (p : ℕ × List ℕ) (n : ℕ) → p.0 ≤ n → (before t p).0 ≤ n + 1
unfolding before
one_more t p n most =
    let P : ℕ × List ℕ → Type 0 = λ q. q.0 ≤ n + 1 in
    if_cases P (is_mark (codes "(") t) _ _ (λ _. omega (arith, most))
    (λ _. if_cases P (is_mark (codes ")") t) _ _ (λ _. omega (arith, most)) (λ _. omega (arith, most)))

pub parens_at_most : (ts : List Marked) → (parens ts).0 ≤ length ts
parens_at_most [] = omega arith
parens_at_most (t ∷ ts) =
    let more = one_more t.token (parens ts) (length ts) (parens_at_most ts) in
    let next : suc (length ts) ≡ length ts + 1 = omega arith in
    omega (arith, more, next)

-- where parentheses are counted, no more are free than in the list
pub counted_at_most : (o : Option (ℕ × List ℕ)) (p : ℕ × List ℕ) → counted o p ≡ p → (counted o (0, [])).0 ≤ p.0
counted_at_most None p is = omega arith
counted_at_most (Some q) p is = let same : q.0 ≡ p.0 = ap (λ r. r.0) is in omega (arith, same)

-- what a token does to the count
opening_free : (t : OutToken) (p : ℕ × List ℕ) → is_mark (codes "(") t ≡ true → before t p ≡ (p.0 - 1, p.1 ++ p.0 ∷ [])
unfolding before
opening_free t p opens = ap (λ (b : Bool). if b then (p.0 - 1, p.1 ++ p.0 ∷ [])
    else (if is_mark (codes ")") t then (p.0 + 1, p.1) else p)) opens

closing_free : (t : OutToken) (p : ℕ × List ℕ) → is_mark (codes "(") t ≡ false → is_mark (codes ")") t ≡ true
    → before t p ≡ (p.0 + 1, p.1)
unfolding before
closing_free t p opens closes =
    ap (λ (b : Bool). if b then (p.0 - 1, p.1 ++ p.0 ∷ []) else (if is_mark (codes ")") t then (p.0 + 1, p.1) else p))
    opens ∙ ap (λ (b : Bool). if b then (p.0 + 1, p.1) else p) closes

other_free : (t : OutToken) (p : ℕ × List ℕ) → is_mark (codes "(") t ≡ false → is_mark (codes ")") t ≡ false
    → before t p ≡ p
unfolding before
other_free t p opens closes =
    ap (λ (b : Bool). if b then (p.0 - 1, p.1 ++ p.0 ∷ []) else (if is_mark (codes ")") t then (p.0 + 1, p.1) else p))
    opens ∙ ap (λ (b : Bool). if b then (p.0 + 1, p.1) else p) closes

-- fewer are free than are open, so that the call isn't closed
goes_behind : (front : List Marked) (t : Marked) (ts : List Marked) → (is_mark (codes ")") t.token && balanced front) ≡ false
    → call.inside (front ++ t ∷ []) ts ≡ None → call.inside front (t ∷ ts) ≡ None
goes_behind front t ts goes none =
    ap (λ (b : Bool). if b then Some ([], t)
    else option_map (λ p. (t ∷ p.0, p.1)) (call.inside (front ++ t ∷ []) ts)) goes
    ∙ ap (option_map (λ p. (t ∷ p.0, p.1))) none

by_cases : (P : Type 0) (b : Bool) → (b ≡ true → P) → (b ≡ false → P) → P
by_cases P true holds fails = holds refl
by_cases P false holds fails = fails refl

pub none_closes : (ts : List Marked) (d : ℕ) (front : List Marked) → IsOpen d front → (parens ts).0 < d
    → call.inside front ts ≡ None
none_closes [] d front stands few = refl
none_closes (t ∷ ts) d front stands few =
    by_cases (call.inside front (t ∷ ts) ≡ None) (is_mark (codes "(") t.token)
    (λ opens.
    let closes : is_mark (codes ")") t.token ≡ false = no_mark (codes "(") (codes ")") t.token refl opens in
    let free : (parens (t ∷ ts)).0 ≡ (parens ts).0 - 1 =
    ap (λ (p : ℕ × List ℕ). p.0) (opening_free t.token (parens ts) opens) in
    goes_behind front t ts (and_left (is_mark (codes ")") t.token) (balanced front) closes)
    (none_closes ts (d + 1) (front ++ t ∷ [])
    (open_snoc d (d + 1) front t true false stands opens closes (omega arith)) (omega (arith, few, free))))
    (λ opens. by_cases (call.inside front (t ∷ ts) ≡ None) (is_mark (codes ")") t.token)
    (λ closes.
    let free : (parens (t ∷ ts)).0 ≡ (parens ts).0 + 1 =
    ap (λ (p : ℕ × List ℕ). p.0) (closing_free t.token (parens ts) opens closes) in
    let deep : eqb d 1 ≡ false = ne_eqb d 1 (λ one. omega (arith, few, free, one)) in
    goes_behind front t ts (and_right (is_mark (codes ")") t.token) (balanced front) (balanced_is d front stands ∙ deep))
    (none_closes ts (d - 1) (front ++ t ∷ [])
    (open_snoc d (d - 1) front t false true stands opens closes (omega (arith, few, free)))
    (omega (arith, few, free))))
    (λ closes.
    let free : (parens (t ∷ ts)).0 ≡ (parens ts).0 =
    ap (λ (p : ℕ × List ℕ). p.0) (other_free t.token (parens ts) opens closes) in
    goes_behind front t ts (and_left (is_mark (codes ")") t.token) (balanced front) closes)
    (none_closes ts d (front ++ t ∷ []) (open_snoc d d front t false false stands opens closes refl)
    (omega (arith, few, free)))))

-- where none is free behind the first parenthesis, the call isn't closed
pub call_is_open : (def : MacroDef) (all : List Marked) (t : Marked) (ts : List Marked) → all ≡ t ∷ ts
    → is_mark (codes "(") t.token ≡ true
    → ((ns : List ℕ) (n : ℕ) → (parens all).1 ≡ ns ++ n ∷ [] → n ≡ 0)
    → call.called def all ≡ Unclosed
call_is_open def all t ts is opens first =
    let free : (parens ts).0 ≡ 0 =
    first (parens ts).1 (parens ts).0
    (ap (λ (l : List Marked). (parens l).1) is ∙ ap (λ (p : ℕ × List ℕ). p.1) (opening_free t.token (parens ts) opens)) in
    ap (call.called def) is
    ∙ ap (λ (b : Bool). if b then call.closed def (call.inside [] ts) else Absent) opens
    ∙ ap (call.closed def) (none_closes ts 1 [] refl (omega (arith, free)))
