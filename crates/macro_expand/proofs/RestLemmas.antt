-- A list of which some tokens were put in front.
use Rattle.std.proofs.Common.{◌≡◌, ℕ, zero, suc, ◌+◌, ◌-◌, ◌<◌, ◌≤◌, List, [], ◌∷◌, ◌++◌, length}
use Rattle.std.proofs.Common.{map, refl, ap, sym, ◌∙◌, arith, option_map}
use Rattle.std.proofs.lemmas.List.{length-append, length-map, map-append}
use Rattle.std.proofs.lemmas.Option.{slice_get-map}
use Rattle.std.specs.Prelude.{Option, slice_get}
use Rattle.tok_data.specs.declared.tokens.OutToken.{OutToken}
use Rattle.macro_expand.specs.declared.types.Marked.{Marked}
use Rattle.macro_expand.specs.Ties.Parens.{before, all_before, parens}
use Rattle.macro_expand.specs.Ties.Rests.{laid}
use Rattle.macro_expand.specs.Tokens.{plain}
use Rattle.macro_expand.proofs.ParensLemmas.{all_before_snoc, all_before_append}

pub get_front : (xs ys : List Marked) (k : ℕ) → k < length xs → slice_get (xs ++ ys) k ≡ slice_get xs k
get_front [] ys k within = absurd (omega (arith, within))
get_front (x ∷ xs) ys zero within = refl
get_front (x ∷ xs) ys (suc k) within = get_front xs ys k (omega (arith, within))

pub get_behind : (xs ys : List Marked) (k : ℕ) → length xs ≤ k → slice_get (xs ++ ys) k ≡ slice_get ys (k - length xs)
get_behind [] ys k past = let same : k ≡ k - 0 = omega arith in ap (slice_get ys) same
get_behind (x ∷ xs) ys zero past = absurd (omega (arith, past))
get_behind (x ∷ xs) ys (suc k) past =
    let same : k - length xs ≡ suc k - suc (length xs) = omega arith in
    get_behind xs ys k (omega (arith, past)) ∙ ap (slice_get ys) same

-- a token of those behind
pub get_plain : (front : List Marked) (behind : List OutToken) (k : ℕ) (o : Option OutToken)
    → length front ≤ k → slice_get behind (k - length front) ≡ o
    → slice_get (laid front behind) k ≡ option_map plain o
get_plain front behind k o past is =
    get_behind front (map plain behind) k past
    ∙ slice_get-map plain behind (k - length front)
    ∙ ap (option_map plain) is

-- where nothing was put in front
pub laid_plain : (front : List Marked) (behind : List OutToken) (t : OutToken) (ts : List OutToken) → front ≡ []
    → behind ≡ t ∷ ts → laid front behind ≡ plain t ∷ laid front ts
laid_plain front behind t ts none is =
    ap (laid front) is
    ∙ ap (λ (l : List Marked). laid l (t ∷ ts)) none
    ∙ ap (λ (l : List Marked). plain t ∷ laid l ts) (sym none)

-- the parentheses of a list that ends in a token
pub plain_snoc : (ts : List OutToken) (t : OutToken) (p : ℕ × List ℕ)
    → all_before (map plain ts) (before t p) ≡ all_before (map plain (ts ++ t ∷ [])) p
plain_snoc ts t p =
    sym (all_before_snoc (map plain ts) (plain t) p)
    ∙ ap (λ (l : List Marked). all_before l p) (sym (map-append plain ts (t ∷ [])))

-- the parentheses of a list in front of which tokens were put, counted part by part
pub laid_parens : (first last front : List Marked) (behind : List OutToken) (n m p : ℕ × List ℕ) → first ++ last ≡ front
    → n ≡ parens (map plain behind) → m ≡ all_before last n → p ≡ all_before first m → p ≡ parens (laid front behind)
laid_parens first last front behind n m p whole counted more all =
    all
    ∙ ap (all_before first) (more ∙ ap (all_before last) counted)
    ∙ sym (all_before_append first last (parens (map plain behind)))
    ∙ ap (λ (l : List Marked). all_before l (parens (map plain behind))) whole
    ∙ sym (all_before_append front (map plain behind) (0, []))

-- the parentheses of a list in front of which nothing was put, part by part
pub plains_before : (front : List Marked) (behind gone left : List OutToken) → front ≡ [] → behind ≡ gone ++ left
    → parens (laid front behind) ≡ all_before (map plain gone) (parens (laid front left))
plains_before front behind gone left none is =
    ap (λ (l : List Marked). parens (laid l behind)) none
    ∙ ap (λ (l : List OutToken). parens (map plain l)) is
    ∙ ap parens (map-append plain gone left)
    ∙ all_before_append (map plain gone) (map plain left) (0, [])
    ∙ ap (λ (l : List Marked). all_before (map plain gone) (parens (laid l left))) (sym none)

pub laid_length : (front : List Marked) (behind : List OutToken)
    → length (laid front behind) ≡ length front + length behind
laid_length front behind =
    length-append front (map plain behind) ∙ ap (λ (n : ℕ). length front + n) (length-map behind plain)

pub laid_nil : (front : List Marked) (behind : List OutToken) → laid front behind ≡ [] → length front ≡ 0
laid_nil front behind none =
    let all = laid_length front behind in
    let zero : length (laid front behind) ≡ 0 = ap length none in
    omega (arith, all, zero)
