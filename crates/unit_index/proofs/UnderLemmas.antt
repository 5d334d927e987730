-- The token that is found by halving is the first that the definition meets.
use Rattle.std.proofs.Common.{arith, ◌≡◌, ◌≤◌, ◌<◌, ℕ, zero, suc, ◌+◌, Bool, true, false, ◌&&◌, List, [], ◌∷◌, length, get_or, Option, Some, None, refl, sym, ap, subst, inl, inr, ◌∙◌}
use Rattle.std.specs.Prelude.{nat_lt, nat_le, if◌then◌else◌}
use Rattle.std.proofs.lemmas.Bool.{leb-true, eqb-true}
use Rattle.std.proofs.lemmas.Bool.Decides.{nat_tests, leb_tells}
use Rattle.std.specs.List.{slice_get}
use Rattle.std.specs.List.Sorted.{IsPartitionPoint, IsNonDecreasingBy}
use Rattle.std.proofs.lemmas.List.Sorted.{IsNonDecreasingBy-from_default}
use Rattle.tok_data.specs.declared.tokens.PpToken.{PpToken}
use Rattle.unit_index.specs.Under.{is_identifier, holds, ends, begins, first_identifier, or_else, if_identifier, identifier_at, passes, under, AreApart}

-- ---- places in order

begins_late : (from : ℕ) (ps : List (ℕ × ℕ)) (i : ℕ) (p : ℕ × ℕ) → AreApart from ps → slice_get ps i ≡ Some p → (from ≤ p.0) × (p.0 < p.1)
begins_late from [] i p apart e = absurd (cc e)
begins_late from (q ∷ ps) zero p apart e = let same : q ≡ p = cc e in subst (λ r. (from ≤ r.0) × (r.0 < r.1)) same (apart.0, apart.1)
begins_late from (q ∷ ps) (suc i) p apart e = let later = begins_late q.1 ps i p apart.2 e in let a = apart.0 in let b = apart.1 in (omega (arith, a, b, later.0), later.1)

in_turn : (from : ℕ) (ps : List (ℕ × ℕ)) (i j : ℕ) (p q : ℕ × ℕ) → AreApart from ps → i < j → slice_get ps i ≡ Some p → slice_get ps j ≡ Some q → p.1 ≤ q.0
in_turn from [] i j p q apart l e f = absurd (cc e)
in_turn from (r ∷ ps) i zero p q apart l e f = let bad : ⊥ = omega (arith, l) in absurd bad
in_turn from (r ∷ ps) zero (suc j) p q apart l e f = let same : r ≡ p = cc e in subst (λ x. x.1 ≤ q.0) same (begins_late r.1 ps j q apart.2 f).0
in_turn from (r ∷ ps) (suc i) (suc j) p q apart l e f = in_turn r.1 ps i j p q apart.2 (omega (arith, l)) e f

within : {A : Type 0} (xs : List A) (i : ℕ) (x : A) → slice_get xs i ≡ Some x → i < length xs
within [] i x e = absurd (cc e)
within (y ∷ xs) zero x e = omega arith
within (y ∷ xs) (suc i) x e = let later = within xs i x e in omega (arith, later)

got : {A : Type 0} (xs : List A) (i : ℕ) (x d : A) → slice_get xs i ≡ Some x → get_or xs i d ≡ x
got [] i x d e = absurd (cc e)
got (y ∷ xs) zero x d e = cc e
got (y ∷ xs) (suc i) x d e = got xs i x d e

give : {A : Type 0} (xs : List A) (i : ℕ) (d : A) → i < length xs → slice_get xs i ≡ Some (get_or xs i d)
give [] i d l = let bad : ⊥ = omega (arith, l) in absurd bad
give (y ∷ xs) zero d l = refl
give (y ∷ xs) (suc i) d l = give xs i d (omega (arith, l))

rising : (ps : List (ℕ × ℕ)) → AreApart 0 ps → (i j : ℕ) → i ≤ j → j < length ps → (get_or ps i (0, 0)).1 ≤ (get_or ps j (0, 0)).1
rising ps apart i j l below = elim (leb_tells j i) [
  | inl t ↦ (let same : i ≡ j = (let a = t.1 in omega (arith, a, l)) in subst (λ k. (get_or ps i (0, 0)).1 ≤ (get_or ps k (0, 0)).1) same (omega arith))
  | inr t ↦ (
      let a = t.1 in
      let order = in_turn 0 ps i j (get_or ps i (0, 0)) (get_or ps j (0, 0)) apart (omega (arith, a)) (give ps i (0, 0) (omega (arith, l, below))) (give ps j (0, 0) below) in
      let full = begins_late 0 ps j (get_or ps j (0, 0)) apart (give ps j (0, 0) below) in
      omega (arith, order, full.1))
]

pub ends_rise : (ps : List (ℕ × ℕ)) → AreApart 0 ps → IsNonDecreasingBy (λ p. p.1) ps
ends_rise ps apart = IsNonDecreasingBy-from_default (λ p. p.1) ps (0, 0) (rising ps apart)

-- ---- the first that passes

first_is : (test : ℕ × ℕ → Bool) (ts : List PpToken) (ps : List (ℕ × ℕ)) (n i : ℕ) → passes test (identifier_at ts ps i) ≡ true
    → ((j : ℕ) → j < i → passes test (identifier_at ts ps j) ≡ false) → first_identifier test n ts ps ≡ Some (n + i)
first_is test [] ps n i e none = absurd (cc e)
first_is test (t ∷ ts) [] n zero e none = absurd (cc e)
first_is test (t ∷ ts) [] n (suc i) e none = absurd (cc (sym e ∙ nowhere (slice_get ts i)))
  where
    nowhere : (o : Option PpToken) → passes test (if_identifier o None) ≡ false
    nowhere None = refl
    nowhere (Some x) = refl
first_is test (t ∷ ts) (p ∷ ps) n zero e none =
    let same : n ≡ n + 0 = omega arith in
    ap (λ b. if b then Some n else first_identifier test (n + 1) ts ps) (sym (together test (is_identifier t.kind) p) ∙ e) ∙ ap Some same
  where
    together : (test : ℕ × ℕ → Bool) (b : Bool) (p : ℕ × ℕ) → passes test (if b then Some p else None) ≡ b && test p
    together test true p = refl
    together test false p = refl
first_is test (t ∷ ts) (p ∷ ps) n (suc i) e none =
    let same : n + 1 + i ≡ n + suc i = omega arith in
    ap (λ b. if b then Some n else first_identifier test (n + 1) ts ps) (sym (together test (is_identifier t.kind) p) ∙ none 0 (omega arith))
    ∙ first_is test ts ps (n + 1) i e (λ j l. none (suc j) (omega (arith, l))) ∙ ap Some same
  where
    together : (test : ℕ × ℕ → Bool) (b : Bool) (p : ℕ × ℕ) → passes test (if b then Some p else None) ≡ b && test p
    together test true p = refl
    together test false p = refl

first_none : (test : ℕ × ℕ → Bool) (ts : List PpToken) (ps : List (ℕ × ℕ)) (n : ℕ) → ((j : ℕ) → passes test (identifier_at ts ps j) ≡ false) → first_identifier test n ts ps ≡ None
first_none test [] ps n none = refl
first_none test (t ∷ ts) [] n none = refl
first_none test (t ∷ ts) (p ∷ ps) n none =
    ap (λ b. if b then Some n else first_identifier test (n + 1) ts ps) (sym (together test (is_identifier t.kind) p) ∙ none 0)
    ∙ first_none test ts ps (n + 1) (λ j. none (suc j))
  where
    together : (test : ℕ × ℕ → Bool) (b : Bool) (p : ℕ × ℕ) → passes test (if b then Some p else None) ≡ b && test p
    together test true p = refl
    together test false p = refl

-- ---- where identifiers pass

abbrev pub Point : ℕ → List (ℕ × ℕ) → ℕ → Type 0
Point offset ps behind = IsPartitionPoint (λ p. nat_le p.1 offset ≡ true) (λ p. nat_le p.1 offset ≡ false) ps behind

-- what passes stands somewhere
pub record Passes (test : ℕ × ℕ → Bool) (ps : List (ℕ × ℕ)) (j : ℕ) : Type 0 where
  pub place : ℕ × ℕ
  pub here : slice_get ps j ≡ Some place
  pub holds : test place ≡ true

passed : (test : ℕ × ℕ → Bool) (ps : List (ℕ × ℕ)) (j : ℕ) (t : Option PpToken) (p : Option (ℕ × ℕ)) → slice_get ps j ≡ p → passes test (if_identifier t p) ≡ true → Passes test ps j
passed test ps j None p is e = absurd (cc e)
passed test ps j (Some t) None is e = absurd (cc e)
passed test ps j (Some t) (Some p) is e = by (is_identifier t.kind) e
  where
    by : (b : Bool) → passes test (if b then Some p else None) ≡ true → Passes test ps j
    by true e = record { place = p; here = is; holds = e }
    by false e = absurd (cc e)

passes_at : (test : ℕ × ℕ → Bool) (ts : List PpToken) (ps : List (ℕ × ℕ)) (j : ℕ) → passes test (identifier_at ts ps j) ≡ true → Passes test ps j
passes_at test ts ps j e = passed test ps j (slice_get ts j) (slice_get ps j) refl e

not_true : (b : Bool) → (b ≡ true → ⊥) → b ≡ false
not_true true h = absurd (h refl)
not_true false h = refl

both : (a b : Bool) → a && b ≡ true → (a ≡ true) × (b ≡ true)
both true true e = (refl, refl)
both true false e = absurd (cc e)
both false b e = absurd (cc e)

-- in front of the point a token ends at or before the offset, from it on behind the offset
in_front : (offset : ℕ) (ps : List (ℕ × ℕ)) (behind j : ℕ) (p : ℕ × ℕ) → Point offset ps behind → slice_get ps j ≡ Some p → j < behind → p.1 ≤ offset
in_front offset ps behind j p point here l =
    let is : nat_le (get_or ps j p).1 offset ≡ true = point.0 j p (omega arith) l in
    leb-true p.1 offset (subst (λ q. nat_le q.1 offset ≡ true) (got ps j p p here) is)

behind_it : (offset : ℕ) (ps : List (ℕ × ℕ)) (behind j : ℕ) (p : ℕ × ℕ) → Point offset ps behind → slice_get ps j ≡ Some p → behind ≤ j → offset < p.1
behind_it offset ps behind j p point here l =
    let is : nat_le (get_or ps j p).1 offset ≡ false = point.1 j p l (within ps j p here) in
    let at : nat_le p.1 offset ≡ false = subst (λ q. nat_le q.1 offset ≡ false) (got ps j p p here) is in
    grind (arith, nat_tests, at)

-- the only one that may hold the offset
holds_there : (offset : ℕ) (ts : List PpToken) (ps : List (ℕ × ℕ)) (behind j : ℕ) → AreApart 0 ps → Point offset ps behind → passes (holds offset) (identifier_at ts ps j) ≡ true → j ≡ behind
holds_there offset ts ps behind j apart point e =
    let there = passes_at (holds offset) ts ps j e in
    let tests = both (nat_le there.place.0 offset) (nat_lt offset there.place.1) there.holds in
    let low : there.place.0 ≤ offset = leb-true there.place.0 offset tests.0 in
    let test = tests.1 in
    let high : offset < there.place.1 = grind (arith, nat_tests, test) in
    elim (leb_tells behind j) [
      | inl t ↦ (let least = t.1 in elim (leb_tells j behind) [
        | inl u ↦ (let most = u.1 in omega (arith, least, most))
        | inr u ↦ (
            let further = u.1 in
            let inside = within ps j there.place there.here in
            let first = give ps behind there.place (omega (arith, further, inside)) in
            let order = in_turn 0 ps behind j (get_or ps behind there.place) there.place apart (omega (arith, further)) first there.here in
            let past = behind_it offset ps behind behind (get_or ps behind there.place) point first (omega arith) in
            omega (arith, order, past, low))
      ])
      | inr t ↦ (
          let before = t.1 in
          let past = in_front offset ps behind j there.place point there.here (omega (arith, before)) in
          omega (arith, past, high))
    ]

-- the only one that may end there
ends_there : (offset : ℕ) (ts : List PpToken) (ps : List (ℕ × ℕ)) (behind j : ℕ) → AreApart 0 ps → Point offset ps behind → behind ≤ length ps → passes (ends offset) (identifier_at ts ps j) ≡ true → j + 1 ≡ behind
ends_there offset ts ps behind j apart point many e =
    let there = passes_at (ends offset) ts ps j e in
    let end : there.place.1 ≡ offset = eqb-true there.place.1 offset there.holds in
    elim (leb_tells behind j) [
      | inl t ↦ (
          let least = t.1 in
          let past = behind_it offset ps behind j there.place point there.here (omega (arith, least)) in
          omega (arith, past, end))
      | inr t ↦ (let before = t.1 in elim (leb_tells behind (j + 1)) [
        | inl u ↦ (let least = u.1 in omega (arith, before, least))
        | inr u ↦ (
            let further = u.1 in
            let next = give ps (j + 1) there.place (omega (arith, further, many)) in
            let order = in_turn 0 ps j (j + 1) there.place (get_or ps (j + 1) there.place) apart (omega arith) there.here next in
            let full = begins_late 0 ps (j + 1) (get_or ps (j + 1) there.place) apart next in
            let past = in_front offset ps behind (j + 1) (get_or ps (j + 1) there.place) point next (omega (arith, further)) in
            omega (arith, order, full.1, past, end))
      ])
    ]

-- ---- what the code finds

held_by : (offset : ℕ) (ps : List (ℕ × ℕ)) (behind : ℕ) (t : Option PpToken) (p : Option (ℕ × ℕ)) → slice_get ps behind ≡ p → Point offset ps behind
    → passes (begins offset) (if_identifier t p) ≡ passes (holds offset) (if_identifier t p)
held_by offset ps behind None p is point = refl
held_by offset ps behind (Some t) None is point = refl
held_by offset ps behind (Some t) (Some p) is point = by (is_identifier t.kind)
  where
    by : (b : Bool) → passes (begins offset) (if b then Some p else None) ≡ passes (holds offset) (if b then Some p else None)
    by true =
        let past = behind_it offset ps behind behind p point is (omega arith) in
        let high : nat_lt offset p.1 ≡ true = grind (arith, nat_tests, past) in
        sym (ap (λ b. nat_le p.0 offset && b) high ∙ and_true (nat_le p.0 offset))
      where
        and_true : (b : Bool) → b && true ≡ b
        and_true true = refl
        and_true false = refl
    by false = refl

at_point : (offset : ℕ) (ts : List PpToken) (ps : List (ℕ × ℕ)) (behind : ℕ) → Point offset ps behind
    → passes (begins offset) (identifier_at ts ps behind) ≡ passes (holds offset) (identifier_at ts ps behind)
at_point offset ts ps behind point = held_by offset ps behind (slice_get ts behind) (slice_get ps behind) refl point

pub holder : (offset : ℕ) (ts : List PpToken) (ps : List (ℕ × ℕ)) (behind : ℕ) → AreApart 0 ps → Point offset ps behind
    → passes (begins offset) (identifier_at ts ps behind) ≡ true → under ts ps offset ≡ Some behind
unfolding under
holder offset ts ps behind apart point e =
    let found : first_identifier (holds offset) 0 ts ps ≡ Some (0 + behind) =
    first_is (holds offset) ts ps 0 behind (sym (at_point offset ts ps behind point) ∙ e)
    (λ j l. not_true _ (λ h. let is = holds_there offset ts ps behind j apart point h in omega (arith, is, l))) in
    let same : 0 + behind ≡ behind = omega arith in
    ap (λ o. or_else o (first_identifier (ends offset) 0 ts ps)) (found ∙ ap Some same)

no_holder : (offset : ℕ) (ts : List PpToken) (ps : List (ℕ × ℕ)) (behind : ℕ) → AreApart 0 ps → Point offset ps behind
    → passes (begins offset) (identifier_at ts ps behind) ≡ false → first_identifier (holds offset) 0 ts ps ≡ None
no_holder offset ts ps behind apart point e =
    first_none (holds offset) ts ps 0
    (λ j. not_true _ (λ h. let is = holds_there offset ts ps behind j apart point h in
    let there : passes (holds offset) (identifier_at ts ps behind) ≡ true = ap (λ k. passes (holds offset) (identifier_at ts ps k)) (sym is) ∙ h in
    let bad : false ≡ true = sym e ∙ at_point offset ts ps behind point ∙ there in
    absurd (cc bad)))

pub ender : (offset : ℕ) (ts : List PpToken) (ps : List (ℕ × ℕ)) (behind before : ℕ) → AreApart 0 ps → Point offset ps behind → behind ≤ length ps → before + 1 ≡ behind
    → passes (begins offset) (identifier_at ts ps behind) ≡ false → passes (ends offset) (identifier_at ts ps before) ≡ true → under ts ps offset ≡ Some before
unfolding under
ender offset ts ps behind before apart point many next none e =
    let found : first_identifier (ends offset) 0 ts ps ≡ Some (0 + before) =
    first_is (ends offset) ts ps 0 before e
    (λ j l. not_true _ (λ h. let is = ends_there offset ts ps behind j apart point many h in omega (arith, is, l, next))) in
    let same : 0 + before ≡ before = omega arith in
    ap (λ o. or_else o (first_identifier (ends offset) 0 ts ps)) (no_holder offset ts ps behind apart point none) ∙ found ∙ ap Some same

pub nobody : (offset : ℕ) (ts : List PpToken) (ps : List (ℕ × ℕ)) (behind : ℕ) → AreApart 0 ps → Point offset ps behind → behind ≤ length ps
    → passes (begins offset) (identifier_at ts ps behind) ≡ false → ((before : ℕ) → before + 1 ≡ behind → passes (ends offset) (identifier_at ts ps before) ≡ false) → under ts ps offset ≡ None
unfolding under
nobody offset ts ps behind apart point many none last =
    ap (λ o. or_else o (first_identifier (ends offset) 0 ts ps)) (no_holder offset ts ps behind apart point none)
    ∙ first_none (ends offset) ts ps 0
    (λ j. not_true _ (λ h. let bad : false ≡ true = sym (last j (ends_there offset ts ps behind j apart point many h)) ∙ h in absurd (cc bad)))
