-- The ranges of a text's tokens stand in order within it.
use Rattle.std.proofs.Common.{◌≡◌, ℕ, zero, suc, ◌+◌, ◌≤◌, ◌<◌, ◌^◌, List, [], ◌∷◌, length, arith, ap, sym, subst}
use Rattle.c_tokens.specs.Laws.{InOrder}
use Rattle.plain_mean.specs.Shown.{place_of}
use Rattle.unit_index.specs.Under.{AreApart}

pub apart : (text : List ℕ) (from limit : ℕ) (rs : List (ℕ × ℕ)) → InOrder text from limit rs → AreApart from rs
apart text from limit [] order = tt
apart text from limit (r ∷ rs) order = (order.0, order.1, apart text r.1 limit rs order.4)

pub counted : (text : List ℕ) (from limit : ℕ) (rs : List (ℕ × ℕ)) → InOrder text from limit rs → from + length rs ≤ limit
counted text from limit [] order = omega (arith, order)
counted text from limit (r ∷ rs) order =
    let rest : r.1 + length rs ≤ limit = counted text r.1 limit rs order.4 in omega (arith, order.0, order.1, rest)

front_within : (limit : ℕ) → (0 ≤ limit) × (0 ≤ limit)
front_within limit = (omega arith, omega arith)

pub place_within : (text : List ℕ) (from limit : ℕ) (rs : List (ℕ × ℕ)) (at : ℕ) → InOrder text from limit rs → ((place_of rs at).0 ≤ limit) × ((place_of rs at).1 ≤ limit)
place_within text from limit [] at order = front_within limit
place_within text from limit (r ∷ rs) zero order =
    let rest : r.1 + length rs ≤ limit = counted text r.1 limit rs order.4 in (omega (arith, order.1, rest), omega (arith, rest))
place_within text from limit (r ∷ rs) (suc at) order = place_within text r.1 limit rs at order.4

pub few : (text : List ℕ) (rs ps : List (ℕ × ℕ)) → ps ≡ rs → InOrder text 0 (length text) rs → length text ≤ 4290772992 → length ps < 2 ^ 32
few text rs ps same order short =
    let count : 0 + length rs ≤ length text = counted text 0 (length text) rs order in
    let size : length ps ≡ length rs = ap length same in
    omega (arith, count, size, short)
