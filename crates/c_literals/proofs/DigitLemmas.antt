-- The number of digits only grows with more of them.
use Rattle.std.proofs.Common.{arith, ◌≡◌, ◌≤◌, ◌^◌, ◌+◌, ◌*◌, ℕ, List, [], ◌∷◌, None}
use Rattle.std.specs.Str.Parse.{digits_value_after}
use Rattle.std.specs.Char.{digit_value}
use Rattle.c_literals.specs.Digits.{small}

grows : (base n d : ℕ) → 1 ≤ base → n ≤ n * base + d
grows base n d some = grind arith

pub keeps : (base n : ℕ) (ds : List ℕ) → 1 ≤ base → n ≤ digits_value_after base n ds
keeps base n [] some = omega arith
keeps base n (c ∷ cs) some =
    let here : n ≤ n * base + digit_value c = grows base n (digit_value c) some in
    let there : n * base + digit_value c ≤ digits_value_after base (n * base + digit_value c) cs = keeps base (n * base + digit_value c) cs some in
    omega arith

small_past : (n : ℕ) → 2 ^ 64 ≤ n → small n ≡ None
unfolding small
small_past n large = grind arith

pub small_none : (base n : ℕ) (ds : List ℕ) (all : ℕ) → 1 ≤ base → 2 ^ 64 ≤ n → digits_value_after base n ds ≡ all → small all ≡ None
small_none base n ds all some large is =
    let more : n ≤ digits_value_after base n ds = keeps base n ds some in
    let past : 2 ^ 64 ≤ all = grind arith in
    small_past all past
