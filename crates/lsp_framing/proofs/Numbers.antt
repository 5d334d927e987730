-- Reading a decimal number up to a bound.
use Rattle.std.proofs.Common.{◌≡◌, ℕ, ◌+◌, ◌-◌, ◌*◌, min, true, List, [], ◌∷◌, arith, ◌∙◌}
use Rattle.std.specs.Char.{digit_value, is_ascii_digit}
use Rattle.std.specs.Str.Parse.{digits_value_after}
use Rattle.std.proofs.lemmas.Bool.Decides.{nat_tests}

-- from the bound on it doesn't matter which number the digits follow
digits_capped : (cap m n : ℕ) (ds : List ℕ) → min cap m ≡ min cap n → min cap (digits_value_after 10 m ds) ≡ min cap (digits_value_after 10 n ds)
digits_capped cap m n [] e = e
digits_capped cap m n (d ∷ ds) e = digits_capped cap (m * 10 + digit_value d) (n * 10 + digit_value d) ds (omega arith)

digit_is : (c : ℕ) → is_ascii_digit c ≡ true → digit_value c ≡ c - 48
digit_is c e = grind (arith, nat_tests)

pub number_step : (cap n c : ℕ) (ds all : List ℕ) → is_ascii_digit c ≡ true
    → min cap (digits_value_after 10 n (c ∷ ds)) ≡ min cap (digits_value_after 10 0 all)
    → min cap (digits_value_after 10 (min (n * 10 + (c - 48)) cap) ds) ≡ min cap (digits_value_after 10 0 all)
number_step cap n c ds all digit e =
    let same : min cap (min (n * 10 + (c - 48)) cap) ≡ min cap (n * 10 + digit_value c) = let d = digit_is c digit in omega arith
    in digits_capped cap _ _ ds same ∙ e
