-- Digits of a constant (ISO C11 6.4.4.1): their run at a text's front, and the number that they write.
use Rattle.std.specs.Prelude.{ℕ, Bool, ◌^◌, ◌||◌, ◌==◌, nat_lt, List, Option, Some, None, slice_index, if◌then◌else◌}
use Rattle.std.specs.List.{prefix_len}
use Rattle.std.specs.Char.{is_digit}

-- how many digits of the base stand at the front
abbrev pub run : ℕ → List ℕ → ℕ
run base text = prefix_len (λ c. is_digit c base) text

-- a letter stands at the front, in either case
unfoldable pub begins_with : ℕ → ℕ → List ℕ → Bool
begins_with small capital text = slice_index text 0 == small || slice_index text 0 == capital

-- the number of the digits, if 64 bits hold it
unfoldable pub small : ℕ → Option ℕ
small n = if nat_lt n (2 ^ 64) then Some n else None
