-- What is known of a `switch` at a place within it (ISO C11 6.8.4.2).
use Rattle.std.specs.Prelude.{ℤ, Bool, List, Option}
use Rattle.type_data.specs.declared.integers.IntTy.{IntTy}

pub record Cases : Type 0 where
  -- the promoted type of its controlling expression, where that is an integer type
  pub ty : Option IntTy
  -- the values of its `case`s so far, after their conversion: each once, from the least on
  pub values : List ℤ
  -- whether it has a `default` so far
  pub defaulted : Bool
