-- Where the members of a structure or union stand: bytes for the whole, bits for each member.
use Rattle.std.specs.Prelude.{ℕ, List}

pub record Laid : Type 0 where
  pub size : ℕ
  pub align : ℕ
  pub offsets : List ℕ
