-- Kinds of constants (ISO C11 6.6).
use Rattle.std.specs.Prelude.{Bool, true, false}
use Rattle.type_data.specs.declared.judged.Constancy.{Constancy}
use Rattle.type_data.specs.declared.judged.Constancy.TheVariants.{No, Int, Arith, Addr, Null}
use Rattle.type_data.specs.declared.values.Value.{Value}
use Rattle.type_data.specs.declared.values.Value.TheVariants.{Known, Unknown, Faulty}

abbrev pub is_told : Value → Bool
is_told (Faulty rule) = false
is_told (Known n) = true
is_told Unknown = true

-- p8: an operand of an arithmetic constant expression. One that is out of range leaves none.
abbrev pub is_arith : Constancy → Bool
is_arith (Int v) = is_told v
is_arith Arith = true
is_arith No = false
is_arith Addr = false
is_arith Null = false

-- p9: an address constant; a null pointer is one
abbrev pub is_address : Constancy → Bool
is_address Addr = true
is_address Null = true
is_address No = false
is_address Arith = false
is_address (Int v) = false
