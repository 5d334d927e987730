-- What an operand is after lvalue, array and function conversion (ISO C11 6.3.2.1).
use Rattle.std.specs.Prelude.{Option, None}
use Rattle.type_data.specs.declared.integers.IntTy.{IntTy}
use Rattle.type_data.specs.declared.judged.Constancy.{Constancy}
use Rattle.type_data.specs.declared.judged.Constancy.TheVariants.{No, Int, Arith}
use Rattle.type_data.specs.declared.judged.Judged.{Judged}
use Rattle.type_data.specs.declared.judged.Place.{Place}
use Rattle.type_data.specs.declared.judged.Place.TheVariants as place
use Rattle.type_data.specs.Types.{Ty, Pointer_to, Array_of, Function_of}
use Rattle.type_rel.specs.Kinds.{integer_type, unqualified}

-- a value, which has no qualifiers
abbrev pub value : Ty → Constancy → Judged
value t c = record { ty = t; qual = unqualified; place = place.Value; constant = c }

-- of an object that is read nothing is known
abbrev pub after_reading : Place → Constancy → Constancy
after_reading place.Value c = c
after_reading place.Object c = No
after_reading (place.BitField w) c = No
after_reading place.Register c = No
after_reading place.Function c = c

-- a floating constant has the constancy of an integer constant expression whose value isn't told, as long as it stands alone or
-- in parentheses; as an operand it is an arithmetic constant
abbrev pub as_operand : Option IntTy → Constancy → Constancy
as_operand None (Int v) = Arith
as_operand n c = c

-- p2 to p4
abbrev pub converted_as : Ty → Judged → Judged
converted_as (Array_of t q n) j = value (Pointer_to t q) j.constant
converted_as (Function_of t ps p) j = value (Pointer_to (Function_of t ps p) unqualified) j.constant
converted_as t j = value t (as_operand (integer_type t) (after_reading j.place j.constant))

unfoldable pub converted : Judged → Judged
converted j = converted_as j.ty j
