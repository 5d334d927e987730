-- Numbers of a condition: all act as if of type intmax_t or uintmax_t (ISO C11 6.10.1p4), which here are long and unsigned
-- long; and what operators make of them (6.5.3.3, 6.5.5 to 6.5.15, 6.5.17).
use Rattle.std.specs.Prelude.{Bool, true, false, ◌&&◌, ◌||◌, pos, if◌then◌else◌}
use Rattle.std.specs.Ordering.{int_eq}
use Rattle.type_data.specs.declared.integers.IntTy.{IntTy}
use Rattle.type_data.specs.declared.integers.IntTy.TheVariants.{Long, ULong}
use Rattle.type_data.specs.declared.values.Value.{Value}
use Rattle.type_data.specs.declared.values.Value.TheVariants.{Known, Unknown, Faulty}
use Rattle.c_literals.specs.declared.ops.Op.{Op}
use Rattle.c_literals.specs.Conversions.{converted}
use Rattle.c_literals.specs.Operators.{value_of}
use Rattle.pp_cond.specs.declared.marks.Mark.{Mark}
use Rattle.pp_cond.specs.declared.marks.Mark.TheVariants.{Not, AndAnd, OrOr, ShiftLeft, ShiftRight, Less, Greater, LessEqual, GreaterEqual, Equal, NotEqual}
use Rattle.pp_cond.specs.declared.numbers.Number.{Number}
use Rattle.pp_cond.specs.Marks.{op_of, prefix_op}

abbrev pub type_of : Bool → IntTy
type_of unsigned = if unsigned then ULong else Long

abbrev pub signed : Value → Number
signed value = record { unsigned = false; value = value }

-- the result of `!` has type int
abbrev pub keeps_type : Mark → Bool
keeps_type Not = false
keeps_type _ = true

abbrev pub unary : Mark → Number → Number
unary mark a = record {
  unsigned = keeps_type mark && a.unsigned;
  value = value_of (prefix_op mark) (type_of a.unsigned) a.value a.value;
}

-- 6.5.13, 6.5.14: the result has type int, and the operands aren't converted
abbrev pub logical : Op → Number → Number → Number
logical op a b = signed (value_of op Long a.value b.value)

-- 6.5.7p3: the result has the type of the left operand
abbrev pub shift : Op → Number → Number → Number
shift op a b = record { unsigned = a.unsigned; value = value_of op (type_of a.unsigned) a.value b.value }

-- 6.3.1.8: of two operands of which one is unsigned both are converted to that type
abbrev pub common : Op → Bool → Number → Number → Value
common op unsigned a b =
    value_of op (type_of unsigned) (converted (type_of unsigned) a.value) (converted (type_of unsigned) b.value)

-- 6.5.8p6, 6.5.9p3: the result has type int
abbrev pub comparison : Op → Number → Number → Number
comparison op a b = signed (common op (a.unsigned || b.unsigned) a b)

abbrev pub arithmetic : Op → Number → Number → Number
arithmetic op a b = record {
  unsigned = a.unsigned || b.unsigned;
  value = common op (a.unsigned || b.unsigned) a b;
}

abbrev pub binary : Mark → Number → Number → Number
binary AndAnd a b = logical (op_of AndAnd) a b
binary OrOr a b = logical (op_of OrOr) a b
binary ShiftLeft a b = shift (op_of ShiftLeft) a b
binary ShiftRight a b = shift (op_of ShiftRight) a b
binary Less a b = comparison (op_of Less) a b
binary Greater a b = comparison (op_of Greater) a b
binary LessEqual a b = comparison (op_of LessEqual) a b
binary GreaterEqual a b = comparison (op_of GreaterEqual) a b
binary Equal a b = comparison (op_of Equal) a b
binary NotEqual a b = comparison (op_of NotEqual) a b
binary mark a b = arithmetic (op_of mark) a b

-- 6.5.15p4: one of the two is evaluated
abbrev pub chosen : Value → Value → Value → Value
chosen (Known x) a b = if int_eq x (pos 0) then b else a
chosen Unknown a b = Unknown
chosen (Faulty rule) a b = Faulty rule

abbrev pub choice : Number → Number → Number → Number
choice condition a b = record {
  unsigned = a.unsigned || b.unsigned;
  value =
      chosen condition.value (converted (type_of (a.unsigned || b.unsigned)) a.value)
      (converted (type_of (a.unsigned || b.unsigned)) b.value);
}

-- 6.6p3: a comma stands in no constant expression but where it isn't evaluated
abbrev pub comma : Number → Number
comma b = record { unsigned = b.unsigned; value = Faulty 530 }
