-- Primary expressions (ISO C11 6.5.1), generic selections aside.
use Rattle.std.specs.Prelude.{Bool, ℕ, ◌+◌, ◌&&◌, List, [], ◌∷◌, length, Option, Some, None, Ok, ◌==◌, if◌then◌else◌}
use Rattle.type_data.specs.declared.basics.Basic.{Basic}
use Rattle.type_data.specs.declared.basics.Basic.TheVariants as basic
use Rattle.type_data.specs.declared.judged.Constancy.{Constancy}
use Rattle.type_data.specs.declared.judged.Constancy.TheVariants.{No, Int, Addr}
use Rattle.type_data.specs.declared.judged.Place.{Place}
use Rattle.type_data.specs.declared.judged.Place.TheVariants as place
use Rattle.type_data.specs.declared.qualifiers.Extent.TheVariants as extent
use Rattle.type_data.specs.declared.values.Value.{Value}
use Rattle.type_data.specs.declared.values.Value.TheVariants.{Known, Unknown}
use Rattle.type_data.specs.Same.{same_qual}
use Rattle.type_data.specs.Types.{Void_type, Basic_type, Array_of}
use Rattle.type_rel.specs.Arithmetic.{basic_of}
use Rattle.type_rel.specs.Kinds.{unqualified}
use Rattle.type_rel.specs.Conversion.{value}
use Rattle.c_literals.specs.declared.literal.Literal.{Literal}
use Rattle.c_literals.specs.declared.literal.Literal.TheVariants as literal
use Rattle.c_literals.specs.declared.strings.StrValue.{StrValue}
use Rattle.scope_tables.specs.declared.entities.Entity.{Entity}
use Rattle.scope_tables.specs.declared.entities.EntityKind.{EntityKind}
use Rattle.scope_tables.specs.declared.entities.EntityKind.TheVariants as kind
use Rattle.scope_tables.specs.declared.entities.Life.{Life}
use Rattle.scope_tables.specs.declared.entities.Life.TheVariants as life
use Rattle.expr_rules.specs.Kinds.{is_void}
use Rattle.expr_rules.specs.Operands.{Answer, broken}

-- 6.7.1p6: the address of a register isn't taken
abbrev pub place_of : Life → Place
place_of life.Register = place.Register
place_of life.Static = place.Object
place_of life.Thread = place.Object
place_of life.Automatic = place.Object
place_of life.Without = place.Object

-- 6.6p9: the address of an object of static storage duration is constant
abbrev pub address_of : Life → Constancy
address_of life.Static = Addr
address_of life.Thread = No
address_of life.Automatic = No
address_of life.Register = No
address_of life.Without = No

abbrev pub value_or_unknown : Option Value → Value
value_or_unknown (Some v) = v
value_or_unknown None = Unknown

abbrev pub not_declared : ℕ → List ℕ → Answer
not_declared at name = broken at 501 (name ∷ []) []

-- 6.3.2.1p1: what has the type void is no lvalue
abbrev pub is_no_lvalue : Entity → Bool
is_no_lvalue e = is_void e.ty && same_qual e.qual unqualified

abbrev pub object : Entity → Answer
object e =
    if is_no_lvalue e then Ok (value Void_type No)
    else Ok (record { ty = e.ty; qual = e.qual; place = place_of e.life; constant = address_of e.life })

abbrev pub function : Entity → Answer
function e = Ok (record { ty = e.ty; qual = unqualified; place = place.Function; constant = Addr })

abbrev pub enumerator : Entity → Answer
enumerator e = Ok (value e.ty (Int (value_or_unknown e.value)))

-- p2: an object, a function, or (6.4.4.3) an enumeration constant
abbrev pub denoted : ℕ → List ℕ → Entity → EntityKind → Answer
denoted at name e kind.Object = object e
denoted at name e kind.Function = function e
denoted at name e kind.Enumerator = enumerator e
denoted at name e kind.Typedef = not_declared at name
denoted at name e (kind.Tag id info) = not_declared at name
denoted at name e kind.Member = not_declared at name
denoted at name e kind.Label = not_declared at name

abbrev pub identifier : ℕ → List ℕ → Option Entity → Answer
identifier at name None = not_declared at name
identifier at name (Some e) = denoted at name e e.kind

-- 6.4.4: a constant; the value of a floating one isn't told
abbrev pub constant : ℕ → Literal → Answer
constant at (literal.Int ty n) = Ok (value (Basic_type (basic_of ty)) (Int (Known n)))
constant at (literal.Floating b) = Ok (value (Basic_type b) (Int Unknown))
constant at (literal.Bad rule) = broken at rule [] []

-- 6.4.5p6: the elements of a string literal, by the number of its prefix
unfoldable pub element_of : ℕ → Basic
element_of n = if n == 2 then basic.UShort else if n == 3 then basic.UInt else if n == 4 then basic.Int else basic.Char

-- an array of static storage duration, with a zero at its end
abbrev pub text : StrValue → Answer
text s = Ok (record {
  ty = Array_of (Basic_type (element_of s.prefix)) unqualified (extent.Size (length s.units + 1));
  qual = unqualified;
  place = place.Object;
  constant = Addr;
})
