-- Type specifiers of one word, and how they combine (ISO C11 6.7.2p2): at most one names a type, at most one sign and one size go with it,
-- of which `long` may stand twice.
use Rattle.std.specs.Prelude.{Bool, true, false, Option, Some, None}
use Rattle.type_data.specs.declared.basics.Basic.{Basic}
use Rattle.type_data.specs.declared.basics.Basic.TheVariants as basic
use Rattle.type_data.specs.Types.{Ty, Basic_type, Void_type}
use Rattle.elab_core.specs.declared.kinds.Base.{Base}
use Rattle.elab_core.specs.declared.kinds.Base.TheVariants as base
use Rattle.elab_core.specs.declared.kinds.Sign.{Sign}
use Rattle.elab_core.specs.declared.kinds.Sign.TheVariants as sign
use Rattle.elab_core.specs.declared.kinds.Size.{Size}
use Rattle.elab_core.specs.declared.kinds.Size.TheVariants as size

-- `char`, `signed char`, `unsigned char`
abbrev pub character : Sign → Basic
character sign.None = basic.Char
character sign.Signed = basic.SChar
character sign.Unsigned = basic.UChar

-- `int` may be left out beside a sign or a size
abbrev pub integer : Size → Sign → Basic
integer size.None sign.None = basic.Int
integer size.None sign.Signed = basic.Int
integer size.None sign.Unsigned = basic.UInt
integer size.Short sign.None = basic.Short
integer size.Short sign.Signed = basic.Short
integer size.Short sign.Unsigned = basic.UShort
integer size.Long sign.None = basic.Long
integer size.Long sign.Signed = basic.Long
integer size.Long sign.Unsigned = basic.ULong
integer size.LongLong sign.None = basic.LongLong
integer size.LongLong sign.Signed = basic.LongLong
integer size.LongLong sign.Unsigned = basic.ULongLong

abbrev pub alone : Size → Sign → Ty → Option Ty
alone size.None sign.None t = Some t
alone s g t = None

abbrev pub double : Size → Sign → Option Ty
double size.None sign.None = Some (Basic_type basic.Double)
double size.Long sign.None = Some (Basic_type basic.LongDouble)
double s g = None

abbrev pub sized_character : Size → Sign → Option Ty
sized_character size.None g = Some (Basic_type (character g))
sized_character s g = None

abbrev pub without_name : Size → Sign → Option Ty
without_name size.None sign.None = None
without_name s g = Some (Basic_type (integer s g))

-- none where they don't combine, or there is none
abbrev pub combined : Base → Size → Sign → Option Ty
combined base.None s g = without_name s g
combined base.Void s g = alone s g Void_type
combined base.Bool s g = alone s g (Basic_type basic.Bool)
combined base.Char s g = sized_character s g
combined base.Int s g = Some (Basic_type (integer s g))
combined base.Float s g = alone s g (Basic_type basic.Float)
combined base.Double s g = double s g

-- ---- one more of them; none where one of its kind stands already

abbrev pub with_base : Base → Base → Option Base
with_base base.None b = Some b
with_base a b = None

abbrev pub with_sign : Sign → Sign → Option Sign
with_sign sign.None g = Some g
with_sign f g = None

abbrev pub with_long : Size → Option Size
with_long size.None = Some size.Long
with_long size.Long = Some size.LongLong
with_long size.Short = None
with_long size.LongLong = None

abbrev pub with_short : Size → Option Size
with_short size.None = Some size.Short
with_short size.Short = None
with_short size.Long = None
with_short size.LongLong = None
