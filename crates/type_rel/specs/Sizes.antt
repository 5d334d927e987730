-- Sizes and alignments of types, in bytes (ISO C11 5.2.4.2.1, 6.2.6, 6.2.8, 6.5.3.4).
use Rattle.std.specs.Prelude.{ℕ, ◌*◌, nat_le, is_some, List, Option, Some, None, if◌then◌else◌}
use Rattle.std.specs.Map.{lookup}
use Rattle.type_data.specs.declared.basics.Basic.{Basic}
use Rattle.type_data.specs.declared.basics.Basic.TheVariants as basic
use Rattle.type_data.specs.declared.members.TagInfo.{TagInfo}
use Rattle.type_data.specs.declared.names.TagId.{TagId}
use Rattle.type_data.specs.declared.qualifiers.Extent.{Extent}
use Rattle.type_data.specs.declared.qualifiers.Extent.TheVariants as extent
use Rattle.type_data.specs.Layouts.{Laid}
use Rattle.type_data.specs.Same.{same_tag}
use Rattle.type_data.specs.Types.{Ty, Void_type, Basic_type, Enumerated_type, Tagged_type, Pointer_to, Array_of, Function_of, Bad_type}

abbrev pub basic_size : Basic → ℕ
basic_size basic.Bool = 1
basic_size basic.Char = 1
basic_size basic.SChar = 1
basic_size basic.UChar = 1
basic_size basic.Short = 2
basic_size basic.UShort = 2
basic_size basic.Int = 4
basic_size basic.UInt = 4
basic_size basic.Long = 8
basic_size basic.ULong = 8
basic_size basic.LongLong = 8
basic_size basic.ULongLong = 8
basic_size basic.Float = 4
basic_size basic.Double = 8
basic_size basic.LongDouble = 16

-- size and alignment
abbrev pub Sized : Type 0
Sized = ℕ × ℕ

-- 6.5.3.4p4: of an array, where its size is at most 2^60-1
unfoldable pub times : ℕ → Sized → Option Sized
times n one = if nat_le (n * one.0) 1152921504606846975 then Some (n * one.0, one.1) else None

abbrev pub array_size : Extent → Option Sized → Option Sized
array_size (extent.Size n) (Some one) = times n one
array_size (extent.Size n) None = None
array_size extent.None one = None
array_size extent.Unknown one = None

-- 6.7.2.2p4: an enumerated type whose members are known is compatible with int
abbrev pub enumerated_size : Option TagInfo → Option Sized
enumerated_size None = None
enumerated_size (Some info) = if is_some info.members then Some (4, 4) else None

abbrev pub laid_size : Option Laid → Option Sized
laid_size None = None
laid_size (Some laid) = Some (laid.size, laid.align)

abbrev pub tagged_size : Option TagInfo → Option Sized
tagged_size None = None
tagged_size (Some info) = laid_size info.layout

abbrev pub size_align : List (TagId × TagInfo) → Ty → Option Sized
size_align tags Void_type = None
size_align tags (Basic_type b) = Some (basic_size b, basic_size b)
size_align tags (Enumerated_type id) = enumerated_size (lookup (same_tag id) tags)
size_align tags (Tagged_type id) = tagged_size (lookup (same_tag id) tags)
size_align tags (Pointer_to t q) = Some (8, 8)
size_align tags (Array_of t q n) = array_size n (size_align tags t)
size_align tags (Function_of t ps p) = None
size_align tags Bad_type = None
