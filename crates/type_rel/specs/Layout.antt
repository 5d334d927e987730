-- Layouts of structures and unions (ISO C11 6.7.2.1p11, p15 to p18), member by member. Places are in bits.
use Rattle.std.specs.Prelude.{ℕ, Bool, true, false, not, ◌&&◌, ◌==◌, ◌+◌, ◌-◌, ◌*◌, ◌/◌, ◌%◌, nat_le, nat_lt, List, [], ◌∷◌, Option, Some, None, if◌then◌else◌}
use Rattle.type_data.specs.declared.members.Member.{Member}
use Rattle.type_data.specs.declared.members.TagInfo.{TagInfo}
use Rattle.type_data.specs.declared.members.TagKind.{TagKind}
use Rattle.type_data.specs.declared.members.TagKind.TheVariants as kind
use Rattle.type_data.specs.declared.names.TagId.{TagId}
use Rattle.type_data.specs.declared.qualifiers.Extent.TheVariants as extent
use Rattle.type_data.specs.Layouts.{Laid}
use Rattle.type_data.specs.Types.{Ty, Array_of}
use Rattle.type_rel.specs.Sizes.{Sized, size_align}

-- the first multiple of the unit that isn't in front of the place
unfoldable pub rounded : ℕ → ℕ → ℕ
rounded at unit = at + (unit - 1) - (at + (unit - 1)) % unit

unfoldable pub greater : ℕ → ℕ → ℕ
greater m n = if nat_lt m n then n else m

-- 6.7.5p6: a member's specifiers raise its alignment
abbrev pub raised : Option ℕ → ℕ → ℕ
raised (Some stated) natural = greater stated natural
raised None natural = natural

-- the bits of the unit of a bit-field, whose type has this size; a type without bits is none of a bit-field
abbrev pub unit_of : ℕ → ℕ
unit_of size = greater 1 (8 * size)

-- p11: a bit-field begins where the last one ends, unless it would cross a unit of its type; of width 0 it moves to the next
-- unit (p12)
unfoldable pub field_start : ℕ → ℕ → ℕ → ℕ
field_start width unit at =
    if width == 0 then rounded at unit
    else if nat_le (at % unit + width) unit then at
    else rounded at unit

-- p14: each other member begins at a multiple of its alignment
abbrev pub start : Option ℕ → ℕ → ℕ → ℕ → ℕ
start (Some width) size align at = field_start width (unit_of size) at
start None size align at = rounded at (8 * align)

abbrev pub bits : Option ℕ → ℕ → ℕ
bits (Some width) size = width
bits None size = 8 * size

-- p18: the last member of a structure may be an array of no size, which takes no bytes
abbrev pub empty : Option Sized → Option Sized
empty (Some one) = Some (0, one.1)
empty None = None

abbrev pub last_size : List (TagId × TagInfo) → Ty → Option Sized
last_size tags (Array_of t q extent.None) = empty (size_align tags t)
last_size tags t = size_align tags t

unfoldable pub member_size : List (TagId × TagInfo) → Bool → Ty → Option Sized
member_size tags last t = if last then last_size tags t else size_align tags t

-- a member that was laid: where it begins, where the next one may begin, and the alignment so far
pub record Step : Type 0 where
  pub begins : ℕ
  pub at : ℕ
  pub align : ℕ

-- a place past 2^60-1 bytes is none
unfoldable pub within : Step → Option Step
within s = if nat_le s.at 9223372036854775800 then Some s else None

-- p16: the members of a union all begin at its front, and its size is that of the largest
abbrev pub overlaid : Member → Sized → ℕ → ℕ → Option Step
overlaid m one at align =
    Some (record { begins = 0; at = greater at (bits m.width one.0); align = greater align (raised m.align one.1) })

unfoldable pub behind : Member → Sized → ℕ → ℕ → Option Step
behind m one at align =
    within (record {
      begins = start m.width one.0 (raised m.align one.1) at;
      at = start m.width one.0 (raised m.align one.1) at + bits m.width one.0;
      align = greater align (raised m.align one.1);
    })

abbrev pub step : Bool → Member → Option Sized → ℕ → ℕ → Option Step
step union m None at align = None
step true m (Some one) at align = overlaid m one at align
step false m (Some one) at align = behind m one at align

abbrev pub is_empty : {A : Type 0} → List A → Bool
is_empty [] = true
is_empty (a ∷ more) = false

pub record Placed : Type 0 where
  pub offsets : List ℕ
  pub at : ℕ
  pub align : ℕ

abbrev pub in_front : ℕ → Option Placed → Option Placed
in_front begins None = None
in_front begins (Some p) = Some (record { offsets = begins ∷ p.offsets; at = p.at; align = p.align })

abbrev pub next : Option Step → (Step → Option Placed) → Option Placed
next None others = None
next (Some s) others = in_front s.begins (others s)

-- the members behind a place
abbrev pub placed : List (TagId × TagInfo) → Bool → ℕ → ℕ → List Member → Option Placed
placed tags union at align [] = Some (record { offsets = []; at = at; align = align })
placed tags union at align (m ∷ ms) =
    next (step union m (member_size tags (not union && is_empty ms) m.ty) at align) (λ s. placed tags union s.at s.align ms)

-- p17: bytes at the end make the size a multiple of the alignment
unfoldable pub ended : List ℕ → ℕ → ℕ → Option Laid
ended offsets at align =
    if nat_le (rounded at (8 * align)) 9223372036854775800
    then Some (record { size = rounded at (8 * align) / 8; align = align; offsets = offsets })
    else None

abbrev pub finished : Option Placed → Option Laid
finished None = None
finished (Some p) = ended p.offsets p.at p.align

abbrev pub is_union : TagKind → Bool
is_union kind.Union = true
is_union k = false

abbrev pub layout : TagKind → List Member → List (TagId × TagInfo) → Option Laid
layout k members tags = finished (placed tags (is_union k) 0 1 members)
