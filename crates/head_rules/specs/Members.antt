-- What a member of a structure or union may be (ISO C11 6.7.2.1), and the member that it becomes.
use Rattle.std.specs.Prelude.{ℕ, ℤ, pos, negsuc, Bool, true, false, ◌&&◌, ◌||◌, not, ◌==◌, is_some, is_none, nat_le, nat_lt, Option, Some, None, if◌then◌else◌}
use Rattle.scope_tables.specs.declared.entities.Anchor.TheVariants as anchor
use Rattle.scope_tables.specs.declared.entities.Entity.{Entity}
use Rattle.scope_tables.specs.declared.entities.EntityKind.TheVariants as kind
use Rattle.scope_tables.specs.declared.entities.Life.TheVariants as life
use Rattle.scope_tables.specs.declared.entities.Linkage.TheVariants as linkage
use Rattle.type_data.specs.declared.judged.Fault.{Fault}
use Rattle.type_data.specs.declared.members.Member.{Member}
use Rattle.type_data.specs.declared.members.TagKind.{TagKind}
use Rattle.type_data.specs.declared.members.TagKind.TheVariants as tag_kind
use Rattle.type_data.specs.declared.values.Value.{Value}
use Rattle.type_data.specs.declared.values.Value.TheVariants.{Known, Unknown, Faulty}
use Rattle.type_data.specs.Types.{Bad_type}
use Rattle.type_rel.specs.Completeness.{is_complete, is_open_array}
use Rattle.type_rel.specs.Kinds.{Tagging, integer_type, is_bad}
use Rattle.type_rel.specs.Sizes.{Sized, size_align}
use Rattle.head_rules.specs.declared.naming.Constant.{Constant}
use Rattle.head_rules.specs.declared.naming.Constant.TheVariants as constant
use Rattle.head_rules.specs.declared.naming.NameToken.{NameToken}
use Rattle.head_rules.specs.declared.parts.FieldParts.{FieldParts}
use Rattle.head_rules.specs.Faults.{plain, of_name, of_type}
use Rattle.head_rules.specs.Naming.{name_of, text_of, token_of}
use Rattle.head_rules.specs.Widths.{bit_width}

-- ---- what its parts are

abbrev pub is_absent : Constant → Bool
is_absent constant.Absent = true
is_absent (constant.Is v) = false
is_absent constant.Faulty = false

abbrev pub is_faulty : Constant → Bool
is_faulty constant.Faulty = true
is_faulty constant.Absent = false
is_faulty (constant.Is v) = false

-- what has a faulty part, which was told, has no fault of its own
unfoldable pub has_bad_part : FieldParts → Bool
has_bad_part w = is_bad w.ty || is_faulty w.width

-- p13: a structure or union without a name
unfoldable pub is_anonymous : FieldParts → Bool
is_anonymous w = is_none w.name && is_absent w.width

abbrev pub is_struct : TagKind → Bool
is_struct tag_kind.Struct = true
is_struct tag_kind.Union = false
is_struct tag_kind.Enum = false

-- ---- 408: p3, a complete object type, or p18 an array of no size in a structure that has another named member in front; a structure
-- with such an array, and a union that holds one, is no member of a structure

unfoldable pub is_member_type : Tagging → TagKind → Bool → FieldParts → Bool
is_member_type tags k behind w =
    (is_complete tags w.ty || (is_struct k && (behind && is_open_array w.ty))) && not (is_struct k && w.flexible)

unfoldable pub bad_type : Tagging → TagKind → Bool → FieldParts → Option Fault
bad_type tags k behind w = if is_member_type tags k behind w then None else Some (of_type 408 w.at (text_of w.name) w.ty)

-- ---- 409: p4, p5

abbrev pub bad_width : FieldParts → Option ℕ → Option Fault
bad_width w (Some n) = None
bad_width w None = Some (of_name 409 w.at (text_of w.name))

-- a bit-field's type is looked at by the rule of bit-fields alone
unfoldable pub misshaped : Tagging → TagKind → Bool → FieldParts → Constant → Option Fault
misshaped tags k behind w constant.Absent = bad_type tags k behind w
misshaped tags k behind w (constant.Is v) = bad_width w (bit_width (integer_type w.ty) (is_some w.name) v)
misshaped tags k behind w constant.Faulty = None

-- ---- 417: 6.7.5p2, on no bit-field; p4, not less strict than the type, where that is told

abbrev pub is_below : ℤ → Sized → Bool
is_below (pos n) own = not (n == 0) && nat_lt n own.1
is_below (negsuc n) own = false

abbrev pub is_less_strict : Value → Option Sized → Bool
is_less_strict (Known z) (Some own) = is_below z own
is_less_strict (Known z) None = false
is_less_strict Unknown own = false
is_less_strict (Faulty rule) own = false

unfoldable pub misaligned : Tagging → FieldParts → Option Value → Option Fault
misaligned tags w None = None
misaligned tags w (Some v) =
    if not (is_absent w.width) || is_less_strict v (size_align tags w.ty) then Some (plain 417 w.align_at) else None

-- ---- the member

-- the alignment, where it is known; 0 has no effect (6.7.5p6), and none is greater than 2^64-1
abbrev pub known_alignment : ℤ → Option ℕ
known_alignment (pos n) = if n == 0 then None else if nat_le n 18446744073709551615 then Some n else None
known_alignment (negsuc n) = None

unfoldable pub alignment_of : Option Value → Option ℕ
alignment_of (Some (Known z)) = known_alignment z
alignment_of (Some Unknown) = None
alignment_of (Some (Faulty rule)) = None
alignment_of None = None

unfoldable pub width_of : FieldParts → Constant → Option ℕ
width_of w constant.Absent = None
width_of w (constant.Is v) = bit_width (integer_type w.ty) (is_some w.name) v
width_of w constant.Faulty = None

unfoldable pub member : FieldParts → Member
member w = record {
  name = name_of w.name;
  ty = w.ty;
  qual = w.qual;
  width = width_of w w.width;
  align = alignment_of w.align;
  value = None;
  at = token_of w.name;
}

-- what is refused has the type of what has a fault, so that nothing more is shown of it
unfoldable pub bad_member : FieldParts → Member
bad_member w = record {
  name = name_of w.name;
  ty = Bad_type;
  qual = w.qual;
  width = None;
  align = None;
  value = None;
  at = token_of w.name;
}

-- the names of an anonymous structure or union are there all the same
unfoldable pub refused : FieldParts → Member
refused w = if is_anonymous w then member w else bad_member w

unfoldable pub member_of : FieldParts → Option Fault → Member
member_of w (Some f) = refused w
member_of w None = if has_bad_part w then refused w else member w

-- ---- what its name denotes

unfoldable pub entity : NameToken → Member → Entity
entity n m = record {
  name = n.name;
  kind = kind.Member;
  ty = m.ty;
  qual = m.qual;
  linkage = linkage.None;
  life = life.Without;
  value = None;
  anchor = anchor.Local n.tok;
}
