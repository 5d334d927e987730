-- Declarations without a declarator (ISO C11 6.7p2, 6.7.2.1p2, 6.7.4p1, 6.9p2).
use Rattle.std.specs.Prelude.{ℕ, Bool, true, false, ◌||◌, ◌&&◌, not, Option, Some, None, if◌then◌else◌}
use Rattle.scope_tables.specs.declared.entities.ScopeKind.{ScopeKind}
use Rattle.scope_tables.specs.declared.entities.ScopeKind.TheVariants as scope
use Rattle.type_data.specs.declared.judged.Fault.{Fault}
use Rattle.type_data.specs.declared.members.TagKind.{TagKind}
use Rattle.type_data.specs.declared.members.TagKind.TheVariants as tag_kind
use Rattle.head_rules.specs.declared.parts.BareParts.{BareParts}
use Rattle.head_rules.specs.declared.parts.Specified.{Specified}
use Rattle.head_rules.specs.declared.parts.Specified.TheVariants as specified
use Rattle.head_rules.specs.Faults.{plain}

abbrev pub is_enum : TagKind → Bool
is_enum tag_kind.Enum = true
is_enum tag_kind.Struct = false
is_enum tag_kind.Union = false

-- 6.7p2: a declaration declares a declarator, a tag, or the members of an enumeration
abbrev pub declares : Specified → Bool
declares (specified.Tag k named) = named || is_enum k
declares specified.Other = false

-- 6.7.2.1p2, p13: a member without a declarator is an anonymous structure or union
abbrev pub is_anonymous : Specified → Bool
is_anonymous (specified.Tag k named) = not named && not (is_enum k)
is_anonymous specified.Other = false

abbrev pub is_file : ScopeKind → Bool
is_file scope.File = true
is_file scope.Function = false
is_file scope.Block = false
is_file scope.Prototype = false

abbrev pub on : ℕ → Option ℕ → Option Fault
on rule (Some at) = Some (plain rule at)
on rule None = None

abbrev pub or_else : Option Fault → Option Fault → Option Fault
or_else (Some f) more = Some f
or_else None more = more

-- 406: 6.9p2, neither `auto` nor `register` at file scope
abbrev pub misplaced : BareParts → Option Fault
misplaced p = if is_file p.scope then on 406 p.storage_at else None

-- 401; 406; 416: 6.7.4p1, `inline` and `_Noreturn` are for functions alone. What has a faulty part has no fault of its own.
abbrev pub declaration : BareParts → Option Fault
declaration p =
    if p.faulty then None
    else if not (declares p.specified) then Some (plain 401 p.at)
    else or_else (misplaced p) (on 416 p.function_at)

-- 401, of a member
abbrev pub member : ℕ → Bool → Specified → Option Fault
member at faulty s = if faulty || is_anonymous s then None else Some (plain 401 at)
