-- Storage classes and function specifiers (ISO C11 6.7.1, 6.7.4, 6.7.6.3p2, 6.9p2, 6.9.1p4).
use Rattle.std.specs.Prelude.{Bool, true, false, ◌&&◌, ◌||◌, not, Option, Some, None, if◌then◌else◌}
use Rattle.scope_tables.specs.declared.entities.Entity.{Entity}
use Rattle.scope_tables.specs.declared.entities.EntityKind.{EntityKind}
use Rattle.scope_tables.specs.declared.entities.EntityKind.TheVariants as kind
use Rattle.scope_tables.specs.declared.entities.Life.{Life}
use Rattle.scope_tables.specs.declared.entities.Life.TheVariants as life
use Rattle.scope_tables.specs.declared.entities.Linkage.{Linkage}
use Rattle.decl_rules.specs.declared.parts.Storage.{Storage}
use Rattle.decl_rules.specs.declared.parts.Storage.TheVariants as storage
use Rattle.decl_rules.specs.declared.parts.DeclParts.{DeclParts}
use Rattle.scope_tables.specs.Scopes.{is_linked}
use Rattle.decl_rules.specs.Sorts.{is_typedef, is_register, is_extern, is_static, is_file, is_parameter, is_function, is_object}

abbrev pub is_none : Storage → Bool
is_none storage.None = true
is_none s = false

abbrev pub is_auto : Storage → Bool
is_auto storage.Auto = true
is_auto s = false

-- 6.7.6.3p2: a parameter has no storage class but `register`
abbrev pub misplaced_in_prototype : DeclParts → Bool
misplaced_in_prototype d = d.thread || not (is_none d.storage || is_register d.storage)

-- 6.9p2: neither `auto` nor `register` at file scope; 6.9.1p4: a function definition has `extern` or `static` or none
abbrev pub misplaced_at_file : DeclParts → Bool
misplaced_at_file d = is_auto d.storage || is_register d.storage || (d.has_body && is_typedef d.storage)

-- 6.7.1p7: in a block a function has no storage class but `extern`
abbrev pub misplaced_in_block : DeclParts → Bool
misplaced_in_block d = is_function d && not (is_none d.storage || is_extern d.storage)

abbrev pub is_misplaced : DeclParts → Bool
is_misplaced d =
    if is_parameter d.scope then misplaced_in_prototype d
    else (if is_file d.scope then misplaced_at_file d
    else misplaced_in_block d)

-- 6.7.4p1: `inline` and `_Noreturn` are for functions alone
abbrev pub specifies_no_function : DeclParts → Bool
specifies_no_function d = (d.inline || d.noreturn) && not (is_function d)

abbrev pub is_thread : Life → Bool
is_thread life.Thread = true
is_thread l = false

abbrev pub is_object_kind : EntityKind → Bool
is_object_kind kind.Object = true
is_object_kind k = false

-- 6.7.1p3: in all declarations of an object or in none
abbrev pub thread_differs : Option Entity → DeclParts → Bool
thread_differs None d = false
thread_differs (Some e) d = is_object_kind e.kind && is_thread e.life && not d.thread || is_object_kind e.kind && not (is_thread e.life) && d.thread

-- 6.7.1p3: in a block beside `static` or `extern`; p4: on no function
abbrev pub misplaced_thread : DeclParts → Bool
misplaced_thread d = d.thread && (is_function d || (not (is_file d.scope) && not (is_static d.storage || is_extern d.storage)))

abbrev pub has_bad_thread : Option Entity → DeclParts → Linkage → Bool
has_bad_thread linked d l = misplaced_thread d || (is_object d && is_linked l && thread_differs linked d)
