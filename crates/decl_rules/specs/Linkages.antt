-- Linkage (ISO C11 6.2.2).
use Rattle.std.specs.Prelude.{Bool, true, false, ◌||◌, Option, Some, None, if◌then◌else◌}
use Rattle.scope_tables.specs.declared.entities.Entity.{Entity}
use Rattle.scope_tables.specs.declared.entities.Linkage.{Linkage}
use Rattle.scope_tables.specs.declared.entities.Linkage.TheVariants as linkage
use Rattle.decl_rules.specs.declared.parts.Storage.{Storage}
use Rattle.decl_rules.specs.declared.parts.DeclParts.{DeclParts}
use Rattle.decl_rules.specs.Sorts.{is_typedef, is_static, is_extern, is_file, is_parameter, is_function}

-- p4: that of the prior declaration that is visible, where that has one, and else external
abbrev pub or_external : Linkage → Linkage
or_external linkage.None = linkage.External
or_external linkage.Internal = linkage.Internal
or_external linkage.External = linkage.External

abbrev pub prior_or_external : Option Entity → Linkage
prior_or_external None = linkage.External
prior_or_external (Some entity) = or_external entity.linkage

-- p3: at file scope `static` gives internal linkage; p5: a function without storage class is as with `extern`, and an object
-- at file scope without one has external linkage
abbrev pub linkage_at_file : Bool → Storage → Option Entity → Linkage
linkage_at_file function s visible =
    if is_static s then linkage.Internal
    else (if function || is_extern s then prior_or_external visible
    else linkage.External)

-- p6: in a block an object without `extern` has none
abbrev pub linkage_in_block : Bool → Storage → Option Entity → Linkage
linkage_in_block function s visible =
    if function || is_extern s then prior_or_external visible else linkage.None

-- p6: parameters and what is neither an object nor a function have none
abbrev pub linkage_of : DeclParts → Option Entity → Linkage
linkage_of d visible =
    if is_typedef d.storage || is_parameter d.scope then linkage.None
    else (if is_file d.scope then linkage_at_file (is_function d) d.storage visible
    else linkage_in_block (is_function d) d.storage visible)

-- p7: of two linkages the one is internal and the other external
abbrev pub clash : Linkage → Linkage → Bool
clash linkage.Internal linkage.External = true
clash linkage.External linkage.Internal = true
clash a b = false
