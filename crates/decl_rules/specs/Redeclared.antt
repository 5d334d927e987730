-- A name that its scope has already (ISO C11 6.7p3, p4).
use Rattle.std.specs.Prelude.{Bool, true, false, ◌&&◌, ◌||◌, [], ◌∷◌, Option, Some, None, if◌then◌else◌}
use Rattle.scope_tables.specs.declared.entities.Entity.{Entity}
use Rattle.scope_tables.specs.declared.entities.EntityKind.{EntityKind}
use Rattle.scope_tables.specs.declared.entities.EntityKind.TheVariants as kind
use Rattle.scope_tables.specs.declared.entities.Linkage.{Linkage}
use Rattle.type_data.specs.declared.judged.Fault.{Fault}
use Rattle.type_data.specs.Same.{same_type, same_qual}
use Rattle.type_rel.specs.Compatible.{compatible}
use Rattle.type_rel.specs.Kinds.{is_bad}
use Rattle.decl_rules.specs.declared.parts.DeclParts.{DeclParts}
use Rattle.decl_rules.specs.Faults.{of_name}
use Rattle.scope_tables.specs.Scopes.{is_linked}
use Rattle.decl_rules.specs.Sorts.{is_typedef}

abbrev pub is_typedef_name : EntityKind → Bool
is_typedef_name kind.Typedef = true
is_typedef_name k = false

-- p3: a typedef name may be declared again to denote the same type
abbrev pub retyped : Entity → DeclParts → Option Fault
retyped e d =
    if is_bad e.ty || (same_type e.ty d.ty && same_qual e.qual d.qual) then None
    else Some (of_name 404 d (d.ty ∷ e.ty ∷ []))

abbrev pub agrees : Entity → DeclParts → Bool
agrees e d = is_bad e.ty || (compatible e.ty d.ty && same_qual e.qual d.qual)

-- p4: declarations of one object or function in a scope have compatible types
abbrev pub differing : Entity → DeclParts → Option Fault
differing e d = if agrees e d then None else Some (of_name 403 d (d.ty ∷ e.ty ∷ []))

-- p3: what has no linkage is declared once in a scope
abbrev pub against : Entity → DeclParts → Linkage → Option Fault
against e d l =
    if is_typedef_name e.kind && is_typedef d.storage then retyped e d
    else (if is_linked e.linkage && is_linked l then differing e d
    else Some (of_name 402 d []))

abbrev pub redeclared : Option Entity → DeclParts → Linkage → Option Fault
redeclared None d l = None
redeclared (Some e) d l = against e d l
