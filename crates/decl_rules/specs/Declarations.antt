-- One declarator or parameter (ISO C11 6.7): the entity that it makes its name denote, or the fault with the lowest number.
use Rattle.std.specs.Prelude.{Bool, false, List, [], Option, Some, None, Result, Ok, Err, if◌then◌else◌}
use Rattle.scope_tables.specs.declared.entities.Entity.{Entity}
use Rattle.scope_tables.specs.declared.entities.Linkage.{Linkage}
use Rattle.scope_tables.specs.Levels.{Scope}
use Rattle.scope_tables.specs.Scopes.{found, here, linked}
use Rattle.type_data.specs.declared.judged.Fault.{Fault}
use Rattle.type_data.specs.declared.members.Space.TheVariants.{Ordinary}
use Rattle.type_data.specs.declared.members.TagInfo.{TagInfo}
use Rattle.type_data.specs.declared.names.TagId.{TagId}
use Rattle.type_data.specs.declared.judged.CheckError.{CheckError}
use Rattle.type_data.specs.declared.judged.CheckError.TheVariants.{Broken}
use Rattle.type_rel.specs.Kinds.{is_bad}
use Rattle.decl_rules.specs.declared.parts.DeclParts.{DeclParts}
use Rattle.decl_rules.specs.Alignment.{has_bad_alignment}
use Rattle.decl_rules.specs.Entities.{entity}
use Rattle.decl_rules.specs.Faults.{of_name, of_types}
use Rattle.decl_rules.specs.Linkages.{linkage_of, clash}
use Rattle.decl_rules.specs.Redeclared.{redeclared}
use Rattle.decl_rules.specs.Shapes.{bad_return, misshaped, has_no_function, has_no_name}
use Rattle.decl_rules.specs.Storages.{is_misplaced, specifies_no_function, has_bad_thread}

abbrev pub or_else : Option Fault → Option Fault → Option Fault
or_else (Some f) more = Some f
or_else None more = more

-- 406, 416, 417
abbrev pub misspecified : DeclParts → List (TagId × TagInfo) → Option Fault
misspecified d tags =
    if is_misplaced d then Some (of_types 406 d [])
    else (if specifies_no_function d then Some (of_types 416 d [])
    else (if has_bad_alignment d tags then Some (of_types 417 d [])
    else None))

-- 430: some declaration of the name that is in force has the other linkage
abbrev pub clashes : Option Entity → Linkage → Bool
clashes None l = false
clashes (Some e) l = clash e.linkage l

-- 430, 431, 432, 435
abbrev pub mismatched : Option Entity → DeclParts → Linkage → Option Fault
mismatched prior d l =
    if clashes prior l then Some (of_name 430 d [])
    else (if has_no_function d then Some (of_types 431 d [])
    else (if has_no_name d then Some (of_types 432 d [])
    else (if has_bad_thread prior d l then Some (of_types 435 d [])
    else None)))

-- the first fault in the order of the rules' numbers; what has a faulty part has no fault of its own
abbrev pub fault : Option Entity → Option Entity → DeclParts → Linkage → List (TagId × TagInfo) → Option Fault
fault before prior d l tags =
    if is_bad d.ty then None
    else or_else (redeclared before d l) (or_else (misspecified d tags) (or_else (bad_return tags d d.ty) (or_else (misshaped tags d) (mismatched prior d l))))

abbrev pub answer : Option Fault → Entity → Result Entity CheckError
answer (Some f) e = Err (Broken f)
answer None e = Ok e

abbrev pub declared_with : Option Entity → Option Entity → Option Entity → DeclParts → Linkage → List (TagId × TagInfo) → Result Entity CheckError
declared_with before visible prior d l tags = answer (fault before prior d l tags) (entity before visible prior d l)

-- `before` is what the name denotes in the same scope, `visible` what it denotes here, `prior` the entity with linkage that
-- a declaration in force gives it
abbrev pub declared : List Scope → DeclParts → List (TagId × TagInfo) → Result Entity CheckError
declared scopes d tags =
    declared_with (here Ordinary d.name scopes) (found Ordinary d.name scopes) (linked d.name scopes) d (linkage_of d (found Ordinary d.name scopes)) tags
