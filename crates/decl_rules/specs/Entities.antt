-- What a declarator makes its name denote.
use Rattle.std.specs.Prelude.{◌&&◌, ◌||◌, not, Option, Some, None, if◌then◌else◌}
use Rattle.scope_tables.specs.declared.entities.Anchor.{Anchor}
use Rattle.scope_tables.specs.declared.entities.Anchor.TheVariants as anchor
use Rattle.scope_tables.specs.declared.entities.Entity.{Entity}
use Rattle.scope_tables.specs.declared.entities.EntityKind.{EntityKind}
use Rattle.scope_tables.specs.declared.entities.EntityKind.TheVariants as kind
use Rattle.scope_tables.specs.declared.entities.Life.{Life}
use Rattle.scope_tables.specs.declared.entities.Life.TheVariants as life
use Rattle.scope_tables.specs.declared.entities.Linkage.{Linkage}
use Rattle.scope_tables.specs.declared.entities.Linkage.TheVariants as linkage
use Rattle.type_data.specs.Types.{Ty}
use Rattle.type_rel.specs.Composite.{composite}
use Rattle.decl_rules.specs.declared.parts.DeclParts.{DeclParts}
use Rattle.scope_tables.specs.Scopes.{is_linked}
use Rattle.decl_rules.specs.Redeclared.{agrees, is_typedef_name}
use Rattle.decl_rules.specs.Sorts.{is_typedef, is_register, is_extern, is_static, is_file, is_parameter, is_function_type}

-- a name of a faulty type counts as an object, and with a body as a function
abbrev pub kind_of : DeclParts → EntityKind
kind_of d =
    if is_typedef d.storage then kind.Typedef
    else (if is_function_type d.ty || (d.has_body && not (is_parameter d.scope)) then kind.Function
    else kind.Object)

-- 6.2.4p3 to p5
abbrev pub life_of_object : DeclParts → Life
life_of_object d =
    if d.thread then life.Thread
    else (if is_register d.storage then life.Register
    else (if is_file d.scope || is_static d.storage || is_extern d.storage then life.Static
    else life.Automatic))

abbrev pub life_of : EntityKind → DeclParts → Life
life_of kind.Object d = life_of_object d
life_of k d = life.Without

-- 6.2.7p4: with a prior declaration that is visible, in this scope or in one round it, the type is the composite one. Where one of an
-- outer scope isn't compatible, no rule is broken, and the type stands.
abbrev pub joined : Option Entity → DeclParts → Linkage → Ty
joined None d l = d.ty
joined (Some e) d l = if is_linked e.linkage && (is_linked l && agrees e d) then composite e.ty d.ty else d.ty

-- what no other declaration made known is told by its first token
abbrev pub own_anchor : DeclParts → Anchor
own_anchor d = if d.made then anchor.Made d.tok d.name else anchor.Local d.tok

abbrev pub anchor_as : Option Entity → DeclParts → Anchor
anchor_as None d = own_anchor d
anchor_as (Some e) d = e.anchor

-- the typedef name that is declared again
abbrev pub same_typedef : Option Entity → Option Entity
same_typedef None = None
same_typedef (Some e) = if is_typedef_name e.kind then Some e else None

abbrev pub anchor_of : Option Entity → Option Entity → DeclParts → Linkage → Anchor
anchor_of here linked d linkage.External = anchor.External d.name
anchor_of here linked d linkage.Internal = anchor_as linked d
anchor_of here linked d linkage.None = if is_typedef d.storage then anchor_as (same_typedef here) d else own_anchor d

-- `here` is what the name denotes in the same scope, `visible` what it denotes, `linked` the entity with linkage in force
abbrev pub entity : Option Entity → Option Entity → Option Entity → DeclParts → Linkage → Entity
entity here visible linked d l = record {
  name = d.name;
  kind = kind_of d;
  ty = joined visible d l;
  qual = d.qual;
  linkage = l;
  life = life_of (kind_of d) d;
  value = None;
  anchor = anchor_of here linked d l;
}
