-- Which tokens of a head define or declare a name at file scope (ISO C11 6.2.1p4), and the kind of what they declare. A token denotes what its
-- name denotes in the scope of the file at the head's end, where that is told by the anchor of the token: so members and parameters are none.
use Rattle.std.specs.Prelude.{ℕ, ◌-◌, Bool, true, false, List, [], ◌∷◌, ◌++◌, Option, Some, None, if◌then◌else◌}
use Rattle.std.specs.Option.{option_or}
use Rattle.scope_tables.specs.Occurrences.{same_anchor}
use Rattle.scope_tables.specs.Scopes.{here}
use Rattle.scope_tables.specs.declared.entities.Anchor.{Anchor}
use Rattle.scope_tables.specs.declared.entities.Entity.{Entity}
use Rattle.scope_tables.specs.declared.entities.EntityKind.{EntityKind}
use Rattle.scope_tables.specs.declared.entities.EntityKind.TheVariants as kind
use Rattle.scope_tables.specs.declared.entities.Occ.{Occ}
use Rattle.scope_tables.specs.declared.entities.Role.{Role}
use Rattle.scope_tables.specs.declared.entities.Role.TheVariants as role
use Rattle.scope_tables.specs.declared.meanings.HeadSymbol.{HeadSymbol}
use Rattle.scope_tables.specs.declared.units.SymbolKind.{SymbolKind}
use Rattle.scope_tables.specs.declared.units.SymbolKind.TheVariants as symbol_kind
use Rattle.type_data.specs.declared.members.Space.TheVariants as space
use Rattle.type_data.specs.declared.members.TagKind.{TagKind}
use Rattle.type_data.specs.declared.members.TagKind.TheVariants as tag_kind
use Rattle.elab_state.specs.Contexts.{Context}
use Rattle.elab_state.specs.declared.made.Made.{Made}
use Rattle.elab_state.specs.Tokens.{spelling}

abbrev pub of_tag : TagKind → SymbolKind
of_tag tag_kind.Struct = symbol_kind.Structure
of_tag tag_kind.Union = symbol_kind.Structure
of_tag tag_kind.Enum = symbol_kind.Enumeration

abbrev pub of_kind : EntityKind → Option SymbolKind
of_kind kind.Object = Some symbol_kind.Object
of_kind kind.Function = Some symbol_kind.Function
of_kind kind.Typedef = Some symbol_kind.Structure
of_kind (kind.Tag id info) = Some (of_tag info.kind)
of_kind kind.Enumerator = Some symbol_kind.Enumerator
of_kind kind.Member = None
of_kind kind.Label = None

abbrev pub if_told : Anchor → Option Entity → Option SymbolKind
if_told a None = None
if_told a (Some e) = if same_anchor e.anchor a then of_kind e.kind else None

-- what the name denotes as an ordinary one or as a tag, whichever has the anchor
abbrev pub denoted : Made → List ℕ → Anchor → Option SymbolKind
denoted m name a = option_or (if_told a (here space.Ordinary name m.names)) (if_told a (here space.Tags name m.names))

abbrev pub declares : Role → Bool
declares role.Defines = true
declares role.Declares = true
declares role.Uses = false
declares role.Pasted = false
declares role.Spelled = false

abbrev pub listed : ℕ → Option SymbolKind → List HeadSymbol
listed n None = []
listed n (Some k) = record { at = n; kind = k } ∷ []

abbrev pub of_occ : Context → Made → Occ → List HeadSymbol
of_occ c m o = if declares o.role then listed o.tok.at (denoted m (spelling c.tokens (o.tok.at - c.base)) o.anchor) else []

abbrev pub of_occs : Context → Made → List Occ → List HeadSymbol
of_occs c m [] = []
of_occs c m (o ∷ os) = of_occ c m o ++ of_occs c m os

abbrev pub symbols : Context → Made → List HeadSymbol
symbols c m = of_occs c m m.occs
