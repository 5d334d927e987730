-- What the parameter list of a function definition declares (ISO C11 6.2.1p4): the parameters, and the tags and enumerators among them, as the
-- names of its scope denote them at its end.
use Rattle.std.specs.Prelude.{ℕ, false, is_none, List, [], ◌∷◌, ◌++◌, drop, Option, Some, None, if◌then◌else◌}
use Rattle.init_rules.specs.Stacks.{top}
use Rattle.scope_tables.specs.Scopes.{here}
use Rattle.scope_tables.specs.Occurrences.{same_anchor}
use Rattle.scope_tables.specs.declared.bindings.Binding.{Binding}
use Rattle.scope_tables.specs.declared.entities.Entity.{Entity}
use Rattle.scope_tables.specs.declared.entities.EntityKind.{EntityKind}
use Rattle.scope_tables.specs.declared.entities.EntityKind.TheVariants as kind
use Rattle.type_data.specs.declared.members.Space.{Space}
use Rattle.type_data.specs.declared.members.Space.TheVariants as space
use Rattle.elab_state.specs.declared.around.Where.{Where}
use Rattle.elab_state.specs.declared.made.Made.{Made}
use Rattle.elab_core.specs.declared.shapes.Step.{Step}
use Rattle.elab_core.specs.Parameters.{out_of_prototype}

abbrev pub space_of : EntityKind → Option Space
space_of (kind.Tag id info) = Some space.Tags
space_of kind.Object = Some space.Ordinary
space_of kind.Function = Some space.Ordinary
space_of kind.Typedef = Some space.Ordinary
space_of kind.Enumerator = Some space.Ordinary
space_of kind.Member = None
space_of kind.Label = None

-- the binding of its name in the innermost scope, where that is to it
abbrev pub if_same : Space → Entity → Entity → List Binding
if_same s e f = if same_anchor f.anchor e.anchor then record { space = s; name = e.name; entity = f } ∷ [] else []

abbrev pub binding_to : Space → Entity → Option Entity → List Binding
binding_to s e (Some f) = if_same s e f
binding_to s e None = []

abbrev pub binding_in : Entity → Made → Option Space → List Binding
binding_in e m (Some s) = binding_to s e (here s e.name m.names)
binding_in e m None = []

abbrev pub binding_of : Made → Entity → List Binding
binding_of m e = binding_in e m (space_of e.kind)

abbrev pub bindings_of : Made → List Entity → List Binding
bindings_of m [] = []
bindings_of m (e ∷ es) = binding_of m e ++ bindings_of m es

-- of the entities behind the first ones, so many of which were there before
abbrev pub bound_since : ℕ → Made → List Binding
bound_since n m = bindings_of m (drop n m.entities)

-- ---- whose it is (6.9.1p2, p5): the list next to the name that a function definition declares, and none that stands within it

abbrev pub in_list : Where → Where
in_list w = record w { defining = false }

-- behind these steps, which stand between it and the name
abbrev pub nearest : Where → List Step → Where
nearest w ss = if is_none (top ss) then w else in_list w

-- behind the list, in front of which there were so many entities
abbrev pub kept : Where → ℕ → Made → Made
kept w before m = if w.defining then record m { params = Some (bound_since before m) } else m

abbrev pub out_of : Where → ℕ → Made → Made
out_of w before m = out_of_prototype (kept w before m)
