-- What the names of a scope denote at its end (ISO C11 6.2.1): a binding takes the place of an earlier one of its name.
use Rattle.std.specs.Prelude.{Bool, true, not, ◌&&◌, List, [], ◌∷◌, map}
use Rattle.std.specs.List.{list_any}
use Rattle.indexmap.specs.IndexMap.{insert_entry}
use Rattle.scope_tables.specs.declared.bindings.Binding.{Binding}
use Rattle.scope_tables.specs.declared.entities.Entity.{Entity}
use Rattle.meaning_lists.specs.declared.bindings.Key.{Key}
use Rattle.meaning_lists.specs.contracts.bindings.KeyPartialEq.TheImpl as keys

-- the same name in the same name space
abbrev pub same_key : Key → Key → Bool
same_key a b = keys.eq-value.it a b

abbrev pub key_of : Binding → Key
key_of b = record { space = b.space; name = b.name }

abbrev pub none_ended : List (Key × Entity)
none_ended = []

abbrev pub with_binding : List (Key × Entity) → Binding → List (Key × Entity)
with_binding es b = insert_entry same_key es (key_of b) b.entity

abbrev pub with_all : List (Key × Entity) → List Binding → List (Key × Entity)
with_all es [] = es
with_all es (b ∷ bs) = with_all (with_binding es b) bs

abbrev pub binding_of : Key × Entity → Binding
binding_of p = record { space = p.0.space; name = p.0.name; entity = p.1 }

abbrev pub last_bindings : List Binding → List Binding
last_bindings bs = map binding_of (with_all none_ended bs)

-- no name comes twice
abbrev pub are_apart : List Binding → Bool
are_apart [] = true
are_apart (b ∷ bs) = not (list_any (λ o. same_key (key_of o) (key_of b)) bs) && are_apart bs
