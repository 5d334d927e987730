-- A name is bound in the innermost scope (ISO C11 6.2.1). What is bound in the outermost one is declared round the part.
use Rattle.std.specs.Prelude.{[], ◌∷◌, ◌++◌, length, ◌==◌, if◌then◌else◌}
use Rattle.scope_tables.specs.Scopes.{declared_in}
use Rattle.scope_tables.specs.declared.bindings.Binding.{Binding}
use Rattle.elab_state.specs.Doings.{Made}

abbrev pub noted : Binding → Made → Made
noted b m = if length m.names == 1 then record m { declared = m.declared ++ b ∷ [] } else m

abbrev pub put : Binding → Made → Made
put b m = record m { names = declared_in b m.names }

abbrev pub bound : Binding → Made → Made
bound b m = put b (noted b m)
