-- One scope.
use Rattle.std.specs.Prelude.{List}
use Rattle.scope_tables.specs.declared.bindings.Binding.{Binding}
use Rattle.scope_tables.specs.declared.entities.ScopeKind.{ScopeKind}

pub record Scope : Type 0 where
  pub kind : ScopeKind
  pub bindings : List Binding
