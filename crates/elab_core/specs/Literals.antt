-- Compound literals (ISO C11 6.5.2.5): what stands before and behind the pieces of the initializer.
use Rattle.std.specs.Prelude.{ℕ, []}
use Rattle.asking.specs.Asking.{Gives, and_then}
use Rattle.type_data.specs.declared.judged.Judged.{Judged}
use Rattle.elab_core.specs.declared.shapes.Filling.{Filling}
use Rattle.elab_core.specs.declared.shapes.Typed.{Typed}
use Rattle.elab_core.specs.Braced.{empty, whole}
use Rattle.elab_state.specs.declared.made.Made.{Made}
use Rattle.elab_state.specs.Doings.{Doing, gives, scope_kind}
use Rattle.elab_state.specs.Looks.{Deep, look}
use Rattle.elab_state.specs.Contexts.{Context}
use Rattle.elab_core.specs.Rows.{row}

-- what objects of the type hold is known then, at any depth
abbrev pub begun : Context → Typed → Made → Doing Filling
begun c ty m = and_then (look c.item (Deep ty.ty) m) (λ known. gives (empty (scope_kind known) ty) known)

-- `at` is the opening parenthesis
abbrev pub literal : Context → ℕ → Typed → Filling → Made → Doing Judged
literal c at ty f m = row c at (whole (scope_kind m) ty f) [] m
