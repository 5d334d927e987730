-- A parameter, behind its declarator (ISO C11 6.7.6.3): of a function definition what is known of its type is asked for, since that has to be
-- complete (p4).
use Rattle.std.specs.Prelude.{ℕ, Bool, ◌&&◌, None, Option, if◌then◌else◌}
use Rattle.asking.specs.Asking.{Asking, Gives, and_then}
use Rattle.type_data.specs.declared.qualifiers.Qual.{Qual}
use Rattle.elab_state.specs.Contexts.{Context}
use Rattle.elab_state.specs.declared.made.Made.{Made}
use Rattle.elab_state.specs.Doings.{Doing, gives}
use Rattle.elab_state.specs.Looks.{At, look}
use Rattle.elab_state.specs.Wants.{wants}
use Rattle.elab_core.specs.declared.shapes.Gathered.{Gathered}
use Rattle.elab_core.specs.declared.shapes.Typed.{Typed}
use Rattle.elab_core.specs.Parameters.{adjusted, given, parameter_of, stands_for_none}

abbrev pub looked : Context → Bool → Typed → Made → Asking wants Made
looked c body t m = if body then look c.item (At t.ty) m else Gives m

abbrev pub known : Context → Bool → Gathered → ℕ → Option ℕ → Typed → Made → Option Typed × Made
known c body g at own t m = given (parameter_of c body g at own t m)

-- with its type after the adjustment
abbrev pub entered_as : Context → Bool → Gathered → ℕ → Option ℕ → Typed → Made → Doing (Option Typed)
entered_as c body g at own t m = and_then (looked c body t m) (λ now. Gives (known c body g at own t now))

-- none where it stands for no parameters, which it may where it stands alone; `q` are the qualifiers in its outermost brackets
abbrev pub entered : Context → Bool → Gathered → Bool → ℕ → Option ℕ → Qual → Typed → Made → Doing (Option Typed)
entered c body g alone at own q t m = if alone && stands_for_none g own t then gives None m else entered_as c body g at own (adjusted q t) m
