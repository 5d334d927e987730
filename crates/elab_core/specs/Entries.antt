-- The types of parameters, as they are read: the last one on top (ISO C11 6.7.6.3).
use Rattle.std.specs.Prelude.{false, List, ◌∷◌, Option}
use Rattle.tree_data.specs.Trees.{Row, No_more, Parameter_then}
use Rattle.elab_state.specs.declared.around.Where.{Where}
use Rattle.elab_core.specs.declared.shapes.Typed.{Typed}
use Rattle.elab_state.specs.declared.made.Made.{Made}
use Rattle.elab_state.specs.Doings.{Doing, follow, gives}
use Rattle.elab_state.specs.Contexts.{Context}
use Rattle.elab_core.specs.Expressions.{entry}

abbrev pub stacked : Context → Where → Row → List (Option Typed) → Made → Doing (List (Option Typed))
stacked c w No_more ts m = gives ts m
stacked c w (Parameter_then o p ps) ts m = follow (follow (entry c w p false m) (λ t. gives (t ∷ ts))) (λ more. stacked c w ps more)
