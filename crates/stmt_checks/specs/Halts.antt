-- What a run that stopped asks.
use Rattle.std.specs.Prelude.{◌≡◌, List, [], ◌∷◌}
use Rattle.elab_state.specs.declared.halt.Halt.{Halt}
use Rattle.elab_state.specs.declared.halt.Halt.TheVariants.{Wants, NoMemory}
use Rattle.elab_state.specs.declared.wants.Wanted.{Wanted}

abbrev pub only : Wanted → List Wanted
only q = q ∷ []

-- where memory was refused, nothing
abbrev pub IsAsked : Halt → List Wanted → Type 0
IsAsked (Wants q) list = list ≡ only q
IsAsked NoMemory list = ⊥
