-- The names of the parameters of a definition, in order.
use Rattle.std.specs.Prelude.{ℕ, List, map, Option}
use Rattle.tok_data.specs.declared.tokens.OutToken.{OutToken}
use Rattle.include_units.specs.Definitions.{params_of}

abbrev pub param_names : Option (List OutToken) → List (List ℕ)
param_names params = map (λ t. t.spelling) (params_of params)
