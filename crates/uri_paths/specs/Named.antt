-- The lists of names that paths are made of.
use Rattle.std.specs.Prelude.{◌≡◌, ℕ, true, false, ◌==◌, List, All}
use Rattle.uri_paths.specs.Parts.{slash, is_name}

-- a name that has no slash
pub record IsComponent (name : List ℕ) : Type 0 where
  pub named : is_name name ≡ true
  pub whole : All (λ b. (b == slash) ≡ false) name
