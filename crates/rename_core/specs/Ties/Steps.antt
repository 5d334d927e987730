-- How a walk goes from a token to what it denotes, and from there to all tokens that denote it.
use Rattle.std.specs.Prelude.{Bool, List, [], ◌∷◌, ◌++◌, if◌then◌else◌}
use Rattle.std.specs.List.{list_any}
use Rattle.indexmap.specs.IndexSet.{insert_key}

-- what was come to: tokens, and what they denote
pub record Seen (A B : Type 0) : Type 0 where
  pub toks : List A
  pub denoted : List B

abbrev pub noted_all : {A : Type 0} → (A → A → Bool) → List A → List A → List A
noted_all same seen [] = seen
noted_all same seen (x ∷ xs) = noted_all same (insert_key same seen x) xs

module _ {A B : Type 0} (same : A → A → Bool) (alike : B → B → Bool) (tokens : B → List A) where
  -- what was come to before leads nowhere new
  abbrev pub step : Seen A B → B → Seen A B
  step seen d = if list_any (alike d) seen.denoted then seen else record { toks = noted_all same seen.toks (tokens d); denoted = seen.denoted ++ d ∷ [] }

  abbrev pub steps : Seen A B → List B → Seen A B
  steps seen [] = seen
  steps seen (d ∷ ds) = steps (step seen d) ds
