-- Writing texts to a sink, and what of them stands there after a fault.
use Rattle.std.specs.Prelude.{◌≡◌, ◌<◌, ◌≤◌, ◌⊎◌, ℕ, List, ◌++◌, take, length, Option, option_map, Result, Ok, Err}
use Rattle.io_edges.specs.declared.ends.Failed.{Failed}

-- the bytes were written, and no fault was counted
pub record Appended (bytes : List ℕ) (w w' : Option (List ℕ)) (faults faults' : ℕ) : Type 0 where
  pub told : w' ≡ option_map (λ all. all ++ bytes) w
  pub counted : faults' ≡ faults

-- a front of the bytes was written, and a fault was counted
pub record Interrupted (bytes : List ℕ) (w w' : Option (List ℕ)) (faults faults' : ℕ) : Type 0 where
  pub size : ℕ
  pub within : size ≤ length bytes
  pub told : w' ≡ option_map (λ all. all ++ take size bytes) w
  pub counted : faults < faults'

abbrev pub Told : {T : Type 0} → Result T Failed → List ℕ → Option (List ℕ) → Option (List ℕ) → ℕ → ℕ → Type 0
Told (Ok done) bytes w w' faults faults' = Appended bytes w w' faults faults'
Told (Err failed) bytes w w' faults faults' = Interrupted bytes w w' faults faults'

-- a front of the bytes was written so far, and `rest` is to follow
pub record Adding (bytes rest : List ℕ) (w w' : Option (List ℕ)) : Type 0 where
  pub front : List ℕ
  pub split : bytes ≡ front ++ rest
  pub told : w' ≡ option_map (λ all. all ++ front) w

-- the bytes were written, or a front of them, where a fault was counted
abbrev pub WritesLine : List ℕ → Option (List ℕ) → Option (List ℕ) → ℕ → ℕ → Type 0
WritesLine bytes w w' faults faults' = Appended bytes w w' faults faults' ⊎ Interrupted bytes w w' faults faults'
