-- The choice, as queries.
use Rattle.std.specs.Prelude.{ℕ, ◌==◌, Bool, true, false, if◌then◌else◌, List, [], ◌∷◌, Option, Some, None}
use Rattle.std.specs.Map.{lookup}
use Rattle.query_core.specs.Queries.{Queries}
use Rattle.query_core.specs.declared.rules.Step.{Step}
use Rattle.query_core.specs.declared.rules.Step.TheVariants.{Ask, Done}
use Rattle.query_tests.specs.declared.pick.PickKey.{PickKey}
use Rattle.query_tests.specs.declared.pick.PickKey.TheVariants.{In0, In1, In2, Pick}

abbrev pub same_key : PickKey → PickKey → Bool
same_key In0 In0 = true
same_key In1 In1 = true
same_key In2 In2 = true
same_key Pick Pick = true
same_key a b = false

-- the input that is chosen
abbrev pub chosen : ℕ → PickKey
chosen n = if n == 0 then In1 else In2

abbrev pub step_at : List (PickKey × ℕ) → Option ℕ → Step PickKey ℕ
step_at answers None = Ask (In0 ∷ [])
step_at answers (Some n) = elim (lookup (same_key (chosen n)) answers) [ None ↦ Ask (chosen n ∷ []) | Some v ↦ Done v ]

abbrev pub is_input_key : PickKey → Bool
is_input_key Pick = false
is_input_key k = true

abbrev pub pick : Queries PickKey ℕ
pick = record {
  same = same_key;
  is_input = is_input_key;
  unset = λ _. 0;
  step = λ k answers. step_at answers (lookup (same_key In0) answers);
  val = λ given k. if is_input_key k then given k else given (chosen (given In0));
  asks = λ given k. if is_input_key k then [] else In0 ∷ chosen (given In0) ∷ [];
  rank = λ given k. if is_input_key k then 0 else 1;
}
