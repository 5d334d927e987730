-- What the rule of one `case` after another says of all cases of a `switch` (ISO C11 6.8.4.2p3).
use Rattle.std.specs.Prelude.{◌≡◌, ℕ, ℤ, Bool, false, List, [], ◌∷◌, Option, Some, None}
use Rattle.std.specs.List.{list_any}
use Rattle.std.specs.Ordering.{int_eq}
use Rattle.type_data.specs.declared.integers.IntTy.{IntTy}
use Rattle.type_data.specs.declared.judged.Judged.{Judged}
use Rattle.type_data.specs.declared.values.Value.{Value}
use Rattle.type_rel.specs.Kinds.{integer_type}
use Rattle.stmt_rules.specs.Cases.{Cases}
use Rattle.stmt_rules.specs.Switches.{after_case, case_fault, compared, entered, promoted_type, repeated}

-- the switches behind cases with these values
abbrev pub after_cases : List Value → List Cases → List Cases
after_cases [] ss = ss
after_cases (v ∷ vs) ss = after_cases vs (after_case v ss)

abbrev pub same_number : Option ℤ → Option ℤ → Bool
same_number None b = false
same_number (Some a) None = false
same_number (Some a) (Some b) = int_eq a b

-- two values are the same after the conversion to the type
abbrev pub same : Option IntTy → Value → Value → Bool
same ty v w = same_number (compared ty v) (compared ty w)

-- a `case` behind others of its switch is a second one exactly where one of them has its value after the conversion
pub record AreApart : Type 0 where
  pub told : (at : ℕ) (controlling : Judged) (vs : List Value) (v : Value) (outer : List Cases) →
      case_fault at v (after_cases vs (entered controlling outer)) ≡ repeated at (list_any (same (integer_type (promoted_type controlling)) v) vs)
