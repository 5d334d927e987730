-- `switch`, and the labels `case` and `default` (ISO C11 6.8.1p2, 6.8.4.2). The switches that a place is within are a list, innermost
-- first; a label belongs to the first of them (6.8.4.2p3).
use Rattle.std.specs.Prelude.{ℕ, ℤ, Bool, true, false, List, [], ◌∷◌, Option, Some, None, if◌then◌else◌}
use Rattle.std.specs.BTreeSet.{insert_key}
use Rattle.std.specs.List.{list_any}
use Rattle.std.specs.Ordering.{int_cmp, int_eq}
use Rattle.c_literals.specs.Conversions.{converted as converted_value}
use Rattle.type_data.specs.declared.integers.IntTy.{IntTy}
use Rattle.type_data.specs.declared.judged.Fault.{Fault}
use Rattle.type_data.specs.declared.judged.Judged.{Judged}
use Rattle.type_data.specs.declared.judged.Place.{Place}
use Rattle.type_data.specs.declared.judged.Place.TheVariants as place
use Rattle.type_data.specs.declared.values.Value.{Value}
use Rattle.type_data.specs.declared.values.Value.TheVariants.{Known, Unknown, Faulty}
use Rattle.type_data.specs.Types.{Ty}
use Rattle.type_rel.specs.Arithmetic.{promoted}
use Rattle.type_rel.specs.Conversion.{converted}
use Rattle.type_rel.specs.Kinds.{integer_type, is_bad}
use Rattle.stmt_rules.specs.Cases.{Cases}
use Rattle.stmt_rules.specs.Faults.{fault}

-- p1: the controlling expression has integer type
abbrev pub controlled : ℕ → Option IntTy → Ty → Option Fault
controlled at (Some ty) t = None
controlled at None t = Some (fault 604 at [] (t ∷ []))

-- nothing more is shown of one that has a fault
abbrev pub switch_fault : ℕ → Judged → Option Fault
switch_fault at e = if is_bad e.ty then None else controlled at (integer_type e.ty) (converted e).ty

abbrev pub width_of : Place → Option ℕ
width_of (place.BitField w) = Some w
width_of place.Value = None
width_of place.Object = None
width_of place.Register = None
width_of place.Function = None

-- p5: the type to which the values of its cases are converted, that of the controlling expression after the integer promotions
unfoldable pub promoted_type : Judged → Ty
promoted_type e = promoted e.ty (width_of e.place)

abbrev pub entered : Judged → List Cases → List Cases
entered e ss = record { ty = integer_type (promoted_type e); values = []; defaulted = false } ∷ ss

abbrev pub left : List Cases → List Cases
left [] = []
left (s ∷ ss) = ss

unfoldable pub brought : IntTy → Value → Value
brought ty v = converted_value ty v

abbrev pub number : Value → Option ℤ
number (Known z) = Some z
number Unknown = None
number (Faulty rule) = None

-- p5: what a value is compared as; where its switch has no integer type, or the value isn't told, it is not compared
abbrev pub compared : Option IntTy → Value → Option ℤ
compared (Some ty) v = number (brought ty v)
compared None v = None

-- p3: no two cases of one switch have the same value after the conversion
abbrev pub has : List ℤ → Option ℤ → Bool
has zs (Some z) = list_any (int_eq z) zs
has zs None = false

abbrev pub with_value : List ℤ → Option ℤ → List ℤ
with_value zs (Some z) = insert_key int_cmp zs z
with_value zs None = zs

abbrev pub repeated : ℕ → Bool → Option Fault
repeated at had = if had then Some (fault 606 at [] []) else None

-- 6.8.1p2: a `case` stands in a switch; nothing more is shown of a value that has a fault
abbrev pub outside : ℕ → Value → Option Fault
outside at (Known z) = Some (fault 602 at [] [])
outside at Unknown = Some (fault 602 at [] [])
outside at (Faulty rule) = None

abbrev pub case_fault : ℕ → Value → List Cases → Option Fault
case_fault at v [] = outside at v
case_fault at v (s ∷ ss) = repeated at (has s.values (compared s.ty v))

abbrev pub noted : Option ℤ → Cases → Cases
noted z s = record { ty = s.ty; values = with_value s.values z; defaulted = s.defaulted }

abbrev pub after_case : Value → List Cases → List Cases
after_case v [] = []
after_case v (s ∷ ss) = noted (compared s.ty v) s ∷ ss

-- p3: a switch has one `default` at most
abbrev pub default_fault : ℕ → List Cases → Option Fault
default_fault at [] = Some (fault 602 at [] [])
default_fault at (s ∷ ss) = if s.defaulted then Some (fault 607 at [] []) else None

abbrev pub with_default : Cases → Cases
with_default s = record { ty = s.ty; values = s.values; defaulted = true }

abbrev pub after_default : List Cases → List Cases
after_default [] = []
after_default (s ∷ ss) = with_default s ∷ ss
