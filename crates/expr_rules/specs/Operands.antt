-- Operands after their conversion: what they are brought to (ISO C11 6.3.1), and what a row answers.
use Rattle.std.specs.Prelude.{ℕ, List, Option, Some, None, Result, Err}
use Rattle.type_data.specs.declared.judged.Constancy.TheVariants.{No}
use Rattle.type_data.specs.declared.judged.Judged.{Judged}
use Rattle.type_data.specs.declared.judged.Place.{Place}
use Rattle.type_data.specs.declared.judged.Place.TheVariants as place
use Rattle.type_data.specs.Types.{Ty, Bad_type}
use Rattle.type_rel.specs.Arithmetic.{promoted, usual}
use Rattle.type_data.specs.declared.judged.CheckError.{CheckError}
use Rattle.type_data.specs.declared.judged.CheckError.TheVariants.{Broken}
use Rattle.type_rel.specs.Kinds.{unqualified}

-- what a construct is, or the rule that it breaks
abbrev pub Answer : Type 0
Answer = Result Judged CheckError

abbrev pub broken : ℕ → ℕ → List (List ℕ) → List Ty → Answer
broken at rule names types = Err (Broken (record { rule = rule; at = at; names = names; types = types }))

-- what has a fault: nothing more is shown of it
abbrev pub bad : Judged
bad = record { ty = Bad_type; qual = unqualified; place = place.Value; constant = No }

-- the width of a bit-field
abbrev pub width_of : Place → Option ℕ
width_of (place.BitField w) = Some w
width_of place.Value = None
width_of place.Object = None
width_of place.Register = None
width_of place.Function = None

-- 6.3.1.1
unfoldable pub promoted_type : Judged → Ty
promoted_type j = promoted j.ty (width_of j.place)

-- 6.3.1.8
unfoldable pub usual_type : Judged → Judged → Ty
usual_type a b = usual (promoted_type a) (promoted_type b)
