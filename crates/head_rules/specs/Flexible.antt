-- The end of a list of members (ISO C11 6.7.2.1p18): an array of no size is the last one.
use Rattle.std.specs.Prelude.{ℕ, Bool, true, false, ◌&&◌, not, List, [], ◌∷◌, ◌++◌, Option, Some, None, if◌then◌else◌}
use Rattle.type_data.specs.declared.judged.Fault.{Fault}
use Rattle.type_data.specs.declared.members.Member.{Member}
use Rattle.type_data.specs.declared.names.TagId.{TagId}
use Rattle.type_data.specs.Types.{Bad_type}
use Rattle.type_rel.specs.Completeness.{is_open_array}
use Rattle.head_rules.specs.Faults.{of_type}

abbrev pub is_end : List Member → Bool
is_end [] = true
is_end (m ∷ ms) = false

abbrev pub is_misplaced : Bool → Member → Bool
is_misplaced last m = is_open_array m.ty && not last

abbrev pub number_of : Option TagId → ℕ
number_of (Some id) = id.at
number_of None = 0

abbrev pub text_of : Option (List ℕ) → List ℕ
text_of (Some name) = name
text_of None = []

-- 408, on its name
abbrev pub fault : Member → Fault
fault m = of_type 408 (number_of m.at) (text_of m.name) m.ty

abbrev pub faults_of : Bool → Member → List Fault
faults_of last m = if is_misplaced last m then fault m ∷ [] else []

abbrev pub faults : List Member → List Fault
faults [] = []
faults (m ∷ ms) = faults_of (is_end ms) m ++ faults ms

abbrev pub settled : Bool → Member → Member
settled last m = if is_misplaced last m then record m { ty = Bad_type } else m

abbrev pub closed : List Member → List Member
closed [] = []
closed (m ∷ ms) = settled (is_end ms) m ∷ closed ms
