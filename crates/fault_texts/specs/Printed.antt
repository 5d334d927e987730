-- The text of a fault: the words of its rule, with the name and the types that it prints.
use Rattle.std.specs.Prelude.{ℕ, List, [], ◌∷◌, ◌++◌, codes, map, Option, None, Some}
use Rattle.type_data.specs.declared.judged.Fault.{Fault}
use Rattle.type_data.specs.declared.members.TagInfo.{TagInfo}
use Rattle.type_data.specs.declared.names.TagId.{TagId}
use Rattle.type_data.specs.Types.{Ty}
use Rattle.type_print.specs.Printed.{text, unqualified}
use Rattle.fault_texts.specs.Messages.{front_of, behind_of, between}

-- texts with one between each two
abbrev pub behind_each : List ℕ → List (List ℕ) → List ℕ
behind_each separator [] = []
behind_each separator (one ∷ more) = separator ++ (one ++ behind_each separator more)

abbrev pub joined : List ℕ → List (List ℕ) → List ℕ
joined separator [] = []
joined separator (one ∷ more) = one ++ behind_each separator more

-- a type as it is shown: without a declarator, and without qualifiers of its own
abbrev pub shown : List (TagId × TagInfo) → Ty → List ℕ
shown tags ty = text tags ty unqualified []

abbrev pub named : Option (List ℕ) → List (List ℕ) → List ℕ
named None names = []
named (Some behind) names = joined (codes " ") names ++ behind

abbrev pub message : List (TagId × TagInfo) → Fault → List ℕ
message tags fault = front_of fault.rule ++ (named (behind_of fault.rule) fault.names ++ joined (between fault.rule) (map (shown tags) fault.types))
