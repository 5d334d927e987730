-- Tokens with numbers of hide sets, as tokens with the sets that these stand for.
use Rattle.std.specs.Prelude.{List, map}
use Rattle.macro_expand.specs.declared.types.Marked.{Marked}
use Rattle.macro_expand.specs.declared.types.Outcome.{Outcome}
use Rattle.macro_expand.specs.declared.arguments.Called.{Called}
use Rattle.macro_expand.specs.declared.arguments.Called.TheVariants.{Absent, Unclosed, Closed}
use Rattle.macro_expand.specs.declared.operands.Operand.{Operand}
use Rattle.macro_expand.specs.declared.building.Building.{Building}
use Rattle.macro_expand.specs.declared.building.Part.{Part}
use Rattle.macro_expand.specs.Ties.Codes.{Names}

-- a token with the set that its number stands for
abbrev pub real : (Names → Names) → Marked → Marked
real f t = record { token = t.token; hides = f t.hides }

abbrev pub reals : (Names → Names) → List Marked → List Marked
reals f ts = map (real f) ts

abbrev pub real_args : (Names → Names) → List (List Marked) → List (List Marked)
real_args f args = map (reals f) args

abbrev pub real_operand : (Names → Names) → Operand → Operand
real_operand f o = record o { tokens = reals f o.tokens }

abbrev pub real_building : (Names → Names) → Building → Building
real_building f b = record b { tokens = reals f b.tokens }

abbrev pub real_called : (Names → Names) → Called → Called
real_called f Absent = Absent
real_called f Unclosed = Unclosed
real_called f (Closed args names width) = Closed (real_args f args) (f names) width

abbrev pub real_part : (Names → Names) → Part → Part
real_part f p = record p { built = real_building f p.built }

abbrev pub real_outcome : (Names → Names) → Outcome → Outcome
real_outcome f o = record o { tokens = reals f o.tokens }
