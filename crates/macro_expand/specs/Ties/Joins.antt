-- What was made of two hide sets.
use Rattle.std.specs.Prelude.{◌≡◌, List}
use Rattle.macro_expand.specs.declared.sets.Join.{Join}
use Rattle.macro_expand.specs.Ties.Codes.{Names, coded}
use Rattle.macro_expand.specs.Ties.Stands.{Stands, joined}

abbrev pub IsJoin : List Names → Join → Names → Type 0
IsJoin sets j made = (f : Names → Names) → Stands f sets → f made ≡ joined j.how (f (coded j.left)) (f (coded j.right))
