-- What a definition does to the table (ISO C11 6.10.3p1, 6.10.3p2).
use Rattle.std.specs.Prelude.{◌≡◌, ◌⊎◌, Option, Some, None}
use Rattle.std.specs.Ordering.{nat_cmp}
use Rattle.std.specs.Cmp.Lexicographic.{slice_cmp}
use Rattle.std.specs.FinMap as map
use Rattle.macro_table.specs.declared.definition.MacroDef.{MacroDef}
use Rattle.macro_table.specs.declared.table.Defined.{Defined}
use Rattle.macro_table.specs.declared.table.Defined.TheVariants.{Fresh, Same, Clash}
use Rattle.macro_table.specs.Same.{IsSame}

-- the answer, by the definition that the name has
abbrev pub IsOutcome : Option MacroDef → MacroDef → Defined → Type 0
IsOutcome None def defined = defined ≡ Fresh
IsOutcome (Some kept) def defined = (IsSame kept def × (defined ≡ Same)) ⊎ ((¬ IsSame kept def) × (defined ≡ Clash kept.tok))

-- the table after it: a name that has a definition keeps it
abbrev pub table_after : Defined → map.FinMap (slice_cmp nat_cmp) MacroDef → MacroDef → map.FinMap (slice_cmp nat_cmp) MacroDef
table_after Fresh old def = map.insert old def.name def
table_after Same old def = old
table_after (Clash tok) old def = old
