-- A token as it stands in a list.
use Rattle.macro_expand.specs.declared.look.Look.{Look}
use Rattle.macro_expand.specs.declared.types.Marked.{Marked}

abbrev pub seen : Look → Marked
seen l = record { token = l.token.now; hides = l.hides }
