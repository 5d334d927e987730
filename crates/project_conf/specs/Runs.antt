-- The bytes of a command of which many are taken at a time.
use Rattle.std.specs.Prelude.{ℕ, Bool, false, not, ◌==◌}
use Rattle.project_conf.specs.declared.parting.Mode.{Mode}
use Rattle.project_conf.specs.declared.parting.Mode.TheVariants.{Plain, Escaped, Single, Double, DoubleEscaped}
use Rattle.project_conf.specs.Parting.{single_quote}
use Rattle.project_conf.specs.Writing.{is_special, is_taken}

-- whether a byte is of a character that stands for itself, and leaves the next one where it stands
unfoldable pub stands : Mode → ℕ → Bool
stands Plain b = not (is_special b)
stands Escaped b = false
stands Single b = not (b == single_quote)
stands Double b = not (is_taken b)
stands DoubleEscaped b = false
