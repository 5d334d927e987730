use Rattle.std.proofs.Common.{◌≡◌, ◌++◌, length, string_bytes}
use Rattle.include_units.specs.Units.{command_text, lines_of}
use Rattle.include_units.proofs.units.command_text.Given as goal

abbrev pub invariant-loop-define : goal.invariant-loop-define
invariant-loop-define l = string_bytes l.out ++ lines_of l.rest ≡ command_text l.fn.defines

abbrev pub decreases-loop-define : goal.decreases-loop-define
decreases-loop-define l = length l.rest
