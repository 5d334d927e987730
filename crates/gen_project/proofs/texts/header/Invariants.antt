use Rattle.std.proofs.Common.{◌-◌, [], string_bytes}
use Rattle.gen_project.specs.Script.{prototypes}
use Rattle.gen_project.proofs.Loops.{IsLeft}
use Rattle.gen_project.proofs.texts.header.Given as goal

abbrev pub invariant-functions : goal.invariant-functions
invariant-functions l = IsLeft prototypes [] (string_bytes l.text) l.number l.k

abbrev pub decreases-functions : goal.decreases-functions
decreases-functions l = l.number - l.k
