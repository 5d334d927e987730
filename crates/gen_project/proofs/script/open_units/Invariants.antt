use Rattle.std.proofs.Common.{◌-◌, map, string_bytes}
use Rattle.serde_json.specs.Written.{compact_text}
use Rattle.gen_project.specs.Script.{opened}
use Rattle.gen_project.proofs.Loops.{IsLeft}
use Rattle.gen_project.proofs.script.open_units.Given as goal

abbrev pub invariant-units : goal.invariant-units
invariant-units l = IsLeft (λ ks. map compact_text (map (opened l.number) ks)) (map string_bytes l.fn.contents.items) (map string_bytes l.contents.items) l.number l.k

abbrev pub decreases-units : goal.decreases-units
decreases-units l = l.number - l.k
