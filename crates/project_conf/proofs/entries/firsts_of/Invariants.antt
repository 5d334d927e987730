use Rattle.std.proofs.Common.{◌≡◌, ℕ, List, length}
use Rattle.std.specs.Option.{option_or}
use Rattle.project_conf.specs.Entries.{entry_of}
use Rattle.project_conf.specs.Firsts.{first_at}
use Rattle.project_conf.proofs.entries.firsts_of.Given as goal

abbrev pub invariant-loop-unit : goal.invariant-loop-unit
invariant-loop-unit l = (q : List ℕ) → option_or (first_at l.firsts q) (entry_of q l.rest) ≡ entry_of q l.units

abbrev pub decreases-loop-unit : goal.decreases-loop-unit
decreases-loop-unit l = length l.rest
