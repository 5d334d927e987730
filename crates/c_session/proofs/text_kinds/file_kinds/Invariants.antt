use Rattle.std.proofs.Common.{◌≡◌, ◌++◌, length, map}
use Rattle.c_session.specs.Outcomes.{kinds_at}
use Rattle.plain_mean.specs.Ranges.{paths_in}
use Rattle.c_session.proofs.text_kinds.file_kinds.Given as goal

abbrev pub invariant-turn : goal.invariant-turn
invariant-turn l = l.all.items ++ map (kinds_at l.docs) l.rest ≡ map (kinds_at l.docs) (paths_in l.toks)

abbrev pub decreases-turn : goal.decreases-turn
decreases-turn l = length l.rest
