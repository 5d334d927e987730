use Rattle.std.proofs.Common.{◌≡◌, ◌++◌, length, map}
use Rattle.c_session.proofs.renamable.lent.Given as goal

abbrev pub invariant-turn : goal.invariant-turn
invariant-turn l = map (λ occs. occs.now) l.all.items ++ l.rest ≡ l.lists

abbrev pub decreases-turn : goal.decreases-turn
decreases-turn l = length l.rest
