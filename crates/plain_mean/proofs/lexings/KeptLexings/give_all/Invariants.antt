use Rattle.std.proofs.Common.{◌≡◌, ℕ, List, None, length, bytes_eq, if◌then◌else◌}
use Rattle.std.specs.List.{list_any}
use Rattle.plain_mean.specs.Lexing.{WereLexed, lexing_at}
use Rattle.plain_mean.proofs.lexings.KeptLexings.give_all.Given as goal

abbrev pub invariant-paths : goal.invariant-paths
invariant-paths l = record {
  kept : (q : List ℕ) → (if list_any (bytes_eq q) l.rest then None else lexing_at l.self q) ≡ (if list_any (bytes_eq q) l.fn.paths then None else lexing_at l.fn.self q);
  were : WereLexed l.prior l.docs l.self;
  given : WereLexed l.prior l.docs l.others;
}

abbrev pub decreases-paths : goal.decreases-paths
decreases-paths l = length l.rest
