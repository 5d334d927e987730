use Rattle.std.proofs.Common.{◌≡◌, ◌+◌, ◌≤◌, ◌^◌, length, map, string_bytes}
use Rattle.c_session.specs.Ties.Sessions.{state_of, handled_by}
use Rattle.c11ls.specs.Generated.{left_by}
use Rattle.c11ls.proofs.generated.hand.Given as goal

abbrev pub invariant-contents : goal.invariant-contents
invariant-contents g l =
    (left_by (state_of l.session) (map string_bytes l.rest) ≡ left_by (state_of l.fn.session) (map string_bytes l.contents))
    × (handled_by l.session + length l.rest ≤ 2 ^ 62)

abbrev pub decreases-contents : goal.decreases-contents
decreases-contents g l = length l.rest
