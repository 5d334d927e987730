use Rattle.std.proofs.Common.{◌≡◌, ◌++◌, length, IfSome}
use Rattle.c_session.specs.Places.{gathered, mention}
use Rattle.c_session.specs.Ties.AtHand.{IsAtHand}
use Rattle.c_session.proofs.located.mentions.Given as goal

abbrev pub invariant-toks : goal.invariant-toks
invariant-toks l = (l.out.items ++ gathered (mention l.docs l.encoding) l.rest ≡ gathered (mention l.docs l.encoding) l.toks) × IfSome l.hand (IsAtHand l.docs l.encoding)

abbrev pub decreases-toks : goal.decreases-toks
decreases-toks l = length l.rest
