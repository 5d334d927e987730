use Rattle.std.proofs.Common.{◌≡◌, ◌++◌, length, IfSome}
use Rattle.c_session.specs.Places.{gathered, symbol}
use Rattle.c_session.specs.Ties.AtHand.{IsAtHand}
use Rattle.c_session.proofs.located.all_symbols.Given as goal

abbrev pub invariant-symbols : goal.invariant-symbols
invariant-symbols l = (l.out.items ++ gathered (symbol l.docs l.encoding) l.rest ≡ gathered (symbol l.docs l.encoding) l.symbols) × IfSome l.hand (IsAtHand l.docs l.encoding)

abbrev pub decreases-symbols : goal.decreases-symbols
decreases-symbols l = length l.rest
