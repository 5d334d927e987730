use Rattle.std.proofs.Common.{subst}
use Rattle.plain_mean.specs.Lexing.{AreLexed}
use Rattle.plain_mean.proofs.lexings.Lexings.into_kept.Goals as goal

pub returns : goal.returns
returns c = subst (λ t. AreLexed t c.self.inside.kept) c.self.view_is c.self.invariant
