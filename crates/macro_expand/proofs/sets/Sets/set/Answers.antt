use Rattle.std.proofs.Common.{List, subst}
use Rattle.macro_expand.specs.Ties.Codes.{Names}
use Rattle.macro_expand.specs.Ties.Stands.{Stands}
use Rattle.macro_expand.proofs.sets.Sets.set.Goals as goal

pub invariant_of-self : goal.invariant_of-self
invariant_of-self c = λ k d below f h. c.self.invariant k d below f (c.set.ensures.grows f h)

pub returns-clause-grows : goal.returns-clause-grows
returns-clause-grows c = λ f h. subst (λ (s : List Names). Stands f s) c.self.view_is (c.set.ensures.grows f h)
