use Rattle.std.proofs.Common.{ap, sym, ◌∙◌}
use Rattle.macro_expand.specs.Tokens.{last_of}
use Rattle.macro_expand.proofs.ListLemmas.{last_of_snoc}
use Rattle.macro_expand.proofs.types.MarkedList.pop.Goals as goal

pub returns-clause-last : goal.returns-clause-last
returns-clause-last c =
    ap last_of (sym c.self.view_is ∙ c.in-Some.ensures.items) ∙ last_of_snoc c.pop.new.self.items c.in-Some.token
