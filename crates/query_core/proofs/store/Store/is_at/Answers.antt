use Rattle.std.proofs.Common.{sym, ◌∙◌}
use Rattle.query_core.specs.Stored.{seen}
use Rattle.query_core.proofs.store.Store.is_at.Goals as goal

pub returns-in-Some-node : goal.returns-in-Some-node
returns-in-Some-node g c = λ y. c.requires.only c.args.key.now c.in-Some.index (seen c.in-Some-node.kept) (sym c.in-Some-node.ensures) (sym c.eq.ensures ∙ y) ∙ sym c.in-Some.is
