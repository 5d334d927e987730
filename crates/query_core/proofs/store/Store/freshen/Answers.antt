use Rattle.query_core.proofs.store.Store.freshen.Goals as goal
use Rattle.query_core.proofs.Slots.{freshens}

pub returns : goal.returns
returns g c = rw (← c.self.view_is) (freshens c.self.inside.nodes.slots c.self.inside.numbers.entries c.self.inside.clean_at c.args.now)
