use Rattle.query_core.proofs.graph.Graph.drop_input.Goals as goal

pub returns-clause-due : goal.returns-clause-due
returns-clause-due g c = rw (← c.in_ok-value.ensures, ← c.in_ok-copy.ensures) c.set_input.ensures.due
