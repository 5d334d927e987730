use Rattle.graph_tests.proofs.tests.demands_of_a_revision_share_their_runs.Given as goal

abbrev pub ghosts-demand_together : goal.ghosts-demand_together
ghosts-demand_together g a = record { name = a.blank.name; parts = a.blank.parts }
