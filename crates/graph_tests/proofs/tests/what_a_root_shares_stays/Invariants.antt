use Rattle.graph_tests.proofs.tests.what_a_root_shares_stays.Given as goal

abbrev pub ghosts-sweep_after : goal.ghosts-sweep_after
ghosts-sweep_after g a = record { name = a.blank.name; parts = a.blank.parts }
