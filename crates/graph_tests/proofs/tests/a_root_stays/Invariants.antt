use Rattle.graph_tests.proofs.tests.a_root_stays.Given as goal

abbrev pub ghosts-sweep_between : goal.ghosts-sweep_between
ghosts-sweep_between g a = record { name = a.blank.name; parts = a.blank.parts }
