use Rattle.graph_tests.proofs.tests.a_sweep_removes_all_or_nothing.Given as goal

abbrev pub ghosts-sweep_once : goal.ghosts-sweep_once
ghosts-sweep_once g a = record { name = a.blank.name; parts = a.blank.parts }
