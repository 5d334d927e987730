use Rattle.graph_tests.proofs.tests.a_sweep_without_roots_removes_the_choice.Given as goal

abbrev pub ghosts-sweep_between : goal.ghosts-sweep_between
ghosts-sweep_between g a = record { name = a.blank.name; parts = a.blank.parts }
