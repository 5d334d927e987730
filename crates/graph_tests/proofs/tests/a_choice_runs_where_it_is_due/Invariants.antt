use Rattle.graph_tests.proofs.tests.a_choice_runs_where_it_is_due.Given as goal

abbrev pub ghosts-play : goal.ghosts-play
ghosts-play g a = record { name = a.blank.name; parts = a.blank.parts }
