use Rattle.graph_tests.proofs.tests.cells_run_where_they_are_due.Given as goal

abbrev pub ghosts-edit_all : goal.ghosts-edit_all
ghosts-edit_all g a = record { name = a.blank.name; parts = a.blank.parts }
