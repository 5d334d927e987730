use Rattle.graph_tests.proofs.tests.a_plain_graph_agrees.Given as goal

abbrev pub ghosts-compare : goal.ghosts-compare
ghosts-compare g a = record { name = a.blank.name; parts = a.blank.parts }
