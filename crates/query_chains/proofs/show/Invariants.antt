use Rattle.query_chains.proofs.show.Given as goal

abbrev pub ghosts-edit_all : goal.ghosts-edit_all
ghosts-edit_all a = record { name = a.blank.name; parts = a.blank.parts }
