use Rattle.query_chains.proofs.play.Given as goal

abbrev pub ghosts-show_runs : goal.ghosts-show_runs
ghosts-show_runs a = record { name = a.blank.name; parts = a.blank.parts }
