use Rattle.session_cases.proofs.show.Given as goal

abbrev pub ghosts-transcript : goal.ghosts-transcript
ghosts-transcript a = record { name = a.blank.name; parts = a.blank.parts }
