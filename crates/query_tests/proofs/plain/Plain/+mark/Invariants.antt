use Rattle.query_tests.proofs.plain.Plain.+mark.Given as goal

abbrev pub decreases-mark : goal.decreases-mark
decreases-mark l = l.depth
