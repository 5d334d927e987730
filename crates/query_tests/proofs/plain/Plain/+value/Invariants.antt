use Rattle.query_tests.proofs.plain.Plain.+value.Given as goal

abbrev pub decreases-value_of : goal.decreases-value_of
decreases-value_of l = l.depth

abbrev pub decreases-run : goal.decreases-run
decreases-run l = l.depth
