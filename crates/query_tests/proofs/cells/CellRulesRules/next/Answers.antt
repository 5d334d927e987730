use Rattle.query_tests.specs.CellLaws.{read_answered, on_ok_from}
use Rattle.query_tests.proofs.cells.CellRulesRules.next.Goals as goal

pub next_half-requires : goal.next_half-requires
next_half-requires g c = read_answered c.args.key.now c.args.run.now c.args.answers.now c.requires

pub returns-in-None-clause-read : goal.returns-in-None-clause-read
returns-in-None-clause-read g c = on_ok_from c.next_reads.result _ (read_answered c.args.key.now c.args.run.now c.args.answers.now c.requires)
