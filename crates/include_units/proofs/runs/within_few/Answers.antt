use Rattle.include_units.proofs.FewLemmas.{few_known}
use Rattle.include_units.proofs.runs.within_few.Goals as goal

pub returns : goal.returns
returns c = few_known c.more_lines_change_nothing.ensures c.args.files.now c.args.text.now c.args.tokens.now c.args.room c.args.made.now c.args.few.now c.in_ok-first.first c.requires c.in_ok-first.ensures c.in-None.is
