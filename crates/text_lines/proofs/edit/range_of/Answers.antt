use Rattle.std.proofs.lemmas.Str.{IsCharBoundary-start}
use Rattle.text_lines.proofs.edit.range_of.Goals as goal

pub returns-in-None-clause-start : goal.returns-in-None-clause-start
returns-in-None-clause-start c = IsCharBoundary-start c.args.text.now c.utf8.text
