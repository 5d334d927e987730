use Rattle.std.proofs.Common.{chars}
use Rattle.project_conf.proofs.Written.{words_read}
use Rattle.project_conf.proofs.Ways.{written}
use Rattle.project_conf.proofs.laws.commands_are_read.Goals as goal

pub returns-clause-read : goal.returns-clause-read
returns-clause-read c = words_read (chars c.args._command.now)

pub returns-clause-written : goal.returns-clause-written
returns-clause-written c = let w = written (chars c.args._command.now) in (w.words, w.are)
