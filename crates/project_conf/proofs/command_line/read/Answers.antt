use Rattle.std.proofs.Common.{◌∙◌}
use Rattle.clap.specs.Words.{app_of}
use Rattle.project_conf.specs.Words.{texts}
use Rattle.project_conf.proofs.Taken.{are_taken_by, are_refused_by, rows_read}
use Rattle.project_conf.proofs.command_line.read.Goals as goal

pub returns-in-Ok-clause-taken : goal.returns-in-Ok-clause-taken
returns-in-Ok-clause-taken c =
    are_taken_by (app_of c.in_ok-command.command) (texts c.args.words.now) c.in_ok-command.ensures c.in-Ok.ensures.kinds

pub returns-in-Ok-clause-rows : goal.returns-in-Ok-clause-rows
returns-in-Ok-clause-rows c =
    rows_read (app_of c.in_ok-command.command) (texts c.args.words.now) c.in_ok-command.ensures c.in-Ok.matches c.in-Ok.ensures.matches

pub returns : goal.returns
returns c = record {
  taken = tt;
  rows = tt;
  usage = λ _. are_refused_by (app_of c.in_ok-command.command) (texts c.args.words.now) c.in_ok-command.ensures c.in-Err.error c.in-Err.ensures.kinds
      (λ memory. c.in_default.not-OutOfMemory (c.kind.ensures ∙ memory));
}
