use Rattle.std.proofs.Common.{sym, ap, ◌∙◌}
use Rattle.plain_mean.specs.Given.{given}
use Rattle.plain_mean.specs.Spelled.{tokens_read}
use Rattle.plain_mean.proofs.Spelling.{read_more}
use Rattle.plain_mean.proofs.spelled.tokens_at.Goals as goal

pub returns-in-Some-clause-tokens : goal.returns-in-Some-clause-tokens
returns-in-Some-clause-tokens c = c.in_ok-copy-in-Some.ensures ∙ c.requires.held c.args.file.now c.in-Some.tokens.now (sym c.in-Some.ensures)

pub returns-clause-held : goal.returns-clause-held
returns-clause-held c =
    read_more (tokens_read (given c.args.lexings.now) c.args.defines.now c.args.answered.now) c.args.held.now c.put.new.self c.in_ok-name.name c.in_ok-tokens.tokens c.requires.held
    (c.in_ok-tokens.ensures.tokens ∙ ap (tokens_read (given c.args.lexings.now) c.args.defines.now c.args.answered.now) (sym c.in_ok-name.ensures)) c.in_ok-put.ensures
