use Rattle.std.proofs.Common.{◌∙◌, sym, subst, ◌+◌, ap}
use Rattle.tree_data.specs.Statements.{Stated_of}
use Rattle.stmt_parser.specs.Found.{FoundStatement}
use Rattle.stmt_parser.specs.InForce.{past_item}
use Rattle.stmt_parser.proofs.CoresRead.{plain_fails, plain_found}
use Rattle.stmt_parser.proofs.cores.expression.Goals as goal

pub returns-in-Err : goal.returns-in-Err
returns-in-Err c = record {
  found = tt;
  past = tt;
  fails = plain_fails _ _ c.requires.unlabelled c.requires.unmarked _ c.in-Err.ensures.only;
}

pub returns-in-Ok-expression : goal.returns-in-Ok-expression
returns-in-Ok-expression c = record {
  found = subst (λ s. FoundStatement c.args.scope c.args.at s (c.in-Ok.found.1 + 1)) (sym c.in-Ok-expression.ensures) (plain_found _ _ _ _ c.in-Ok.ensures.found c.in-Ok.ensures.semicolon c.in-Ok.ensures.within);
  past = c.in-Ok.ensures.past ∙ sym (ap (λ s. past_item c.args.scope (Stated_of s)) c.in-Ok-expression.ensures);
  fails = tt;
}
