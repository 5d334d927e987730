use Rattle.std.proofs.Common.{◌∙◌, sym, subst, ◌+◌, ap}
use Rattle.tree_data.specs.Statements.{Stated_of}
use Rattle.stmt_parser.specs.Found.{FoundStatement}
use Rattle.stmt_parser.specs.InForce.{past_item}
use Rattle.stmt_parser.proofs.CoresRead.{return_fails, return_found}
use Rattle.stmt_parser.proofs.cores.returns.Goals as goal

pub returns-in-Err : goal.returns-in-Err
returns-in-Err c = record {
  found = tt;
  past = tt;
  fails = return_fails c.requires.law _ _ c.requires.kind _ c.in-Err.ensures.only;
}

pub returns-in-Ok-returns : goal.returns-in-Ok-returns
returns-in-Ok-returns c = record {
  found = subst (λ s. FoundStatement c.args.scope c.args.at s (c.in-Ok.found.1 + 1)) (sym c.in-Ok-returns.ensures) (return_found _ _ c.requires.kind _ _ c.in-Ok.ensures.found c.in-Ok.ensures.semicolon c.in-Ok.ensures.within);
  past = c.in-Ok.ensures.past ∙ sym (ap (λ s. past_item c.args.scope (Stated_of s)) c.in-Ok-returns.ensures);
  fails = tt;
}
