use Rattle.std.proofs.Common.{◌∙◌, sym, subst, ◌+◌, ap}
use Rattle.tree_data.specs.Statements.{Stated_of}
use Rattle.stmt_parser.specs.Found.{FoundStatement}
use Rattle.stmt_parser.specs.InForce.{past_item}
use Rattle.c_parser.specs.declared.answers.Stop.TheVariants as stop
use Rattle.stmt_parser.proofs.CoresRead.{continue_unended, continue_found}
use Rattle.stmt_parser.proofs.cores.continues.Goals as goal

pub returns-in_default : goal.returns-in_default
returns-in_default c = record {
  found = tt;
  past = tt;
  fails = continue_unended c.requires.law _ _ c.requires.kind (λ k. c.in_default.not-Semicolon (c.kind_at.ensures.kind ∙ k)) (stop.Syntax 0);
}

pub returns : goal.returns
returns c = record {
  found = subst (λ s. FoundStatement c.args.scope c.args.at s (c.args.at + 2)) (sym c.continues.ensures) (continue_found _ _ c.requires.kind (sym c.in-Semicolon.ensures.kind) c.in-Semicolon.ensures.inside);
  past = sym (ap (λ s. past_item c.args.scope (Stated_of s)) c.continues.ensures);
  fails = tt;
}
