use Rattle.std.proofs.Common.{◌∙◌, sym, ap, subst, ◌+◌}
use Rattle.tree_data.specs.Statements.{Stated_of}
use Rattle.stmt_parser.specs.Found.{FoundStatement}
use Rattle.stmt_parser.specs.InForce.{past_item}
use Rattle.c_parser.specs.Kinds.{is_word}
use Rattle.c_parser.specs.declared.answers.Stop.TheVariants as stop
use Rattle.stmt_parser.proofs.CoresRead.{goto_unnamed, goto_unended, goto_found}
use Rattle.stmt_parser.proofs.cores.goto_label.Goals as goal

pub returns-then-not-is_word : goal.returns-then-not-is_word
returns-then-not-is_word c = record {
  found = tt;
  past = tt;
  fails = goto_unnamed c.requires.law _ _ c.requires.kind (ap is_word (sym c.kind_at.ensures.kind) ∙ sym c.is_word.ensures ∙ c.if-not-is_word.true) (stop.Syntax 0);
}

pub returns-in_default : goal.returns-in_default
returns-in_default c = record {
  found = tt;
  past = tt;
  fails = goto_unended c.requires.law _ _ c.requires.kind (λ k. c.in_default.not-Semicolon (c.kind_at-2.ensures.kind ∙ k)) (stop.Syntax 0);
}

pub returns : goal.returns
returns c = record {
  found = subst (λ s. FoundStatement c.args.scope c.args.at s (c.args.at + 3)) (sym c.goto_label.ensures) (goto_found _ _ c.requires.kind (ap is_word (sym c.kind_at.ensures.kind) ∙ sym c.is_word.ensures ∙ c.if-not-is_word.false) (sym c.in-Semicolon.ensures.kind) c.in-Semicolon.ensures.inside);
  past = sym (ap (λ s. past_item c.args.scope (Stated_of s)) c.goto_label.ensures);
  fails = tt;
}
