use Rattle.std.proofs.Common.{◌∙◌, sym, refl, option_map}
use Rattle.tree_data.specs.Seen.{tree_of}
use Rattle.stmt_parser.proofs.PartsRead.{past_none, past_some}
use Rattle.stmt_parser.proofs.parts.behind.Goals as goal

pub returns-then-not-stands : goal.returns-then-not-stands
returns-then-not-stands c = record {
  size = refl;
  past = λ h. past_none c.args.scope (option_map tree_of c.args.expr.now) (sym c.stands.ensures ∙ c.if-not-stands.true);
}

pub returns : goal.returns
returns c = record {
  size = c.in_ok-inside.ensures.size;
  past =
      past_some c.args.scope _ c.args.from c.args.to c.in_ok-inside.ensures.past (option_map tree_of c.args.expr.now)
      (sym c.stands.ensures ∙ c.if-not-stands.false);
}
