use Rattle.std.proofs.Common.{◌∙◌, ◌-◌, ap, sym, length}
use Rattle.c_parser.specs.Grammar.{spell}
use Rattle.c_parser.specs.Words.{shown_from}
use Rattle.c_parser.proofs.Enumerated.{numbers_range}
use Rattle.c_parser.proofs.HeadWords.{past_range_kinds}
use Rattle.c_parser.proofs.Spanned.{spanned}
use Rattle.c_parser.proofs.parts.past_expression.Goals as goal

pub returns : goal.returns
returns c = record {
  size =
      ap (λ w. length w.kinds) c.in_ok-behind.ensures
      ∙ ap (λ ks. length ks) (past_range_kinds c.args.scope c.args.from (c.args.to - c.args.from));
  past = λ t h.
      c.in_ok-behind.ensures
      ∙ sym (numbers_range c.args.scope (spell t) c.args.from c.args.to (spanned (shown_from c.args.scope c.args.from) t c.args.from c.args.to h));
}
