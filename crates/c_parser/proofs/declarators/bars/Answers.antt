use Rattle.std.proofs.Common.{◌∙◌, ◌<◌, sym, arith}
use Rattle.c_parser.proofs.Enumerated.{bars_start, bars_here, bars_not, bars_end}
use Rattle.c_parser.proofs.declarators.bars.Goals as goal

pub tokens-init : goal.tokens-init
tokens-init c = record { none = bars_start c.args.kinds.now c.args.from c.args.from (omega arith); forth = omega arith }

pub returns-then-hides : goal.returns-then-hides
returns-then-hides c =
    bars_here c.args.kinds.now c.args.from c.tokens.at c.args.to c.tokens.invariant.forth c.tokens-test.true
    (sym c.hides.ensures ∙ c.if-hides.true)

pub tokens-preserved : goal.tokens-preserved
tokens-preserved c = record {
  none =
      bars_not c.args.kinds.now c.args.from c.tokens.at c.tokens.invariant.none
      (sym c.hides.ensures ∙ c.if-hides.false);
  forth = omega (arith, c.tokens.invariant.forth);
}

pub returns : goal.returns
returns c =
    bars_end c.args.kinds.now c.args.from c.tokens.at c.args.to c.tokens.invariant.none
    (λ l. omega (arith, c.tokens-test.false, l))
