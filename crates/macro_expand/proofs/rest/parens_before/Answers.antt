use Rattle.std.proofs.Common.{arith, ap, sym, ◌∙◌}
use Rattle.macro_expand.specs.Ties.Parens.{all_before}
use Rattle.macro_expand.proofs.ParensLemmas.{all_before_snoc}
use Rattle.macro_expand.proofs.rest.parens_before.Goals as goal

pub tokens-preserved : goal.tokens-preserved
tokens-preserved c =
    let front = c.in-Some.before.now in
    let more = c.in_ok-more.ensures.free in
    let fewer = c.in-Some.ensures.cases.1 in
    record {
      goes = ap (all_before front) c.in_ok-more.ensures.value
          ∙ sym (all_before_snoc front c.in-Some.last.now c.tokens.parens)
          ∙ ap (λ ts. all_before ts c.tokens.parens) (sym c.in-Some.ensures.cases.0) ∙ c.tokens.invariant.goes;
      free = omega (arith, more, fewer, c.tokens.invariant.free);
    }
