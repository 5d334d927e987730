use Rattle.std.proofs.Common.{sym, ◌∙◌, subst, true≢false, arith, ◌+◌, ◌<◌, length}
use Rattle.c_parser.proofs.Types.{Qualifiers, qualifiers_end, qualifiers_turn}
use Rattle.c_parser.proofs.Words.{qualifies_inside}
use Rattle.c_parser.proofs.declarators.qualifiers.Goals as goal

pub returns-then-not-qualifies_at : goal.returns-then-not-qualifies_at
returns-then-not-qualifies_at c = record {
  found =
      qualifiers_end
      _
      _
      _
      _
      c.qualifiers.invariant
      (λ e. true≢false (sym e ∙ sym c.qualifies_at.ensures ∙ c.if-not-qualifies_at.true));
  memory = tt;
}

pub qualifiers-smaller : goal.qualifiers-smaller
qualifiers-smaller c =
    let here : c.qualifiers.end < length c.args.kinds.now =
    qualifies_inside _ _ (sym c.qualifies_at.ensures ∙ c.if-not-qualifies_at.false) in
    omega arith

pub qualifiers-preserved : goal.qualifiers-preserved
qualifiers-preserved c =
    let here = sym c.qualifies_at.ensures ∙ c.if-not-qualifies_at.false in
    subst
    (λ xs. Qualifiers c.args.kinds.now c.args.at xs (c.qualifiers.end + 1))
    (sym c.in-Ok.ensures.items)
    (qualifiers_turn _ _ _ _ c.qualifiers.invariant here (qualifies_inside _ _ here))
