use Rattle.std.proofs.Common.{sym, ◌∙◌}
use Rattle.c_parser.proofs.NameLists.{names_end, names_fail, names_only, names_turn, closes}
use Rattle.c_parser.proofs.declarators.more_identifiers.Goals as goal

pub returns-in_default : goal.returns-in_default
returns-in_default c = record {
  found = names_end _ _ _ _ c.identifiers.invariant (λ e. c.in_default.not-Comma (c.kind_at.ensures.kind ∙ e));
  only = λ ns end h e.
      names_only
      _
      _
      _
      _
      c.identifiers.invariant.reads
      (λ k. c.in_default.not-Comma (c.kind_at.ensures.kind ∙ k))
      ns
      end
      h
      (closes c.args.kinds.now end e);
}

pub returns-in_default-kind_at : goal.returns-in_default-kind_at
returns-in_default-kind_at c = record {
  found = tt;
  only =
      names_fail
      _
      _
      _
      _
      c.identifiers.invariant
      (sym c.in-Comma.ensures.kind)
      (λ e. c.in_default-kind_at.not-Identifier (c.kind_at-in-identifiers.ensures.kind ∙ e));
}

pub identifiers-preserved : goal.identifiers-preserved
identifiers-preserved c =
    names_turn _ _ _ _ _ c.identifiers.invariant (sym c.in-Comma.ensures.kind) (sym c.in-Identifier.ensures.kind) c.in-Ok.ensures.items
