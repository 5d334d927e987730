use Rattle.std.proofs.Common.{◌∙◌, sym, subst, ◌+◌, ◌<◌, arith}
use Rattle.c_parser.specs.declared.answers.Stop.TheVariants as stop
use Rattle.stmt_parser.specs.Found.{FoundStatement}
use Rattle.stmt_parser.proofs.CoresRead.{do_unlooped, do_untested, do_unended, do_found}
use Rattle.stmt_parser.proofs.frames.do_while.Goals as goal

pub returns-in_default : goal.returns-in_default
returns-in_default c = record {
  found = tt;
  forth = tt;
  fails =
      do_unlooped
      c.requires.law
      _
      _
      c.requires.kind
      _
      _
      c.requires.body
      (λ k. c.in_default.not-While (c.kind_at.ensures.kind ∙ k))
      (stop.Syntax 0);
}

pub returns-in-Err : goal.returns-in-Err
returns-in-Err c = record {
  found = tt;
  forth = tt;
  fails = do_untested c.requires.law _ _ c.requires.kind _ _ c.requires.body _ c.in-Err.ensures.only;
}

pub returns-in_default-kind_at : goal.returns-in_default-kind_at
returns-in_default-kind_at c = record {
  found = tt;
  forth = tt;
  fails =
      do_unended
      c.requires.law
      _
      _
      c.requires.kind
      _
      _
      c.requires.body
      _
      _
      c.in-Ok.ensures.only
      (λ k. c.in_default-kind_at.not-Semicolon (c.kind_at-2.ensures.kind ∙ k))
      (stop.Syntax 0);
}

pub returns-in-Ok-do_while : goal.returns-in-Ok-do_while
returns-in-Ok-do_while c =
    let far : c.args.behind + 1 < c.in-Ok.found.1 = c.in-Ok.ensures.found.forth in
    record {
      found =
          subst
          (λ s. FoundStatement c.args.scope.now c.args.at s (c.in-Ok.found.1 + 2))
          (sym c.in-Ok-do_while.ensures)
          (do_found
          _
          _
          c.requires.kind
          _
          _
          c.requires.body
          (sym c.in-While.ensures.kind)
          _
          _
          c.in-Ok.ensures.found
          (sym c.in-Semicolon.ensures.kind)
          c.in-Semicolon.ensures.inside);
      forth = omega (arith, far);
      fails = tt;
    }
