use Rattle.std.proofs.Common.{◌∙◌, sym, option_map}
use Rattle.tree_data.specs.Seen.{tree_of}
use Rattle.stmt_parser.proofs.PartsRead.{tail_unbegun, tail_unstepped, tail_unclosed, tail_same, tail_found, tail_past, alike_itself}
use Rattle.stmt_parser.proofs.parts.tail.Goals as goal

pub returns-in-Err : goal.returns-in-Err
returns-in-Err c = record {
  found = tt;
  past = tt;
  only = tail_unbegun _ _ (alike_itself _) _ _ c.in-Err.ensures.only;
}

pub returns-in-Err-optional : goal.returns-in-Err-optional
returns-in-Err-optional c = record {
  found = tt;
  past = tt;
  only = tail_unstepped c.requires.law _ _ (alike_itself _) _ _ _ c.in-Ok.ensures.only _ c.in-Ok.ensures.past _ c.in-Err-optional.ensures.only;
}

pub returns-in_default : goal.returns-in_default
returns-in_default c = record {
  found = tt;
  past = tt;
  only =
      tail_unclosed c.requires.law _ _ (alike_itself _) _ _ _ c.in-Ok.ensures.only _ c.in-Ok.ensures.past _ _
      c.in-Ok-optional.ensures.only (λ k. c.in_default.not-CloseParen (c.kind_at.ensures.kind ∙ k));
}

pub returns : goal.returns
returns c = record {
  found =
      tail_found c.requires.law _ _ _ _ c.in-Ok.ensures.found c.in-Ok.ensures.semicolon _ c.in-Ok.ensures.past _ _ c.in-Ok-optional.ensures.found
      (sym c.in-CloseParen.ensures.kind) c.in-CloseParen.ensures.inside;
  past =
      tail_past c.args.scope _ _ (option_map tree_of c.in-Ok.found.0) (option_map tree_of c.in-Ok-optional.found.0) c.in-Ok.ensures.past
      (c.in-Ok-behind.ensures.past c.in-Ok-optional.ensures.found.reads);
  only = tail_same c.requires.law _ _ (alike_itself _) _ _ _ c.in-Ok.ensures.only _ c.in-Ok.ensures.past _ _ c.in-Ok-optional.ensures.only;
}
