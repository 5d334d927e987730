use Rattle.std.proofs.Common.{◌∙◌, sym}
use Rattle.stmt_parser.proofs.PartsRead.{unbegun, unended, ended_only}
use Rattle.stmt_parser.proofs.parts.up_to_semicolon.Goals as goal

pub returns-in-Err : goal.returns-in-Err
returns-in-Err c = record {
  found = tt;
  semicolon = tt;
  within = tt;
  size = tt;
  past = tt;
  only = unbegun _ _ _ c.in-Err.ensures.only;
}

pub returns-in_default : goal.returns-in_default
returns-in_default c = record {
  found = tt;
  semicolon = tt;
  within = tt;
  size = tt;
  past = tt;
  only = unended _ _ _ _ c.in-Ok.ensures.only (λ k. c.in_default.not-Semicolon (c.kind_at.ensures.kind ∙ k));
}

pub returns : goal.returns
returns c = record {
  found = c.in-Ok.ensures.found;
  semicolon = sym c.in-Semicolon.ensures.kind;
  within = c.in-Semicolon.ensures.inside;
  size = c.in-Ok-behind.ensures.size;
  past = c.in-Ok-behind.ensures.past c.in-Ok.ensures.found.reads;
  only = ended_only _ _ _ _ c.in-Ok.ensures.only;
}
