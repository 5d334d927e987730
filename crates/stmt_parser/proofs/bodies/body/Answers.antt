use Rattle.std.proofs.Common.{refl, ◌∙◌, sym, subst, arith}
use Rattle.c_parser.specs.Reading.{IsAtFront}
use Rattle.stmt_parser.proofs.Wholes.{body_unopened, body_fails, body_short, body_found, front_is}
use Rattle.stmt_parser.proofs.bodies.body.Goals as goal

pub returns-in_default : goal.returns-in_default
returns-in_default c = record {
  found = tt;
  fails = body_unopened _ (λ k. c.in_default.not-OpenBrace (c.kind_at.ensures.kind ∙ k));
  place = refl;
}

pub returns-in-Err : goal.returns-in-Err
returns-in-Err c = record {
  found = tt;
  fails = body_fails _ _ _ c.at_front.ensures c.in-Err.ensures.fails;
  place = subst IsAtFront (sym c.at_front.ensures) (front_is c.in-Err.stop);
}

pub returns-then-end-len : goal.returns-then-end-len
returns-then-end-len c = record {
  found = tt;
  fails = body_short c.requires.law _ _ _ c.in-Ok.ensures.found (omega (arith, c.if-end-len.true, c.requires.len));
  place = refl;
}

pub returns : goal.returns
returns c = record {
  found = body_found _ _ _ c.in-Ok.ensures.found c.in-Ok.ensures.braced (omega (arith, c.if-end-len.false, c.requires.len));
  fails = tt;
  place = tt;
}
