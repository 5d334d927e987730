use Rattle.std.proofs.Common.{sym, ◌∙◌}
use Rattle.c_parser.proofs.PartsFound.{declaration_found, declaration_same, declaration_missing, defined_instead}
use Rattle.c_parser.proofs.parts.declaration_at.Goals as goal

pub returns-in-Err-clause-only : goal.returns-in-Err-clause-only
returns-in-Err-clause-only c = declaration_missing _ _ _ c.in-Err.ensures.only

pub returns-then-not-is_declaration-clause-only : goal.returns-then-not-is_declaration-clause-only
returns-then-not-is_declaration-clause-only c =
    defined_instead _ _ _ _ c.in-Ok.ensures.only (sym c.is_declaration.ensures ∙ c.if-not-is_declaration.true)

pub returns : goal.returns
returns c = record {
  found = declaration_found _ _ _ _ c.in-Ok.ensures.found (sym c.is_declaration.ensures ∙ c.if-not-is_declaration.false);
  past = c.in-Ok.ensures.past;
  only = declaration_same _ _ _ _ c.in-Ok.ensures.only;
}
