use Rattle.std.proofs.Common.{◌∙◌, sym, ap, subst, ◌+◌, option_map}
use Rattle.stmt_parser.specs.Found.{FoundLead}
use Rattle.stmt_parser.specs.InForce.{inside}
use Rattle.tree_data.specs.Seen.{tree_of}
use Rattle.stmt_parser.proofs.LeadsRead.{loop_unbegun, loop_fails, loop_found, loop_past}
use Rattle.stmt_parser.proofs.leads.for_loop.Goals as goal

pub returns-in-Err : goal.returns-in-Err
returns-in-Err c = record {
  found = tt;
  past = tt;
  fails = loop_unbegun c.requires.law _ _ c.requires.kind c.requires.declares _ c.in-Err.ensures.only;
}

pub returns-in-Err-tail : goal.returns-in-Err-tail
returns-in-Err-tail c = record {
  found = tt;
  past = tt;
  fails = loop_fails c.requires.law _ _ c.requires.kind c.requires.declares _ _ c.in-Ok.ensures.only _ c.in-Ok.ensures.past _ c.in-Err-tail.ensures.only;
}

pub returns-in-Ok-for_loop : goal.returns-in-Ok-for_loop
returns-in-Ok-for_loop c = record {
  found = subst (λ l. FoundLead c.args.scope c.args.at l (c.in-Ok-tail.found.4 + 1)) (sym c.in-Ok-for_loop.ensures) (loop_found c.requires.law _ _ c.requires.kind c.requires.opening _ _ c.in-Ok.ensures.found c.in-Ok.ensures.semicolon _ c.in-Ok.ensures.past _ _ _ _ c.in-Ok-tail.ensures.found);
  past = loop_past
      c.args.scope
      _
      _
      c.args.at
      (c.args.at + 1)
      (option_map tree_of c.in-Ok.found.0)
      c.in-Ok.ensures.past
      c.in-Ok.found.1
      (option_map tree_of c.in-Ok-tail.found.0)
      c.in-Ok-tail.found.1
      (option_map tree_of c.in-Ok-tail.found.2)
      c.in-Ok-tail.found.4
      c.in-Ok-tail.ensures.past
      ∙ sym (ap (inside c.args.scope) c.in-Ok-for_loop.ensures);
  fails = tt;
}
