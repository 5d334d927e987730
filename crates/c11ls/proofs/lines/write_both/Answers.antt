use Rattle.c11ls.proofs.Adding.{told_both}
use Rattle.c11ls.proofs.lines.write_both.Goals as goal

pub returns-in-Ok : goal.returns-in-Ok
returns-in-Ok g c = told_both c.write_text-in-Ok.result _ _ _ _ _ _ _ _ c.in-Ok.ensures c.write_text-in-Ok.ensures
