use Rattle.std.proofs.Common.{refl}
use Rattle.c_session.proofs.Asking.{gave_up, stays}
use Rattle.c_session.proofs.Loads.{reads_it, back_read, back_stops}
use Rattle.c_session.proofs.loading.read_back.Goals as goal

pub returns-in-Err-clause-refused : goal.returns-in-Err-clause-refused
returns-in-Err-clause-refused g c = (refl, gave_up (stays _ _))

pub returns-in-Err-read_file-clause-refused : goal.returns-in-Err-read_file-clause-refused
returns-in-Err-read_file-clause-refused g c = back_stops _ _ c.in-Err-read_file.error _ _ _ _ (reads_it _ _ _ _ c.root.ensures c.in-Ok-true.ensures c.in-Ok-true.field-0-test)
    c.in-Err-read_file.ensures.failed c.in-Err-read_file.ensures.counted

pub returns-in-Ok-take_back-clause-read : goal.returns-in-Ok-take_back-clause-read
returns-in-Ok-take_back-clause-read g c = back_read _ _ c.in-Ok.found _ _ _ (reads_it _ _ _ _ c.root.ensures c.in-Ok-true.ensures c.in-Ok-true.field-0-test)
    c.in-Ok.ensures.found c.in-Ok-take_back.ensures.taken

pub returns-clause-refused : goal.returns-clause-refused
returns-clause-refused g c = (
  c.in-Ok.ensures.counted,
  gave_up (back_read _ _ c.in-Ok.found _ _ _ (reads_it _ _ _ _ c.root.ensures c.in-Ok-true.ensures c.in-Ok-true.field-0-test)
      c.in-Ok.ensures.found refl),
)
