use Rattle.std.proofs.Common.{refl, ◌∙◌}
use Rattle.c_session.proofs.Asking.{gave_up}
use Rattle.c_session.proofs.Loads.{loads_turns, loads_stops}
use Rattle.c_session.proofs.loading.load_files.Goals as goal

pub returns-in-Err-clause-refused : goal.returns-in-Err-clause-refused
returns-in-Err-clause-refused g c = loads_stops _ _ _ _ _ _ _ _ _ _ _ c.in-Err.error c.files.invariant.reached c.in-Some.ensures.cases.0 c.in-Err.ensures.failed c.files.invariant.counted c.in-Err.ensures.counted

pub returns-in-Err-load_listed-clause-refused : goal.returns-in-Err-load_listed-clause-refused
returns-in-Err-load_listed-clause-refused g c = (
  c.in-Ok.ensures.counted ∙ c.files.invariant.counted,
  gave_up (loads_turns _ _ _ _ _ _ _ _ c.in-Ok.found _ c.files.invariant.reached c.in-Some.ensures.cases.0 c.in-Ok.ensures.found refl),
)

pub files-preserved-in-Ok-load_listed : goal.files-preserved-in-Ok-load_listed
files-preserved-in-Ok-load_listed g c = record {
  reached = loads_turns _ _ _ _ _ _ _ _ c.in-Ok.found _ c.files.invariant.reached c.in-Some.ensures.cases.0 c.in-Ok.ensures.found c.in-Ok-load_listed.ensures;
  counted = c.in-Ok.ensures.counted ∙ c.files.invariant.counted;
}

pub files-preserved : goal.files-preserved
files-preserved g c = record {
  reached = loads_turns _ _ _ _ _ _ _ _ c.in-Ok.found _ c.files.invariant.reached c.in-Some.ensures.cases.0 c.in-Ok.ensures.found c.in-Ok-load_listed.ensures;
  counted = c.in-Ok.ensures.counted ∙ c.files.invariant.counted;
}
