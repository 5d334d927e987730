use Rattle.std.proofs.Common.{◌∙◌, ap}
use Rattle.c_session.specs.Files.{to_load, unreadable_logs}
use Rattle.c_session.proofs.Asking.{goes_on, refused_behind}
use Rattle.c_session.proofs.Loads.{root_listed, root_wants, root_stops}
use Rattle.c_session.proofs.starting.load_under.Goals as goal

pub returns-in-Err-clause-refused : goal.returns-in-Err-clause-refused
returns-in-Err-clause-refused g c = root_stops c.args.root c.in-Err.error _ _ _ _ c.in-Err.ensures.failed c.in-Err.ensures.counted

pub returns-in-Err-unreadable_logs-clause-refused : goal.returns-in-Err-unreadable_logs-clause-refused
returns-in-Err-unreadable_logs-clause-refused g c = (c.in-Ok.ensures.counted, root_wants c.args.root c.in-Ok.found.items _ _ c.in-Ok.ensures.listed)

pub returns-in-Err-to_load-clause-refused : goal.returns-in-Err-to_load-clause-refused
returns-in-Err-to_load-clause-refused g c = (c.in-Ok.ensures.counted, root_wants c.args.root c.in-Ok.found.items _ _ c.in-Ok.ensures.listed)

pub returns-in-Ok-load_files-clause-loaded : goal.returns-in-Ok-load_files-clause-loaded
returns-in-Ok-load_files-clause-loaded g c = goes_on
    (root_listed c.args.root c.in-Ok.found.items c.new-docs.result c.in-Ok-unreadable_logs.logs.items c.as_slice-3.result.now _ _ c.in-Ok.ensures.listed c.new-docs.ensures
    (c.in-Ok-unreadable_logs.ensures ∙ ap unreadable_logs c.as_slice.ensures.value)
    (c.as_slice-3.ensures.value ∙ c.in-Ok-to_load.ensures ∙ ap (to_load c.args.root) c.as_slice-2.ensures.value))
    c.in-Ok-load_files.ensures.loaded

pub returns-clause-refused : goal.returns-clause-refused
returns-clause-refused g c = refused_behind _ _ _ _ _ _ _ _ c.in-Err-load_files.error
    (root_listed c.args.root c.in-Ok.found.items c.new-docs.result c.in-Ok-unreadable_logs.logs.items c.as_slice-3.result.now _ _ c.in-Ok.ensures.listed c.new-docs.ensures
    (c.in-Ok-unreadable_logs.ensures ∙ ap unreadable_logs c.as_slice.ensures.value)
    (c.as_slice-3.ensures.value ∙ c.in-Ok-to_load.ensures ∙ ap (to_load c.args.root) c.as_slice-2.ensures.value))
    c.in-Ok.ensures.counted c.in-Err-load_files.ensures.refused
