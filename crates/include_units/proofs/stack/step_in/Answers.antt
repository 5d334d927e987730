use Rattle.include_units.proofs.Stepping.{step_on, step_waits, step_enters, step_ends}
use Rattle.include_units.proofs.stack.step_in.Goals as goal

pub returns-in_ok-push-in-On : goal.returns-in_ok-push-in-On
returns-in_ok-push-in-On c =
    step_on c.args.files.now c.args.folders.now c.args.reading.now.frames c.push.new.self c.args.reading.now.later c.args.frame c.args.reading.now.made c.move_on.new.made c.move_on.new.rest c.move_on.new.opens c.in_ok-moved.moved c.in_ok-moved.ensures
    c.in-On.hand c.in-On.is c.in_ok-push-in-On.ensures

pub returns-in_ok-push-in-Stops : goal.returns-in_ok-push-in-Stops
returns-in_ok-push-in-Stops c =
    step_waits c.args.files.now c.args.folders.now c.args.reading.now.frames c.push-in-Stops.new.self c.args.reading.now.later c.args.frame c.args.reading.now.made c.move_on.new.made c.move_on.new.rest c.move_on.new.opens c.in_ok-moved.moved c.in_ok-moved.ensures
    c.in-Stops.hand c.in-Stops.want c.in-Stops.is c.in_ok-push-in-Stops.ensures

pub returns-in_ok-push-in-Enters : goal.returns-in_ok-push-in-Enters
returns-in_ok-push-in-Enters c =
    step_enters c.args.files.now c.args.folders.now c.args.reading.now.frames c.push-in-Enters-2.new.self c.args.reading.now.later c.args.frame c.args.reading.now.made c.move_on.new.made c.move_on.new.rest c.move_on.new.opens c.in_ok-moved.moved c.in_ok-moved.ensures
    c.in-Enters.inner c.push-in-Enters.new.self c.in-Enters.is c.in-Ok.ensures c.in_ok-push-in-Enters.ensures

pub returns-in-Ends : goal.returns-in-Ends
returns-in-Ends c =
    step_ends c.args.files.now c.args.folders.now c.args.reading.now.frames c.args.reading.now.frames c.args.reading.now.later c.args.frame c.args.reading.now.made c.move_on.new.made c.move_on.new.rest c.move_on.new.opens c.in_ok-moved.moved c.in_ok-moved.ensures
    c.in-Ends.is
