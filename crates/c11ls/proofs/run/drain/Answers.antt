use Rattle.std.proofs.Common.{refl}
use Rattle.c_session.specs.Ties.Sessions.{state_of}
use Rattle.c11ls.proofs.Draining.{turn_ends, stands_on}
use Rattle.c11ls.proofs.EndingUp.{ends_bad, ends_before}
use Rattle.c11ls.proofs.GoingOn.{going_turns, going_settles}
use Rattle.c11ls.proofs.Running.{given_few, step_given}
use Rattle.c11ls.proofs.run.drain.Goals as goal

pub returns-in-Ok-None-clause-drained : goal.returns-in-Ok-None-clause-drained
returns-in-Ok-None-clause-drained g c =
    λ options w0 a0 size going. going_settles options w0 _ a0 _ _ _ _ size
    (rw c.in-Ok-None.field-0-is at c.in-Ok-None.ensures.open) (rw c.in-Ok-None.field-0-is at c.in-Ok-None.ensures.open_stays)
    (c.frames.invariant.goes options w0 a0 size going)

pub returns-in-Err-Fault-clause-drained : goal.returns-in-Err-Fault-clause-drained
returns-in-Err-Fault-clause-drained g c =
    λ options w0 a0 size going. ends_bad c.bad_stays.ensures options w0 _ a0 _ _ _ size _ _ (rw c.in-Err-Fault.field-0-is at c.in-Err-Fault.ensures.fault)
    (c.frames.invariant.goes options w0 a0 size going)

pub returns-in-Err-NoMemory-clause-drained : goal.returns-in-Err-NoMemory-clause-drained
returns-in-Err-NoMemory-clause-drained g c =
    λ options w0 a0 size going. ends_before options w0 _ a0 _ _ _ size (c.frames.invariant.goes options w0 a0 size going)

pub returns-in-Some-clause-drained : goal.returns-in-Some-clause-drained
returns-in-Some-clause-drained g c =
    λ options w0 a0 size going. turn_ends c.contents_stay.ensures options c.in-Some.status w0 _ _ a0 _ _ _ (state_of c.turn.new.session) c.in-Ok-Some.content.items _ c.next.new.self size
    (rw c.in-Ok-Some.field-0-is at c.in-Ok-Some.ensures.content)
    (rw c.as_slice.ensures.value at c.in-Some.ensures.turned)
    (c.frames.invariant.goes options w0 a0 size going)

pub frames-preserved : goal.frames-preserved
frames-preserved g c = record {
  goes = λ options w0 a0 size going. going_turns options w0 _ _ a0 _ _ _ _ _ _ _ size
      (rw c.in-Ok-Some.field-0-is at c.in-Ok-Some.ensures.content)
      (rw c.as_slice.ensures.value at c.in-None.ensures.turned)
      (c.frames.invariant.goes options w0 a0 size going);
  stands = stands_on _ _ _ _ _ _ _ _ _ c.frames.invariant.stands c.in-None.ensures.counted;
  step = step_given _ _ _ _ _ (rw c.in-Ok-Some.field-0-is at c.in-Ok-Some.ensures.content) (c.in-None.ensures.count refl) c.frames.invariant.step;
}

pub turn-requires-clause-few : goal.turn-requires-clause-few
turn-requires-clause-few g c = given_few c.contents_few.ensures _ _ _ _ (rw c.in-Ok-Some.field-0-is at c.in-Ok-Some.ensures.content) c.frames.invariant.step
