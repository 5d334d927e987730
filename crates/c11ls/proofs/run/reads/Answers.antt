use Rattle.std.proofs.Common.{◌∙◌, [], ap, refl, subst, sym, take, Some, arith}
use Rattle.lsp_framing.specs.Standing.{Follows}
use Rattle.c11ls.proofs.Draining.{stands_on}
use Rattle.c11ls.proofs.EndingUp.{ends_long, ends_unread}
use Rattle.c11ls.proofs.GoingOn.{going_begins, settled_size}
use Rattle.c11ls.proofs.Reacting.{nothing_answered}
use Rattle.c11ls.proofs.Running.{read_nothing, input_ends, input_counted, counted_on, reads_on, reads_unfed, step_fed}
use Rattle.c11ls.proofs.run.reads.Goals as goal

pub reads-init : goal.reads-init
reads-init g c = record {
  going = going_begins c.args.options _ _ _ _ (nothing_answered _) c.new-frames.ensures c.new-session.ensures.state;
  stands = record { read_is = refl; write_is = refl; store_is = refl };
  room = c.requires.room;
  short = omega arith;
  step = record { fed = []; follows = subst (λ n. Follows [] n c.new-frames.result) (sym c.new-session.ensures.handled) c.new-frames.ensures; short = omega arith };
}

pub returns-in-Some-clause-ended : goal.returns-in-Some-clause-ended
returns-in-Some-clause-ended g c = c.in-Some.ensures.drained c.args.options _ _ _ c.reads.invariant.going

pub returns-in-Some-clause-counted : goal.returns-in-Some-clause-counted
returns-in-Some-clause-counted g c = counted_on (Some c.in-Some.status) _ _ (g.W.Wire.read_faults c.drain.new.wire) _ _ (g.W.Wire.write_faults c.drain.new.wire) _ _ (g.D.Store.faults c.drain.new.store) c.reads.invariant.stands c.in-Some.ensures.counted

pub returns-then-taken-ge-LONG_INPUT-clause-ended : goal.returns-then-taken-ge-LONG_INPUT-clause-ended
returns-then-taken-ge-LONG_INPUT-clause-ended g c =
    ends_long c.args.options _ _ _ _ _ _ _ c.if-taken-ge-LONG_INPUT.true (c.in-None.ensures.drained c.args.options _ _ _ c.reads.invariant.going)

pub returns-in-Err-clause-ended : goal.returns-in-Err-clause-ended
returns-in-Err-clause-ended g c = ends_unread c.args.options _ _ _ _ _ _ _ _ c.in-Err.ensures.failed (c.in-None.ensures.drained c.args.options _ _ _ c.reads.invariant.going)

pub returns-then-count-eq0-clause-ended : goal.returns-then-count-eq0-clause-ended
returns-then-count-eq0-clause-ended g c =
    input_ends c.args.options _ _ _ _ _ _ _ _ _ c.end_of_input.ensures (read_nothing _ _ _ _ c.if-count-eq0.true c.in-Ok.ensures.taken)
    (c.in-Ok.ensures.at_end c.if-count-eq0.true) (c.in-None.ensures.drained c.args.options _ _ _ c.reads.invariant.going)

pub returns-then-count-eq0-clause-counted : goal.returns-then-count-eq0-clause-counted
returns-then-count-eq0-clause-counted g c =
    input_counted _ _ _ _ _ _ _ _ _ c.end_of_input.ensures (stands_on _ _ _ _ _ _ _ _ _ c.reads.invariant.stands (stands_on _ _ _ _ _ _ _ _ _ c.in-None.ensures.counted
    (record { read_is = c.in-Ok.ensures.counted; write_is = c.in-Ok.ensures.other_side; store_is = refl })))

pub feed-requires : goal.feed-requires
feed-requires g c =
    let size = settled_size c.args.options _ _ _ _ _ _ _ (c.in-None.ensures.drained c.args.options _ _ _ c.reads.invariant.going) in
    omega (arith, size, c.split_at.ensures.front_len, c.in-Ok.ensures.within, c.in-Ok.ensures.size, c.reads.invariant.room, c.reads.invariant.short)

pub returns-in-Err-feed-clause-ended : goal.returns-in-Err-feed-clause-ended
returns-in-Err-feed-clause-ended g c =
    reads_unfed c.contents_stay.ensures c.args.options _ _ _ _ _ _ _ _ _ _ c.in-Ok.ensures.in_items (omega (arith, c.in-Ok.ensures.within, c.in-Ok.ensures.size, c.reads.invariant.room)) c.if-count-eq0.false c.in-Ok.ensures.taken c.in-Ok.ensures.front
    (c.in-None.ensures.drained c.args.options _ _ _ c.reads.invariant.going)

pub reads-preserved : goal.reads-preserved
reads-preserved g c = record {
  going = reads_on c.contents_stay.ensures c.args.options _ _ _ _ _ _ _ _ _ _ _ _ c.in-Ok.ensures.in_items (omega (arith, c.in-Ok.ensures.within, c.in-Ok.ensures.size, c.reads.invariant.room)) c.if-count-eq0.false (c.split_at.ensures.front ∙ ap (take c.in-Ok.count) c.as_slice.ensures.value) c.in-Ok.ensures.taken c.in-Ok.ensures.front
      c.in-Ok-feed.ensures.fed (c.in-None.ensures.drained c.args.options _ _ _ c.reads.invariant.going);
  stands = stands_on _ _ _ _ _ _ _ _ _ c.reads.invariant.stands (stands_on _ _ _ _ _ _ _ _ _ c.in-None.ensures.counted
      (record { read_is = c.in-Ok.ensures.counted; write_is = c.in-Ok.ensures.other_side; store_is = refl }));
  room = c.in-Ok.ensures.size ∙ c.reads.invariant.room;
  step = step_fed _ _ _ _ c.in-Ok.count _ c.in-Ok-feed.ensures.fed (settled_size c.args.options _ _ _ _ _ _ _ (c.in-None.ensures.drained c.args.options _ _ _ c.reads.invariant.going))
      (omega (arith, c.if-taken-ge-LONG_INPUT.false, c.in-Ok.ensures.within, c.in-Ok.ensures.size, c.reads.invariant.room)) (omega (arith, c.split_at.ensures.front_len, c.in-Ok.ensures.within))
      (c.in-None.ensures.step refl);
  short = omega (arith, c.if-taken-ge-LONG_INPUT.false, c.in-Ok.ensures.within, c.in-Ok.ensures.size, c.reads.invariant.room);
}
