use Rattle.std.proofs.Common.{sym, subst, ◌<◌, ◌≤◌, arith, length}
use Rattle.tree_data.specs.Stated.{stmt_of}
use Rattle.stmt_parser.specs.Frames.{Settles, SettlesPast}
use Rattle.stmt_parser.proofs.FramesRead.{awaited_as, awaited_ends, awaited_less, freed_fails, freed_whole, freed_led}
use Rattle.stmt_parser.proofs.frames.close.Goals as goal

pub frames-init : goal.frames-init
frames-init c = record {
  awaited = awaited_as _ _ _ _ _ _ (c.in-Ok.ensures (stmt_of c.args.core)) c.requires.awaited;
  forth = omega arith;
}

pub returns-in-None : goal.returns-in-None
returns-in-None c = record {
  goes = awaited_ends _ _ _ c.in-None.ensures _ _ (awaited_as _ _ _ _ _ _ c.in-Ok-finished.ensures c.frames.invariant.awaited);
  forth = tt;
  fails = tt;
}

pub settle-requires-clause-size : goal.settle-requires-clause-size
settle-requires-clause-size c =
    let freed = awaited_less c.requires.law _ _ _ _ _ c.in-Some.ensures _ _ c.frames.invariant.awaited in
    subst (λ ks. length ks ≤ 2000000) (sym freed.kinds) c.requires.size

pub settle-requires-clause-opens : goal.settle-requires-clause-opens
settle-requires-clause-opens c = (awaited_less c.requires.law _ _ _ _ _ c.in-Some.ensures _ _ c.frames.invariant.awaited).opens

pub settle-requires-clause-found : goal.settle-requires-clause-found
settle-requires-clause-found c = (awaited_less c.requires.law _ _ _ _ _ c.in-Some.ensures _ _ c.frames.invariant.awaited).found

pub frames-preserved : goal.frames-preserved
frames-preserved c =
    let freed = awaited_less c.requires.law _ _ _ _ _ c.in-Some.ensures _ _ c.frames.invariant.awaited in
    let past : c.frames.end ≤ c.in-Whole.next = subst (SettlesPast c.frames.end) c.in-Whole.is c.in-Ok-settle.ensures.forth in
    let before : c.args.end ≤ c.frames.end = c.frames.invariant.forth in
    record {
      awaited =
          freed_whole _ _ _ _ _ _ freed _ _
          (subst (Settles freed.base freed.start) c.in-Whole.is (c.in-Ok-settle.ensures.settled freed.base freed.start freed.leading));
      forth = omega (arith, past, before);
    }

pub returns-in-Goes : goal.returns-in-Goes
returns-in-Goes c =
    let freed = awaited_less c.requires.law _ _ _ _ _ c.in-Some.ensures _ _ c.frames.invariant.awaited in
    let past : c.frames.end < c.in-Goes.next = subst (SettlesPast c.frames.end) c.in-Goes.is c.in-Ok-settle.ensures.forth in
    let before : c.args.end ≤ c.frames.end = c.frames.invariant.forth in
    record {
      goes =
          freed_led c.requires.law _ _ _ _ _ _ freed _ _ _
          (subst (Settles freed.base freed.start) c.in-Goes.is (c.in-Ok-settle.ensures.settled freed.base freed.start freed.leading));
      forth = omega (arith, past, before);
      fails = tt;
    }

pub returns-in-Err-settle : goal.returns-in-Err-settle
returns-in-Err-settle c = record {
  goes = tt;
  forth = tt;
  fails =
      freed_fails c.requires.law _ _ _ _ _ _ (awaited_less c.requires.law _ _ _ _ _ c.in-Some.ensures _ _ c.frames.invariant.awaited) _ c.in-Err-settle.ensures.fails;
}
