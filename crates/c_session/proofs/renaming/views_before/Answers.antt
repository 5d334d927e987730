use Rattle.std.proofs.Common.{None, ◌∙◌}
use Rattle.unit_index.specs.Known.{Known}
use Rattle.c_session.specs.Ties.Renamings.{view_by}
use Rattle.c_session.proofs.Mapped.{mapped_ends, mapped_turns}
use Rattle.c_session.proofs.Passing.{none_left}
use Rattle.c_session.proofs.Viewing.{own_left, own_one}
use Rattle.c_session.proofs.renaming.views_before.Goals as goal

pub turn-preserved : goal.turn-preserved
turn-preserved c =
    let own = own_one c.turn.rest.now c.in-Some.behind.now c.in-Some.unit.now c.turn.left.now c.in-Some-split_first.more.now c.in-Some-split_first.own.now c.in-Some.ensures.cases.0 c.in-Some-split_first.ensures.cases.0 c.turn.invariant.1 in (
      mapped_turns (λ (u : Known). view_by c.args.kinds.now u None) c.turn.rest.now c.in-Some.behind.now c.in-Some.unit.now c.turn.views.items c.push.new.self.items _ _ c.in-Some.ensures.cases.0 c.in_ok-push.ensures.items
          (λ i. record { path = c.path.ensures i; kinds = c.args.kinds.now; occs = (c.as_slice.ensures ∙ own.0) i }) c.turn.invariant.0,
      own.1,
    )

pub returns : goal.returns
returns c = mapped_ends (λ (u : Known). view_by c.args.kinds.now u None) _ _ _ (none_left _ c.in_default.ensures.cases) c.turn.invariant.0

pub unreachable-requires : goal.unreachable-requires
unreachable-requires c =
    own_left c.turn.rest.now c.in-Some.behind.now c.in-Some.unit.now c.turn.left.now c.in-Some.ensures.cases.0 (none_left _ c.in_default-split_first.ensures.cases) c.turn.invariant.1
