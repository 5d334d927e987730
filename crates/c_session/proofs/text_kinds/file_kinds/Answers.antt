use Rattle.std.proofs.Common.{◌++◌, map, ap, ◌∙◌}
use Rattle.c_session.specs.Outcomes.{kinds_at}
use Rattle.c_session.proofs.Mapped.{mapped_ends, mapped_turns}
use Rattle.c_session.proofs.Passing.{none_left}
use Rattle.c_session.proofs.text_kinds.file_kinds.Goals as goal

pub turn-init : goal.turn-init
turn-init c = (λ i. c.new-all.ensures.items i ++ map (kinds_at c.args.docs.now) (c.as_slice-rest.ensures.value i)) ∙ ap (map (kinds_at c.args.docs.now)) c.in_ok-paths.ensures

pub turn-preserved : goal.turn-preserved
turn-preserved c =
    mapped_turns (kinds_at c.args.docs.now) c.turn.rest.now c.in-Some.behind.now c.in-Some.path.now c.turn.all.items c.push.new.self.items c.in_ok-one.one _ c.in-Some.ensures.cases.0 c.in_ok-push.ensures.items
    c.in_ok-one.ensures c.turn.invariant

pub returns : goal.returns
returns c = mapped_ends (kinds_at c.args.docs.now) _ _ _ (none_left _ c.in_default.ensures.cases) c.turn.invariant
