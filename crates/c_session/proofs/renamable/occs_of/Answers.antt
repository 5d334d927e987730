use Rattle.std.proofs.Common.{◌∙◌}
use Rattle.unit_index.specs.Occurrences.{occs_of}
use Rattle.c_session.proofs.Mapped.{mapped_ends, mapped_turns}
use Rattle.c_session.proofs.Passing.{none_left}
use Rattle.c_session.proofs.renamable.occs_of.Goals as goal

pub turn-preserved : goal.turn-preserved
turn-preserved c =
    mapped_turns occs_of c.turn.rest.now c.in-Some.behind.now c.in-Some.unit.now c.turn.all.items c.push.new.self.items c.from_vec.result _ c.in-Some.ensures.cases.0 c.in_ok-push.ensures.items
    (c.from_vec.ensures ∙ c.in_ok-occs.ensures) c.turn.invariant

pub returns : goal.returns
returns c = mapped_ends occs_of _ _ _ (none_left _ c.in_default.ensures.cases) c.turn.invariant
