use Rattle.std.proofs.Common.{rules, ◌≡◌, true}
use Rattle.unit_index.specs.Crossing.{same_seen}
use Rattle.unit_index.proofs.NewsLemmas.{ahead_begins, ahead_turns}
use Rattle.unit_index.proofs.across.news.without_end.Goals as goal

pub names-init : goal.names-init
names-init c = ahead_begins _ _

pub names-preserved : goal.names-preserved
names-preserved c =
    let alike : same_seen c.in-Some.one.now c.in-Some-split_last.other.now ≡ true = search rules in
    ahead_turns _ _ _ _ _ _ c.in-Some.one.now c.in-Some-split_last.other.now c.names.invariant c.in-Some.ensures.cases.0 c.in-Some-split_last.ensures.cases.0 alike
