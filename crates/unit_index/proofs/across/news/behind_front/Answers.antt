use Rattle.std.proofs.Common.{rules, ◌≡◌, true, map}
use Rattle.unit_index.specs.Crossing.{same_seen, seen}
use Rattle.unit_index.proofs.NewsLemmas.{behind_begins, behind_turns}
use Rattle.unit_index.proofs.across.news.behind_front.Goals as goal

pub names-init : goal.names-init
names-init c = behind_begins (map seen c.args.before.now) (map seen c.args.now.now)

pub names-preserved : goal.names-preserved
names-preserved c =
    let alike : same_seen c.in-Some.one.now c.in-Some-split_first.other.now ≡ true = search rules in
    behind_turns (map seen c.args.before.now) (map seen c.args.now.now) _ _ _ _ c.in-Some.one.now c.in-Some-split_first.other.now c.names.invariant c.in-Some.ensures.cases.0 c.in-Some-split_first.ensures.cases.0 alike
