use Rattle.std.proofs.Common.{◌≡◌, rules, true}
use Rattle.std.specs.Cmp.Lexicographic.{pointwise}
use Rattle.unit_index.specs.Crossing.{same_seen}
use Rattle.unit_index.proofs.SightLemmas.{same_sights}
use Rattle.unit_index.proofs.across.sights.same_sight.Goals as goal

pub returns-then-same_names : goal.returns-then-same_names
returns-then-same_names c = λ yes path.
    let names : pointwise same_seen c.args.a.now.names c.args.b.now.names ≡ true = search rules in
    same_sights path c.args.a.now c.args.b.now names (c.are_alike.ensures yes)
