use Rattle.std.proofs.Common.{rules, length, ◌<◌}
use Rattle.std.specs.FinMap as map
use Rattle.macro_expand.specs.Expansion.{expanded}
use Rattle.macro_expand.proofs.KeepingLemmas.{all_within}
use Rattle.macro_expand.proofs.expanding.expand.Goals as goal

pub returns : goal.returns
returns c =
    let few : length c.in_ok-within.within.expanded.tokens < 18446744073709551615 = search rules in
    all_within 18446744073709551615
    (expanded (map.get c.args.table.now) c.args.lines.now c.args.budget c.args.tokens.now) c.in_ok-within.within
    c.in_ok-within.ensures few
