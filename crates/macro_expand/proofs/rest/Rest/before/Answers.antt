use Rattle.std.proofs.Common.{rules, arith, ◌<◌, ◌^◌, length}
use Rattle.macro_expand.specs.Ties.Parens.{parens}
use Rattle.macro_expand.specs.Ties.Rests.{laid}
use Rattle.macro_expand.proofs.ParensLemmas.{parens_at_most, counted_at_most}
use Rattle.macro_expand.proofs.RestLemmas.{laid_length}
use Rattle.macro_expand.proofs.rest.Rest.before.Goals as goal

pub before-requires : goal.before-requires
before-requires c =
    let front = c.self.inside.front.items in
    let behind = c.self.inside.behind.now in
    let few = parens_at_most (laid front behind) in
    let is = counted_at_most c.self.inside.parens (parens (laid front behind)) c.self.invariant in
    let all = laid_length front behind in
    let short : length front < 2 ^ 63 = search rules in
    let short_behind : length behind < 2 ^ 63 = search rules in
    omega (arith, few, is, all, short, short_behind)
