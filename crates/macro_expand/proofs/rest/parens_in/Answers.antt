use Rattle.std.proofs.Common.{rules, arith, ap, ◌<◌, ◌^◌, length, map}
use Rattle.std.proofs.lemmas.List.{length-append, length-map}
use Rattle.macro_expand.specs.Tokens.{plain}
use Rattle.macro_expand.proofs.ParensLemmas.{parens_at_most}
use Rattle.macro_expand.proofs.RestLemmas.{laid_parens}
use Rattle.macro_expand.proofs.rest.parens_in.Goals as goal

pub parens_before-requires : goal.parens_before-requires
parens_before-requires c =
    let behind = c.args.behind.now in
    let few = parens_at_most (map plain behind) in
    let is = ap (λ p. p.0) c.in_ok-counted.ensures in
    let all = length-map behind plain in
    let short : length c.as_slices.result.1.now < 2 ^ 63 = search rules in
    let short_behind : length behind < 2 ^ 63 = search rules in
    omega (arith, few, is, all, short, short_behind)

pub parens_before-requires-2 : goal.parens_before-requires-2
parens_before-requires-2 c =
    let behind = c.args.behind.now in
    let few = parens_at_most (map plain behind) in
    let is = ap (λ p. p.0) c.in_ok-counted.ensures in
    let more = c.in_ok-more.ensures.free in
    let all = length-map behind plain in
    let parts = length-append c.as_slices.result.0.now c.as_slices.result.1.now in
    let whole = ap length c.as_slices.ensures.items in
    let short : length c.args.front.now.items < 2 ^ 63 = search rules in
    let short_behind : length behind < 2 ^ 63 = search rules in
    omega (arith, few, is, more, all, parts, whole, short, short_behind)

pub returns : goal.returns
returns c =
    laid_parens c.as_slices.result.0.now c.as_slices.result.1.now c.args.front.now.items c.args.behind.now
    c.in_ok-counted.counted c.in_ok-more.more c.in_ok-all.all c.as_slices.ensures.items c.in_ok-counted.ensures
    c.in_ok-more.ensures.value c.in_ok-all.ensures.value
