use Rattle.std.proofs.Common.{rules, ◌≡◌, ◌==◌, false, length}
use Rattle.macro_expand.proofs.BuildingLemmas.{spliced_is}
use Rattle.macro_expand.proofs.splicing.spliced.Goals as goal

pub returns-clause-value : goal.returns-clause-value
returns-clause-value c = λ f h.
    let some : (length c.args.list == 0) ≡ false = search rules in
    spliced_is f c.args.token.now.token.site (f c.args.names.now) c.args.token.now.token.space_before c.args.space
    c.args.list c.in_ok-behind.behind c.args.rest c.in_ok-all.all c.in_ok-whole.whole some
    c.in_ok-behind.ensures (c.in_ok-all.ensures.value f h) c.in_ok-whole.ensures
