use Rattle.std.proofs.Common.{◌++◌, ap}
use Rattle.std.proofs.lemmas.List.{nil_from_length}
use Rattle.plain_mean.specs.Collected.{numbers_at}
use Rattle.plain_mean.specs.Ranges.{numbers_in}
use Rattle.plain_mean.proofs.Ranging.{numbers_end, numbers_turn}
use Rattle.plain_mean.proofs.ranges.all_numbers.Goals as goal

pub turn-init : goal.turn-init
turn-init c = λ q. ap (λ ns. ns ++ numbers_in c.args.toks.now q) (c.new-numbers.ensures q)

pub turn-preserved : goal.turn-preserved
turn-preserved c = λ q.
    numbers_turn q c.in-Some.tok.now c.turn.rest.now c.in-Some.behind.now (numbers_at c.turn.numbers q) (numbers_at c.add.new.self q) (numbers_in c.args.toks.now q)
    c.in-Some.ensures.cases.0 (c.in_ok-add.ensures q) (c.turn.invariant q)

pub returns : goal.returns
returns c = λ q.
    numbers_end q c.turn.rest.now (numbers_at c.turn.numbers q) (numbers_in c.args.toks.now q) (nil_from_length c.turn.rest.now c.in_default.ensures.cases) (c.turn.invariant q)
