use Rattle.std.proofs.Common.{map}
use Rattle.std.proofs.lemmas.List.{nil_from_length}
use Rattle.include_units.specs.Coming.{question}
use Rattle.plain_mean.specs.Reads.{path_in}
use Rattle.plain_mean.specs.Spelled.{told_path}
use Rattle.plain_mean.proofs.Spelling.{told_begins, told_ends, told_turns}
use Rattle.plain_mean.proofs.spelled.told_of.Goals as goal

pub asks-init : goal.asks-init
asks-init c = λ q. told_begins (map question c.args.wants.now) c.new-told.result c.new-told.ensures q

pub asks-preserved : goal.asks-preserved
asks-preserved c = λ q.
    told_turns q c.in-Some.want.now c.asks.rest.now c.in-Some.behind.now (path_in c.asks.told q) (path_in c.add.new.self q) (told_path (map question c.args.wants.now) q)
    c.in-Some.ensures.cases.0 (c.in_ok-add.ensures q) (c.asks.invariant q)

pub returns : goal.returns
returns c = λ q.
    told_ends q c.asks.rest.now (path_in c.asks.told q) (told_path (map question c.args.wants.now) q) (nil_from_length c.asks.rest.now c.in_default.ensures.cases) (c.asks.invariant q)
