use Rattle.std.proofs.Common.{arith, ◌<◌, length, sym}
use Rattle.std.proofs.lemmas.List.{take_all}
use Rattle.scope_tables.proofs.TableLemmas.{cut_turns, cut_size, cut_ends}
use Rattle.scope_tables.proofs.table.Table.cut.Goals as goal

pub loop-self-init : goal.loop-self-init
loop-self-init c = record { within = c.requires; front = sym (take_all (length c.args.self.now) c.args.self.now (omega arith)) }

pub loop-self-preserved : goal.loop-self-preserved
loop-self-preserved c =
    let count = c.len.ensures in
    let more = c.loop-self-test.true in
    let some : 0 < length c.loop-self.self = omega (arith, count, more) in
    let size = cut_size c.loop-self.self c.pop.new.self some c.pop.ensures in
    record {
      within = omega (arith, count, more, size);
      front = cut_turns c.args.self.now c.loop-self.self c.pop.new.self c.loop-self.invariant.front some c.pop.ensures;
    }

pub returns : goal.returns
returns c =
    let count = c.len.ensures in
    let most = c.loop-self-test.false in
    let within = c.loop-self.invariant.within in
    cut_ends c.args.self.now c.loop-self.self c.args.place c.loop-self.invariant.front (omega (arith, count, most, within))
