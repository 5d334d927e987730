use Rattle.std.proofs.Common.{arith, ◌≡◌, length, refl}
use Rattle.std.proofs.lemmas.List.{nil_from_length}
use Rattle.std.proofs.lemmas.Grind.{common_steps}
use Rattle.std.specs.FinMap as map
use Rattle.macro_expand.specs.Expansion.{expansion}
use Rattle.macro_expand.proofs.KeepingLemmas.{delivered}
use Rattle.macro_expand.proofs.machine.deliver.Goals as goal

pub returns-clause-value : goal.returns-clause-value
returns-clause-value c = λ f h lines.
    let frames = c.args.machine.frames.items in
    let short : length frames ≡ 0 = grind (arith, common_steps) in
    delivered f (expansion (map.get c.args.table.now) lines) c.args.room c.args.kept.now c.keep.new.self c.skim.new.kept
    c.args.machine.level.progress c.args.machine.level.done c.new.result c.args.machine.level.rest c.skim.new.rest frames
    (nil_from_length frames short) c.new.ensures c.in_ok-keep.ensures
    (c.in_ok-skim.ensures.value f h lines c.args.machine.level.progress refl)
