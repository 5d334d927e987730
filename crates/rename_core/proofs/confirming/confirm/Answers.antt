use Rattle.std.proofs.Common.{rules, ◌≡◌, None}
use Rattle.rename_core.specs.Clashes.{effect}
use Rattle.rename_core.proofs.CompareLemmas.{all_kept}
use Rattle.rename_core.proofs.confirming.confirm.Goals as goal

pub returns-clause-kept : goal.returns-clause-kept
returns-clause-kept c =
    let none : None ≡ effect c.args.plan c.args.before.now c.args.after.now = search rules in
    all_kept c.args.plan c.args.before.now c.args.after.now none
