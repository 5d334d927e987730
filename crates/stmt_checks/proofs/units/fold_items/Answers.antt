use Rattle.std.proofs.Common.{rules}
use Rattle.stmt_checks.proofs.Folds.{all_meant}
use Rattle.stmt_checks.proofs.units.fold_items.Goals as goal
use Rattle.stmt_checks.specs.Units.{all_of}

pub returns : goal.returns
returns c = λ r is.
    all_meant r c.args.tokens.items c.args.entered.now c.in_ok-items.items.items c.deref-6.result.now c.deref-7.result.now c.deref-8.result.now (all_of c.in_ok-all.all)
    c.in_ok-meaning.meaning (search rules) (search rules) (search rules) (search rules) (search rules) (search rules)
