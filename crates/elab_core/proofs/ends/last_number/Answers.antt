use Rattle.std.proofs.Common.{rules, ◌≡◌, ◌∷◌, [], ◌++◌, sym, ap, ◌∙◌}
use Rattle.elab_core.specs.Ends.{last_number}
use Rattle.elab_core.proofs.Lasts.{last_number_is}
use Rattle.elab_core.proofs.ends.last_number.Goals as goal

pub returns-in-Some : goal.returns-in-Some
returns-in-Some c =
    let is : c.args.numbers.now ≡ c.in-Some.field-0-1.now ++ c.in-Some.last.now ∷ [] = search rules in
    sym (ap last_number is ∙ last_number_is c.in-Some.field-0-1.now c.in-Some.last.now)
