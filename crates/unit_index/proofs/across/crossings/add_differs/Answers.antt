use Rattle.std.proofs.Common.{rules, ◌≡◌, true, false, [], ◌∷◌, ◌++◌, ap, ◌∙◌}
use Rattle.unit_index.specs.Crossing.{crossing}
use Rattle.unit_index.specs.declared.crossing.Wrong.TheVariants.{OtherType}
use Rattle.unit_index.proofs.CrossLemmas.{differs, differs_not}
use Rattle.unit_index.proofs.across.crossings.add_differs.Goals as goal

pub returns-then-branch : goal.returns-then-branch
returns-then-branch c = λ test is.
    let on : true ≡ c.in_ok-matches.field-0 = search rules in
    differs_not _ _ _ (on ∙ is _ _ _ _ _ c.in_ok-matches.ensures)

pub returns : goal.returns
returns c = λ test is.
    let off : false ≡ c.in_ok-matches.field-0 = search rules in
    differs _ _ _ _ (off ∙ is _ _ _ _ _ c.in_ok-matches.ensures)
    (c.in_ok-push.ensures ∙ ap (λ t. c.args.out.now.items ++ crossing c.args.nth OtherType t ∷ []) c.in_ok-text.ensures)
