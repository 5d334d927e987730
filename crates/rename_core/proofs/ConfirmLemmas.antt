-- What a plan that is confirmed comes to.
use Rattle.std.proofs.Common.{◌≡◌, List, Option, Some, None, Result, Ok, unwrap_or, refl, sym, ap, ◌∙◌}
use Rattle.std.specs.Result.{result_ok}
use Rattle.rename_core.specs.Clashes.{confirmed, effect}
use Rattle.rename_core.specs.Kept.{IsKept}
use Rattle.rename_core.specs.Refusals.{outcome}
use Rattle.rename_core.specs.Views.{View}
use Rattle.rename_core.specs.declared.class.Plan.{Plan}
use Rattle.rename_core.specs.declared.confirming.Edits.{Edits}
use Rattle.rename_core.specs.declared.error.RenameError.{RenameError}
use Rattle.rename_core.proofs.CompareLemmas.{all_kept}

ok_is : (x y : Edits) (r : Result Edits RenameError) → r ≡ Ok x → r ≡ Ok y → y ≡ x
ok_is x y r e f = some_is y x (sym (ap result_ok f) ∙ ap result_ok e)
  where
    some_is : (a b : Edits) → Some a ≡ Some b → a ≡ b
    some_is a b h = ap (λ o. unwrap_or o a) h

ok_by : (o : Option RenameError) (x y : Edits) → outcome o x ≡ Ok y → (None ≡ o) × (y ≡ x)
ok_by None x y e = (refl, ok_is x y (outcome None x) refl e)
ok_by (Some r) x y e = absurd (let bad : ⊥ = cc e in bad)

module _ (p : Plan) (before after : List View) (edits : Edits) (is : confirmed p before after ≡ Ok edits) where
  parts : (None ≡ effect p before after) × (edits ≡ record { toks = p.class.toks; new_name = p.new_name })
  parts = ok_by (effect p before after) (record { toks = p.class.toks; new_name = p.new_name }) edits is

  pub confirmed_keeps : IsKept p before after
  confirmed_keeps = all_kept p before after parts.0

  pub confirmed_edits : edits.toks ≡ p.class.toks
  confirmed_edits = ap (λ e. e.toks) parts.1

  pub confirmed_name : edits.new_name ≡ p.new_name
  confirmed_name = ap (λ e. e.new_name) parts.1
