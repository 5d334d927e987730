-- Generic selections (ISO C11 6.5.1.1): what is chosen among.
use Rattle.std.specs.Prelude.{ℕ, [], ◌∷◌, ◌++◌}
use Rattle.type_data.specs.declared.judged.Judged.{Judged}
use Rattle.expr_rules.specs.declared.parts.Association.{Association}
use Rattle.expr_rules.specs.declared.parts.Association.TheVariants as association
use Rattle.expr_rules.specs.declared.parts.Form.TheVariants as form
use Rattle.elab_core.specs.declared.shapes.Typed.{Typed}
use Rattle.elab_state.specs.declared.made.Made.{Made}
use Rattle.elab_state.specs.Doings.{Doing}
use Rattle.elab_state.specs.Contexts.{Context}
use Rattle.elab_core.specs.Rows.{row}
use Rattle.elab_core.specs.declared.generics.Choices.{Choices}

-- the controlling expression is the first part
abbrev pub controlled : Judged → Choices
controlled j = record { associations = []; parts = j ∷ [] }

abbrev pub with_choice : Association → Judged → Choices → Choices
with_choice a e cs = record { associations = cs.associations ++ a ∷ []; parts = cs.parts ++ e ∷ [] }

abbrev pub typed_association : Typed → Association
typed_association t = association.Typed t.ty t.qual

abbrev pub selection : Context → ℕ → Choices → Made → Doing Judged
selection c at cs m = row c at (form.Generic cs.associations) cs.parts m
