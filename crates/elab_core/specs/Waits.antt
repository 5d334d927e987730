-- What was read in front of an operand and waits for it, the innermost on top (ISO C11 6.5.3, 6.5.4, 6.5.15, 6.5.16): the same as what
-- stands in front by recursion, in two turns.
use Rattle.std.specs.Prelude.{ℕ, List, [], ◌∷◌}
use Rattle.type_data.specs.declared.judged.Judged.{Judged}
use Rattle.tree_data.specs.Trees.{Front, Operator_of, Cast_of, Choice_of, Left_of, Fronts, None_before, Front_then}
use Rattle.expr_rules.specs.declared.parts.Form.TheVariants as form
use Rattle.elab_state.specs.declared.around.Where.{Where}
use Rattle.elab_core.specs.Casts.{cast}
use Rattle.elab_state.specs.declared.made.Made.{Made}
use Rattle.elab_state.specs.Doings.{Doing, follow, gives}
use Rattle.elab_core.specs.Operators.{assign_form, prefix_form}
use Rattle.elab_state.specs.Contexts.{Context}
use Rattle.elab_core.specs.Rows.{row}
use Rattle.elab_state.specs.Tokens.{spelling}
use Rattle.elab_core.specs.declared.unary.Waiting.{Waiting}
use Rattle.elab_core.specs.declared.unary.Waiting.TheVariants as waiting
use Rattle.elab_core.specs.Expressions.{behind_prefix, judge, type_name}

-- where the operand stands, and what waits for it
abbrev pub Awaited : Type 0
Awaited = Where × List Waiting

abbrev pub awaited : Where → List Waiting → Awaited
awaited w ws = (w, ws)

-- an operator that waits
abbrev pub operator : ℕ → Waiting
operator at = waiting.Operator at

abbrev pub await : Context → Where → Front → List Waiting → Made → Doing Awaited
await c w (Operator_of o) ws m = gives (behind_prefix c o w, waiting.Operator o ∷ ws) m
await c w (Cast_of o t e) ws m = follow (type_name c w t m) (λ ty. gives (w, waiting.Cast o ty ∷ ws))
await c w (Choice_of t q x e) ws m = follow (judge c w t m) (λ b now. follow (judge c w x now) (λ j. gives (w, waiting.Choice q b j ∷ ws)))
await c w (Left_of t o) ws m = follow (judge c w t m) (λ j. gives (w, waiting.Left o j ∷ ws))

abbrev pub awaits : Context → Where → Fronts → List Waiting → Made → Doing Awaited
awaits c w None_before ws m = gives (w, ws) m
awaits c w (Front_then f fs) ws m = follow (await c w f ws m) (λ a. awaits c a.0 fs a.1)

abbrev pub applied : Context → Waiting → Judged → Made → Doing Judged
applied c (waiting.Operator o) j m = row c o (prefix_form (spelling c.tokens o)) (j ∷ []) m
applied c (waiting.Cast o t) j m = cast c o t j m
applied c (waiting.Choice q b x) j m = row c q form.Conditional (b ∷ x ∷ j ∷ []) m
applied c (waiting.Left o l) j m = row c o (assign_form (spelling c.tokens o)) (l ∷ j ∷ []) m

abbrev pub all_applied : Context → List Waiting → Judged → Made → Doing Judged
all_applied c [] j m = gives j m
all_applied c (x ∷ xs) j m = follow (applied c x j m) (λ k. all_applied c xs k)
