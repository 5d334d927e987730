-- Casts, sizes and alignments of types, and places of members (ISO C11 6.5.3.4, 6.5.4, 7.19p3).
use Rattle.std.specs.Prelude.{ℕ, Bool, true, false, ◌&&◌, ◌||◌, List, [], ◌∷◌, ◌++◌, Option, Some, None, if◌then◌else◌}
use Rattle.type_data.specs.declared.judged.Constancy.{Constancy}
use Rattle.type_data.specs.declared.judged.Constancy.TheVariants as constancy
use Rattle.type_data.specs.declared.judged.Judged.{Judged}
use Rattle.expr_rules.specs.declared.parts.Designator.{Designator}
use Rattle.expr_rules.specs.declared.parts.Designator.TheVariants as designator
use Rattle.expr_rules.specs.declared.parts.Form.{Form}
use Rattle.expr_rules.specs.declared.parts.Form.TheVariants as form
use Rattle.expr_rules.specs.Kinds.{is_floating, is_integer}
use Rattle.expr_rules.specs.Operands.{bad}
use Rattle.elab_state.specs.declared.made.Made.{Made}
use Rattle.elab_state.specs.Doings.{Doing, fault, follow, gives, with_fault}
use Rattle.elab_core.specs.declared.shapes.Typed.{Typed}
use Rattle.elab_core.specs.Constants.{Needed, Has, Lacks}
use Rattle.elab_state.specs.Contexts.{Context}
use Rattle.elab_core.specs.Rows.{row}

-- ---- casts

abbrev pub is_integer_constant : Constancy → Bool
is_integer_constant (constancy.Int v) = true
is_integer_constant constancy.No = false
is_integer_constant constancy.Arith = false
is_integer_constant constancy.Addr = false
is_integer_constant constancy.Null = false

-- 6.6p6: a floating constant itself, whose value isn't evaluated where it becomes an integer
abbrev pub is_unevaluated : Typed → Judged → Bool
is_unevaluated t j = is_integer t.ty && (is_floating j.ty && is_integer_constant j.constant)

abbrev pub with_warning : ℕ → Bool → Made → Made
with_warning at b m = if b then with_fault (fault 532 at [] []) m else m

-- `at` is the parenthesis
abbrev pub cast : Context → ℕ → Typed → Judged → Made → Doing Judged
cast c at t j m = follow (row c at (form.Cast t.ty t.qual) (j ∷ []) m) (λ k now. gives k (with_warning at (is_unevaluated t j) now))

-- ---- sizes and alignments of types; `at` is the keyword

abbrev pub size_form : Bool → Typed → Form
size_form alignment t = if alignment then form.AlignOf t.ty else form.SizeOf (Some t.ty)

abbrev pub size : Context → ℕ → Bool → Typed → Made → Doing Judged
size c at alignment t m = row c at (size_form alignment t) [] m

-- ---- places of members: the steps to one, none where some step has a fault

abbrev pub with_step : Option (List Designator) → Designator → Option (List Designator)
with_step (Some ds) d = Some (ds ++ d ∷ [])
with_step None d = None

abbrev pub with_index : Option (List Designator) → Needed → Option (List Designator)
with_index ds (Has v) = with_step ds (designator.Index v)
with_index ds Lacks = None

abbrev pub offset : Context → ℕ → Typed → Option (List Designator) → Made → Doing Judged
offset c at t (Some ds) m = row c at (form.OffsetOf t.ty ds) [] m
offset c at t None m = gives bad m
