-- The way to a member from a type (ISO C11 7.19p3), step by step.
use Rattle.std.specs.Prelude.{ℕ, [], Option, Some, None}
use Rattle.asking.specs.Asking.{Gives, and_then}
use Rattle.type_data.specs.declared.judged.Judged.{Judged}
use Rattle.type_data.specs.Types.{Ty}
use Rattle.expr_rules.specs.declared.parts.Designator.TheVariants as designator
use Rattle.elab_core.specs.declared.shapes.Typed.{Typed}
use Rattle.elab_core.specs.Accesses.{offset_field}
use Rattle.elab_core.specs.Casts.{with_index, with_step}
use Rattle.elab_core.specs.Constants.{Needed, needed}
use Rattle.elab_state.specs.declared.made.Made.{Made}
use Rattle.elab_state.specs.Doings.{Doing}
use Rattle.elab_state.specs.Looks.{Deep, look}
use Rattle.elab_core.specs.Members.{element_of}
use Rattle.elab_state.specs.Contexts.{Context}
use Rattle.elab_state.specs.Tokens.{spelling}
use Rattle.elab_core.specs.declared.offsets.Way.{Way}

-- from a type: the steps, none where some step has a fault, and the type that they have come to
abbrev pub started : Typed → Way
started t = record { ty = t.ty; steps = Some [] }

abbrev pub named : Context → ℕ → Way → Ty × Made → Way × Made
named c n s r = (record { ty = r.0; steps = with_step s.steps (designator.Field (spelling c.tokens n)) }, r.1)

abbrev pub by_name : Context → ℕ → Way → Made → Way × Made
by_name c n s m = named c n s (offset_field c n s.ty m)

-- in brackets, by the value that the expression must have
abbrev pub indexed : Way → Needed × Made → Way × Made
indexed s r = (record { ty = element_of s.ty; steps = with_index s.steps r.0 }, r.1)

-- `at` is the first token of the expression
abbrev pub by_index : ℕ → Judged → Way → Made → Way × Made
by_index at j s m = indexed s (needed at j m)

-- what is no step
abbrev pub astray : Way → Way
astray s = record s { steps = None }

-- by the first name; what objects of the type hold is known then
abbrev pub way_from : Context → Typed → ℕ → Made → Doing Way
way_from c ty n m = and_then (look c.item (Deep ty.ty) m) (λ known. Gives (by_name c n (started ty) known))
