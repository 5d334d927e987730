-- Alignment specifiers (ISO C11 6.7.5), one after another.
use Rattle.std.specs.Prelude.{ℕ, Option, Some, None}
use Rattle.asking.specs.Asking.{Gives, and_then}
use Rattle.head_rules.specs.Alignments.{by_expression, by_type}
use Rattle.head_rules.specs.declared.alignments.Alignment.{Alignment}
use Rattle.type_data.specs.declared.judged.Fault.{Fault}
use Rattle.type_data.specs.declared.judged.Judged.{Judged}
use Rattle.elab_state.specs.Contexts.{Context}
use Rattle.elab_state.specs.declared.made.Made.{Made}
use Rattle.elab_state.specs.Doings.{Doing}
use Rattle.elab_state.specs.Looks.{At, look}
use Rattle.elab_core.specs.Constants.{Needed, Has, Lacks, needed}
use Rattle.elab_core.specs.declared.shapes.Typed.{Typed}
use Rattle.elab_core.specs.Notes.{noted}

abbrev pub told : Alignment × Option Fault → Made → Alignment × Made
told r m = (r.0, noted r.1 m)

-- `_Alignas ( constant-expression )`, whose keyword is the token k
abbrev pub aligned_by : ℕ → Needed → Alignment → Made → Alignment × Made
aligned_by k (Has v) a m = told (by_expression k (Some v) a) m
aligned_by k Lacks a m = told (by_expression k None a) m

-- `begins` is the first token of the expression
abbrev pub aligned : ℕ → ℕ → Judged → Alignment → Made → Alignment × Made
aligned k begins j a m = aligned_by k (needed begins j m).0 a (needed begins j m).1

-- `_Alignas ( type-name )`: p5, the type's alignment, which reads what is known of its tag
abbrev pub aligned_as : Context → ℕ → Typed → Alignment → Made → Doing Alignment
aligned_as c k t a m = and_then (look c.item (At t.ty) m) (λ now. Gives (told (by_type k now.tags t.ty a) now))
