-- A row of the operators (ISO C11 6.5): the tags that it tests are asked for, and then it is judged over what is known of tags. A fault is
-- noted, and leaves what has it without a type.
use Rattle.std.specs.Prelude.{ℕ, List, Result, Ok, Err}
use Rattle.asking.specs.Asking.{Gives, and_then}
use Rattle.type_data.specs.declared.judged.CheckError.{CheckError}
use Rattle.type_data.specs.declared.judged.CheckError.TheVariants.{Broken, NoMemory}
use Rattle.type_data.specs.declared.judged.Judged.{Judged}
use Rattle.expr_rules.specs.declared.parts.Form.{Form}
use Rattle.expr_rules.specs.declared.parts.Operator.{Operator}
use Rattle.expr_rules.specs.Judgements.{judged}
use Rattle.expr_rules.specs.Operands.{Answer, bad}
use Rattle.elab_state.specs.Contexts.{Context}
use Rattle.elab_state.specs.declared.made.Made.{Made}
use Rattle.elab_state.specs.Doings.{Doing, with_fault}
use Rattle.elab_core.specs.Tests.{tests}

abbrev pub outcome : Answer → Made → Judged × Made
outcome (Ok j) m = (j, m)
outcome (Err (Broken f)) m = (bad, with_fault f m)
outcome (Err NoMemory) m = (bad, m)

abbrev pub judged_by : Operator → List Judged → Made → Judged × Made
judged_by o parts m = outcome (judged o parts m.tags) m

abbrev pub row_of : Context → Operator → List Judged → Made → Doing Judged
row_of c o parts m = and_then (tests c.item o.form parts m) (λ now. Gives (judged_by o parts now))

-- `at` is the token on which its fault stands
abbrev pub row : Context → ℕ → Form → List Judged → Made → Doing Judged
row c at f parts m = row_of c (record { at = at; form = f }) parts m
