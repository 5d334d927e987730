-- What each step of a body does (ISO C11 6.8): it asks, and changes what is known.
use Rattle.std.specs.Prelude.{ℕ, true, false, List, [], ◌∷◌, Option, Some, None}
use Rattle.asking.specs.Asking.{Asking, Gives, and_then}
use Rattle.elab_core.specs.Constants.{Needed, Has, Lacks, needed}
use Rattle.elab_core.specs.Declarations.{declaration}
use Rattle.elab_core.specs.Ends.{first_of}
use Rattle.elab_core.specs.Expressions.{judge}
use Rattle.elab_core.specs.declared.declarations.Declaration.{Declaration}
use Rattle.elab_state.specs.Contexts.{Context}
use Rattle.elab_state.specs.Wants.{wants}
use Rattle.elab_state.specs.declared.around.Where.{Where}
use Rattle.elab_state.specs.declared.made.Made.{Made}
use Rattle.scope_tables.specs.Levels.{Scope}
use Rattle.stmt_acts.specs.declared.acts.Within.{Within}
use Rattle.stmt_acts.specs.Acts.{Act, Enter, Leave, Evaluate, If_test, Loop_test, Switch_on, End_switch, Case_label, Default_label, Label, Goto, Continue, Break, Return, Declare, Declare_in_for}
use Rattle.stmt_rules.specs.Conditions.{condition}
use Rattle.stmt_rules.specs.Declarations.{for_fault}
use Rattle.stmt_rules.specs.Jumps.{continue_fault, break_fault}
use Rattle.stmt_rules.specs.Returns.{return_fault}
use Rattle.stmt_rules.specs.Switches.{switch_fault, case_fault, after_case, default_fault, after_default}
use Rattle.stmt_rules.specs.declared.declarations.ForParts.{ForParts}
use Rattle.stmt_rules.specs.declared.jumps.Within as rules
use Rattle.tree_data.specs.Trees.{Tree, Heading}
use Rattle.type_data.specs.declared.judged.Judged.{Judged}
use Rattle.type_data.specs.Types.{Ty}
use Rattle.stmt_checks.specs.Labels.{labelled, jumped}
use Rattle.stmt_checks.specs.Standings.{Standing, with_made, told, entered, left, in_switch, out_of_switch}

abbrev pub Moving : Type 0
Moving = Asking wants Standing

-- ---- expressions: what is done with the judgement doesn't ask

abbrev pub behind : (Judged → Standing → Standing) → Standing → Judged × Made → Moving
behind f st r = Gives (f r.0 (with_made r.1 st))

abbrev pub evaluated : Where
evaluated = record { counted = true; defining = false }

abbrev pub judged : Context → Tree → (Judged → Standing → Standing) → Standing → Moving
judged c t f st = and_then (judge c evaluated t st.made) (behind f st)

abbrev pub dropped : Judged → Standing → Standing
dropped j st = st

-- 6.8.4.1p1, 6.8.5p2
abbrev pub tested : ℕ → ℕ → Judged → Standing → Standing
tested rule k j st = told (condition rule k j) st

-- 6.8.4.2p1
abbrev pub switched : ℕ → Judged → Standing → Standing
switched k j st = in_switch j (told (switch_fault k j) st)

-- 6.8.4.2p3: a value that is no integer constant expression has a fault of its own, and no other
abbrev pub with_value : ℕ → Needed → Standing → Standing
with_value k (Has v) st = told (case_fault k v st.switches) (record st { switches = after_case v st.switches })
with_value k Lacks st = st

abbrev pub cased_by : ℕ → Standing → Needed × Made → Standing
cased_by k st r = with_value k r.0 (with_made r.1 st)

abbrev pub cased : ℕ → ℕ → Judged → Standing → Standing
cased k at j st = cased_by k st (needed at j st.made)

abbrev pub defaulted : ℕ → Standing → Standing
defaulted k st = told (default_fault k st.switches) (record st { switches = after_default st.switches })

-- 6.8.6.4
abbrev pub returned : Ty → ℕ → Judged → Standing → Standing
returned ty k j st = told (return_fault k ty (Some j)) st

abbrev pub returns : Context → Ty → ℕ → Option Tree → Standing → Moving
returns c ty k (Some t) st = judged c t (returned ty k) st
returns c ty k None st = Gives (told (return_fault k ty None) st)

-- what a jump is within
abbrev pub within : Within → rules.Within
within w = record { looping = w.looping; switching = w.switching }

-- ---- declarations

abbrev pub known_by : Standing → Declaration × Made → Standing
known_by st r = with_made r.1 st

abbrev pub declared : Context → Heading → Standing → Moving
declared c d st = and_then (declaration c false d st.made) (λ r. Gives (known_by st r))

-- 6.8.5p3
abbrev pub for_parts : Declaration → ForParts
for_parts d = record { first = d.first; storage = d.storage; storage_at = d.storage_at; thread = d.thread; function = d.function }

abbrev pub tested_for : Standing → Declaration × Made → Standing
tested_for st r = told (for_fault (for_parts r.0)) (known_by st r)

abbrev pub declared_in_for : Context → Heading → Standing → Moving
declared_in_for c d st = and_then (declaration c true d st.made) (λ r. Gives (tested_for st r))

-- ---- a step, in a function of type `ty` whose labels are `all`, and several

abbrev pub acts : Context → Ty → List Scope → Act → Standing → Moving
acts c ty all Enter st = Gives (entered st)
acts c ty all Leave st = Gives (left st)
acts c ty all (Evaluate t) st = judged c t dropped st
acts c ty all (If_test k t) st = judged c t (tested 603 k) st
acts c ty all (Loop_test k t) st = judged c t (tested 608 k) st
acts c ty all (Switch_on k t) st = judged c t (switched k) st
acts c ty all End_switch st = Gives (out_of_switch st)
acts c ty all (Case_label k t) st = judged c t (cased k (first_of t)) st
acts c ty all (Default_label k) st = Gives (defaulted k st)
acts c ty all (Label n) st = Gives (labelled c n st)
acts c ty all (Goto n) st = Gives (jumped c all n st)
acts c ty all (Continue k w) st = Gives (told (continue_fault k (within w)) st)
acts c ty all (Break k w) st = Gives (told (break_fault k (within w)) st)
acts c ty all (Return k e) st = returns c ty k e st
acts c ty all (Declare d) st = declared c d st
acts c ty all (Declare_in_for d) st = declared_in_for c d st

abbrev pub all_acts : Context → Ty → List Scope → List Act → Standing → Moving
all_acts c ty all [] st = Gives st
all_acts c ty all (a ∷ as') st = and_then (acts c ty all a st) (λ next. all_acts c ty all as' next)
