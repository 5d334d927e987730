-- What is known of a body up to a place in it (ISO C11 6.8), and small changes of it.
use Rattle.std.specs.Prelude.{Option, Some, None}
use Rattle.elab_state.specs.declared.made.Made.{Made}
use Rattle.elab_state.specs.Doings.{with_fault}
use Rattle.scope_tables.specs.Scopes as scopes
use Rattle.scope_tables.specs.declared.entities.ScopeKind.TheVariants.{Block}
use Rattle.stmt_rules.specs.Switches as switches
use Rattle.type_data.specs.declared.judged.Fault.{Fault}
use Rattle.type_data.specs.declared.judged.Judged.{Judged}
pub use Rattle.stmt_checks.specs.declared.standing.Standing.{Standing}

-- ---- what the body has made so far

abbrev pub with_made : Made → Standing → Standing
with_made m st = record st { made = m }

-- a fault, if there is one, is noted
abbrev pub noted : Option Fault → Made → Made
noted None m = m
noted (Some f) m = with_fault f m

abbrev pub told : Option Fault → Standing → Standing
told f st = with_made (noted f st.made) st

-- ---- blocks (6.2.1p4)

abbrev pub entered : Standing → Standing
entered st = with_made (record st.made { names = scopes.entered Block st.made.names }) st

abbrev pub left : Standing → Standing
left st = with_made (record st.made { names = scopes.left st.made.names }) st

-- ---- `switch` statements (6.8.4.2)

abbrev pub in_switch : Judged → Standing → Standing
in_switch j st = record st { switches = switches.entered j st.switches }

abbrev pub out_of_switch : Standing → Standing
out_of_switch st = record st { switches = switches.left st.switches }
