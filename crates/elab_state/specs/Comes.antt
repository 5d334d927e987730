-- What a call that may ask comes to, beside the run of its definition over what is told: it ends as the run does, or wants the one
-- question that the run needs. Where memory is refused nothing is said.
use Rattle.std.specs.Prelude.{◌≡◌, [], ◌∷◌, Option, None, Some, Result, Ok, Err}
use Rattle.asking.specs.Asking.{Asking}
use Rattle.asking.specs.LookUps.{Ends, Looked, Needs, run_by}
use Rattle.scope_tables.specs.declared.entities.Entity.{Entity}
use Rattle.elab_state.specs.declared.halt.Halt.{Halt}
use Rattle.elab_state.specs.declared.halt.Halt.TheVariants.{Wants, NoMemory}
use Rattle.elab_state.specs.declared.wants.Wanted.{Wanted}
use Rattle.elab_state.specs.Doings.{Doing, Made}
use Rattle.elab_state.specs.Wants.{Told, answered, wants}

abbrev pub Stops : {A : Type 0} → Looked wants A → Halt → Type 0
Stops run (Wants q) = run ≡ Needs (q ∷ [])
Stops run NoMemory = Unit {0}

abbrev pub Comes : {A B : Type 0} → Told → Doing A → (B → A) → Result B Halt → Made → Type 0
Comes told doing shown (Ok x) made = run_by (answered told) doing ≡ Ends (shown x, made)
Comes told doing shown (Err halt) made = Stops (run_by (answered told) doing) halt

-- the same of what gives no result but what is made
abbrev pub Leads : {B : Type 0} → Told → Asking wants Made → Result B Halt → Made → Type 0
Leads told asking (Ok x) made = run_by (answered told) asking ≡ Ends made
Leads told asking (Err halt) made = Stops (run_by (answered told) asking) halt

-- an answer as it is told, or a question that isn't answered
abbrev pub Missing : Told → Wanted → Halt → Type 0
Missing told q (Wants other) = (other ≡ q) × (answered told q ≡ None)
Missing told q NoMemory = Unit {0}

abbrev pub Answers : {B : Type 0} → Told → Wanted → (B → Option Entity) → Result B Halt → Type 0
Answers told q shown (Ok x) = answered told q ≡ Some (shown x)
Answers told q shown (Err halt) = Missing told q halt
