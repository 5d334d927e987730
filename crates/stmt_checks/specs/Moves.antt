-- What a call that moves on in a body comes to, beside the run of its definition over what is told. Where memory is refused nothing is said.
use Rattle.std.specs.Prelude.{◌≡◌, Result, Ok, Err}
use Rattle.asking.specs.LookUps.{Ends, run_by}
use Rattle.elab_state.specs.Comes.{Stops}
use Rattle.elab_state.specs.declared.halt.Halt.{Halt}
use Rattle.elab_state.specs.declared.halt.Halt.TheVariants.{Wants, NoMemory}
use Rattle.elab_state.specs.Wants.{Told, answered}
use Rattle.stmt_checks.specs.Acting.{Moving}
use Rattle.stmt_checks.specs.Standings.{Standing}

abbrev pub Moves : {B : Type 0} → Told → Moving → Result B Halt → Standing → Type 0
Moves told moving (Ok x) st = run_by (answered told) moving ≡ Ends st
Moves told moving (Err halt) st = Stops (run_by (answered told) moving) halt

-- the same of one that doesn't ask
abbrev pub IsRefused : Halt → Type 0
IsRefused (Wants q) = ⊥
IsRefused NoMemory = Unit {0}

abbrev pub Steps : {B : Type 0} → Standing → Result B Halt → Standing → Type 0
Steps wanted (Ok x) st = st ≡ wanted
Steps wanted (Err halt) st = IsRefused halt

-- what refuses memory halts
abbrev pub halted : {B E : Type 0} → Result B E → Result B Halt
halted (Ok x) = Ok x
halted (Err e) = Err NoMemory
