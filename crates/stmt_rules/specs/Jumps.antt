-- `continue` and `break` (ISO C11 6.8.6.2p1, 6.8.6.3p1).
use Rattle.std.specs.Prelude.{ℕ, true, false, ◌||◌, [], Option, Some, None, if◌then◌else◌}
use Rattle.type_data.specs.declared.judged.Fault.{Fault}
use Rattle.stmt_rules.specs.declared.jumps.Within.{Within}
use Rattle.stmt_rules.specs.Faults.{fault}

-- the statement that a function's body is
abbrev pub nowhere : Within
nowhere = record { looping = false; switching = false }

-- the body of a loop, and of a switch, that is within `w`
abbrev pub looped : Within → Within
looped w = record { looping = true; switching = w.switching }

abbrev pub switched : Within → Within
switched w = record { looping = w.looping; switching = true }

abbrev pub continue_fault : ℕ → Within → Option Fault
continue_fault at w = if w.looping then None else Some (fault 611 at [] [])

abbrev pub break_fault : ℕ → Within → Option Fault
break_fault at w = if w.looping || w.switching then None else Some (fault 612 at [] [])
