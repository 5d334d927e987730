-- What a statement is within (ISO C11 6.8.6.2p1, 6.8.6.3p1).
use Rattle.std.specs.Prelude.{true, false}
use Rattle.stmt_acts.specs.declared.acts.Within.{Within}

-- the statement that a function's body is
abbrev pub nowhere : Within
nowhere = record { looping = false; switching = false }

-- the body of a loop, and of a switch, that is within `w`
abbrev pub looped : Within → Within
looped w = record { looping = true; switching = w.switching }

abbrev pub switched : Within → Within
switched w = record { looping = w.looping; switching = true }
