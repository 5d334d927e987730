-- What the name of a declarator does to what it denotes, and what the declaration states of it (ISO C11 6.7p5, 6.7.9p4, 6.9.1, 6.9.2).
use Rattle.std.specs.Prelude.{ℕ, Bool, true, false, ◌&&◌, ◌||◌, not, ◌==◌, Option, Some, None, if◌then◌else◌}
use Rattle.scope_tables.specs.declared.entities.Life.{Life}
use Rattle.scope_tables.specs.declared.entities.Life.TheVariants as life
use Rattle.scope_tables.specs.declared.entities.Role.{Role}
use Rattle.scope_tables.specs.declared.entities.Role.TheVariants as role
use Rattle.scope_tables.specs.declared.meanings.How.{How}
use Rattle.scope_tables.specs.declared.meanings.How.TheVariants as how
use Rattle.head_rules.specs.declared.roles.Declaring.{Declaring}
use Rattle.head_rules.specs.declared.roles.Places.{Places}

abbrev pub one_of : Bool → Role
one_of defines = if defines then role.Defines else role.Declares

-- the first declaration of a typedef name defines it, a body a function, and each declaration of an object but one by `extern` alone
abbrev pub role_of : Declaring → Bool → Role
role_of d first =
    if d.is_typedef then one_of first
    else if d.is_function || d.has_body then one_of d.has_body
    else one_of (not (d.is_extern && not d.has_init))

-- 6.9.2p1, p2: of an object at file scope
abbrev pub how_of_object : Declaring → How
how_of_object d =
    if d.has_init then how.Defines
    else if d.is_extern then how.Declares
    else how.Tentative

-- 6.9.1: of a function with a body; what is no function and has one would define
abbrev pub how_of : Declaring → How
how_of d =
    if d.has_body then (if d.is_function then how.Defines else how.Refused)
    else if d.is_function then how.Declares
    else how_of_object d

-- of one that has a fault
abbrev pub refused_how : How → How
refused_how how.Declares = how.Declares
refused_how how.Defines = how.Refused
refused_how how.Tentative = how.Refused
refused_how how.Refused = how.Refused

-- 6.7.9p4: expressions in the initializer of an object with static or thread storage duration are constant
abbrev pub needs_constants : Life → Bool
needs_constants life.Static = true
needs_constants life.Thread = true
needs_constants life.Automatic = false
needs_constants life.Register = false
needs_constants life.Without = false

-- ---- a fault of a specifier stands on it, and not on the name

abbrev pub or_at : ℕ → Option ℕ → ℕ
or_at at None = at
or_at at (Some n) = n

abbrev pub or_first : Option ℕ → Option ℕ → Option ℕ
or_first (Some n) k = Some n
or_first None k = k

-- 435 where `_Thread_local` is wanting stands on the first token of the declaration
abbrev pub place_of : Places → ℕ → ℕ → ℕ
place_of p rule at =
    if rule == 406 then or_at at (or_first p.storage p.thread)
    else if rule == 416 then or_at at p.function
    else if rule == 417 then or_at at p.align
    else if rule == 435 then or_at p.begins p.thread
    else at
