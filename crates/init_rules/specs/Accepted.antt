-- What an object takes as its initializer, and the rule that another one breaks (ISO C11 6.7.9p4, p11, p13 to p15).
use Rattle.std.specs.Prelude.{ℕ, Bool, true, false, not, ◌&&◌, ◌||◌, List, [], ◌∷◌, Option, Some, None, if◌then◌else◌}
use Rattle.type_data.specs.declared.judged.Constancy.{Constancy}
use Rattle.type_data.specs.declared.judged.Fault.{Fault}
use Rattle.type_data.specs.declared.judged.Judged.{Judged}
use Rattle.type_data.specs.Types.{Ty, Array_of, Bad_type}
use Rattle.type_rel.specs.Assignable.{assignable}
use Rattle.type_rel.specs.Constancies.{is_address, is_arith}
use Rattle.type_rel.specs.Kinds.{is_bad}
use Rattle.init_rules.specs.Places.{is_told}
use Rattle.init_rules.specs.Strings.{is_too_long, takes_text}
use Rattle.init_rules.specs.declared.state.OpenPlace.{OpenPlace}

-- a fault whose text prints nothing of the construct
abbrev pub broken : ℕ → ℕ → Option Fault
broken at rule = Some (record { rule = rule; at = at; names = []; types = [] })

-- one whose text prints the object's type and the expression's
abbrev pub mismatched : ℕ → Ty → Ty → Option Fault
mismatched at t u = Some (record { rule = 428; at = at; names = []; types = t ∷ u ∷ [] })

-- p2: once a list
abbrev pub too_many_if : ℕ → Bool → Option Fault
too_many_if at told = if told then None else broken at 425

abbrev pub too_many : ℕ → List OpenPlace → Option Fault
too_many at ps = too_many_if at (is_told ps)

-- 6.6p7: an arithmetic constant expression, an address constant or a null pointer constant
abbrev pub is_constant : Constancy → Bool
is_constant c = is_arith c || is_address c

-- an expression initializes an object as a whole: a structure or union of its type (p13), or an array of characters that it
-- is a string literal for (p14, p15). `c` is the expression after its conversion.
abbrev pub takes : Bool → Judged → Judged → Ty → Bool
takes text j c t = assignable t c || (text && takes_text t j.ty)

-- p14, p2
abbrev pub by_text : ℕ → Ty → Ty → Option Fault
by_text at t u = if is_too_long t u then broken at 425 else None

-- p11, p13: as in simple assignment
abbrev pub by_value : ℕ → Ty → Judged → Option Fault
by_value at t c = if assignable t c then None else mismatched at t c.ty

abbrev pub by_type : ℕ → Bool → Ty → Judged → Judged → Option Fault
by_type at text t j c = if text && takes_text t j.ty then by_text at t j.ty else by_value at t c

-- p4: that of an object of static or thread storage duration is constant
abbrev pub by_constancy : ℕ → Bool → Bool → Ty → Judged → Judged → Option Fault
by_constancy at constant text t j c =
    if constant && not (is_constant c.constant) then broken at 427 else by_type at text t j c

-- nothing more is shown of what has a fault, or of an array of it
abbrev pub is_faulty : Ty → Bool
is_faulty (Array_of t q n) = is_faulty t
is_faulty Bad_type = true
is_faulty t = false

abbrev pub refused : ℕ → Bool → Bool → Ty → Judged → Judged → Option Fault
refused at constant text t j c =
    if is_faulty t || is_bad j.ty then None else by_constancy at constant text t j c
