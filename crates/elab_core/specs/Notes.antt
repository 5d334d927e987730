-- What the rows of heads tell is noted, and what a token of a head declares (ISO C11 6.2.1p7).
use Rattle.std.specs.Prelude.{ℕ, ◌-◌, List, Option, Some, None}
use Rattle.head_rules.specs.declared.naming.Constant.{Constant}
use Rattle.head_rules.specs.declared.naming.Constant.TheVariants as constant
use Rattle.head_rules.specs.declared.naming.NameToken.{NameToken}
use Rattle.scope_tables.specs.declared.entities.Anchor.{Anchor}
use Rattle.scope_tables.specs.declared.entities.Role.{Role}
use Rattle.type_data.specs.declared.judged.Fault.{Fault}
use Rattle.elab_state.specs.Contexts.{Context, own_tag, own_token}
use Rattle.elab_state.specs.declared.made.Made.{Made}
use Rattle.elab_state.specs.Doings.{with_fault}
use Rattle.elab_state.specs.Names.{occurs}
use Rattle.elab_state.specs.Tokens.{spelling}
use Rattle.elab_core.specs.Constants.{Needed, Has, Lacks}

abbrev pub noted : Option Fault → Made → Made
noted None m = m
noted (Some f) m = with_fault f m

-- rows put some faults on a name by its number in the item; faults are numbered as trees number their tokens
abbrev pub renumbered : Context → Fault → Fault
renumbered c f = record f { at = f.at - c.base }

abbrev pub noted_by_name : Context → Option Fault → Made → Made
noted_by_name c None m = m
noted_by_name c (Some f) m = with_fault (renumbered c f) m

-- the token n as a name that is declared
abbrev pub name_token : Context → ℕ → NameToken
name_token c n = record { name = spelling c.tokens n; id = own_tag c n; tok = own_token c n }

abbrev pub named_token : Context → Option ℕ → Option NameToken
named_token c (Some n) = Some (name_token c n)
named_token c None = None

-- an integer constant expression that is needed there; what has a fault was told
abbrev pub constant_of : Needed → Constant
constant_of (Has v) = constant.Is v
constant_of Lacks = constant.Faulty

abbrev pub marked : Context → ℕ → Role → Option Anchor → Made → Made
marked c n r (Some a) m = occurs c n a r m
marked c n r None m = m
