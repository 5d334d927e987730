-- A call that is read token by token, with the parentheses that are open counted.
use Rattle.std.specs.Prelude.{ℕ, ◌+◌, ◌-◌, ◌==◌, nat_lt, Bool, ◌&&◌, ◌||◌, not, List, [], ◌∷◌, ◌++◌}
use Rattle.std.specs.Prelude.{length, if◌then◌else◌, codes, Option, Some, None}
use Rattle.tok_data.specs.declared.tokens.OutToken.{OutToken}
use Rattle.macro_expand.specs.declared.types.Marked.{Marked}
use Rattle.macro_table.specs.declared.definition.MacroDef.{MacroDef}
use Rattle.macro_expand.specs.declared.arguments.Reading.{Reading}
use Rattle.macro_expand.specs.declared.arguments.Called.{Called}
use Rattle.macro_expand.specs.declared.arguments.Called.TheVariants.{Absent, Unclosed, Closed}
use Rattle.macro_expand.specs.Tokens.{is_mark}
use Rattle.macro_expand.specs.Arguments.{names_of}

-- what comes of a token: the call goes on, or ends
pub data Turn : Type 0 where
  Goes : Reading → Turn
  Ends : Called → Turn

-- the same, where a call that ended is told beside what is known
abbrev pub turned_to : Reading → Option Called → Turn
turned_to r None = Goes r
turned_to r (Some called) = Ends called

abbrev pub taken : Marked → Reading → Reading
taken t r = record r { current = r.current ++ t ∷ [] }

abbrev pub parted : Reading → Reading
parted r = record r { done = r.done ++ r.current ∷ []; current = [] }

-- a comma parts two arguments where the first parenthesis alone is open, but for those of the variable argument
unfoldable pub parts : MacroDef → Reading → OutToken → Bool
parts def r t =
    is_mark (codes ",") t && r.depth == 1
    && (not def.variadic || nat_lt (length r.done) (length (names_of def.params)))

abbrev pub opened : Marked → Reading → Reading
opened t r = if r.depth == 0 then record r { depth = 1 } else record (taken t r) { depth = r.depth + 1 }

abbrev pub closed : Marked → Reading → ℕ → Turn
closed t r at =
    if r.depth == 1 then Ends (Closed (r.done ++ r.current ∷ []) t.hides (at + 1))
    else Goes (record (taken t r) { depth = r.depth - 1 })

-- what is known after one more token, or the whole call
unfoldable pub turn : MacroDef → ℕ → Reading → Marked → Turn
turn def at r t =
    if is_mark (codes "(") t.token then Goes (opened t r)
    else (if r.depth == 0 then Ends Absent
    else (if is_mark (codes ")") t.token then closed t r at
    else (if parts def r t.token then Goes (parted r) else Goes (taken t r))))

abbrev pub turned : (Reading → Called) → Turn → Called
turned more (Goes r) = more r
turned more (Ends called) = called

-- where the list ends
abbrev pub at_end : Reading → Called
at_end r = if r.depth == 0 then Absent else Unclosed

-- the tokens after the name, from a place on; parentheses that are open are counted, the first among them
abbrev pub reads : MacroDef → ℕ → Reading → List Marked → Called
reads def at r [] = at_end r
reads def at r (t ∷ ts) = turned (λ r'. reads def (at + 1) r' ts) (turn def at r t)

abbrev pub nothing_read : Reading
nothing_read = record { depth = 0; done = []; current = [] }
