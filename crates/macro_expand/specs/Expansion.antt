-- Macro expansion by Prosser's algorithm (ISO C11 6.10.3; `expand`, X3J11/86-196): each token has a hide set, and a
-- name in its own hide set is left.
use Rattle.std.specs.Prelude.{ℕ, zero, suc, ◌-◌, ◌==◌, Bool, false, ◌&&◌, not, List, [], ◌∷◌, ◌++◌, map, drop, Option}
use Rattle.std.specs.Prelude.{Some, None, option_map, if◌then◌else◌, bytes_eq, codes, decimal, find}
use Rattle.tok_data.specs.declared.sources.TokId.{TokId}
use Rattle.tok_data.specs.declared.tokens.PpKind.{PpKind}
use Rattle.tok_data.specs.declared.tokens.PpKind.TheVariants.{Number, Str}
use Rattle.tok_data.specs.declared.tokens.Spelt.TheVariants.{Made}
use Rattle.tok_data.specs.declared.tokens.OutToken.{OutToken}
use Rattle.macro_expand.specs.declared.types.Marked.{Marked}
use Rattle.macro_table.specs.declared.definition.MacroDef.{MacroDef}
use Rattle.macro_expand.specs.declared.types.Progress.{Progress}
use Rattle.macro_expand.specs.declared.types.Outcome.{Outcome}
use Rattle.macro_expand.specs.declared.types.Expanded.{Expanded}
use Rattle.macro_expand.specs.declared.arguments.Called.{Called}
use Rattle.macro_expand.specs.declared.arguments.Called.TheVariants.{Absent, Unclosed, Closed}
use Rattle.macro_expand.specs.HideSets.{hides, common}
use Rattle.macro_expand.specs.Tokens.{is_ident, plain, first_spaced, passed_on}
use Rattle.macro_expand.specs.Arguments.{called, fitted, lacks_variable}
use Rattle.macro_expand.specs.Spelling.{escaped, quoted}
use Rattle.macro_expand.specs.Substitution.{Expander, Output, elements, substituted, settled, all_marked}
use Rattle.macro_expand.specs.Progress.{faulty, counted, refused, asking}

-- the definitions of names
abbrev pub Definitions : Type 0
Definitions = List ℕ → Option MacroDef

-- what a name means
pub data Sense : Type 0 where
  Ordinary : Sense
  Line : Sense
  File : Sense
  Macro : MacroDef → Sense

abbrev pub macro_or : Option MacroDef → Sense
macro_or None = Ordinary
macro_or (Some def) = Macro def

abbrev pub named : Definitions → List ℕ → Sense
named table name =
    if bytes_eq name (codes "__LINE__") then Line
    else (if bytes_eq name (codes "__FILE__") then File
    else macro_or (table name))

-- a name in its own hide set is left
unfoldable pub meaning : Definitions → Marked → Sense
meaning table t =
    if not (is_ident t.token.kind) then Ordinary
    else (if hides t.hides t.token.spelling then Ordinary else named table t.token.spelling)

-- the line of a site
abbrev pub line_in : List (TokId × ℕ) → TokId → Option ℕ
line_in lines site = option_map (λ e. e.1) (find (λ e. e.0.at == site.at && bytes_eq e.0.file site.file) lines)

-- the token of `__LINE__` and `__FILE__`
abbrev pub made_token : Marked → PpKind → List ℕ → Marked
made_token t kind text = record t { token = record t.token { kind = kind; spelling = text; spelt = Made } }

-- what comes of a token: it stays, another is put in its place and read again, or it is replaced by a definition's
-- list, with arguments, a hide set and so many tokens behind it
pub data Found : Type 0 where
  Stays : Progress → Found
  Put : Progress → Marked → Found
  Replaced : Progress → MacroDef → List (List Marked) → List (List ℕ) → ℕ → Found

abbrev pub put_line : Progress → Marked → Option ℕ → Found
put_line p t None = Stays (asking t p)
put_line p t (Some n) = Put (counted t None p) (made_token t Number (decimal n))

abbrev pub line_found : List (TokId × ℕ) → Progress → Marked → Found
line_found lines p t = if p.left == 0 then Stays (refused t p) else put_line p t (line_in lines t.token.site)

abbrev pub file_found : Progress → Marked → Found
file_found p t =
    if p.left == 0 then Stays (refused t p)
    else Put (counted t None p) (made_token t Str (quoted (escaped t.token.site.file)))

abbrev pub object_found : Progress → Marked → MacroDef → Found
object_found p t def =
    if p.left == 0 then Stays (refused t p)
    else Replaced (counted t (Some def.tok) p) def [] (t.token.spelling ∷ t.hides) 0

-- rule 211 warns of an absent variable argument
abbrev pub counted_call : Progress → Marked → MacroDef → Bool → Progress
counted_call p t def lacks =
    if lacks then faulty 211 t.token.site t.token.spelling (counted t (Some def.tok) p) else counted t (Some def.tok) p

abbrev pub fit_found : Progress → Marked → MacroDef → Bool → List (List Marked) → List (List ℕ) → ℕ → Found
fit_found p t def lacks args names width =
    if p.left == 0 then Stays (refused t p)
    else Replaced (counted_call p t def lacks) def args (t.token.spelling ∷ common t.hides names) width

-- the arguments are as many as the parameters, or not (rule 202)
abbrev pub fit_or : Progress → Marked → MacroDef → Bool → List (List ℕ) → ℕ → Option (List (List Marked)) → Found
fit_or p t def lacks names width None = Stays (faulty 202 t.token.site t.token.spelling p)
fit_or p t def lacks names width (Some args) = fit_found p t def lacks args names width

abbrev pub closed_found : Progress → Marked → MacroDef → List (List Marked) → List (List ℕ) → ℕ → Found
closed_found p t def args names width = fit_or p t def (lacks_variable def args) names width (fitted def args)

-- a function-like macro: its name alone stays, and so does one whose arguments aren't closed (rule 203)
abbrev pub call_found : Progress → Marked → MacroDef → Called → Found
call_found p t def Absent = Stays p
call_found p t def Unclosed = Stays (faulty 203 t.token.site t.token.spelling p)
call_found p t def (Closed args names width) = closed_found p t def args names width

abbrev pub macro_found : Progress → Marked → List Marked → MacroDef → Option (List (List ℕ)) → Found
macro_found p t ts def None = object_found p t def
macro_found p t ts def (Some names) = call_found p t def (called def ts)

abbrev pub found_by : List (TokId × ℕ) → Progress → Marked → List Marked → Sense → Found
found_by lines p t ts Ordinary = Stays p
found_by lines p t ts Line = line_found lines p t
found_by lines p t ts File = file_found p t
found_by lines p t ts (Macro def) = macro_found p t ts def def.params

unfoldable pub found : Definitions → List (TokId × ℕ) → Progress → Marked → List Marked → Found
found table lines p t ts = if p.stopped then Stays p else found_by lines p t ts (meaning table t)

-- the replacement list with its arguments
abbrev pub built : Expander → Progress → Marked → MacroDef → List (List Marked) → Output
built again p t def args =
    substituted again t.token.site (record { progress = p; items = [] }) (elements def args def.body)

-- what replaced a name, with the rest of the list behind it
abbrev pub spliced : Marked → List (List ℕ) → List Marked → Bool → List Marked → List Marked
spliced t names list space ts =
    first_spaced t.token.space_before (all_marked t.token.site names list) ++ passed_on space ts

abbrev pub with_front : List Marked → Outcome → Outcome
with_front front o = record o { tokens = front ++ o.tokens }

-- the replaced list is expanded anew, with the rest
abbrev pub again_with : Expander → Marked → List (List ℕ) → List Marked → Output → Outcome
again_with again t names ts o =
    let s = settled t.token.space_before o.items in again o.progress (spliced t names s.0 s.1 ts)

abbrev pub goes_on : Expander → (Progress → Outcome) → Marked → List Marked → Found → Outcome
goes_on again more t ts (Stays p) = with_front (t ∷ []) (more p)
goes_on again more t ts (Put p u) = again p (u ∷ ts)
goes_on again more t ts (Replaced p def args names width) =
    again_with again t names (drop width ts) (built again p t def args)

-- the list from the front; what is replaced is expanded by `again`
abbrev pub walked : Definitions → List (TokId × ℕ) → Expander → Progress → List Marked → Outcome
walked table lines again p [] = record { progress = p; tokens = [] }
walked table lines again p (t ∷ ts) =
    goes_on again (λ q. walked table lines again q ts) t ts (found table lines p t ts)

-- with a bound on the replacements that come one inside or after another; each takes one of the budget, so a bound
-- beyond the budget is never met
abbrev pub bounded : Definitions → List (TokId × ℕ) → ℕ → Progress → List Marked → Outcome
bounded table lines zero p ts = record { progress = p; tokens = ts }
bounded table lines (suc n) p ts = walked table lines (bounded table lines n) p ts

unfoldable pub expansion : Definitions → List (TokId × ℕ) → Progress → List Marked → Outcome
expansion table lines p ts = bounded table lines (suc p.left) p ts

-- where nothing is done yet
abbrev pub at_first : ℕ → Progress
at_first budget = record { left = budget; stopped = false; faults = []; spelled = []; macros = []; asked = None }

-- where a line isn't known, the lists are empty
abbrev pub told_by : ℕ → Outcome → Option TokId → Expanded
told_by budget o None = record {
  tokens = map (λ t. t.token) o.tokens;
  used = budget - o.progress.left;
  faults = o.progress.faults;
  spelled = o.progress.spelled;
  macros = o.progress.macros;
  asked = None;
}
told_by budget o (Some site) = record {
  tokens = [];
  used = budget - o.progress.left;
  faults = [];
  spelled = [];
  macros = [];
  asked = Some site;
}

abbrev pub told : ℕ → Outcome → Expanded
told budget o = told_by budget o o.progress.asked

-- the expansion of a list of tokens, of which none was replaced before, with so many replacements at most
abbrev pub expanded : Definitions → List (TokId × ℕ) → ℕ → List OutToken → Expanded
expanded table lines budget tokens =
    told budget (expansion table lines (at_first budget) (map plain tokens))
