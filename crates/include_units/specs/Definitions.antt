-- `#define` and `#undef` (ISO C11 6.10.3, 6.10.3.5, 6.10.8p2).
use Rattle.std.specs.Prelude.{ℕ, ◌==◌, nat_lt, ◌&&◌, ◌||◌, not, Bool, true, false, List, [], ◌∷◌, ◌++◌, map, Option, Some, None, is_some, if◌then◌else◌, bytes_eq, codes}
use Rattle.std.specs.List.{list_any}
use Rattle.std.specs.FinMap as table
use Rattle.tok_data.specs.declared.sources.TokId.{TokId}
use Rattle.tok_data.specs.declared.tokens.PpKind.{PpKind}
use Rattle.tok_data.specs.declared.tokens.PpKind.TheVariants as pp
use Rattle.tok_data.specs.declared.tokens.OutToken.{OutToken}
use Rattle.tok_data.specs.declared.macros.MacroRole.TheVariants.{Defines, Undefines}
use Rattle.macro_table.specs.declared.definition.MacroDef.{MacroDef}
use Rattle.macro_table.specs.Same.{Spelled, replacement}
use Rattle.macro_expand.specs.Tokens.{is_mark, is_hash, is_paste}
use Rattle.pp_cond.specs.Defined.{is_ident, is_word}
use Rattle.tok_data.specs.declared.faults.PpFault.{PpFault}
use Rattle.include_units.specs.declared.heads.Head.{Head}
use Rattle.include_units.specs.declared.heads.Place.{Place}
use Rattle.include_units.specs.declared.heads.Place.TheVariants.{Opened, Named, Parted}
use Rattle.include_units.specs.declared.heads.Mark.{Mark}
use Rattle.include_units.specs.declared.heads.Mark.TheVariants.{Ends, Dots, Names, Parts, Breaks}
use Rattle.include_units.specs.Conditionals.{same_bool}
use Rattle.include_units.specs.Made.{Made, definitions, fault, with_fault, with_occurrence, is_one_of}

-- 6.10p1: `( )`, `( identifier-list )`, `( ... )`, `( identifier-list , ... )`: these parameters stand before
abbrev pub closed : List OutToken → Bool → List OutToken → Option Head
closed before variadic ts = Some (record { params = Some before; variadic = variadic; body = ts })

abbrev pub dotted : List OutToken → List OutToken → Option Head
dotted before [] = None
dotted before (t ∷ ts) = if is_mark (codes ")") t then closed before true ts else None

-- what a token does behind a comma, behind `(` and behind a parameter
unfoldable pub mark_parted : OutToken → Mark
mark_parted t = if is_mark (codes "...") t then Dots else (if is_ident t.kind then Names else Breaks)

unfoldable pub mark_opened : OutToken → Mark
mark_opened t = if is_mark (codes ")") t then Ends else mark_parted t

unfoldable pub mark_named : OutToken → Mark
mark_named t = if is_mark (codes ")") t then Ends else (if is_mark (codes ",") t then Parts else Breaks)

abbrev pub mark_at : Place → OutToken → Mark
mark_at Opened t = mark_opened t
mark_at Named t = mark_named t
mark_at Parted t = mark_parted t

abbrev pub by_mark : Mark → List OutToken → OutToken → List OutToken → (Place → List OutToken → Option Head) → Option Head
by_mark Ends before t ts go = closed before false ts
by_mark Dots before t ts go = dotted before ts
by_mark Names before t ts go = go Named (before ++ t ∷ [])
by_mark Parts before t ts go = go Parted before
by_mark Breaks before t ts go = None

abbrev pub parameters : Place → List OutToken → List OutToken → Option Head
parameters place before [] = None
parameters place before (t ∷ ts) = by_mark (mark_at place t) before t ts (λ next names. parameters next names ts)

-- behind the name: `(` without white space before it begins parameters (6.10.3p10); before the list of an object-like
-- macro there is white space (6.10.3p3)
abbrev pub object : List OutToken → Head
object ts = record { params = None; variadic = false; body = ts }

abbrev pub head : List OutToken → Option Head
head [] = Some (object [])
head (t ∷ ts) =
    if t.space_before then Some (object (t ∷ ts))
    else (if is_mark (codes "(") t then parameters Opened [] ts else None)

-- what breaks a definition that has a form, in the order of its tokens
abbrev pub variable : List ℕ
variable = codes "__VA_ARGS__"

abbrev pub is_variable : List ℕ → Bool
is_variable text = bytes_eq text variable

-- 6.10.3p5: `__VA_ARGS__` is no name and no parameter, and stands in the list of a macro with `...` alone
abbrev pub name_faults : OutToken → List PpFault
name_faults t = if is_variable t.spelling then fault 209 t.site [] ∷ [] else []

-- 6.10.3p6: no parameter stands twice; these stand before
abbrev pub twice_faults : List (List ℕ) → OutToken → List PpFault
twice_faults seen t = if is_one_of seen t.spelling then fault 210 t.site t.spelling ∷ [] else []

abbrev pub param_faults : List (List ℕ) → List OutToken → List PpFault
param_faults seen [] = []
param_faults seen (t ∷ ts) = name_faults t ++ (twice_faults seen t ++ param_faults (seen ++ t.spelling ∷ []) ts)

abbrev pub params_of : Option (List OutToken) → List OutToken
params_of None = []
params_of (Some ts) = ts

abbrev pub is_token_of : List OutToken → List ℕ → Bool
is_token_of ts name = list_any (λ t. bytes_eq t.spelling name) ts

abbrev pub is_param_of : Option (List OutToken) → List ℕ → Bool
is_param_of None name = false
is_param_of (Some ts) name = is_token_of ts name

-- 6.10.3.2p1: `#` in the list of a function-like macro is followed by a parameter
abbrev pub is_parameter : Head → OutToken → Bool
is_parameter h t = is_ident t.kind && (is_param_of h.params t.spelling || (h.variadic && is_variable t.spelling))

abbrev pub begins_parameter : Head → List OutToken → Bool
begins_parameter h [] = false
begins_parameter h (t ∷ ts) = is_parameter h t

-- 6.10.3.3p1: `##` stands neither at the front of the list nor at its end; `first` says that this is its front. The rule
-- that a token breaks, or 0
abbrev pub paste_rule : Bool → List OutToken → ℕ
paste_rule first [] = 205
paste_rule first (t ∷ ts) = if first then 205 else 0

abbrev pub hash_rule : Head → OutToken → List OutToken → ℕ
hash_rule h t ts = if is_hash t && not (begins_parameter h ts) then 204 else 0

unfoldable pub token_rule : Head → Bool → OutToken → List OutToken → ℕ
token_rule h first t ts =
    if is_word variable t && not h.variadic then 209
    else (if is_paste t then paste_rule first ts
    else (if is_some h.params then hash_rule h t ts else 0))

abbrev pub rule_faults : ℕ → TokId → List PpFault
rule_faults rule tok = if rule == 0 then [] else fault rule tok [] ∷ []

abbrev pub token_faults : Head → Bool → OutToken → List OutToken → List PpFault
token_faults h first t ts = rule_faults (token_rule h first t ts) t.site

abbrev pub body_faults : Head → Bool → List OutToken → List PpFault
body_faults h first [] = []
body_faults h first (t ∷ ts) = token_faults h first t ts ++ body_faults h false ts

abbrev pub faults_of : OutToken → Head → List PpFault
faults_of name h = name_faults name ++ (param_faults [] (params_of h.params) ++ body_faults h true h.body)

abbrev pub with_faults : List PpFault → Made → Made
with_faults fs m = record m { faults = m.faults ++ fs }

-- 6.10.8p2: names that may not be defined or undefined (rule 208)
unfoldable pub guarded : List (List ℕ)
guarded =
    codes "defined" ∷ codes "__LINE__" ∷ codes "__FILE__" ∷ codes "__STDC__" ∷ codes "__STDC_VERSION__"
    ∷ codes "__STDC_HOSTED__" ∷ codes "__STDC_NO_ATOMICS__" ∷ codes "__STDC_NO_COMPLEX__"
    ∷ codes "__STDC_NO_THREADS__" ∷ codes "__STDC_NO_VLA__" ∷ codes "__DATE__" ∷ codes "__TIME__" ∷ []

-- the text that each unit begins with, and how many of its tokens define these names themselves
abbrev pub command : List ℕ
command = codes "<command>"

abbrev pub first_lines : ℕ
first_lines = 36

abbrev pub is_first_line : TokId → Bool
is_first_line tok = bytes_eq tok.file command && nat_lt tok.at first_lines

abbrev pub is_guarded : OutToken → Bool
is_guarded t = is_one_of guarded t.spelling && not (is_first_line t.site)

-- 6.10.3p2: whether two definitions are the same
abbrev pub kind_number : PpKind → ℕ
kind_number pp.Ident = 0
kind_number pp.Number = 1
kind_number pp.Char = 2
kind_number pp.Str = 3
kind_number pp.Header = 4
kind_number pp.Punct = 5
kind_number pp.Stray = 6

abbrev pub same_spelled : List Spelled → List Spelled → Bool
same_spelled [] [] = true
same_spelled [] (b ∷ bs) = false
same_spelled (a ∷ more) [] = false
same_spelled (a ∷ more) (b ∷ bs) =
    (kind_number a.kind == kind_number b.kind)
    && (bytes_eq a.spelling b.spelling && (same_bool a.spaced b.spaced && same_spelled more bs))

abbrev pub same_names : List (List ℕ) → List (List ℕ) → Bool
same_names [] [] = true
same_names [] (b ∷ bs) = false
same_names (a ∷ more) [] = false
same_names (a ∷ more) (b ∷ bs) = bytes_eq a b && same_names more bs

abbrev pub same_params : Option (List (List ℕ)) → Option (List (List ℕ)) → Bool
same_params None None = true
same_params (Some a) (Some b) = same_names a b
same_params _ _ = false

abbrev pub same_definition : MacroDef → MacroDef → Bool
same_definition a b =
    same_params a.params b.params
    && (same_bool a.variadic b.variadic && same_spelled (replacement a.body) (replacement b.body))

abbrev pub params_named : Option (List OutToken) → Option (List (List ℕ))
params_named None = None
params_named (Some ts) = Some (map (λ t. t.spelling) ts)

abbrev pub definition_of : OutToken → Head → MacroDef
definition_of name h = record {
  name = name.spelling;
  tok = name.site;
  params = params_named h.params;
  variadic = h.variadic;
  body = h.body;
}

-- a name that has another definition keeps it (rule 201)
abbrev pub define_over : Option MacroDef → OutToken → MacroDef → Made → Made
define_over None name def m = record m { table = table.insert m.table name.spelling def }
define_over (Some kept) name def m =
    if same_definition kept def then m else with_fault 201 name.site name.spelling m

abbrev pub define_by : List PpFault → OutToken → Head → Made → Made
define_by [] name h m = define_over (definitions m name.spelling) name (definition_of name h) m
define_by (f ∷ fs) name h m = with_faults (f ∷ fs) m

abbrev pub define_head : OutToken → OutToken → Option Head → Made → Made
define_head directive name None m = with_fault 221 directive.site [] m
define_head directive name (Some h) m = define_by (faults_of name h) name h m

-- the occurrence has the definition that is in force behind the directive
abbrev pub define_named : OutToken → OutToken → List OutToken → Made → Made
define_named directive name ts m =
    if is_guarded name then with_fault 208 name.site name.spelling m else define_head directive name (head ts) m

abbrev pub define_line : OutToken → List OutToken → Made → Made
define_line directive [] m = with_fault 221 directive.site [] m
define_line directive (t ∷ ts) m =
    if is_ident t.kind then with_occurrence Defines t (define_named directive t ts m) else with_fault 221 directive.site [] m

-- the occurrence has the definition that is in force before the directive
abbrev pub undefined : OutToken → OutToken → List OutToken → Made → Made
undefined directive name [] m =
    if is_guarded name then with_fault 208 name.site name.spelling m
    else record m { table = table.remove m.table name.spelling }
undefined directive name (t ∷ ts) m = with_fault 221 directive.site [] m

abbrev pub undef_line : OutToken → List OutToken → Made → Made
undef_line directive [] m = with_fault 221 directive.site [] m
undef_line directive (t ∷ ts) m =
    if is_ident t.kind then undefined directive t ts (with_occurrence Undefines t m)
    else with_fault 221 directive.site [] m
