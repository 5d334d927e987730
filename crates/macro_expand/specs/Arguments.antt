-- The arguments of a function-like macro (ISO C11 6.10.3p4, p10 to p12).
use Rattle.std.specs.Prelude.{ℕ, ◌+◌, ◌==◌, nat_lt, Bool, true, false, ◌&&◌, ◌||◌, not, List, [], ◌∷◌, ◌++◌, length}
use Rattle.std.specs.Prelude.{Option, Some, None, option_map, if◌then◌else◌, bytes_eq, codes}
use Rattle.tok_data.specs.declared.tokens.OutToken.{OutToken}
use Rattle.macro_table.specs.declared.definition.MacroDef.{MacroDef}
use Rattle.macro_expand.specs.declared.types.Marked.{Marked}
use Rattle.macro_expand.specs.declared.arguments.Called.{Called}
use Rattle.macro_expand.specs.declared.arguments.Called.TheVariants.{Absent, Unclosed, Closed}
use Rattle.macro_expand.specs.Tokens.{is_ident, is_mark}

-- the named parameters; an object-like macro has none
abbrev pub names_of : Option (List (List ℕ)) → List (List ℕ)
names_of None = []
names_of (Some names) = names

-- how often a punctuator stands in a list
abbrev pub count : List ℕ → List Marked → ℕ
count text [] = 0
count text (t ∷ ts) = (if is_mark text t.token then 1 else 0) + count text ts

-- as many parentheses are closed in a list as are opened
unfoldable pub balanced : List Marked → Bool
balanced ts = count (codes "(") ts == count (codes ")") ts

-- the tokens up to the parenthesis that closes the call, and that parenthesis: the first one before which as many are
-- closed as opened (p10); some tokens stand before
abbrev pub inside : List Marked → List Marked → Option (List Marked × Marked)
inside front [] = None
inside front (t ∷ ts) =
    if is_mark (codes ")") t.token && balanced front then Some ([], t)
    else option_map (λ p. (t ∷ p.0, p.1)) (inside (front ++ t ∷ []) ts)

-- a comma divides arguments, but for those of the variable argument (p12); so many stand before
unfoldable pub divides : MacroDef → ℕ → Bool
divides def n = not def.variadic || nat_lt n (length (names_of def.params))

-- the arguments, which commas part where as many parentheses are closed as opened (p11); of the first argument some
-- tokens stand before
abbrev pub arguments : MacroDef → ℕ → List Marked → List Marked → List (List Marked)
arguments def n front [] = front ∷ []
arguments def n front (t ∷ ts) =
    if is_mark (codes ",") t.token && balanced front && divides def n then front ∷ arguments def (n + 1) [] ts
    else arguments def n (front ++ t ∷ []) ts

abbrev pub closed : MacroDef → Option (List Marked × Marked) → Called
closed def None = Unclosed
closed def (Some p) = Closed (arguments def 0 [] p.0) p.1.hides (length p.0 + 2)

-- what stands behind the name of a function-like macro
abbrev pub called : MacroDef → List Marked → Called
called def [] = Absent
called def (t ∷ ts) = if is_mark (codes "(") t.token then closed def (inside [] ts) else Absent

-- no argument at all, for a macro without parameters
abbrev pub is_nothing : List (List Marked) → Bool
is_nothing [] = true
is_nothing ([] ∷ []) = true
is_nothing _ = false

-- as many arguments as the macro has parameters; an absent variable argument is empty
unfoldable pub fitted : MacroDef → List (List Marked) → Option (List (List Marked))
fitted def args =
    if def.variadic
    then (if length args == length (names_of def.params) + 1 then Some args
    else (if length args == length (names_of def.params) then Some (args ++ [] ∷ []) else None))
    else (if length (names_of def.params) == 0 && is_nothing args then Some []
    else (if length args == length (names_of def.params) then Some args else None))

-- the variable argument is absent
unfoldable pub lacks_variable : MacroDef → List (List Marked) → Bool
lacks_variable def args = def.variadic && length args == length (names_of def.params)

-- the argument of a parameter
abbrev pub arg_by : Bool → List (List ℕ) → List (List Marked) → List ℕ → Option (List Marked)
arg_by variadic names [] name = None
arg_by variadic [] (a ∷ args) name = if variadic && bytes_eq name (codes "__VA_ARGS__") then Some a else None
arg_by variadic (n ∷ names) (a ∷ args) name = if bytes_eq n name then Some a else arg_by variadic names args name

unfoldable pub arg_of : MacroDef → List (List Marked) → OutToken → Option (List Marked)
arg_of def args t = if is_ident t.kind then arg_by def.variadic (names_of def.params) args t.spelling else None
