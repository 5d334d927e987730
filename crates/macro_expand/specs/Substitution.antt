-- The substitution of arguments into a replacement list (ISO C11 6.10.3.1 to 6.10.3.3; `subst` of Prosser's algorithm).
use Rattle.std.specs.Prelude.{ℕ, Bool, true, false, ◌&&◌, ◌||◌, List, [], ◌∷◌, ◌++◌, map, Option, Some, None}
use Rattle.std.specs.Prelude.{if◌then◌else◌}
use Rattle.tok_data.specs.declared.sources.TokId.{TokId}
use Rattle.tok_data.specs.declared.tokens.OutToken.{OutToken}
use Rattle.macro_table.specs.declared.definition.MacroDef.{MacroDef}
use Rattle.macro_expand.specs.declared.types.Marked.{Marked}
use Rattle.macro_expand.specs.declared.types.Progress.{Progress}
use Rattle.macro_expand.specs.declared.types.Outcome.{Outcome}
use Rattle.macro_expand.specs.HideSets.{united}
use Rattle.macro_expand.specs.Progress.{faulty, noted}
use Rattle.macro_expand.specs.Tokens.{is_hash, is_paste, plain, spaced, first_spaced, last_of}
use Rattle.macro_expand.specs.Arguments.{arg_of}
use Rattle.macro_expand.specs.Spelling.{string_of, sources}
use Rattle.macro_expand.specs.Pasting.{pasted}

-- what a replacement list consists of: the operator `##`, the operator `#` with a parameter, a parameter, and any other
-- token; a parameter has its argument
pub data Element : Type 0 where
  Paste : OutToken → Element
  Quoted : OutToken → List Marked → Element
  Param : OutToken → List Marked → Element
  Other : OutToken → Element

abbrev pub element_by : OutToken → Option (List Marked) → Element
element_by t None = if is_paste t then Paste t else Other t
element_by t (Some arg) = Param t arg

-- `#` in front of a parameter is its operator
abbrev pub before : Element → List Element → List Element
before (Other t) (Param u arg ∷ es) = if is_hash t then Quoted t arg ∷ es else Other t ∷ Param u arg ∷ es
before e es = e ∷ es

abbrev pub elements : MacroDef → List (List Marked) → List OutToken → List Element
elements def args [] = []
elements def args (t ∷ ts) = before (element_by t (arg_of def args t)) (elements def args ts)

-- the tokens of an element, of which no argument is expanded
abbrev pub written : Element → List Marked
written (Paste t) = plain t ∷ []
written (Quoted t arg) = string_of t arg ∷ []
written (Param t arg) = arg
written (Other t) = plain t ∷ []

-- the source tokens that it spells
abbrev pub spelled_by : Element → List TokId
spelled_by (Quoted t arg) = sources arg
spelled_by e = []

abbrev pub space_of : Element → Bool
space_of (Paste t) = t.space_before
space_of (Quoted t arg) = t.space_before
space_of (Param t arg) = t.space_before
space_of (Other t) = t.space_before

-- what is made of a replacement list: tokens, and a placemarker for each operand that has none (6.10.3.3p2), with the
-- white space before it
pub data Item : Type 0 where
  Token : Marked → Item
  Placemarker : Bool → Item

abbrev pub items_of : Bool → List Marked → List Item
items_of space [] = Placemarker space ∷ []
items_of space (t ∷ ts) = map Token (spaced space t ∷ ts)

-- what was made so far, and what was noted
pub record Output : Type 0 where
  pub progress : Progress
  pub items : List Item

-- something was made; the white space before the first element is no part of the list (6.10.3p7)
abbrev pub is_begun : List Item → Bool
is_begun [] = false
is_begun (i ∷ is) = true

abbrev pub puts : Bool → List Marked → Output → Output
puts space ts o = record o { items = o.items ++ items_of (space && is_begun o.items) ts }

abbrev pub noting : Element → Output → Output
noting e o = record o { progress = noted (spelled_by e) o.progress }

-- an element at the end, as it is written
abbrev pub puts_written : Element → Output → Output
puts_written e o = puts (space_of e) (written e) (noting e o)

-- what expands a list, where something was done already
abbrev pub Expander : Type 0
Expander = Progress → List Marked → Outcome

abbrev pub puts_outcome : Bool → Output → Outcome → Output
puts_outcome space o made = puts space made.tokens (record o { progress = made.progress })

-- an argument at the end, expanded
abbrev pub puts_expanded : Expander → OutToken → List Marked → Output → Output
puts_expanded again t arg o = puts_outcome t.space_before o (again o.progress arg)

-- two tokens are made one, or stay two (rule 206)
abbrev pub pasted_or : TokId → List Item → Marked → Marked → List Marked → Output → Option Marked → Output
pasted_or site front l r rs o (Some t) = record o { items = front ++ map Token (t ∷ rs) }
pasted_or site front l r rs o None = record {
  progress = faulty 206 site [] o.progress;
  items = front ++ map Token (l ∷ r ∷ rs);
}

-- `##` behind a token; a placemarker leaves it
abbrev pub pasted_to : TokId → List Item → Marked → List Marked → Output → Output
pasted_to site front l [] o = o
pasted_to site front l (r ∷ rs) o = pasted_or site front l r rs o (pasted l r)

-- `##` behind an item; a placemarker gives way, and nothing is as one
abbrev pub pasted_behind : TokId → List Marked → Output → Option (List Item × Item) → Output
pasted_behind site ts o None = record o { items = items_of false ts }
pasted_behind site ts o (Some (front, Placemarker space)) = record o { items = front ++ items_of space ts }
pasted_behind site ts o (Some (front, Token l)) = pasted_to site front l ts o

-- `glue` of Prosser's algorithm: the last item and the right operand of `##`, before which the white space of its element stands
abbrev pub glue : TokId → Element → Output → Output
glue site e o = pasted_behind site (first_spaced (space_of e) (written e)) (noting e o) (last_of o.items)

-- `##` stands next
abbrev pub paste_follows : List Element → Bool
paste_follows (Paste t ∷ es) = true
paste_follows _ = false

-- `subst` by its cases: `##` with its right operand, `#` with a parameter, a parameter in front of `##`, any other
-- parameter, which is replaced by its expanded argument, and any other token; `##` at the end is one of these
abbrev pub substituted : Expander → TokId → Output → List Element → Output
substituted again site o [] = o
substituted again site o (Paste t ∷ []) = puts_written (Paste t) o
substituted again site o (Paste t ∷ e ∷ es) = substituted again site (glue site e o) es
substituted again site o (Quoted t arg ∷ es) = substituted again site (puts_written (Quoted t arg) o) es
substituted again site o (Param t arg ∷ es) =
    substituted again site (if paste_follows es then puts_written (Param t arg) o else puts_expanded again t arg o) es
substituted again site o (Other t ∷ es) = substituted again site (puts_written (Other t) o) es

-- white space passes from a placemarker to the next token
abbrev pub spaced_if : Bool → Marked → Marked
spaced_if true t = spaced true t
spaced_if false t = t

-- the tokens without the placemarkers (6.10.3.3p3), and the white space that nothing took; some stands before
abbrev pub settled : Bool → List Item → List Marked × Bool
settled space [] = ([], space)
settled space (Placemarker more ∷ is) = settled (space || more) is
settled space (Token t ∷ is) = (spaced_if space t ∷ (settled false is).0, (settled false is).1)

-- what replaces a name falls on its site and gets its hide set (`hsadd`)
abbrev pub marked_by : TokId → List (List ℕ) → Marked → Marked
marked_by site names t = record { token = record t.token { site = site }; hides = united t.hides names }

abbrev pub all_marked : TokId → List (List ℕ) → List Marked → List Marked
all_marked site names ts = map (marked_by site names) ts
