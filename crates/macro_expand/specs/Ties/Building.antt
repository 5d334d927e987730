-- A replacement list that is read token by token, with what was made of it so far.
use Rattle.std.specs.Prelude.{ℕ, zero, suc, ◌+◌, Bool, true, false, ◌&&◌, ◌||◌, not, List, [], ◌∷◌, ◌++◌, Option}
use Rattle.std.specs.Prelude.{Some, None, if◌then◌else◌}
use Rattle.tok_data.specs.declared.sources.TokId.{TokId}
use Rattle.tok_data.specs.declared.tokens.OutToken.{OutToken}
use Rattle.macro_expand.specs.declared.types.Marked.{Marked}
use Rattle.macro_table.specs.declared.definition.MacroDef.{MacroDef}
use Rattle.macro_expand.specs.declared.types.Progress.{Progress}
use Rattle.macro_expand.specs.declared.types.Outcome.{Outcome}
use Rattle.macro_expand.specs.declared.operands.Operand.{Operand}
use Rattle.macro_expand.specs.declared.building.Building.{Building}
use Rattle.macro_expand.specs.declared.building.Part.{Part}
use Rattle.macro_expand.specs.Progress.{faulty, noted}
use Rattle.macro_expand.specs.Tokens.{is_hash, is_paste, begins_paste, plain, spaced, last_of, first_spaced}
use Rattle.macro_expand.specs.Arguments.{arg_of}
use Rattle.macro_expand.specs.Spelling.{string_of, sources}
use Rattle.macro_expand.specs.Pasting.{pasted}
use Rattle.macro_expand.specs.Substitution.{Expander}

abbrev pub plain_operand : OutToken → Operand
plain_operand t = record { given = false; tokens = plain t ∷ []; spelled = []; space = t.space_before; more = 0 }

-- `#` with a parameter
abbrev pub string_operand : OutToken → List Marked → Operand
string_operand t arg = record {
  given = false;
  tokens = string_of t arg ∷ [];
  spelled = sources arg;
  space = t.space_before;
  more = 1;
}

-- a parameter, with its argument as it was written
abbrev pub argument_operand : OutToken → List Marked → Operand
argument_operand t arg = record { given = true; tokens = arg; spelled = []; space = t.space_before; more = 0 }

abbrev pub operand_by : (OutToken → List Marked → Operand) → OutToken → Option (List Marked) → Operand
operand_by f t None = plain_operand t
operand_by f t (Some arg) = f t arg

abbrev pub first_arg : MacroDef → List (List Marked) → List OutToken → Option (List Marked)
first_arg def args [] = None
first_arg def args (t ∷ ts) = arg_of def args t

-- what stands at the front of a replacement list
unfoldable pub operand : MacroDef → List (List Marked) → OutToken → List OutToken → Operand
operand def args t ts =
    if is_hash t then operand_by string_operand t (first_arg def args ts)
    else operand_by argument_operand t (arg_of def args t)

-- where nothing of the list was read, with the white space before the name that it replaces
abbrev pub begun : Progress → Bool → Building
begun p space = record { progress = p; tokens = []; space = space; empty = true; first = true }

-- the tokens of an operand are put at the end; where it has none, the white space before it passes on
abbrev pub puts : Bool → List Marked → Building → Building
puts space [] b = record b { space = space; empty = true; first = false }
puts space (t ∷ ts) b = record b {
  tokens = b.tokens ++ spaced space t ∷ ts;
  space = false;
  empty = false;
  first = false;
}

-- the white space before an operand; what stands before the first one is no part of the list (6.10.3p7)
abbrev pub space_of : Building → Bool → Bool
space_of b space = b.space || (space && not b.first)

abbrev pub with_noted : List TokId → Building → Building
with_noted toks b = record b { progress = noted toks b.progress }

-- two tokens are made one, or stay two (rule 206)
abbrev pub pasted_by : TokId → List Marked → Marked → Marked → List Marked → Option Marked → Building → Building
pasted_by site front l r rs (Some t) b = record b { tokens = front ++ t ∷ rs }
pasted_by site front l r rs None b = record b { progress = faulty 206 site [] b.progress; tokens = front ++ l ∷ r ∷ rs }

abbrev pub pasted_to : TokId → Marked → List Marked → Option (List Marked × Marked) → Building → Building
pasted_to site r rs None b = record b { tokens = r ∷ rs }
pasted_to site r rs (Some p) b = pasted_by site p.0 p.1 r rs (pasted p.1 r) b

-- the right operand of `##`, whose left operand has tokens
abbrev pub glued : TokId → List Marked → Building → Building
glued site [] b = b
glued site (r ∷ rs) b = pasted_to site r rs (last_of b.tokens) b

-- the right operand of `##`; an operand without tokens is a placemarker (6.10.3.3p2)
unfoldable pub joins : TokId → List Marked → Building → Building
joins site ts b = if b.empty then puts b.space ts b else glued site ts b

-- a parameter that is no operand of `##` is replaced by its expanded argument
abbrev pub puts_outcome : Bool → Building → Outcome → Building
puts_outcome space b o = puts space o.tokens (record b { progress = o.progress })

abbrev pub puts_operand : Expander → Building → Operand → Bool → Building
puts_operand again b o raw =
    if o.given && not raw
    then puts_outcome (space_of b o.space) b (again b.progress o.tokens)
    else puts (space_of b o.space) o.tokens (with_noted o.spelled b)

abbrev pub joins_operand : TokId → Building → Operand → Building
joins_operand site b o = joins site (first_spaced o.space o.tokens) (with_noted o.spelled b)

-- an operand, in front of `##` or not
abbrev pub puts_part : Expander → Building → List OutToken → Operand → Part
puts_part again b ts o = record { built = puts_operand again b o (begins_paste ts); more = o.more }

-- `##` with its right operand
abbrev pub joins_part : TokId → Building → Operand → Part
joins_part site b o = record { built = joins_operand site b o; more = o.more + 1 }

abbrev pub pastes : MacroDef → List (List Marked) → TokId → Building → OutToken → List OutToken → Part
pastes def args site b t [] = record { built = puts (space_of b t.space_before) (plain t ∷ []) b; more = 0 }
pastes def args site b t (u ∷ us) = joins_part site b (operand def args u us)

unfoldable pub part : Expander → MacroDef → List (List Marked) → TokId → Building → OutToken → List OutToken → Part
part again def args site b t ts =
    if is_paste t then pastes def args site b t ts else puts_part again b ts (operand def args t ts)

-- the rest of a replacement list, of which some tokens are read already
abbrev pub substituted : Expander → MacroDef → List (List Marked) → TokId → ℕ → Building → List OutToken → Building
substituted again def args site skip b [] = b
substituted again def args site zero b (t ∷ ts) =
    let p = part again def args site b t ts in substituted again def args site p.more p.built ts
substituted again def args site (suc skip) b (t ∷ ts) = substituted again def args site skip b ts
