-- What is noted on the way: faults, the tokens that `#` spelled, and where macros' names were replaced.
use Rattle.std.specs.Prelude.{ℕ, ◌-◌, Bool, true, false, List, [], ◌∷◌, ◌++◌, Option, Some}
use Rattle.tok_data.specs.declared.sources.TokId.{TokId}
use Rattle.tok_data.specs.declared.tokens.Spelt.{Spelt}
use Rattle.tok_data.specs.declared.tokens.Spelt.TheVariants.{At, Made}
use Rattle.tok_data.specs.declared.macros.MacroOcc.{MacroOcc}
use Rattle.tok_data.specs.declared.macros.MacroRole.TheVariants.{Uses}
use Rattle.macro_expand.specs.declared.types.Marked.{Marked}
use Rattle.macro_expand.specs.declared.types.Progress.{Progress}

abbrev pub faulty : ℕ → TokId → List ℕ → Progress → Progress
faulty rule tok text p = record p { faults = p.faults ++ (record { rule = rule; tok = tok; text = text }) ∷ [] }

abbrev pub noted : List TokId → Progress → Progress
noted toks p = record p { spelled = p.spelled ++ toks }

-- where an occurrence stands
abbrev pub place_by : TokId → Spelt → TokId
place_by site (At tok) = tok
place_by site Made = site

abbrev pub is_made : Spelt → Bool
is_made (At tok) = false
is_made Made = true

abbrev pub occurrence : Marked → Option TokId → MacroOcc
occurrence t def = record {
  tok = place_by t.token.site t.token.spelt;
  name = t.token.spelling;
  role = Uses;
  def = def;
  made = is_made t.token.spelt;
}

-- one replacement more
abbrev pub counted : Marked → Option TokId → Progress → Progress
counted t def p = record p { left = p.left - 1; macros = p.macros ++ occurrence t def ∷ [] }

-- too many replacements (rule 207): what is left stays as it is
abbrev pub refused : Marked → Progress → Progress
refused t p = record (faulty 207 t.token.site [] p) { stopped = true }

-- a line that isn't known
abbrev pub asking : Marked → Progress → Progress
asking t p = record p { stopped = true; asked = Some t.token.site }
