-- What a condition says (ISO C11 6.10.1).
use Rattle.std.specs.Prelude.{◌≡◌, ◌⊎◌, ℕ, ◌==◌, not, Bool, true, false, List, [], ◌++◌, Option, Some, None, pos, if◌then◌else◌}
use Rattle.std.specs.Ordering.{int_eq}
use Rattle.std.specs.List.{list_any}
use Rattle.tok_data.specs.declared.sources.TokId.{TokId}
use Rattle.tok_data.specs.declared.faults.PpFault.{PpFault}
use Rattle.tok_data.specs.declared.tokens.OutToken.{OutToken}
use Rattle.tok_data.specs.declared.macros.MacroOcc.{MacroOcc}
use Rattle.type_data.specs.declared.values.Value.{Value}
use Rattle.type_data.specs.declared.values.Value.TheVariants.{Known, Unknown, Faulty}
use Rattle.macro_expand.specs.declared.types.Expanded.{Expanded}
use Rattle.macro_expand.specs.Expansion.{Definitions, expanded}
use Rattle.pp_cond.specs.declared.types.Truth.{Truth}
use Rattle.pp_cond.specs.declared.types.Truth.TheVariants.{Yes, No, Bad, Asks}
use Rattle.pp_cond.specs.declared.symbols.Symbol.{Symbol}
use Rattle.pp_cond.specs.Defined.{prepared, symbols, occurrences}
use Rattle.pp_cond.specs.Grammar.{Tree, IsExpression, value}
use Rattle.pp_cond.specs.declared.numbers.Number.{Number}
use Rattle.pp_cond.specs.Machine.{run, at_first}

abbrev pub truth_of : Value → Truth
truth_of (Known z) = if int_eq z (pos 0) then No else Yes
truth_of Unknown = Bad
truth_of (Faulty rule) = Bad

-- a warning alone, rule 211, is no error
abbrev pub has_error : List PpFault → Bool
has_error faults = list_any (λ fault. not (fault.rule == 211)) faults

-- of what is read as a value; by the law `Meaning` that is the value of the grammar
abbrev pub found : Option Number → Truth
found None = Bad
found (Some v) = truth_of v.value

-- 6.10.1p3, p4, 6.6: the truth of symbols is that of the value of the constant expression that they spell, and Bad where
-- they spell none
pub record IsTruth (symbols : List Symbol) (truth : Truth) : Type 0 where
  pub only : (t : Tree) → IsExpression symbols t → truth ≡ truth_of (value t).value
  pub otherwise : ((t : Tree) × IsExpression symbols t) ⊎ (truth ≡ Bad)

abbrev pub Meaning : Type 0
Meaning = (symbols : List Symbol) → IsTruth symbols (found (run at_first symbols))

-- what is left after the expansion is looked at where that has no error, and where no line is wanted
abbrev pub truth_by : Definitions → Expanded → Option TokId → Truth
truth_by table e (Some site) = Asks site
truth_by table e None = if has_error e.faults then Bad else found (run at_first (symbols table e.tokens))

abbrev pub truth : Definitions → Expanded → Truth
truth table e = truth_by table e e.asked

-- what is left after the expansion is looked at where that has no error
pub record IsDecided (table : Definitions) (faults : List PpFault) (tokens : List OutToken) (truth : Truth) : Type 0 where
  pub bad : has_error faults ≡ true → truth ≡ Bad
  pub valued : has_error faults ≡ false → IsTruth (symbols table tokens) truth

-- where a line isn't known, the condition asks for it
abbrev pub IsAnswer : Definitions → Expanded → Option TokId → Truth → Type 0
IsAnswer table e (Some site) truth = truth ≡ Asks site
IsAnswer table e None truth = IsDecided table e.faults e.tokens truth

abbrev pub macros : Definitions → List OutToken → Expanded → Option TokId → List MacroOcc
macros table tokens e (Some site) = []
macros table tokens e None = (occurrences table false tokens ++ e.macros) ++ occurrences table true e.tokens

-- the tokens of a condition, in which `defined` is 1 or 0, are expanded
abbrev pub expansion : Definitions → List (TokId × ℕ) → ℕ → List OutToken → Expanded
expansion table lines budget tokens = expanded table lines budget (prepared table tokens)
