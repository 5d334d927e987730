-- How a list is expanded step by step.
use Rattle.macro_expand.specs.Ties.Codes.{Names}
use Rattle.macro_expand.specs.Ties.Numbers.{real, reals, real_args}
use Rattle.std.specs.Prelude.{option_map, ◌≡◌, ℕ, ◌<◌, ◌≤◌, Bool, List, [], ◌∷◌, drop, Option, Some, None, MatchOption}
use Rattle.std.specs.Prelude.{if◌then◌else◌}
use Rattle.tok_data.specs.declared.sources.TokId.{TokId}
use Rattle.macro_table.specs.declared.definition.MacroDef.{MacroDef}
use Rattle.macro_expand.specs.declared.types.Marked.{Marked}
use Rattle.macro_expand.specs.declared.types.Progress.{Progress}
use Rattle.macro_expand.specs.declared.types.Outcome.{Outcome}
use Rattle.macro_expand.specs.declared.building.Building.{Building}
use Rattle.macro_expand.specs.declared.expanding.Step.{Step}
use Rattle.macro_expand.specs.declared.machine.Walked.{Walked}
use Rattle.macro_expand.specs.declared.finding.Meaning.{Meaning}
use Rattle.macro_expand.specs.declared.finding.Meaning.TheVariants as read
use Rattle.macro_expand.specs.declared.finding.Found.{Found as FoundMacro}
use Rattle.macro_expand.specs.declared.finding.Found.TheVariants as macro_read
use Rattle.macro_expand.specs.Substitution.{Expander}
use Rattle.macro_expand.specs.Expansion.{Definitions, Sense, Ordinary, Line, File, Macro, Found, Stays, Put, Replaced}
use Rattle.macro_expand.specs.Expansion.{meaning, spliced, with_front, expansion}
use Rattle.macro_expand.specs.Ties.Building.{begun, substituted}

abbrev pub meant : Meaning → Sense
meant read.Ordinary = Ordinary
meant read.Line = Line
meant read.File = File
meant (read.Macro def) = Macro def.now

-- the same where nothing more is replaced: all names are ordinary then
abbrev pub sense : Definitions → Bool → Marked → Sense
sense table stopped t = if stopped then Ordinary else meaning table t

-- what comes of a macro's name, with what is noted then
abbrev pub found_of : (Names → Names) → MacroDef → Progress → FoundMacro → Found
found_of f def p macro_read.Stays = Stays p
found_of f def p (macro_read.Replaced args names width) = Replaced p def (real_args f args) (f names) width

-- the replacement list with its arguments, as it is read
abbrev pub built : Expander → Progress → Marked → MacroDef → List (List Marked) → Building
built again p t def args = substituted again def args t.token.site 0 (begun p t.token.space_before) def.body

-- what was read is expanded anew, with the rest
abbrev pub again_with : Expander → Marked → List (List ℕ) → List Marked → Building → Outcome
again_with again t names ts b = again b.progress (spliced t names b.tokens b.space ts)

abbrev pub kept_step : Progress → Marked → List Marked → Step
kept_step p t ts = record { progress = p; kept = Some t; rest = ts }

abbrev pub put_step : Progress → Marked → List Marked → Step
put_step p t ts = record { progress = p; kept = None; rest = t ∷ ts }

abbrev pub replaced_step : Marked → List (List ℕ) → List Marked → Building → Step
replaced_step t names ts b = record { progress = b.progress; kept = None; rest = spliced t names b.tokens b.space ts }

-- one token's worth of a list: where it is kept, and what is left
abbrev pub step_by : Expander → Marked → List Marked → Found → Step
step_by again t ts (Stays p) = kept_step p t ts
step_by again t ts (Put p u) = put_step p u ts
step_by again t ts (Replaced p def args names width) = replaced_step t names (drop width ts) (built again p t def args)

-- the same where nothing is expanded
abbrev pub settled : Marked → List Marked → Found → Step
settled t ts found = step_by (λ p us. record { progress = p; tokens = us }) t ts found

-- each step takes one of the budget, or a token
abbrev pub IsNearer : Step → ℕ → List Marked → Type 0
IsNearer s left ts = MatchOption s.kept (s.progress.left < left) (λ t. (s.progress.left ≤ left) × (s.rest ≡ ts))

-- so many replacements are left, and so many were
abbrev pub IsSpent : FoundMacro → ℕ → ℕ → Type 0
IsSpent macro_read.Stays left before = left ≤ before
IsSpent (macro_read.Replaced args names width) left before = left < before

-- what comes after a step
abbrev pub after_by : Expander → Progress → List Marked → Option Marked → Outcome
after_by again p ts None = again p ts
after_by again p ts (Some t) = with_front (t ∷ []) (again p ts)

abbrev pub after : Expander → Step → Outcome
after again s = after_by again s.progress s.rest s.kept

-- the same with the sets that numbers stand for
abbrev pub real_step : (Names → Names) → Step → Step
real_step f s = record { progress = s.progress; kept = option_map (real f) s.kept; rest = reals f s.rest }

-- what is kept, with the expansion of what is left behind it
abbrev pub whole : (Names → Names) → Definitions → List (TokId × ℕ) → Walked → Outcome
whole f table lines w = with_front (reals f w.done) (expansion table lines w.progress (reals f w.rest))
