-- Nothing gives replacements back, and each replacement takes one.
use Rattle.std.proofs.Common.{◌≡◌, ℕ, zero, suc, ◌<◌, ◌≤◌, Bool, true, false, List, [], ◌∷◌, refl, arith, Option, ◌&&◌}
use Rattle.std.proofs.Common.{not}
use Rattle.std.specs.Prelude.{Some, None}
use Rattle.tok_data.specs.declared.sources.TokId.{TokId}
use Rattle.tok_data.specs.declared.tokens.OutToken.{OutToken}
use Rattle.macro_expand.specs.declared.types.Marked.{Marked}
use Rattle.macro_table.specs.declared.definition.MacroDef.{MacroDef}
use Rattle.macro_expand.specs.declared.types.Progress.{Progress}
use Rattle.macro_expand.specs.declared.types.Outcome.{Outcome}
use Rattle.macro_expand.specs.declared.operands.Operand.{Operand}
use Rattle.macro_expand.specs.declared.building.Building.{Building}
use Rattle.macro_expand.specs.declared.building.Part.{Part}
use Rattle.macro_expand.specs.declared.arguments.Called.{Called}
use Rattle.macro_expand.specs.declared.arguments.Called.TheVariants.{Absent, Unclosed, Closed}
use Rattle.macro_expand.specs.Tokens.{is_paste, last_of}
use Rattle.macro_expand.specs.Arguments.{called, fitted, lacks_variable}
use Rattle.macro_expand.specs.Pasting.{pasted}
use Rattle.macro_expand.specs.Tokens.{first_spaced}
use Rattle.macro_expand.specs.Ties.Building as build
use Rattle.macro_expand.specs.Substitution.{Expander}
use Rattle.macro_expand.specs.Expansion as spec
use Rattle.macro_expand.specs.Expansion.{Found, Stays, Put, Replaced, Sense, Ordinary, Line, File, Macro}
use Rattle.macro_expand.proofs.Cases.{if_cases, above_zero}

abbrev pub Keeps : (Expander) → Type 0
Keeps again = (p : Progress) (ts : List Marked) → (again p ts).progress.left ≤ p.left

abbrev pub Spends : ℕ → Found → Type 0
Spends left (Stays p) = p.left ≤ left
Spends left (Put p u) = p.left < left
Spends left (Replaced p def args names width) = p.left < left

pub line_spends : (p : Progress) (t : Marked) (o : Option ℕ) → 0 < p.left → Spends p.left (spec.put_line p t o)
line_spends p t None some = omega arith
line_spends p t (Some n) some = omega arith

pub line_found_spends : (lines : List (TokId × ℕ)) (p : Progress) (t : Marked) → Spends p.left
    (spec.line_found lines p t)
line_found_spends lines p t =
    if_cases (Spends p.left) _ _ _ (λ _. omega arith)
    (λ e. line_spends p t (spec.line_in lines t.token.site) (above_zero p.left e))

pub file_found_spends : (p : Progress) (t : Marked) → Spends p.left (spec.file_found p t)
file_found_spends p t =
    if_cases (Spends p.left) _ _ _ (λ _. omega arith)
    (λ e. let some : 0 < p.left = above_zero p.left e in omega (arith, some))

pub object_spends : (p : Progress) (t : Marked) (def : MacroDef) → Spends p.left (spec.object_found p t def)
object_spends p t def =
    if_cases (Spends p.left) _ _ _ (λ _. omega arith)
    (λ e. let some : 0 < p.left = above_zero p.left e in omega (arith, some))

pub counted_spends : (p : Progress) (t : Marked) (def : MacroDef) (lacks : Bool) → 0 < p.left
    → (spec.counted_call p t def lacks).left < p.left
counted_spends p t def true some = omega arith
counted_spends p t def false some = omega arith

pub fit_spends : (p : Progress) (t : Marked) (def : MacroDef) (lacks : Bool) (args : List (List Marked))
    (names : List (List ℕ)) (width : ℕ) → Spends p.left (spec.fit_found p t def lacks args names width)
fit_spends p t def lacks args names width =
    if_cases (Spends p.left) _ _ _ (λ _. omega arith)
    (λ e. counted_spends p t def lacks (above_zero p.left e))

pub fit_or_spends : (p : Progress) (t : Marked) (def : MacroDef) (lacks : Bool) (names : List (List ℕ)) (width : ℕ)
    (fit : Option (List (List Marked))) → Spends p.left (spec.fit_or p t def lacks names width fit)
fit_or_spends p t def lacks names width None = omega arith
fit_or_spends p t def lacks names width (Some args) = fit_spends p t def lacks args names width

pub call_spends : (p : Progress) (t : Marked) (def : MacroDef) (c : Called) → Spends p.left (spec.call_found p t def c)
call_spends p t def Absent = omega arith
call_spends p t def Unclosed = omega arith
call_spends p t def (Closed args names width) = fit_or_spends p t def (lacks_variable def args) names width
    (fitted def args)

pub macro_spends : (p : Progress) (t : Marked) (ts : List Marked) (def : MacroDef) (params : Option (List (List ℕ)))
    → Spends p.left (spec.macro_found p t ts def params)
macro_spends p t ts def None = object_spends p t def
macro_spends p t ts def (Some names) = call_spends p t def (called def ts)

pub sense_spends : (lines : List (TokId × ℕ)) (p : Progress) (t : Marked) (ts : List Marked) (sense : Sense) → Spends
    p.left (spec.found_by lines p t ts sense)
sense_spends lines p t ts Ordinary = omega arith
sense_spends lines p t ts Line = line_found_spends lines p t
sense_spends lines p t ts File = file_found_spends p t
sense_spends lines p t ts (Macro def) = macro_spends p t ts def def.params

pub found_spends : (table : spec.Definitions) (lines : List (TokId × ℕ)) (p : Progress) (t : Marked)
    (ts : List Marked) → Spends p.left (spec.found table lines p t ts)
unfolding spec.found
found_spends table lines p t ts =
    if_cases (Spends p.left) p.stopped (Stays p) (spec.found_by lines p t ts (spec.meaning table t))
    (λ _. omega arith) (λ _. sense_spends lines p t ts (spec.meaning table t))

-- what stands at the front of a replacement list
pub puts_keeps : (space : Bool) (ts : List Marked) (b : Building) → (build.puts space ts b).progress.left
    ≡ b.progress.left
puts_keeps space [] b = refl
puts_keeps space (t ∷ ts) b = refl

pub pasted_by_keeps : (site : TokId) (front : List Marked) (l r : Marked) (rs : List Marked) (o : Option Marked)
    (b : Building) → (build.pasted_by site front l r rs o b).progress.left ≡ b.progress.left
pasted_by_keeps site front l r rs None b = refl
pasted_by_keeps site front l r rs (Some t) b = refl

pub pasted_to_keeps : (site : TokId) (r : Marked) (rs : List Marked) (o : Option (List Marked × Marked))
    (b : Building) → (build.pasted_to site r rs o b).progress.left ≡ b.progress.left
pasted_to_keeps site r rs None b = refl
pasted_to_keeps site r rs (Some q) b = pasted_by_keeps site q.0 q.1 r rs (pasted q.1 r) b

pub glued_keeps : (site : TokId) (ts : List Marked) (b : Building) → (build.glued site ts b).progress.left
    ≡ b.progress.left
glued_keeps site [] b = refl
glued_keeps site (r ∷ rs) b = pasted_to_keeps site r rs (last_of b.tokens) b

pub joins_keeps : (site : TokId) (ts : List Marked) (b : Building) → (build.joins site ts b).progress.left
    ≡ b.progress.left
unfolding build.joins
joins_keeps site ts b =
    if_cases (λ (x : Building). x.progress.left ≡ b.progress.left) _ _ _ (λ _. puts_keeps b.space ts b)
    (λ _. glued_keeps site ts b)

pub pastes_keeps : (def : MacroDef) (args : List (List Marked)) (site : TokId) (b : Building) (t : OutToken)
    (ts : List OutToken) → (build.pastes def args site b t ts).built.progress.left ≡ b.progress.left
pastes_keeps def args site b t [] = refl
pastes_keeps def args site b t (u ∷ us) =
    joins_keeps site (first_spaced (build.operand def args u us).space (build.operand def args u us).tokens) (build.with_noted (build.operand def args u us).spelled b)

pub outcome_keeps : (again : Expander) → Keeps again → (space : Bool) (b : Building) (ts : List Marked)
    → (build.puts_outcome space b (again b.progress ts)).progress.left ≤ b.progress.left
outcome_keeps again keeps space b ts =
    let o : Outcome = again b.progress ts in
    let same = puts_keeps space o.tokens (record b { progress = o.progress }) in
    let fewer : o.progress.left ≤ b.progress.left = keeps b.progress ts in
    rw same fewer

pub operand_keeps : (again : Expander) → Keeps again → (b : Building) (o : Operand) (raw : Bool)
    → (build.puts_operand again b o raw).progress.left ≤ b.progress.left
operand_keeps again keeps b o raw =
    if_cases (λ (x : Building). x.progress.left ≤ b.progress.left) (o.given && not raw) _ _
    (λ _. outcome_keeps again keeps (build.space_of b o.space) b o.tokens)
    (λ _. rw (puts_keeps (build.space_of b o.space) o.tokens (build.with_noted o.spelled b)) (omega arith))

pub part_keeps : (again : Expander) → Keeps again → (def : MacroDef) (args : List (List Marked)) (site : TokId)
    (b : Building) (t : OutToken) (ts : List OutToken) → (build.part again def args site b t ts).built.progress.left ≤
    b.progress.left
unfolding build.part
part_keeps again keeps def args site b t ts =
    if_cases (λ (x : Part). x.built.progress.left ≤ b.progress.left) (is_paste t) _ _
    (λ _. rw (pastes_keeps def args site b t ts) (omega arith))
    (λ _. operand_keeps again keeps b (build.operand def args t ts) _)

pub substituted_keeps : (again : Expander) → Keeps again → (def : MacroDef) (args : List (List Marked)) (site : TokId)
    (skip : ℕ) (b : Building) (ts : List OutToken) → (build.substituted again def args site skip b ts).progress.left ≤
    b.progress.left
substituted_keeps again keeps def args site skip b [] = omega arith
substituted_keeps again keeps def args site zero b (t ∷ ts) =
    let part = build.part again def args site b t ts in
    let first = part_keeps again keeps def args site b t ts in
    let rest = substituted_keeps again keeps def args site part.more part.built ts in
    omega (arith, first, rest)
substituted_keeps again keeps def args site (suc skip) b (t ∷ ts) = substituted_keeps again keeps def args site skip b
    ts
