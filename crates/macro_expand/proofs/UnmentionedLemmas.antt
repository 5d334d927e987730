-- A list in which no parameter stands reads no argument.
use Rattle.std.proofs.Common.{◌≡◌, ℕ, zero, suc, List, [], ◌∷◌, refl, ap, sym, ◌∙◌, Option}
use Rattle.std.specs.Prelude.{None, option_map}
use Rattle.tok_data.specs.declared.sources.TokId.{TokId}
use Rattle.tok_data.specs.declared.tokens.OutToken.{OutToken}
use Rattle.macro_table.specs.declared.definition.MacroDef.{MacroDef}
use Rattle.macro_expand.specs.declared.types.Marked.{Marked}
use Rattle.macro_expand.specs.declared.operands.Operand.{Operand}
use Rattle.macro_expand.specs.declared.building.Building.{Building}
use Rattle.macro_expand.specs.declared.building.Part.{Part}
use Rattle.macro_expand.specs.declared.machine.Call.{Call}
use Rattle.macro_expand.specs.Ties.Codes.{Names}
use Rattle.macro_expand.specs.Ties.Numbers.{real_args}
use Rattle.macro_expand.specs.Tokens.{is_ident, is_hash, is_paste}
use Rattle.macro_expand.specs.Arguments.{arg_of}
use Rattle.macro_expand.specs.Ties.Building as build
use Rattle.macro_expand.specs.Ties.Building.{operand, part, substituted}
use Rattle.macro_expand.specs.Substitution.{Expander}
use Rattle.macro_expand.specs.Ties.Machine as work
use Rattle.macro_expand.specs.Ties.Machine.{Unmentioned}
use Rattle.macro_expand.proofs.Cases.{if_cases, if_both}
use Rattle.macro_expand.proofs.NumberLemmas.{arg_of_real}

pub no_args : (def : MacroDef) (t : OutToken) → arg_of def [] t ≡ None
unfolding arg_of
no_args def t =
    if_cases (λ (o : Option (List Marked)). o ≡ None) (is_ident t.kind) _ _ (λ _. refl) (λ _. refl)

pub unmentioned_real : (f : Names → Names) (def : MacroDef) (args : List (List Marked)) (ts : List OutToken)
    → Unmentioned def args ts → Unmentioned def (real_args f args) ts
unmentioned_real f def args [] none = tt
unmentioned_real f def args (t ∷ ts) none =
    (arg_of_real f def args t ∙ ap (option_map _) none.0, unmentioned_real f def args ts none.1)

first_none : (def : MacroDef) (args : List (List Marked)) (ts : List OutToken) → Unmentioned def args ts
    → build.first_arg def args ts ≡ build.first_arg def [] ts
first_none def args [] none = refl
first_none def args (t ∷ ts) none = none.0 ∙ sym (no_args def t)

operand_none : (def : MacroDef) (args : List (List Marked)) (t : OutToken) (ts : List OutToken)
    → Unmentioned def args (t ∷ ts) → operand def args t ts ≡ operand def [] t ts
unfolding operand
operand_none def args t ts none =
    if_both (λ (x y : Operand). x ≡ y) (is_hash t) _ _ _ _
    (λ _. ap (build.operand_by build.string_operand t) (first_none def args ts none.1))
    (λ _. ap (build.operand_by build.argument_operand t) (none.0 ∙ sym (no_args def t)))

pastes_none : (def : MacroDef) (args : List (List Marked)) (site : TokId) (b : Building) (t : OutToken)
    (ts : List OutToken) → Unmentioned def args ts → build.pastes def args site b t ts ≡ build.pastes def [] site b t ts
pastes_none def args site b t [] none = refl
pastes_none def args site b t (u ∷ us) none = ap (build.joins_part site b) (operand_none def args u us none)

part_none : (again : Expander) (def : MacroDef) (args : List (List Marked)) (site : TokId) (b : Building)
    (t : OutToken) (ts : List OutToken) → Unmentioned def args (t ∷ ts)
    → part again def args site b t ts ≡ part again def [] site b t ts
unfolding part
part_none again def args site b t ts none =
    if_both (λ (x y : Part). x ≡ y) (is_paste t) _ _ _ _
    (λ _. pastes_none def args site b t ts none.1)
    (λ _. ap (build.puts_part again b ts) (operand_none def args t ts none))

pub substituted_none : (again : Expander) (def : MacroDef) (args : List (List Marked)) (site : TokId) (skip : ℕ)
    (b : Building) (ts : List OutToken) → Unmentioned def args ts
    → substituted again def args site skip b ts ≡ substituted again def [] site skip b ts
substituted_none again def args site skip b [] none = refl
substituted_none again def args site zero b (t ∷ ts) none =
    let p = part again def args site b t ts in
    substituted_none again def args site p.more p.built ts none.1
    ∙ ap (λ (x : Part). substituted again def [] site x.more x.built ts) (part_none again def args site b t ts none)
substituted_none again def args site (suc skip) b (t ∷ ts) none =
    substituted_none again def args site skip b ts none.1

pub none_enough : (c : Call) (args : List (List Marked)) (ts : List OutToken) → args ≡ []
    → Unmentioned c.def.now c.args ts → work.AreEnough c args ts
none_enough c args ts is none = λ f again skip b.
    ap (λ (all : List (List Marked)). substituted again c.def.now (real_args f all) c.token.token.site skip b ts) is
    ∙ sym (substituted_none again c.def.now (real_args f c.args) c.token.token.site skip b ts
    (unmentioned_real f c.def.now c.args ts none))
