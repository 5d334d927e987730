-- The steps of the machine, where tokens have numbers.
use Rattle.std.proofs.Common.{◌≡◌, ℕ, Bool, List, drop, ap, sym, ◌∙◌}
use Rattle.tok_data.specs.declared.sources.TokId.{TokId}
use Rattle.tok_data.specs.declared.tokens.OutToken.{OutToken}
use Rattle.macro_table.specs.declared.definition.MacroDef.{MacroDef}
use Rattle.macro_expand.specs.declared.types.Marked.{Marked}
use Rattle.macro_expand.specs.declared.types.Progress.{Progress}
use Rattle.macro_expand.specs.declared.building.Building.{Building}
use Rattle.macro_expand.specs.declared.advancing.Advance.{Advance}
use Rattle.macro_expand.specs.Ties.Codes.{Names}
use Rattle.macro_expand.specs.Ties.Numbers.{real, reals, real_args, real_building}
use Rattle.macro_expand.specs.Substitution.{Expander}
use Rattle.macro_expand.specs.Ties.Building.{begun, puts, substituted}
use Rattle.macro_expand.specs.Expansion as spec
use Rattle.macro_expand.specs.Ties.Machine as work
use Rattle.macro_expand.specs.Ties.Steps as steps
use Rattle.macro_expand.proofs.NumberLemmas.{drop_real, puts_real}

pub replaced_is : (f : Names → Names) (again : Expander) (p : Progress) (t : Marked) (rest behind : List Marked)
    (def : MacroDef) (args : List (List Marked)) (names : Names) (width : ℕ) (r : spec.Found) → behind ≡ drop width rest
    → spec.Replaced p def (real_args f args) names width ≡ r
    → steps.again_with again (real f t) names (reals f behind) (steps.built again p (real f t) def (real_args f args))
    ≡ steps.after again (steps.step_by again (real f t) (reals f rest) r)
replaced_is f again p t rest behind def args names width r behind_is is =
    ap (λ (ts : List Marked). steps.again_with again (real f t) names ts
    (steps.built again p (real f t) def (real_args f args)))
    (ap (reals f) behind_is ∙ drop_real f width rest)
    ∙ ap (λ (x : spec.Found). steps.after again (steps.step_by again (real f t) (reals f rest) x)) is

pub begun_is : (f : Names → Names) (again : Expander) (def : MacroDef) (args given : List (List Marked)) (site : TokId)
    (a : Advance) (list : List OutToken) (p : Progress) (space : Bool) (b : Building)
    → given ≡ args → list ≡ def.body → b ≡ begun p space
    → work.building_of f again def (real_args f given) site a
    ≡ substituted again def (real_args f given) site 0 (real_building f b) list
    → work.building_of f again def (real_args f args) site a
    ≡ substituted again def (real_args f args) site 0 (begun p space) def.body
begun_is f again def args given site a list p space b args_is list_is b_is is =
    ap (λ (all : List (List Marked)). work.building_of f again def (real_args f all) site a) (sym args_is)
    ∙ is
    ∙ ap (λ (all : List (List Marked)). substituted again def (real_args f all) site 0 (real_building f b) list) args_is
    ∙ ap (λ (x : Building). substituted again def (real_args f args) site 0 (real_building f x) list) b_is
    ∙ ap (substituted again def (real_args f args) site 0 (begun p space)) list_is

pub resumed_is : (f : Names → Names) (again : Expander) (def : MacroDef) (args given : List (List Marked))
    (site : TokId) (a : Advance) (skip : ℕ) (behind : List OutToken) (space : Bool) (done : List Marked)
    (b built : Building) → given ≡ args → built ≡ puts space done b
    → work.building_of f again def (real_args f given) site a
    ≡ substituted again def (real_args f given) site skip (real_building f built) behind
    → work.building_of f again def (real_args f args) site a
    ≡ substituted again def (real_args f args) site skip (puts space (reals f done) (real_building f b)) behind
resumed_is f again def args given site a skip behind space done b built args_is built_is is =
    ap (λ (all : List (List Marked)). work.building_of f again def (real_args f all) site a) (sym args_is)
    ∙ is
    ∙ ap (λ (all : List (List Marked)).
    substituted again def (real_args f all) site skip (real_building f built) behind) args_is
    ∙ ap (λ (x : Building). substituted again def (real_args f args) site skip x behind)
    (ap (real_building f) built_is ∙ sym (puts_real f space done b))
