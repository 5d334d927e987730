-- What `==` tells of output tokens and of occurrences of macros' names.
use Rattle.std.proofs.Common.{◌≡◌, Bool, true, false, ◌&&◌, Option, Some, None, refl, ap, rules}
use Rattle.std.proofs.lemmas.Slice.Eq.{bytes_eq-Decides}
use Rattle.std.specs.Bool.{Decides}
use Rattle.std.specs.Cmp.{booleans_Decides}
use Rattle.tok_data.specs.declared.tokens.PpKind.{PpKind}
use Rattle.tok_data.specs.declared.tokens.Spelt.{Spelt}
use Rattle.tok_data.specs.declared.tokens.Spelt.TheVariants.{At, Made}
use Rattle.tok_data.specs.declared.sources.TokId.{TokId}
use Rattle.tok_data.specs.declared.tokens.OutToken.{OutToken}
use Rattle.tok_data.specs.contracts.tokens.PpKindPartialEq.TheImpl as kinds
use Rattle.tok_data.specs.contracts.sources.TokIdPartialEq.TheImpl as toks
use Rattle.tok_data.specs.contracts.tokens.SpeltPartialEq.TheImpl as places
use Rattle.tok_data.specs.contracts.tokens.OutTokenPartialEq.TheImpl as tokens
use Rattle.tok_data.specs.declared.macros.MacroRole.{MacroRole}
use Rattle.tok_data.specs.declared.macros.MacroOcc.{MacroOcc}
use Rattle.tok_data.specs.contracts.macros.MacroRolePartialEq.TheImpl as roles
use Rattle.tok_data.specs.contracts.macros.MacroOccPartialEq.TheImpl as occs
use Rattle.std.specs.Option.{option_eq}

same_kind : (a b : PpKind) → Decides (kinds.eq-value.it a b) (a ≡ b)
same_kind a b = search rules

same_tok : (a b : TokId) → Decides (toks.eq-value.it a b) (a ≡ b)
same_tok a b = search rules

same_place : (a b : Spelt) → Decides (places.eq-value.it a b) (a ≡ b)
same_place (At s) (At t) = let same : Decides (toks.eq-value.it s t) (s ≡ t) = same_tok s t in ((λ e. ap At (same.0 e)), (λ e. same.1 (cc e)))
same_place (At s) Made = ((λ e. cc e), (λ e. cc e))
same_place Made (At t) = ((λ e. cc e), (λ e. cc e))
same_place Made Made = ((λ e. refl), (λ e. refl))

both : {P Q : Type 0} (p q : Bool) → Decides p P → Decides q Q → Decides (p && q) (P × Q)
both true q dp dq = ((λ e. (dp.0 refl, dq.0 e)), (λ h. dq.1 h.1))
both false q dp dq = ((λ e. absurd (cc e)), (λ h. dp.1 h.0))

all_output : (a b : OutToken) → a.kind ≡ b.kind → a.spelling ≡ b.spelling → a.space_before ≡ b.space_before → a.spelt ≡ b.spelt → a.site ≡ b.site → a ≡ b
all_output a b k s w p t = λ i. record { kind = k i; spelling = s i; space_before = w i; spelt = p i; site = t i }

pub same_output : (a b : OutToken) → Decides (tokens.eq-value.it a b) (a ≡ b)
same_output a b =
    let all = both _ _ (same_kind a.kind b.kind) (both _ _ (bytes_eq-Decides a.spelling b.spelling)
    (both _ _ (booleans_Decides a.space_before b.space_before) (both _ _ (same_place a.spelt b.spelt) (same_tok a.site b.site)))) in (
      (λ e. (let h = all.0 e in all_output a b h.0 h.1.0 h.1.1.0 h.1.1.1.0 h.1.1.1.1)),
      (λ e. all.1 (ap (λ t. t.kind) e, (ap (λ t. t.spelling) e, (ap (λ t. t.space_before) e, (ap (λ t. t.spelt) e, ap (λ t. t.site) e))))),
    )

same_role : (a b : MacroRole) → Decides (roles.eq-value.it a b) (a ≡ b)
same_role a b = search rules

same_definition : (a b : Option TokId) → Decides (option_eq toks.eq-value.it a b) (a ≡ b)
same_definition None None = ((λ e. refl), (λ e. refl))
same_definition None (Some t) = ((λ e. cc e), (λ e. cc e))
same_definition (Some s) None = ((λ e. cc e), (λ e. cc e))
same_definition (Some s) (Some t) = let same : Decides (toks.eq-value.it s t) (s ≡ t) = same_tok s t in ((λ e. ap Some (same.0 e)), (λ e. same.1 (cc e)))

all_occurrence : (a b : MacroOcc) → a.tok ≡ b.tok → a.name ≡ b.name → a.role ≡ b.role → a.def ≡ b.def → a.made ≡ b.made → a ≡ b
all_occurrence a b t n r d m = λ i. record { tok = t i; name = n i; role = r i; def = d i; made = m i }

pub same_occurrence : (a b : MacroOcc) → Decides (occs.eq-value.it a b) (a ≡ b)
same_occurrence a b =
    let all = both _ _ (same_tok a.tok b.tok) (both _ _ (bytes_eq-Decides a.name b.name)
    (both _ _ (same_role a.role b.role) (both _ _ (same_definition a.def b.def) (booleans_Decides a.made b.made)))) in (
      (λ e. (let h = all.0 e in all_occurrence a b h.0 h.1.0 h.1.1.0 h.1.1.1.0 h.1.1.1.1)),
      (λ e. all.1 (ap (λ t. t.tok) e, (ap (λ t. t.name) e, (ap (λ t. t.role) e, (ap (λ t. t.def) e, ap (λ t. t.made) e))))),
    )
