-- What comes of a name, where tokens have numbers.
use Rattle.std.proofs.Common.{◌≡◌, ℕ, ◌==◌, Bool, false, List, [], ◌∷◌, ap, sym, ◌∙◌, if◌then◌else◌, Option}
use Rattle.std.specs.Prelude.{Some, None, option_map}
use Rattle.macro_table.specs.declared.definition.MacroDef.{MacroDef}
use Rattle.macro_expand.specs.declared.types.Marked.{Marked}
use Rattle.macro_expand.specs.declared.types.Progress.{Progress}
use Rattle.macro_expand.specs.declared.arguments.Called.{Called}
use Rattle.macro_expand.specs.Ties.Codes.{Names}
use Rattle.macro_expand.specs.Ties.Numbers.{reals, real_args, real_called}
use Rattle.macro_expand.specs.HideSets.{common}
use Rattle.macro_expand.specs.Arguments.{called, fitted, lacks_variable}
use Rattle.macro_expand.specs.Progress.{counted, refused, faulty}
use Rattle.macro_expand.specs.Expansion as spec
use Rattle.macro_expand.specs.Expansion.{Found, Stays, Replaced}
use Rattle.macro_expand.proofs.NumberLemmas.{fitted_real, lacks_real, called_real}

pub object_replaced : (p after : Progress) (t : Marked) (def : MacroDef) (args : List (List Marked)) (names : Names)
    → (p.left == 0) ≡ false → after ≡ counted t (Some def.tok) p → args ≡ [] → names ≡ t.token.spelling ∷ t.hides
    → Replaced after def args names 0 ≡ spec.object_found p t def
object_replaced p after t def args names some after_is args_is names_is =
    ap (λ (q : Progress). Replaced q def args names 0) after_is
    ∙ ap (λ (none : List (List Marked)). Replaced (counted t (Some def.tok) p) def none names 0) args_is
    ∙ ap (λ (ns : Names). Replaced (counted t (Some def.tok) p) def [] ns 0) names_is
    ∙ ap (λ (e : Bool). if e then Stays (refused t p)
    else Replaced (counted t (Some def.tok) p) def [] (t.token.spelling ∷ t.hides) 0) (sym some)

pub fit_replaced : (p after : Progress) (t : Marked) (def : MacroDef) (lacks : Bool) (args : List (List Marked))
    (closing both hidden : Names) (width : ℕ) → (p.left == 0) ≡ false → after ≡ spec.counted_call p t def lacks
    → hidden ≡ t.token.spelling ∷ both → both ≡ common t.hides closing
    → Replaced after def args hidden width ≡ spec.fit_found p t def lacks args closing width
fit_replaced p after t def lacks args closing both hidden width some after_is hidden_is both_is =
    ap (λ (q : Progress). Replaced q def args hidden width) after_is
    ∙ ap (λ (ns : Names). Replaced (spec.counted_call p t def lacks) def args ns width)
    (hidden_is ∙ ap (λ (ns : Names). t.token.spelling ∷ ns) both_is)
    ∙ ap (λ (e : Bool). if e then Stays (refused t p)
    else Replaced (spec.counted_call p t def lacks) def args (t.token.spelling ∷ common t.hides closing) width)
    (sym some)

pub closed_fits : (f : Names → Names) (p : Progress) (t : Marked) (def : MacroDef) (lacks : Bool)
    (args fit : List (List Marked)) (names : Names) (width : ℕ) (o : Option (List (List Marked))) (r : Found)
    → lacks ≡ lacks_variable def args → o ≡ fitted def args → o ≡ Some fit
    → r ≡ spec.fit_found p t def lacks (real_args f fit) names width
    → r ≡ spec.closed_found p t def (real_args f args) names width
closed_fits f p t def lacks args fit names width o r lacks_is fit_is some is =
    is
    ∙ ap (spec.fit_or p t def lacks names width)
    (ap (option_map (real_args f)) (sym some ∙ fit_is) ∙ sym (fitted_real f def args))
    ∙ ap (λ (l : Bool). spec.fit_or p t def l names width (fitted def (real_args f args)))
    (lacks_is ∙ sym (lacks_real f def args))

pub closed_fails : (f : Names → Names) (p : Progress) (t : Marked) (def : MacroDef)
    (args : List (List Marked)) (names : Names) (width : ℕ) (o : Option (List (List Marked))) (r : Found)
    → o ≡ fitted def args → o ≡ None → r ≡ Stays (faulty 202 t.token.site t.token.spelling p)
    → r ≡ spec.closed_found p t def (real_args f args) names width
closed_fails f p t def args names width o r fit_is none is =
    is
    ∙ ap (spec.fit_or p t def (lacks_variable def (real_args f args)) names width)
    (ap (option_map (real_args f)) (sym none ∙ fit_is) ∙ sym (fitted_real f def args))

pub macro_calls : (f : Names → Names) (p : Progress) (t : Marked) (ts : List Marked) (def : MacroDef)
    (params : Option Names) (names : Names) (c : Called) (r : Found) → params ≡ Some names → c ≡ called def ts
    → r ≡ spec.call_found p t def (real_called f c) → r ≡ spec.macro_found p t (reals f ts) def params
macro_calls f p t ts def params names c r some c_is is =
    is ∙ ap (spec.call_found p t def) (ap (real_called f) c_is ∙ sym (called_real f def ts))
    ∙ ap (spec.macro_found p t (reals f ts) def) (sym some)
