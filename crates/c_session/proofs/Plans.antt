-- What a plan and its class come to.
use Rattle.std.proofs.Common.{◌≡◌, ◌≤◌, ℕ, Bool, true, false, cond, not, ◌&&◌, List, length, leb, leb-true, Option, Some, None, Result, Ok, unwrap_or, refl, sym, ap, subst, ◌∙◌}
use Rattle.std.specs.Result.{result_ok}
use Rattle.c_tokens.specs.Languages.{is_identifier}
use Rattle.tok_data.specs.Keywords.{is_keyword}
use Rattle.tok_data.specs.declared.sources.TokId.{TokId}
use Rattle.rename_core.specs.Chained.{class_toks}
use Rattle.rename_core.specs.Occurrences.{or_later}
use Rattle.rename_core.specs.Refusals.{is_new_name, not_identifier, no_name, outcome, planned, refusal}
use Rattle.rename_core.specs.Showing as shown
use Rattle.rename_core.specs.declared.class.Class.{Class}
use Rattle.rename_core.specs.declared.class.Plan.{Plan}
use Rattle.rename_core.specs.declared.error.RenameError.{RenameError}
use Rattle.rename_core.specs.declared.error.RenameError.TheVariants.{NotIdentifier}
use Rattle.scope_tables.specs.declared.entities.Occ.{Occ}
use Rattle.c_session.specs.Classed.{class_in, class_with}

-- ---- classes

pub class_is : (us : List (List Occ)) (t : TokId) (class : Class) → class.toks ≡ class_toks us t → class.external ≡ shown.external us class.toks → class.library ≡ shown.library class.toks →
    class.pasted ≡ shown.pasted us class.toks → class.spelled ≡ shown.spelled us class.toks → class.two ≡ shown.two us class.toks → class ≡ class_in us t
unfolding class_in
class_is us t class toks external library pasted spelled two =
    (λ i. record { toks = class.toks; external = external i; library = library i; pasted = pasted i; spelled = spelled i; two = two i })
    ∙ ap (class_with us) toks

-- ---- plans

ok_is : (x y : Plan) (r : Result Plan RenameError) → r ≡ Ok x → r ≡ Ok y → y ≡ x
ok_is x y r e f = some_is y x (sym (ap result_ok f) ∙ ap result_ok e)
  where
    some_is : (a b : Plan) → Some a ≡ Some b → a ≡ b
    some_is a b h = ap (λ o. unwrap_or o a) h

ok_by : (o : Option RenameError) (x y : Plan) → outcome o x ≡ Ok y → (o ≡ None) × (y ≡ x)
ok_by None x y e = (refl, ok_is x y (outcome None x) refl e)
ok_by (Some r) x y e = absurd (let bad : ⊥ = cc e in bad)

later_none : (a b : Option RenameError) → or_later a b ≡ None → (a ≡ None) × (b ≡ None)
later_none None b e = (refl, e)
later_none (Some r) b e = absurd (let bad : ⊥ = cc e in bad)

named_by : (b : Bool) → cond b None (Some NotIdentifier) ≡ None → b ≡ true
named_by true e = refl
named_by false e = absurd (let bad : ⊥ = cc e in bad)

last_true : (a b c : Bool) → (a && (b && c)) ≡ true → c ≡ true
last_true true true c e = e
last_true true false c e = absurd (let bad : ⊥ = cc e in bad)
last_true false b c e = absurd (let bad : ⊥ = cc e in bad)

short_by : (name : List ℕ) → is_new_name name ≡ true → length name ≤ 1023
unfolding is_new_name
short_by name e = leb-true (length name) 1023 (last_true (is_identifier name) (not (is_keyword name)) (leb (length name) 1023) e)

module _ (class : Class) (name : List ℕ) (p : Plan) (is : planned class name ≡ Ok p) where
  pub plan_parts : (refusal class name ≡ None) × (p ≡ record { class = class; new_name = name })
  plan_parts = ok_by (refusal class name) (record { class = class; new_name = name }) p is

  pub plan_class : p.class ≡ class
  plan_class = ap (λ q. q.class) plan_parts.1

  pub plan_name : p.new_name ≡ name
  plan_name = ap (λ q. q.new_name) plan_parts.1

  pub short_plan : length p.new_name ≤ 1023
  short_plan =
      subst (λ n. length n ≤ 1023) (sym plan_name)
      (short_by name (named_by (is_new_name name) (later_none (not_identifier name) _ (later_none (no_name class) _ plan_parts.0).1).0))
