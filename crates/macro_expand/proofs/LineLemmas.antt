-- Where no line is asked for, more known lines make no difference.
use Rattle.std.proofs.Common.{◌≡◌, refl, sym, ap, ◌∙◌, subst, T, ℕ, zero, suc, ◌==◌, Bool, true, false, not, List, [], ◌∷◌, map, drop, Option, None, Some, is_some, if◌then◌else◌}
use Rattle.tok_data.specs.declared.sources.TokId.{TokId}
use Rattle.tok_data.specs.declared.tokens.OutToken.{OutToken}
use Rattle.macro_table.specs.declared.definition.MacroDef.{MacroDef}
use Rattle.macro_expand.specs.declared.types.Marked.{Marked}
use Rattle.macro_expand.specs.declared.types.Progress.{Progress}
use Rattle.macro_expand.specs.declared.types.Outcome.{Outcome}
use Rattle.macro_expand.specs.declared.arguments.Called.{Called}
use Rattle.macro_expand.specs.declared.arguments.Called.TheVariants.{Absent, Unclosed, Closed}
use Rattle.macro_expand.specs.Tokens.{plain, first_spaced, last_of}
use Rattle.macro_expand.specs.Pasting.{pasted}
use Rattle.macro_expand.specs.Arguments.{called, fitted, lacks_variable}
use Rattle.macro_expand.specs.Progress.{refused, asking}
use Rattle.macro_expand.specs.Substitution.{Element, Paste, Quoted, Param, Other, Item, Token, Placemarker, Output, Expander, written, space_of, noting, puts_written, puts_outcome, puts_expanded, pasted_or, pasted_to, pasted_behind, glue, paste_follows, elements, substituted, settled}
use Rattle.macro_expand.specs.Expansion.{Definitions, Sense, Ordinary, Line, File, Macro, Found, Stays, Put, Replaced, line_in, meaning, put_line, file_found, object_found, counted_call, fit_found, fit_or, call_found, macro_found, found_by, found, built, spliced, with_front, again_with, goes_on, walked, bounded, expansion, at_first, told_by, told, expanded}

either_way : {A : Type 0} (P : A → Type 0) (b : Bool) (x y : A) → P x → P y → P (if b then x else y)
either_way P true x y h k = h
either_way P false x y h k = k

-- a line is asked for
abbrev asks : Progress → Bool
asks p = is_some p.asked

-- where the first asks for none, it didn't before, and both give the same
abbrev Quiet : Expander → Expander → Type 0
Quiet f g = (p : Progress) (ts : List Marked) → asks (f p ts).progress ≡ false → (asks p ≡ false) × (f p ts ≡ g p ts)

-- ---- a replacement list

pasted_or_asks : (site : TokId) (front : List Item) (l r : Marked) (rs : List Marked) (o : Output) (t : Option Marked) →
    (pasted_or site front l r rs o t).progress.asked ≡ o.progress.asked
pasted_or_asks site front l r rs o None = refl
pasted_or_asks site front l r rs o (Some t) = refl

pasted_to_asks : (site : TokId) (front : List Item) (l : Marked) (ts : List Marked) (o : Output) → (pasted_to site front l ts o).progress.asked ≡ o.progress.asked
pasted_to_asks site front l [] o = refl
pasted_to_asks site front l (r ∷ rs) o = pasted_or_asks site front l r rs o (pasted l r)

item_asks : (site : TokId) (ts : List Marked) (o : Output) (front : List Item) (last : Item) → (pasted_behind site ts o (Some (front, last))).progress.asked ≡ o.progress.asked
item_asks site ts o front (Placemarker space) = refl
item_asks site ts o front (Token l) = pasted_to_asks site front l ts o

behind_asks : (site : TokId) (ts : List Marked) (o : Output) (last : Option (List Item × Item)) → (pasted_behind site ts o last).progress.asked ≡ o.progress.asked
behind_asks site ts o None = refl
behind_asks site ts o (Some q) = item_asks site ts o q.0 q.1

glue_asks : (site : TokId) (e : Element) (o : Output) → (glue site e o).progress.asked ≡ o.progress.asked
glue_asks site e o = behind_asks site (first_spaced (space_of e) (written e)) (noting e o) (last_of o.items)

module _ (f g : Expander) (quiet : Quiet f g) where
  param_quiet : (t : OutToken) (arg : List Marked) (o : Output) (b : Bool) →
      asks (if b then puts_written (Param t arg) o else puts_expanded f t arg o).progress ≡ false →
      (asks o.progress ≡ false)
      × ((if b then puts_written (Param t arg) o else puts_expanded f t arg o) ≡ (if b then puts_written (Param t arg) o else puts_expanded g t arg o))
  param_quiet t arg o true h = (h, refl)
  param_quiet t arg o false h = let r = quiet o.progress arg h in (r.0, ap (puts_outcome t.space_before o) r.1)

  substituted_quiet : (site : TokId) (o : Output) (es : List Element) → asks (substituted f site o es).progress ≡ false →
      (asks o.progress ≡ false) × (substituted f site o es ≡ substituted g site o es)
  substituted_quiet site o [] h = (h, refl)
  substituted_quiet site o (Paste t ∷ []) h = (h, refl)
  substituted_quiet site o (Paste t ∷ e ∷ es) h =
      let r = substituted_quiet site (glue site e o) es h in
      (sym (ap is_some (glue_asks site e o)) ∙ r.0, r.1)
  substituted_quiet site o (Quoted t arg ∷ es) h = substituted_quiet site (puts_written (Quoted t arg) o) es h
  substituted_quiet site o (Param t arg ∷ es) h =
      let r = substituted_quiet site (if paste_follows es then puts_written (Param t arg) o else puts_expanded f t arg o) es h in
      let s = param_quiet t arg o (paste_follows es) r.0 in
      (s.0, r.1 ∙ ap (λ x. substituted g site x es) s.1)
  substituted_quiet site o (Other t ∷ es) h = substituted_quiet site (puts_written (Other t) o) es h

  again_quiet : (t : Marked) (names : List (List ℕ)) (ts : List Marked) (p : Progress) (def : MacroDef) (args : List (List Marked)) →
      asks (again_with f t names ts (built f p t def args)).progress ≡ false →
      (asks p ≡ false) × (again_with f t names ts (built f p t def args) ≡ again_with g t names ts (built g p t def args))
  again_quiet t names ts p def args h =
      let o : Output = built f p t def args in
      let s : List Marked × Bool = settled t.token.space_before o.items in
      let r = quiet o.progress (spliced t names s.0 s.1 ts) h in
      let u = substituted_quiet t.token.site (record { progress = p; items = [] }) (elements def args def.body) r.0 in
      (u.0, r.1 ∙ ap (again_with g t names ts) u.1)

-- ---- a token

abbrev held_in : Found → Progress
held_in (Stays p) = p
held_in (Put p u) = p
held_in (Replaced p def args names width) = p

abbrev AsksAlike : Progress → Found → Type 0
AsksAlike p x = (held_in x).asked ≡ p.asked

file_asks : (p : Progress) (t : Marked) → AsksAlike p (file_found p t)
file_asks p t = either_way (AsksAlike p) (p.left == 0) _ _ refl refl

object_asks : (p : Progress) (t : Marked) (def : MacroDef) → AsksAlike p (object_found p t def)
object_asks p t def = either_way (AsksAlike p) (p.left == 0) _ _ refl refl

counted_asks : (p : Progress) (t : Marked) (def : MacroDef) (lacks : Bool) → (counted_call p t def lacks).asked ≡ p.asked
counted_asks p t def true = refl
counted_asks p t def false = refl

fit_asks : (p : Progress) (t : Marked) (def : MacroDef) (lacks : Bool) (args : List (List Marked)) (names : List (List ℕ)) (width : ℕ) → AsksAlike p (fit_found p t def lacks args names width)
fit_asks p t def lacks args names width = either_way (AsksAlike p) (p.left == 0) _ _ refl (counted_asks p t def lacks)

fit_or_asks : (p : Progress) (t : Marked) (def : MacroDef) (lacks : Bool) (names : List (List ℕ)) (width : ℕ) (fit : Option (List (List Marked))) → AsksAlike p (fit_or p t def lacks names width fit)
fit_or_asks p t def lacks names width None = refl
fit_or_asks p t def lacks names width (Some args) = fit_asks p t def lacks args names width

call_asks : (p : Progress) (t : Marked) (def : MacroDef) (c : Called) → AsksAlike p (call_found p t def c)
call_asks p t def Absent = refl
call_asks p t def Unclosed = refl
call_asks p t def (Closed args names width) = fit_or_asks p t def (lacks_variable def args) names width (fitted def args)

macro_asks : (p : Progress) (t : Marked) (ts : List Marked) (def : MacroDef) (params : Option (List (List ℕ))) → AsksAlike p (macro_found p t ts def params)
macro_asks p t ts def None = object_asks p t def
macro_asks p t ts def (Some names) = call_asks p t def (called def ts)

line_quiet : (p : Progress) (t : Marked) (o more : Option ℕ) → ((n : ℕ) → o ≡ Some n → more ≡ Some n) → (b : Bool) →
    asks (held_in (if b then Stays (refused t p) else put_line p t o)) ≡ false →
    (asks p ≡ false) × ((if b then Stays (refused t p) else put_line p t o) ≡ (if b then Stays (refused t p) else put_line p t more))
line_quiet p t o more same true h = (h, refl)
line_quiet p t None more same false h = absurd (subst T h tt)
line_quiet p t (Some n) more same false h = (h, ap (put_line p t) (sym (same n refl)))

-- what the first tell, the second tell, too
abbrev Tells : List (TokId × ℕ) → List (TokId × ℕ) → Type 0
Tells few lines = (site : TokId) (n : ℕ) → line_in few site ≡ Some n → line_in lines site ≡ Some n

module _ (few lines : List (TokId × ℕ)) (tells : Tells few lines) where
  sense_quiet : (p : Progress) (t : Marked) (ts : List Marked) (s : Sense) → asks (held_in (found_by few p t ts s)) ≡ false →
      (asks p ≡ false) × (found_by few p t ts s ≡ found_by lines p t ts s)
  sense_quiet p t ts Ordinary h = (h, refl)
  sense_quiet p t ts Line h = line_quiet p t (line_in few t.token.site) (line_in lines t.token.site) (tells t.token.site) (p.left == 0) h
  sense_quiet p t ts File h = (sym (ap is_some (file_asks p t)) ∙ h, refl)
  sense_quiet p t ts (Macro def) h = (sym (ap is_some (macro_asks p t ts def def.params)) ∙ h, refl)

  stopped_quiet : (p : Progress) (t : Marked) (ts : List Marked) (s : Sense) (b : Bool) → asks (held_in (if b then Stays p else found_by few p t ts s)) ≡ false →
      (asks p ≡ false) × ((if b then Stays p else found_by few p t ts s) ≡ (if b then Stays p else found_by lines p t ts s))
  stopped_quiet p t ts s true h = (h, refl)
  stopped_quiet p t ts s false h = sense_quiet p t ts s h

found_quiet : (table : Definitions) (few lines : List (TokId × ℕ)) → Tells few lines → (p : Progress) (t : Marked) (ts : List Marked) → asks (held_in (found table few p t ts)) ≡ false →
    (asks p ≡ false) × (found table few p t ts ≡ found table lines p t ts)
unfolding found
found_quiet table few lines tells p t ts h = stopped_quiet few lines tells p t ts (meaning table t) p.stopped h

-- ---- a list

goes_quiet : (f g : Expander) → Quiet f g → (more more' : Progress → Outcome) → ((p : Progress) → asks (more p).progress ≡ false → (asks p ≡ false) × (more p ≡ more' p)) →
    (t : Marked) (ts : List Marked) (x : Found) → asks (goes_on f more t ts x).progress ≡ false →
    (asks (held_in x) ≡ false) × (goes_on f more t ts x ≡ goes_on g more' t ts x)
goes_quiet f g quiet more more' same t ts (Stays p) h = let r = same p h in (r.0, ap (with_front (t ∷ [])) r.1)
goes_quiet f g quiet more more' same t ts (Put p u) h = quiet p (u ∷ ts) h
goes_quiet f g quiet more more' same t ts (Replaced p def args names width) h = again_quiet f g quiet t names (drop width ts) p def args h

walked_quiet : (table : Definitions) (few lines : List (TokId × ℕ)) → Tells few lines → (f g : Expander) → Quiet f g → (ts : List Marked) (p : Progress) →
    asks (walked table few f p ts).progress ≡ false → (asks p ≡ false) × (walked table few f p ts ≡ walked table lines g p ts)
walked_quiet table few lines tells f g quiet [] p h = (h, refl)
walked_quiet table few lines tells f g quiet (t ∷ ts) p h =
    let r = goes_quiet f g quiet (λ x. walked table few f x ts) (λ x. walked table lines g x ts) (walked_quiet table few lines tells f g quiet ts) t ts (found table few p t ts) h in
    let s = found_quiet table few lines tells p t ts r.0 in
    (s.0, r.1 ∙ ap (goes_on g (λ x. walked table lines g x ts) t ts) s.1)

bounded_quiet : (table : Definitions) (few lines : List (TokId × ℕ)) → Tells few lines → (n : ℕ) → Quiet (bounded table few n) (bounded table lines n)
bounded_quiet table few lines tells zero = λ p ts h. (h, refl)
bounded_quiet table few lines tells (suc n) = λ p ts h. walked_quiet table few lines tells (bounded table few n) (bounded table lines n) (bounded_quiet table few lines tells n) ts p h

expansion_quiet : (table : Definitions) (few lines : List (TokId × ℕ)) → Tells few lines → (p : Progress) (ts : List Marked) → asks (expansion table few p ts).progress ≡ false → expansion table few p ts ≡ expansion table lines p ts
unfolding expansion
expansion_quiet table few lines tells p ts h = (bounded_quiet table few lines tells (suc p.left) p ts h).1

told_asked : (budget : ℕ) (o : Outcome) (a : Option TokId) → (told_by budget o a).asked ≡ a
told_asked budget o None = refl
told_asked budget o (Some site) = refl

pub expanded_by : (table : Definitions) (few lines : List (TokId × ℕ)) (budget : ℕ) (ts : List OutToken) → Tells few lines →
    (expanded table few budget ts).asked ≡ None → expanded table few budget ts ≡ expanded table lines budget ts
expanded_by table few lines budget ts tells h =
    let o : Outcome = expansion table few (at_first budget) (map plain ts) in
    ap (told budget) (expansion_quiet table few lines tells (at_first budget) (map plain ts) (ap is_some (sym (told_asked budget o o.progress.asked) ∙ h)))

none_tells : (lines : List (TokId × ℕ)) → Tells [] lines
none_tells lines site n e = absurd (subst (λ (o : Option ℕ). T (not (is_some o))) e tt)

pub expanded_quiet : (table : Definitions) (lines : List (TokId × ℕ)) (budget : ℕ) (ts : List OutToken) → (expanded table [] budget ts).asked ≡ None → expanded table [] budget ts ≡ expanded table lines budget ts
expanded_quiet table lines budget ts h = expanded_by table [] lines budget ts (none_tells lines) h
