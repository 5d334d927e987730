-- The items of a unit, one after another.
use Rattle.std.proofs.Common.{◌≡◌, refl, sym, ap, ◌∙◌, subst, ℕ, ◌+◌, ◌≤◌, arith, Bool, true, false, List, [], ◌∷◌, ◌++◌, length, length-append, append-nil, Some, if◌then◌else◌}
use Rattle.item_cut.specs.Items.{body_at, body_from, opens_body}
use Rattle.asking.specs.Asking.{Asking, Gives, Asks}
use Rattle.asking.specs.LookUps.{Given, LookUp, Looked, Ends, Needs, both, by_found, found_all, given_all, result_of, run_by, unanswered}
use Rattle.earlier_items.specs.Before.{AreBefore, Tells, before, said}
use Rattle.elab_state.specs.Wants.{Told, answered, wants}
use Rattle.elab_state.specs.declared.wants.Elab.{Elab}
use Rattle.elab_state.specs.declared.wants.Elab.TheVariants.{Done, Need}
use Rattle.elab_state.specs.declared.wants.Wanted.{Wanted}
use Rattle.item_readings.specs.Readings.{IsReader, Reader}
use Rattle.scope_tables.specs.declared.meanings.BodyMeaning.{BodyMeaning}
use Rattle.scope_tables.specs.declared.meanings.HeadMeaning.{HeadMeaning}
use Rattle.scope_tables.specs.declared.units.UnitMeaning.{UnitMeaning}
use Rattle.tok_data.specs.declared.tokens.OutToken.{OutToken}
use Rattle.unit_items.specs.Items.{items_of}
use Rattle.unit_items.specs.declared.items.Item.{Item}
use Rattle.unit_meaning.specs.Meanings.{meaning}
use Rattle.unit_meaning.specs.Sites.{Entry}
use Rattle.stmt_checks.specs.declared.folding.Folding.{Folding}
use Rattle.stmt_checks.specs.Meanings.{Means}
use Rattle.stmt_checks.specs.Folding.{Goes, folded_of}
use Rattle.stmt_checks.specs.Folds.{Folded, all_items, body, is_checked, nothing, unit_meaning, with_bodies, with_head, with_item}

-- ---- where all is answered, the run ends

module _ (look : LookUp wants) (given : Given wants) (agrees : (q : Wanted) → look q ≡ Some (given q)) where
  found_whole : (qs : List Wanted) → found_all wants look qs ≡ Some (given_all wants given qs)
  found_whole [] = refl
  found_whole (q ∷ qs) = ap (λ o. both o (found_all wants look qs)) (agrees q) ∙ ap (λ o. both (Some (given q)) o) (found_whole qs)

  pub whole_run : {A : Type 0} (asking : Asking wants A) → run_by look asking ≡ Ends (result_of given asking)
  whole_run (Gives x) = refl
  whole_run (Asks q more next) =
      ap (λ o. by_found (unanswered wants look (q ∷ more)) (λ answers. run_by look (next answers)) o) (found_whole (q ∷ more))
      ∙ whole_run (next (given_all wants given (q ∷ more)))

abbrev end_or : {A : Type 0} → A → Looked wants A → A
end_or x (Ends y) = y
end_or x (Needs ws) = x

-- what earlier items declare is what the heads in front say
as_before : (hs : List HeadMeaning) (tells : Tells) → AreBefore hs tells → (λ q. said tells.known q) ≡ before hs
as_before hs tells same = λ i q. same.said q i

pub meant : {A : Type 0} (known : Told) (tells : Tells) (asking : Asking wants A) (elab : Elab A) (x : A) → known ≡ tells.known →
    ((q : Wanted) → answered known q ≡ Some (said tells.known q)) → Means (run_by (answered known) asking) elab → elab ≡ Done x → (hs : List HeadMeaning) →
    AreBefore hs tells → x ≡ result_of (before hs) asking
meant known tells asking elab x e whole means is hs same =
    let ran : run_by (answered known) asking ≡ Ends x = subst (λ l. Means (run_by (answered known) asking) l) is means in
    ap (λ r. end_or x r) (sym ran ∙ whole_run (answered known) (λ q. said tells.known q) whole asking)
    ∙ ap (λ given. result_of given asking) (as_before hs tells same)

-- and nothing is needed
abbrev IsNeed : {A : Type 0} → Looked wants A → Type 0
IsNeed (Ends y) = ⊥
IsNeed (Needs ws) = Unit {0}

pub never_needed : {A : Type 0} (known told : Told) (asking : Asking wants A) (elab : Elab A) (asked : List Wanted) → ((q : Wanted) → answered known q ≡ Some (said told q)) →
    Means (run_by (answered known) asking) elab → elab ≡ Need asked → ⊥
never_needed known told asking elab asked whole means is =
    let ran : run_by (answered known) asking ≡ Needs asked = subst (λ l. Means (run_by (answered known) asking) l) is means in
    subst (λ r. IsNeed r) (sym ran ∙ whole_run (answered known) (λ q. said told q) whole asking) tt

-- ---- a body, where there is one to check

pub no_body : (r : Reader) (ts : List OutToken) (h : HeadMeaning) (hs : List HeadMeaning) (bs bs' : List BodyMeaning) → is_checked ts h ≡ false → bs' ≡ bs →
    bs' ≡ with_bodies r ts h hs bs
no_body r ts h hs bs bs' e s = s ∙ sym (append-nil bs) ∙ ap (λ b. bs ++ (if b then body r ts h hs ∷ [] else [])) (sym e)

pub one_body : (r : Reader) (ts : List OutToken) (h : HeadMeaning) (hs : List HeadMeaning) (bs bs' : List BodyMeaning) (b : BodyMeaning) → is_checked ts h ≡ true →
    bs' ≡ bs ++ b ∷ [] → b ≡ body r ts h hs → bs' ≡ with_bodies r ts h hs bs
one_body r ts h hs bs bs' b e s is =
    s ∙ ap (λ x. bs ++ x ∷ []) is ∙ ap (λ t. bs ++ (if t then body r ts h hs ∷ [] else [])) (sym e)

-- ---- one item after another

pub goes_begins : (tokens : List OutToken) (items : List Item) (f : Folding) → AreBefore f.heads.items f.earlier → Goes tokens (folded_of f) items f items
goes_begins tokens items f known = record { known = known; goes = λ r is. refl }

pub goes_turns : {tokens : List OutToken} {a : Folded} {items : List Item} {f g : Folding} {rest more : List Item} {item : Item} → Goes tokens a items f rest → rest ≡ item ∷ more →
    AreBefore g.heads.items g.earlier → ((r : Reader) → IsReader r → folded_of g ≡ with_item r tokens item (folded_of f)) → Goes tokens a items g more
goes_turns {tokens} {a} {items} {f} {g} {rest} {more} {item} was e known step = record {
  known = known;
  goes = λ r is. ap (λ b. all_items r tokens b more) (step r is) ∙ ap (λ xs. all_items r tokens (folded_of f) xs) (sym e) ∙ was.goes r is;
}

pub goes_ends : {tokens : List OutToken} {a : Folded} {items : List Item} {f : Folding} {rest : List Item} → Goes tokens a items f rest → rest ≡ [] → (r : Reader) → IsReader r →
    folded_of f ≡ all_items r tokens a items
goes_ends {tokens} {a} {items} {f} {rest} was e r is = ap (λ xs. all_items r tokens (folded_of f) xs) (sym e) ∙ was.goes r is

-- none is left
pub goes_left : {tokens : List OutToken} {a : Folded} {items : List Item} {f : Folding} {rest : List Item} → Goes tokens a items f rest → rest ≡ [] → Goes tokens a items f []
goes_left {tokens} {a} {items} {f} {rest} was e = subst (λ xs. Goes tokens a items f xs) e was

-- the rest behind what was added
pub goes_on : {tokens : List OutToken} {a : Folded} {items : List Item} {f g : Folding} {rest : List Item} → Goes tokens a items f rest → Goes tokens (folded_of f) rest g [] →
    Goes tokens a items g []
goes_on was more = record { known = more.known; goes = λ r is. more.goes r is ∙ was.goes r is }

-- two lists of items, one behind the other
pub all_both : (r : Reader) (tokens : List OutToken) (a : Folded) (is js : List Item) → all_items r tokens a (is ++ js) ≡ all_items r tokens (all_items r tokens a is) js
all_both r tokens a [] js = refl
all_both r tokens a (i ∷ is) js = all_both r tokens (with_item r tokens i a) is js

-- ---- where a body begins

either_within : (b : Bool) (x y n : ℕ) → x ≤ n → y ≤ n → (if b then x else y) ≤ n
either_within true x y n h k = h
either_within false x y n h k = k

from_within : (front ts : List OutToken) → body_from front ts ≤ length front + length ts
from_within front [] = omega arith
from_within front (t ∷ ts) =
    let more : length (front ++ t ∷ []) ≡ length front + 1 = length-append front (t ∷ []) in
    either_within (opens_body front t.spelling) (length front) (body_from (front ++ t ∷ []) ts) (length front + length (t ∷ ts)) (omega arith)
    (omega (arith, from_within (front ++ t ∷ []) ts, more))

pub body_within : (ts : List OutToken) → body_at ts ≤ length ts
body_within ts = omega (arith, from_within [] ts)

-- ---- an item's head, with its body

pub added : (r : Reader) (ts : List OutToken) (old new : Folded) (h want : HeadMeaning) → h ≡ want → new.heads ≡ old.heads ++ h ∷ [] →
    new.bodies ≡ with_bodies r ts h old.heads old.bodies → new ≡ with_head r ts want old
added r ts old new h want e a b =
    let made : new ≡ with_head r ts h old = λ i. record { heads = a i; bodies = b i } in
    made ∙ ap (λ x. with_head r ts x old) e

-- ---- and what they mean together

pub all_meant : (r : Reader) (tokens : List OutToken) (entered : List Entry) (items items' : List Item) (hs : List HeadMeaning) (bs : List BodyMeaning) (g : Folded) (m : UnitMeaning) →
    m ≡ meaning (record { tokens = tokens; items = items' }) entered hs bs → items' ≡ items → hs ≡ g.heads → bs ≡ g.bodies → items ≡ items_of tokens → g ≡ all_items r tokens nothing items →
    m ≡ unit_meaning r tokens entered
all_meant r tokens entered items items' hs bs g m a i j k b d =
    a ∙ ap (λ xs. meaning (record { tokens = tokens; items = xs }) entered hs bs) i
    ∙ ap (λ xs. meaning (record { tokens = tokens; items = items }) entered xs bs) j
    ∙ ap (λ xs. meaning (record { tokens = tokens; items = items }) entered g.heads xs) k
    ∙ ap (λ x. meaning (record { tokens = tokens; items = items }) entered x.heads x.bodies) d
    ∙ ap (λ xs. meaning (record { tokens = tokens; items = xs }) entered (all_items r tokens nothing xs).heads (all_items r tokens nothing xs).bodies) b
