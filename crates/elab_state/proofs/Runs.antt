-- Runs of what asks: a part that came to its result leaves the rest to go on, and one that stops stops the whole.
use Rattle.std.proofs.Common.{◌≡◌, refl, sym, ap, ◌∙◌, List, [], ◌∷◌, Option, None, Some, cond, not, is_some, Result, Ok, Err}
use Rattle.asking.specs.Asking.{Asking, Gives, Asks, and_then, asks_one}
use Rattle.asking.specs.LookUps.{LookUp, Looked, Ends, Needs, and_look, both, by_found, found_all, once, run_by, unanswered}
use Rattle.scope_tables.specs.declared.entities.Entity.{Entity}
use Rattle.elab_state.specs.declared.halt.Halt.{Halt}
use Rattle.elab_state.specs.declared.halt.Halt.TheVariants.{Wants, NoMemory}
use Rattle.elab_state.specs.declared.wants.Wanted.{Wanted}
use Rattle.elab_state.specs.Comes.{Comes, Leads, Missing, Stops}
use Rattle.elab_state.specs.Doings.{Doing, Made}
use Rattle.elab_state.specs.Wants.{Told, answered, wants}

-- ---- one part after another

found_and : {A B X : Type 0} (ws : List Wanted) (o : Option X) (f : X → Looked wants A) (g : A → Looked wants B) (h : X → Looked wants B) →
    ((x : X) → h x ≡ and_look (f x) g) → by_found ws h o ≡ and_look (by_found ws f o) g
found_and ws None f g h e = refl
found_and ws (Some x) f g h e = e x

pub run_and : {A B : Type 0} (look : LookUp wants) (d : Asking wants A) (f : A → Asking wants B) →
    run_by look (and_then d f) ≡ and_look (run_by look d) (λ x. run_by look (f x))
run_and look (Gives x) f = refl
run_and look (Asks q more next) f =
    found_and (unanswered wants look (q ∷ more)) (found_all wants look (q ∷ more)) (λ answers. run_by look (next answers)) (λ x. run_by look (f x))
    (λ answers. run_by look (and_then (next answers) f)) (λ answers. run_and look (next answers) f)

-- what is the same stops as well
pub stops_as : {A : Type 0} (r s : Looked wants A) (halt : Halt) → r ≡ s → Stops s halt → Stops r halt
stops_as r s (Wants q) e h = e ∙ h
stops_as r s NoMemory e h = tt

module _ {A B : Type 0} (look : LookUp wants) (d : Asking wants A) (f : A → Asking wants B) where
  pub run_then : (x : A) → run_by look d ≡ Ends x → run_by look (and_then d f) ≡ run_by look (f x)
  run_then x e = run_and look d f ∙ ap (λ r. and_look r (λ y. run_by look (f y))) e

  run_stops : (ws : List Wanted) → run_by look d ≡ Needs ws → run_by look (and_then d f) ≡ Needs ws
  run_stops ws e = run_and look d f ∙ ap (λ r. and_look r (λ y. run_by look (f y))) e

  pub stops_on : (halt : Halt) → Stops (run_by look d) halt → Stops (run_by look (and_then d f)) halt
  stops_on (Wants q) h = run_stops (q ∷ []) h
  stops_on NoMemory h = tt

pub comes_on : {A B C : Type 0} (told : Told) (d : Asking wants A) (k : A → Doing B) (shown : C → B) (p : A) (r : Result C Halt) (made : Made) →
    run_by (answered told) d ≡ Ends p → Comes told (k p) shown r made → Comes told (and_then d k) shown r made
comes_on told d k shown p (Ok x) made e h = run_then (answered told) d k p e ∙ h
comes_on told d k shown p (Err halt) made e h =
    stops_as (run_by (answered told) (and_then d k)) (run_by (answered told) (k p)) halt (run_then (answered told) d k p e) h

pub leads_on : {A C : Type 0} (told : Told) (d : Asking wants A) (k : A → Asking wants Made) (p : A) (r : Result C Halt) (made : Made) →
    run_by (answered told) d ≡ Ends p → Leads told (k p) r made → Leads told (and_then d k) r made
leads_on told d k p (Ok x) made e h = run_then (answered told) d k p e ∙ h
leads_on told d k p (Err halt) made e h =
    stops_as (run_by (answered told) (and_then d k)) (run_by (answered told) (k p)) halt (run_then (answered told) d k p e) h

-- ---- one question

module _ {A : Type 0} (look : LookUp wants) (q : Wanted) (k : Option Entity → Asking wants A) where
  -- by its answer, where it has one
  abbrev by_answer : Option (Option Entity) → Looked wants A
  by_answer o = by_found (unanswered wants look (q ∷ [])) (λ answers. run_by look (k answers.0)) (both o (Some (tt {0})))

  pub asks_ends : (a : Option Entity) → look q ≡ Some a → run_by look (asks_one q k) ≡ run_by look (k a)
  asks_ends a e = ap by_answer e

  pub asks_needs : look q ≡ None → run_by look (asks_one q k) ≡ Needs (q ∷ [])
  asks_needs e = ap by_answer e ∙ ap (λ o. Needs (once wants (cond (not (is_some o)) (q ∷ []) []))) e

pub asks_stops : {A : Type 0} (told : Told) (q : Wanted) (k : Option Entity → Asking wants A) (halt : Halt) → Missing told q halt →
    Stops (run_by (answered told) (asks_one q k)) halt
asks_stops told q k (Wants other) h = asks_needs (answered told) q k h.1 ∙ ap (λ w. Needs (w ∷ [])) (sym h.0)
asks_stops told q k NoMemory h = tt
