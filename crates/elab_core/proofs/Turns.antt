-- What is read part by part, in front of what is left: a part that came to its result leaves the rest to go on, and one that stops
-- stops the whole.
use Rattle.std.proofs.Common.{arith, ◌≡◌, refl, sym, ap, ◌∙◌, subst, ℕ, ◌+◌, ◌<◌, ◌≤◌, List, [], ◌∷◌, length, drop, zero, suc, Result, Ok, Err}
use Rattle.std.specs.List.{slice_index_or}
use Rattle.std.proofs.lemmas.List.{drop_all}
use Rattle.asking.specs.Asking.{Asking, Gives, and_then}
use Rattle.asking.specs.LookUps.{Ends, Needs, Looked, LookUp, run_by, and_look}
use Rattle.elab_state.specs.declared.halt.Halt.{Halt}
use Rattle.elab_state.specs.declared.halt.Halt.TheVariants.{Wants, NoMemory}
use Rattle.elab_state.specs.Comes.{Comes, Leads, Stops}
use Rattle.elab_state.specs.declared.made.Made.{Made}
use Rattle.elab_state.specs.Doings.{Doing, follow, gives}
use Rattle.elab_state.specs.Wants.{Told, answered, wants}
use Rattle.elab_state.proofs.Runs.{comes_on, run_and, run_then, stops_on}

-- ---- places in a list

one_more : (i : ℕ) → suc i ≡ i + 1
one_more i = omega arith

at_next : {A : Type 0} (xs : List A) (i : ℕ) (x : A) → i < length xs → x ≡ slice_index_or xs i x → drop i xs ≡ x ∷ drop (suc i) xs
at_next [] i x h e = absurd (omega arith)
at_next (y ∷ xs) zero x h e = ap (λ z. z ∷ xs) (sym e)
at_next (y ∷ xs) (suc i) x h e = at_next xs i x (omega arith) e

place : {A : Type 0} (xs : List A) (i : ℕ) (x : A) → i < length xs → x ≡ slice_index_or xs i x → drop i xs ≡ x ∷ drop (i + 1) xs
place xs i x h e = subst (λ n. drop i xs ≡ x ∷ drop n xs) (one_more i) (at_next xs i x h e)

-- ---- a first part

module _ {A B : Type 0} (look : LookUp wants) where
  -- it came to its result: the whole goes on
  pub on : (d : Doing A) (k : A → Made → Doing B) (x : A) (m : Made) → run_by look d ≡ Ends (x, m) → run_by look (follow d k) ≡ run_by look (k x m)
  on d k x m e = run_then look d (λ r. k r.0 r.1) (x, m) e

  -- it stops: so does the whole
  pub off : (d : Doing A) (k : A → Made → Doing B) (halt : Halt) → Stops (run_by look d) halt → Stops (run_by look (follow d k)) halt
  off d k halt h = stops_on look d (λ r. k r.0 r.1) halt h

-- what is the same stops as well
pub stops_as : {A : Type 0} (r s : Looked wants A) (halt : Halt) → r ≡ s → Stops r halt → Stops s halt
stops_as r s (Wants w) e h = sym e ∙ h
stops_as r s NoMemory e h = tt

-- ---- what goes on twice

same_looks : {A B : Type 0} (r : Looked wants A) (f g : A → Looked wants B) → ((x : A) → f x ≡ g x) → and_look r f ≡ and_look r g
same_looks (Ends x) f g h = h x
same_looks (Needs ws) f g h = refl

same_end : {A : Type 0} (r : Looked wants A) → and_look r (λ x. Ends x) ≡ r
same_end (Ends x) = refl
same_end (Needs ws) = refl

looks_twice : {A B C : Type 0} (r : Looked wants A) (f : A → Looked wants B) (g : B → Looked wants C) → and_look (and_look r f) g ≡ and_look r (λ x. and_look (f x) g)
looks_twice (Ends x) f g = refl
looks_twice (Needs ws) f g = refl

pub run_same : {A B : Type 0} (look : LookUp wants) (d : Asking wants A) (f g : A → Asking wants B) → ((x : A) → run_by look (f x) ≡ run_by look (g x)) →
    run_by look (and_then d f) ≡ run_by look (and_then d g)
run_same look d f g h = run_and look d f ∙ same_looks (run_by look d) (λ x. run_by look (f x)) (λ x. run_by look (g x)) h ∙ sym (run_and look d g)

pub run_twice : {A B C : Type 0} (look : LookUp wants) (d : Asking wants A) (f : A → Asking wants B) (g : B → Asking wants C) →
    run_by look (and_then (and_then d f) g) ≡ run_by look (and_then d (λ x. and_then (f x) g))
run_twice look d f g =
    run_and look (and_then d f) g
    ∙ ap (λ r. and_look r (λ y. run_by look (g y))) (run_and look d f)
    ∙ looks_twice (run_by look d) (λ x. run_by look (f x)) (λ y. run_by look (g y))
    ∙ same_looks (run_by look d) (λ x. and_look (run_by look (f x)) (λ y. run_by look (g y))) (λ x. run_by look (and_then (f x) g)) (λ x. sym (run_and look (f x) g))
    ∙ sym (run_and look d (λ x. and_then (f x) g))

-- what only gives its result on
pub run_gives : {A : Type 0} (look : LookUp wants) (d : Doing A) → run_by look (follow d (λ x m. gives x m)) ≡ run_by look d
run_gives look d = run_and look d (λ r. Gives r) ∙ same_end (run_by look d)

-- ---- a list that is read one after another by its places: what is left of it, from what stands, runs as the whole does

module _ {X S : Type 0} (look : LookUp wants) (G : List X → S → Made → Doing S) (F : X → S → Made → Doing S)
    (eq : (x : X) (xs : List X) (s : S) (m : Made) → G (x ∷ xs) s m ≡ follow (F x s m) (λ s'. G xs s')) where
  at_place : (xs : List X) (i : ℕ) (x : X) (s : S) (m : Made) → i < length xs → x ≡ slice_index_or xs i x →
      run_by look (follow (F x s m) (λ s'. G (drop (i + 1) xs) s')) ≡ run_by look (G (drop i xs) s m)
  at_place xs i x s m h is = sym (ap (run_by look) (eq x (drop (i + 1) xs) s m)) ∙ sym (ap (λ l. run_by look (G l s m)) (place xs i x h is))

  pub turns : (xs : List X) (i : ℕ) (x : X) (s s' : S) (m m' : Made) (whole : Looked wants (S × Made)) → i < length xs → x ≡ slice_index_or xs i x →
      run_by look (F x s m) ≡ Ends (s', m') → run_by look (G (drop i xs) s m) ≡ whole → run_by look (G (drop (i + 1) xs) s' m') ≡ whole
  turns xs i x s s' m m' whole h is e inv = sym (on look (F x s m) (λ s'. G (drop (i + 1) xs) s') s' m' e) ∙ at_place xs i x s m h is ∙ inv

  pub halts : (xs : List X) (i : ℕ) (x : X) (s : S) (m : Made) (whole : Looked wants (S × Made)) (halt : Halt) → i < length xs → x ≡ slice_index_or xs i x →
      Stops (run_by look (F x s m)) halt → run_by look (G (drop i xs) s m) ≡ whole → Stops whole halt
  halts xs i x s m whole halt h is st inv =
      stops_as (run_by look (follow (F x s m) (λ s'. G (drop (i + 1) xs) s'))) whole halt (at_place xs i x s m h is ∙ inv) (off look (F x s m) (λ s'. G (drop (i + 1) xs) s') halt st)

  pub ends : ((s : S) (m : Made) → G [] s m ≡ Gives (s, m)) → (xs : List X) (i : ℕ) (s : S) (m : Made) (whole : Looked wants (S × Made)) → length xs ≤ i →
      run_by look (G (drop i xs) s m) ≡ whole → whole ≡ Ends (s, m)
  ends nil xs i s m whole h inv = sym inv ∙ ap (λ l. run_by look (G l s m)) (drop_all i xs h) ∙ ap (run_by look) (nil s m)

-- ---- what a call comes to

pub then_comes : {A B C : Type 0} (told : Told) (d : Doing A) (k : A → Made → Doing B) (shown : C → B) (x : A) (m : Made) (r : Result C Halt) (made : Made) →
    run_by (answered told) d ≡ Ends (x, m) → Comes told (k x m) shown r made → Comes told (follow d k) shown r made
then_comes told d k shown x m r made e h = comes_on told d (λ p. k p.0 p.1) shown (x, m) r made e h

-- what runs as another does comes to the same
pub comes_as : {A B : Type 0} (told : Told) (d e : Doing A) (shown : B → A) (r : Result B Halt) (made : Made) → run_by (answered told) d ≡ run_by (answered told) e →
    Comes told e shown r made → Comes told d shown r made
comes_as told d e shown (Ok x) made h k = h ∙ k
comes_as told d e shown (Err halt) made h k = stops_as (run_by (answered told) e) (run_by (answered told) d) halt (sym h) k

-- what only makes, in front of what is there
pub leads_gives : {A B : Type 0} (told : Told) (d : Asking wants Made) (s : A) (r : Result B Halt) (made : Made) → Leads told d r made →
    Comes told (and_then d (λ now. gives s now)) (λ _. s) r made
leads_gives told d s (Ok x) made h = run_then (answered told) d (λ now. gives s now) made h
leads_gives told d s (Err halt) made h = stops_on (answered told) d (λ now. gives s now) halt h
