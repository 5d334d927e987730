-- Questions that are noted one after another, each once, and what is asked first, as one list.
use Rattle.std.proofs.Common.{rules, ◌≡◌, refl, sym, ap, ◌∙◌, subst, Bool, true, false, not, cond, ◌||◌, List, [], ◌∷◌, ◌++◌, append_assoc, append-nil, filter, Option, None, Some, is_some, T}
use Rattle.std.specs.Bool.{Decides}
use Rattle.std.specs.List.{list_any}
use Rattle.asking.specs.Asking.{Answers, Asking, asks_all}
use Rattle.asking.specs.LookUps.{LookUp, Looked, Needs, both, by_found, found_all, once, run_by, unanswered}
use Rattle.indexmap.specs.IndexSet.{insert_key}
use Rattle.scope_tables.specs.declared.entities.Entity.{Entity}
use Rattle.elab_state.specs.declared.wants.Wanted.{Wanted}
use Rattle.elab_state.specs.Same.{same_wanted}
use Rattle.elab_state.specs.Answering.{or_nothing, with_answer, with_answered, with_answers}
use Rattle.elab_state.specs.Doings.{Made}
use Rattle.elab_state.specs.Wants.{wants}
use Rattle.elab_state.specs.Asked.{all_noted, noted}

-- ---- a first list of questions

module _ {X : Type 0} where
  abbrev is_cons : List X → Bool
  is_cons [] = false
  is_cons (x ∷ xs) = true

  not_empty : {Z : Type 0} (x : X) (xs : List X) → x ∷ xs ≡ [] → Z
  not_empty x xs e = absurd (subst T (ap is_cons e) tt)

  kept : {Y : Type 0} (x : X) (xs : List X) (o : Option Y) → is_some o ≡ true → cond (not (is_some o)) (x ∷ xs) xs ≡ xs
  kept x xs None e = absurd (subst T (sym e) tt)
  kept x xs (Some y) e = refl

both_some : {X Y : Type 0} (o : Option X) (p : Option Y) → is_some (both o p) ≡ true → (is_some o ≡ true) × (is_some p ≡ true)
both_some None p e = absurd (subst T (sym e) tt)
both_some (Some x) None e = absurd (subst T (sym e) tt)
both_some (Some x) (Some y) e = (refl, refl)

-- where all are found none lacks an answer
filled : (look : LookUp wants) (qs : List Wanted) → is_some (found_all wants look qs) ≡ true → filter (λ q. not (is_some (look q))) qs ≡ []
filled look [] e = refl
filled look (q ∷ qs) e =
    let p = both_some (look q) (found_all wants look qs) e in
    kept q (filter (λ r. not (is_some (look r))) qs) (look q) p.0 ∙ filled look qs p.1

-- and where none lacks one all are found
some_both : {X Y Z : Type 0} (q : Z) (rest : List Z) (o : Option X) (p : Option Y) → cond (not (is_some o)) (q ∷ rest) rest ≡ [] → (rest ≡ [] → is_some p ≡ true) →
    is_some (both o p) ≡ true
some_both q rest None p e h = not_empty q rest e
some_both q rest (Some x) None e h = h e
some_both q rest (Some x) (Some y) e h = refl

all_found : (look : LookUp wants) (qs : List Wanted) → filter (λ q. not (is_some (look q))) qs ≡ [] → is_some (found_all wants look qs) ≡ true
all_found look [] e = refl
all_found look (q ∷ qs) e = some_both q (filter (λ p. not (is_some (look p))) qs) (look q) (found_all wants look qs) e (all_found look qs)

none_once : (qs : List Wanted) → once wants qs ≡ [] → qs ≡ []
none_once [] e = refl
none_once (q ∷ qs) e = not_empty q (filter (λ p. not (same_wanted p q)) (once wants qs)) e

goes : {A X : Type 0} (asked : List Wanted) (next : Looked wants A) (o : Option X) → is_some o ≡ true → by_found asked (λ x. next) o ≡ next
goes asked next None e = absurd (subst T (sym e) tt)
goes asked next (Some x) e = refl

lacking : {A X : Type 0} (asked : List Wanted) (next : Looked wants A) (o : Option X) → (is_some o ≡ true → asked ≡ []) → (asked ≡ [] → ⊥) → by_found asked (λ x. next) o ≡ Needs asked
lacking asked next None f g = refl
lacking asked next (Some x) f g = absurd (g (f refl))

module _ {A : Type 0} (look : LookUp wants) where
  -- where all have an answer, the run goes on
  pub all_told : (qs : List Wanted) (next : Asking wants A) → unanswered wants look qs ≡ [] → run_by look (asks_all qs (λ answers. next)) ≡ run_by look next
  all_told [] next e = refl
  all_told (q ∷ qs) next e =
      goes (unanswered wants look (q ∷ qs)) (run_by look next) (found_all wants look (q ∷ qs)) (all_found look (q ∷ qs) (none_once (filter (λ p. not (is_some (look p))) (q ∷ qs)) e))

  -- else it needs those that have none
  pub some_lack : (qs : List Wanted) (next : Asking wants A) → (unanswered wants look qs ≡ [] → ⊥) →
      run_by look (asks_all qs (λ answers. next)) ≡ Needs (unanswered wants look qs)
  some_lack [] next h = absurd (h refl)
  some_lack (q ∷ qs) next h =
      lacking (unanswered wants look (q ∷ qs)) (run_by look next) (found_all wants look (q ∷ qs)) (λ s. ap (once wants) (filled look (q ∷ qs) s)) h

-- ---- where all are told, what they are told stands as names

module _ {X : Type 0} (look : LookUp wants) (ws : List Wanted) (next : Made → Looked wants X) where
  -- one more, whose answer and those of the others are found
  stands_with : (q : Wanted) (qs : List Wanted) (o : Option (Option Entity)) (p : Option (Answers wants qs)) (m : Made) → is_some (both o p) ≡ true →
      ((now : Made) → is_some p ≡ true → by_found ws (λ answers. next (with_answers qs answers now)) p ≡ next (with_answered look qs now)) →
      by_found ws (λ answers. next (with_answers (q ∷ qs) answers m)) (both o p) ≡ next (with_answered look qs (with_answer q (or_nothing o) m))
  stands_with q qs None p m e h = absurd (subst T (sym e) tt)
  stands_with q qs (Some a) None m e h = absurd (subst T (sym e) tt)
  stands_with q qs (Some a) (Some answers) m e h = h (with_answer q a m) refl

  stand : (qs : List Wanted) (m : Made) → is_some (found_all wants look qs) ≡ true →
      by_found ws (λ answers. next (with_answers qs answers m)) (found_all wants look qs) ≡ next (with_answered look qs m)
  stand [] m e = refl
  stand (q ∷ qs) m e = stands_with q qs (look q) (found_all wants look qs) m e (stand qs)

pub told_stand : {A : Type 0} (look : LookUp wants) (qs : List Wanted) (next : Made → Asking wants A) (m : Made) → unanswered wants look qs ≡ [] →
    run_by look (asks_all qs (λ answers. next (with_answers qs answers m))) ≡ run_by look (next (with_answered look qs m))
told_stand look [] next m e = refl
told_stand look (q ∷ qs) next m e =
    stand look (unanswered wants look (q ∷ qs)) (λ now. run_by look (next now)) (q ∷ qs) m
    (all_found look (q ∷ qs) (none_once (filter (λ p. not (is_some (look p))) (q ∷ qs)) e))

-- ---- noted one after another

wanted_exact : (a b : Wanted) → Decides (same_wanted a b) (a ≡ b)
wanted_exact a b = search rules

abbrev is_new : List Wanted → Wanted → Bool
is_new seen p = not (list_any (same_wanted p) seen)

abbrev differs : Wanted → Wanted → Bool
differs q p = not (same_wanted p q)

-- one that was noted already makes no difference
old_step : (seen : List Wanted) (q x : Wanted) (xs : List Wanted) (b : Bool) → same_wanted x q ≡ b → list_any (same_wanted q) seen ≡ true →
    filter (is_new seen) (filter (differs q) xs) ≡ filter (is_new seen) xs →
    filter (is_new seen) (cond (not b) (x ∷ filter (differs q) xs) (filter (differs q) xs)) ≡ cond (is_new seen x) (x ∷ filter (is_new seen) xs) (filter (is_new seen) xs)
old_step seen q x xs true e h ih =
    let is : is_new seen x ≡ false = ap (λ y. not (list_any (same_wanted y) seen)) ((wanted_exact x q).0 e) ∙ ap not h in
    ih ∙ sym (ap (λ t. cond t (x ∷ filter (is_new seen) xs) (filter (is_new seen) xs)) is)
old_step seen q x xs false e h ih = ap (λ l. cond (is_new seen x) (x ∷ l) l) ih

old_same : (seen : List Wanted) (q : Wanted) (xs : List Wanted) → list_any (same_wanted q) seen ≡ true → filter (is_new seen) (filter (differs q) xs) ≡ filter (is_new seen) xs
old_same seen q [] h = refl
old_same seen q (x ∷ xs) h = old_step seen q x xs (same_wanted x q) refl h (old_same seen q xs h)

or_none : (a : Bool) → (a || false) ≡ a
or_none true = refl
or_none false = refl

or_three : (a b c : Bool) → (a || (b || c)) ≡ ((a || b) || c)
or_three true b c = refl
or_three false b c = refl

any_end : {A : Type 0} (f : A → Bool) (xs : List A) (q : A) → list_any f (xs ++ q ∷ []) ≡ (list_any f xs || f q)
any_end f [] q = or_none (f q)
any_end f (x ∷ xs) q = ap (λ t. f x || t) (any_end f xs q) ∙ or_three (f x) (list_any f xs) (f q)

new_step : (x : Wanted) (l r s : List Wanted) (t u : Bool) → l ≡ r → s ≡ r → cond (not (t || u)) (x ∷ l) l ≡ cond (not u) (cond (not t) (x ∷ r) r) s
new_step x l r s true true e f = e ∙ sym f
new_step x l r s false true e f = e ∙ sym f
new_step x l r s true false e f = e
new_step x l r s false false e f = ap (λ k. x ∷ k) e

filter_if : (p : Wanted → Bool) (b : Bool) (x : Wanted) (xs : List Wanted) → filter p (cond b (x ∷ xs) xs) ≡ cond b (cond (p x) (x ∷ filter p xs) (filter p xs)) (filter p xs)
filter_if p true x xs = refl
filter_if p false x xs = refl

new_same : (seen : List Wanted) (q : Wanted) (xs : List Wanted) → filter (is_new (seen ++ q ∷ [])) xs ≡ filter (is_new seen) (filter (differs q) xs)
new_same seen q [] = refl
new_same seen q (x ∷ xs) =
    ap (λ t. cond (not t) (x ∷ filter (is_new (seen ++ q ∷ [])) xs) (filter (is_new (seen ++ q ∷ [])) xs)) (any_end (same_wanted x) seen q)
    ∙ new_step x (filter (is_new (seen ++ q ∷ [])) xs) (filter (is_new seen) (filter (differs q) xs)) (filter (is_new seen) (filter (differs q) xs)) (list_any (same_wanted x) seen) (same_wanted x q)
    (new_same seen q xs) refl
    ∙ sym (filter_if (is_new seen) (differs q x) x (filter (differs q) xs))

module _ (look : LookUp wants) (q : Wanted) (qs left : List Wanted) (seen : List Wanted) (rest : (s : List Wanted) → all_noted look s qs ≡ s ++ filter (is_new s) left) where
  if_new : (d : Bool) → list_any (same_wanted q) seen ≡ d →
      all_noted look (cond d seen (seen ++ q ∷ [])) qs
      ≡ seen ++ cond (not d) (q ∷ filter (is_new seen) (filter (differs q) left)) (filter (is_new seen) (filter (differs q) left))
  if_new true e = rest seen ∙ ap (λ l. seen ++ l) (sym (old_same seen q left e))
  if_new false e =
      rest (seen ++ q ∷ []) ∙ ap (λ l. (seen ++ q ∷ []) ++ l) (new_same seen q left) ∙ append_assoc seen (q ∷ []) (filter (is_new seen) (filter (differs q) left))

module _ (look : LookUp wants) where
  if_open : (q : Wanted) (qs xs seen : List Wanted) (b : Bool) → ((s : List Wanted) → all_noted look s qs ≡ s ++ filter (is_new s) (once wants xs)) →
      all_noted look (cond b seen (insert_key same_wanted seen q)) qs ≡ seen ++ filter (is_new seen) (once wants (cond (not b) (q ∷ xs) xs))
  if_open q qs xs seen true rest = rest seen
  if_open q qs xs seen false rest = if_new look q qs (once wants xs) seen rest (list_any (same_wanted q) seen) refl

  all_are : (qs seen : List Wanted) → all_noted look seen qs ≡ seen ++ filter (is_new seen) (unanswered wants look qs)
  all_are [] seen = sym (append-nil seen)
  all_are (q ∷ qs) seen = if_open q qs (filter (λ p. not (is_some (look p))) qs) seen (is_some (look q)) (all_are qs)

  all_new : (xs : List Wanted) → filter (is_new []) xs ≡ xs
  all_new [] = refl
  all_new (x ∷ xs) = ap (λ l. x ∷ l) (all_new xs)

  pub noted_are : (qs : List Wanted) → all_noted look [] qs ≡ unanswered wants look qs
  noted_are qs = all_are qs [] ∙ all_new (unanswered wants look qs)
