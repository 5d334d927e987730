-- Where nothing comes twice, all is the last of its kind.
use Rattle.std.proofs.Common.{◌≡◌, refl, ap, sym, ◌∙◌, Bool, true, false, true≢false, not, ◌&&◌, ◌||◌, List, [], ◌∷◌, ◌++◌, map, cond, append-nil}
use Rattle.std.specs.List.{list_any}
use Rattle.indexmap.specs.IndexMap.{insert_entry}
use Rattle.scope_tables.specs.declared.bindings.Binding.{Binding}
use Rattle.scope_tables.specs.declared.entities.Anchor.{Anchor}
use Rattle.scope_tables.specs.declared.entities.Entity.{Entity}
use Rattle.scope_tables.specs.Occurrences.{same_anchor}
use Rattle.meaning_lists.specs.Bindings as bindings
use Rattle.meaning_lists.specs.Entities as entities
use Rattle.meaning_lists.specs.declared.bindings.Key.{Key}

both_left : (a b : Bool) → (a && b) ≡ true → a ≡ true
both_left true b h = refl
both_left false b h = absurd (true≢false (sym h))

both_right : (a b : Bool) → (a && b) ≡ true → b ≡ true
both_right true b h = h
both_right false b h = absurd (true≢false (sym h))

off : (b : Bool) → not b ≡ true → b ≡ false
off false h = refl
off true h = absurd (true≢false (sym h))

neither_left : (a b : Bool) → (a || b) ≡ false → a ≡ false
neither_left false b h = refl
neither_left true b h = absurd (true≢false h)

neither_right : (a b : Bool) → (a || b) ≡ false → b ≡ false
neither_right false b h = h
neither_right true b h = absurd (true≢false h)

module _ {X K V : Type 0} (same : K → K → Bool) (key : X → K) (value : X → V) where
  -- no key of these is that of an entry
  abbrev AreNew : List (K × V) → X → Type 0
  AreNew [] x = Unit {0}
  AreNew (p ∷ ps) x = (same (key x) p.0 ≡ false) × AreNew ps x

  abbrev AllNew : List (K × V) → List X → Type 0
  AllNew ps [] = Unit {0}
  AllNew ps (x ∷ xs) = AreNew ps x × AllNew ps xs

  abbrev pub apart : List X → Bool
  apart [] = true
  apart (x ∷ xs) = not (list_any (λ o. same (key o) (key x)) xs) && apart xs

  abbrev pub put : List (K × V) → X → List (K × V)
  put ps x = insert_entry same ps (key x) (value x)

  abbrev pub all_put : List (K × V) → List X → List (K × V)
  all_put ps [] = ps
  all_put ps (x ∷ xs) = all_put (put ps x) xs

  abbrev entry : X → K × V
  entry x = (key x, value x)

  put_last : (ps : List (K × V)) (x : X) → AreNew ps x → put ps x ≡ ps ++ entry x ∷ []
  put_last [] x new = refl
  put_last (p ∷ ps) x new =
      ap (λ b. cond b ((p.0, value x) ∷ ps) (p ∷ put ps x)) new.0 ∙ ap (λ xs. p ∷ xs) (put_last ps x new.1)

  new_next : (ps : List (K × V)) (x y : X) → AreNew ps y → same (key y) (key x) ≡ false → AreNew (ps ++ entry x ∷ []) y
  new_next [] x y new other = (other, tt)
  new_next (p ∷ ps) x y new other = (new.0, new_next ps x y new.1 other)

  all_new_next : (ps : List (K × V)) (x : X) (xs : List X) → AllNew ps xs → list_any (λ o. same (key o) (key x)) xs ≡ false → AllNew (ps ++ entry x ∷ []) xs
  all_new_next ps x [] new others = tt
  all_new_next ps x (y ∷ ys) new others = (
    new_next ps x y new.0 (neither_left (same (key y) (key x)) (list_any (λ o. same (key o) (key x)) ys) others),
    all_new_next ps x ys new.1 (neither_right (same (key y) (key x)) (list_any (λ o. same (key o) (key x)) ys) others),
  )

  joined : (done : List (K × V)) (x : K × V) (xs : List (K × V)) → (done ++ x ∷ []) ++ xs ≡ done ++ x ∷ xs
  joined [] x xs = refl
  joined (p ∷ ps) x xs = ap (λ xs. p ∷ xs) (joined ps x xs)

  all_kept : (ps : List (K × V)) (xs : List X) → AllNew ps xs → apart xs ≡ true → all_put ps xs ≡ ps ++ map entry xs
  all_kept ps [] new h = sym (append-nil ps)
  all_kept ps (x ∷ xs) new h =
      let others : list_any (λ o. same (key o) (key x)) xs ≡ false =
      off (list_any (λ o. same (key o) (key x)) xs) (both_left (not (list_any (λ o. same (key o) (key x)) xs)) (apart xs) h) in
      ap (λ qs. all_put qs xs) (put_last ps x new.0)
      ∙ all_kept (ps ++ entry x ∷ []) xs (all_new_next ps x xs new.1 others)
      (both_right (not (list_any (λ o. same (key o) (key x)) xs)) (apart xs) h)
      ∙ joined ps (entry x) (map entry xs)

  all_new : (xs : List X) → AllNew [] xs
  all_new [] = tt
  all_new (x ∷ xs) = (tt, all_new xs)

  -- back from the entries
  module _ (back : K × V → X) (right : (x : X) → back (entry x) ≡ x) where
    again : (xs : List X) → map back (map entry xs) ≡ xs
    again [] = refl
    again (x ∷ xs) = ap (λ y. y ∷ map back (map entry xs)) (right x) ∙ ap (λ ys. x ∷ ys) (again xs)

    pub all_stay : (xs : List X) → apart xs ≡ true → xs ≡ map back (all_put [] xs)
    all_stay xs h = sym (ap (map back) (all_kept [] xs (all_new xs) h) ∙ again xs)

-- ---- entities by their anchors

each_entity : (ps : List (Anchor × Entity)) (es : List Entity) → entities.with_all ps es ≡ all_put same_anchor (λ e. e.anchor) (λ e. e) ps es
each_entity ps [] = refl
each_entity ps (e ∷ es) = each_entity (entities.with_entity ps e) es

entities_apart : (es : List Entity) → entities.are_apart es ≡ apart same_anchor (λ e. e.anchor) (λ (e : Entity). e) es
entities_apart [] = refl
entities_apart (e ∷ es) = ap (λ b. not (list_any (λ o. same_anchor o.anchor e.anchor) es) && b) (entities_apart es)

pub entities_stay : (es : List Entity) → entities.are_apart es ≡ true → es ≡ entities.last_entities es
entities_stay es h =
    all_stay same_anchor (λ e. e.anchor) (λ e. e) (λ p. p.1) (λ e. refl) es (sym (entities_apart es) ∙ h)
    ∙ ap (map (λ p. p.1)) (sym (each_entity [] es))

-- ---- bindings by their names

each_binding : (ps : List (Key × Entity)) (bs : List Binding) → bindings.with_all ps bs ≡ all_put bindings.same_key bindings.key_of (λ b. b.entity) ps bs
each_binding ps [] = refl
each_binding ps (b ∷ bs) = each_binding (bindings.with_binding ps b) bs

bindings_apart : (bs : List Binding) → bindings.are_apart bs ≡ apart bindings.same_key bindings.key_of (λ (b : Binding). b.entity) bs
bindings_apart [] = refl
bindings_apart (b ∷ bs) = ap (λ x. not (list_any (λ o. bindings.same_key (bindings.key_of o) (bindings.key_of b)) bs) && x) (bindings_apart bs)

pub bindings_stay : (bs : List Binding) → bindings.are_apart bs ≡ true → bs ≡ bindings.last_bindings bs
bindings_stay bs h =
    all_stay bindings.same_key bindings.key_of (λ b. b.entity) bindings.binding_of (λ b. refl) bs (sym (bindings_apart bs) ∙ h)
    ∙ ap (map bindings.binding_of) (sym (each_binding [] bs))
