-- What is seen of the records that a store keeps.
use Rattle.std.proofs.Common.{◌≡◌, ◌≢◌, ℕ, zero, suc, Bool, true, false, cond, List, [], ◌∷◌, map, refl, ap, sym, ◌∙◌, subst, Option, Some, None, IsSome, slice_index_or}
use Rattle.std.specs.Option.{option_map}
use Rattle.std.specs.Map.{lookup}
use Rattle.slab.specs.Slab.{Slab, get, Updates}
use Rattle.query_core.specs.Node.{Node}
use Rattle.query_core.specs.Stored.{Stored, Changes, Adds, SetsMark, Freshens, node_at, is_clean, shown, stored, marked_clean}
use Rattle.query_core.specs.declared.record.Record.{Record}

-- a list of parts, at a place
pub map_at : {A B : Type 0} (f : A → B) (x : A) (xs : List A) (i : ℕ) → slice_index_or (map f xs) i (f x) ≡ f (slice_index_or xs i x)
map_at f x [] i = refl
map_at f x (y ∷ ys) zero = refl
map_at f x (y ∷ ys) (suc i) = map_at f x ys i

module _ {K V : Type 0} where
  -- the record at a node, and its mark
  pub seen_at : (slots : List (Option (Record K V))) (numbers : List (K × ℕ)) (c : ℕ) (i : ℕ) → node_at (stored slots numbers c) i ≡ option_map (shown c) (slice_index_or slots i None)
  seen_at slots numbers c i = map_at (option_map (shown c)) None slots i

  pub mark_is : (slots : List (Option (Record K V))) (numbers : List (K × ℕ)) (c : ℕ) (i : ℕ) → is_clean (stored slots numbers c) i ≡ marked_clean (slice_index_or slots i None)
  mark_is slots numbers c i = map_at marked_clean None slots i

  fresh_one : (c now : ℕ) (o : Option (Record K V)) (r : Node K V) → option_map (shown c) o ≡ Some r → marked_clean o ≡ true → option_map (shown now) o ≡ Some (record r { verified_at = now })
  fresh_one c now None r e m = absurd (let bad : ⊥ = cc in bad)
  fresh_one c now (Some x) r e m =
      let same : shown c x ≡ r = cc in
      ap (λ b. Some (record (shown c x) { verified_at = cond b now x.verified_at })) m ∙ ap (λ (y : Node K V). Some (record y { verified_at = now })) same

  fresh_other : (c now : ℕ) (o : Option (Record K V)) → marked_clean o ≡ false → option_map (shown now) o ≡ option_map (shown c) o
  fresh_other c now None m = refl
  fresh_other c now (Some x) m = ap (λ b. Some (record (shown c x) { verified_at = cond b now x.verified_at })) m ∙ sym (ap (λ b. Some (record (shown c x) { verified_at = cond b c x.verified_at })) m)

  fresh_none : (c now : ℕ) (o : Option (Record K V)) → option_map (shown c) o ≡ None → option_map (shown now) o ≡ None
  fresh_none c now None e = refl
  fresh_none c now (Some x) e = absurd (let bad : ⊥ = cc in bad)

  -- the clean records count as verified in another revision
  pub freshens : (slots : List (Option (Record K V))) (numbers : List (K × ℕ)) (c now : ℕ) → Freshens (stored slots numbers c) (stored slots numbers now) now
  freshens slots numbers c now = record {
    here = λ i r e m.
        seen_at slots numbers now i
        ∙ fresh_one c now (slice_index_or slots i None) r (sym (seen_at slots numbers c i) ∙ e) (sym (mark_is slots numbers c i) ∙ m);
    others = λ i m.
        seen_at slots numbers now i
        ∙ fresh_other c now (slice_index_or slots i None) (sym (mark_is slots numbers c i) ∙ m) ∙ sym (seen_at slots numbers c i);
    free = λ i e. seen_at slots numbers now i ∙ fresh_none c now (slice_index_or slots i None) (sym (seen_at slots numbers c i) ∙ e);
    numbers = refl;
    clean = refl;
    clean_at = refl;
  }

  -- the record that is kept, of one that is seen
  pub kept_of : (slots : List (Option (Record K V))) (numbers : List (K × ℕ)) (c i : ℕ) (r : Node K V) → node_at (stored slots numbers c) i ≡ Some r → (x : Record K V) × ((slice_index_or slots i None ≡ Some x) × (shown c x ≡ r))
  kept_of slots numbers c i r e = from_slot (slice_index_or slots i None) (sym (seen_at slots numbers c i) ∙ e)
    where
      from_slot : (o : Option (Record K V)) → option_map (shown c) o ≡ Some r → (x : Record K V) × ((o ≡ Some x) × (shown c x ≡ r))
      from_slot None e = absurd (let bad : ⊥ = cc in bad)
      from_slot (Some x) e = (x, (refl, (let same : shown c x ≡ r = cc in same)))

  module _ (slots slots' : List (Option (Record K V))) (numbers numbers' : List (K × ℕ)) (c i : ℕ) (others : (j : ℕ) → j ≢ i → slice_index_or slots' j None ≡ slice_index_or slots j None) where
    pub others_seen : (j : ℕ) → j ≢ i → node_at (stored slots' numbers' c) j ≡ node_at (stored slots numbers c) j
    others_seen j n = seen_at slots' numbers' c j ∙ ap (option_map (shown c)) (others j n) ∙ sym (seen_at slots numbers c j)

    -- what the write of one record, or its removal, is to what is seen
    pub mark_set : (o : Option (Record K V)) → slice_index_or slots' i None ≡ o → SetsMark (stored slots numbers c) (stored slots' numbers' c) i (marked_clean o)
    mark_set o here = record {
      here = mark_is slots' numbers' c i ∙ ap marked_clean here;
      others = λ j n. mark_is slots' numbers' c j ∙ ap marked_clean (others j n) ∙ sym (mark_is slots numbers c j);
    }

    pub changes : numbers' ≡ numbers → (x : Record K V) → slice_index_or slots' i None ≡ Some x → Changes (stored slots numbers c) (stored slots' numbers' c) i (shown c x)
    changes same x here = record { here = seen_at slots' numbers' c i ∙ ap (option_map (shown c)) here; others = others_seen; numbers = same }

    pub adds : (eq : K → K → Bool) (x : Record K V) → slice_index_or slots i None ≡ None → slice_index_or slots' i None ≡ Some x
        → ((k : K) → lookup (eq k) numbers' ≡ cond (eq x.key k) (Some i) (lookup (eq k) numbers)) → Adds eq (stored slots numbers c) (stored slots' numbers' c) i (shown c x)
    adds eq x free here num = record {
      free = seen_at slots numbers c i ∙ ap (option_map (shown c)) free;
      here = seen_at slots' numbers' c i ∙ ap (option_map (shown c)) here;
      others = others_seen;
      numbers = num;
    }

  pub some_of : (o : Option (Node K V)) → IsSome o → (r : Node K V) × (o ≡ Some r)
  some_of None h = absurd (let bad : ⊥ = cc in bad)
  some_of (Some r) h = (r, refl)

  -- the calls of a store that write one record, over the slab that keeps it
  module _ (kept kept' : Slab (Record K V)) (numbers : List (K × ℕ)) (c i : ℕ) where
    abbrev old : Stored K V
    old = stored kept.slots numbers c

    abbrev new : Stored K V
    new = stored kept'.slots numbers c

    written : (to : Record K V → Record K V) → ((x : Record K V) → get kept i ≡ Some x → Updates kept kept' i (Some (to x))) → (r : Node K V) → node_at old i ≡ Some r
        → (x : Record K V) × ((shown c x ≡ r) × Changes old new i (shown c (to x)) × SetsMark old new i (to x).clean)
    written to up r e =
        let k = kept_of kept.slots numbers c i r e in
        let u = up k.0 k.1.0 in
        (k.0, (k.1.1, changes kept.slots kept'.slots numbers numbers c i u.others refl (to k.0) u.changed, mark_set kept.slots kept'.slots numbers numbers c i u.others (Some (to k.0)) u.changed))

    module _ (up : (x : Record K V) → get kept i ≡ Some x → Updates kept kept' i (Some (record x { clean = true }))) where
      abbrev to_clean : Record K V → Record K V
      to_clean x = record x { clean = true }

      pub verify_changes : (now : ℕ) → c ≡ now → (r : Node K V) → node_at old i ≡ Some r → Changes old new i (record r { verified_at = now })
      verify_changes now at r e =
          let w = written to_clean up r e in
          subst (Changes old new i) (ap (λ (y : Node K V). record y { verified_at = c }) w.1.0 ∙ ap (λ m. record r { verified_at = m }) at) w.1.1

      pub verify_marks : IsSome (node_at old i) → SetsMark old new i true
      verify_marks some = let s = some_of (node_at old i) some in (written to_clean up s.0 s.1).1.2

    module _ (veq : V → V → Bool) (v : V) (now : ℕ)
        (up : (x : Record K V) → get kept i ≡ Some x → Updates kept kept' i (Some (record x { value = v; clean = false; verified_at = now; changed_at = cond (veq x.value v) x.changed_at now }))) where
      abbrev to_set : Record K V → Record K V
      to_set x = record x { value = v; clean = false; verified_at = now; changed_at = cond (veq x.value v) x.changed_at now }

      pub set_changes : (r : Node K V) → node_at old i ≡ Some r → Changes old new i (record { key = r.key; value = v; reads = r.reads; input = r.input; verified_at = now; changed_at = cond (veq r.value v) r.changed_at now })
      set_changes r e =
          let w = written to_set up r e in
          subst (Changes old new i) (ap (λ (y : Node K V). record { key = y.key; value = v; reads = y.reads; input = y.input; verified_at = now; changed_at = cond (veq y.value v) y.changed_at now }) w.1.0) w.1.1

      pub set_marks : IsSome (node_at old i) → SetsMark old new i false
      set_marks some = let s = some_of (node_at old i) some in (written to_set up s.0 s.1).1.2

    module _ (veq : V → V → Bool) (v : V) (reads : List ℕ) (now : ℕ)
        (up : (x : Record K V) → get kept i ≡ Some x → Updates kept kept' i (Some (record x { value = v; reads = reads; clean = true; changed_at = cond (veq x.value v) x.changed_at now }))) where
      abbrev to_run : Record K V → Record K V
      to_run x = record x { value = v; reads = reads; clean = true; changed_at = cond (veq x.value v) x.changed_at now }

      pub renew_changes : c ≡ now → (r : Node K V) → node_at old i ≡ Some r
          → Changes old new i (record { key = r.key; value = v; reads = reads; input = r.input; verified_at = now; changed_at = cond (veq r.value v) r.changed_at now })
      renew_changes at r e =
          let w = written to_run up r e in
          subst (Changes old new i)
          (ap (λ (y : Node K V). record { key = y.key; value = v; reads = reads; input = y.input; verified_at = c; changed_at = cond (veq y.value v) y.changed_at now }) w.1.0
          ∙ ap (λ m. record { key = r.key; value = v; reads = reads; input = r.input; verified_at = m; changed_at = cond (veq r.value v) r.changed_at now }) at) w.1.1

      pub renew_marks : IsSome (node_at old i) → SetsMark old new i true
      renew_marks some = let s = some_of (node_at old i) some in (written to_run up s.0 s.1).1.2
