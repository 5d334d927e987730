-- The table and its index as bindings come and go.
use Rattle.std.proofs.Common.{arith, ◌≡◌, ◌<◌, ◌≤◌, ◌-◌, ◌++◌, ℕ, zero, suc, Bool, true, false, List, [], ◌∷◌, length, take, map, set, get_or, Option, None, Some, refl, sym, ap, subst, ◌∙◌, inl, inr, length-append}
use Rattle.std.specs.Prelude.{if◌then◌else◌, ◌⊎◌, IsSome}
use Rattle.std.proofs.lemmas.Bool.{cases_lt}
use Rattle.std.proofs.lemmas.List.{map-append, length-map, take-append-le, take_all, length-take-le, take-take}
use Rattle.type_data.specs.declared.members.Space.{Space}
use Rattle.scope_tables.specs.Indexed.{IsIndexed, binding_of}
use Rattle.scope_tables.specs.Places.{is_key, newest, place_at, entity_in, with_entity}
use Rattle.scope_tables.specs.Scopes.{binds}
use Rattle.scope_tables.specs.declared.bindings.Binding.{Binding}
use Rattle.scope_tables.specs.declared.entities.Entity.{Entity}
use Rattle.scope_tables.specs.declared.index.Index.{Index}
use Rattle.scope_tables.specs.declared.table.Entry.{Entry}
use Rattle.scope_tables.proofs.NewestLemmas.{binds_is, binds_if, key_binds, newest_push, newest_with, newest_with_all}

abbrev pub newest_of : Entry → List Binding → Option ℕ
newest_of e bs = newest e.binding.space e.binding.name bs

-- the index says of one name something else, and of the others what it did
abbrev pub IsMoved : Entry → Option ℕ → Index → Index → Type 0
IsMoved e place old new = (s : Space) (q : List ℕ) → place_at new s q ≡ (if is_key e.binding.space e.binding.name s q then place else place_at old s q)

pub indexed_none : (index : Index) → ((s : Space) (q : List ℕ) → place_at index s q ≡ None) → IsIndexed [] index
indexed_none index none = record { seen = none; hidden = λ i d h. let bad : ⊥ = omega (arith, h) in absurd bad }

pub indexed_kept : (es : List Entry) (old new : Index) → ((s : Space) (q : List ℕ) → place_at new s q ≡ place_at old s q) → IsIndexed es old → IsIndexed es new
indexed_kept es old new same was = record { seen = λ s q. same s q ∙ was.seen s q; hidden = was.hidden }

pub map_push : (es : List Entry) (e : Entry) → map binding_of (es ++ e ∷ []) ≡ map binding_of es ++ e.binding ∷ []
map_push es e = map-append binding_of es (e ∷ [])

get_or_front : (xs ys : List Entry) (i : ℕ) (d : Entry) → i < length xs → get_or (xs ++ ys) i d ≡ get_or xs i d
get_or_front [] ys i d h = let bad : ⊥ = omega (arith, h) in absurd bad
get_or_front (x ∷ xs) ys zero d h = refl
get_or_front (x ∷ xs) ys (suc i) d h = get_or_front xs ys i d (omega (arith, h))

get_or_last : (xs : List Entry) (e : Entry) (i : ℕ) (d : Entry) → i ≡ length xs → get_or (xs ++ e ∷ []) i d ≡ e
get_or_last [] e i d h = ap (λ n. get_or (e ∷ []) n d) h
get_or_last (x ∷ xs) e zero d h = let bad : ⊥ = omega (arith, h) in absurd bad
get_or_last (x ∷ xs) e (suc i) d h = get_or_last xs e i d (omega (arith, h))

abbrev pub IsHiding : List Entry → ℕ → Entry → Type 0
IsHiding es i e = e.hidden ≡ newest_of e (take i (map binding_of es))

take_front : (es : List Entry) (e : Entry) (i : ℕ) → i ≤ length es → take i (map binding_of (es ++ e ∷ [])) ≡ take i (map binding_of es)
take_front es e i h =
    ap (take i) (map_push es e) ∙ take-append-le i (map binding_of es) (e.binding ∷ []) (let n = length-map es binding_of in omega (arith, n, h))

pub indexed_push : (es : List Entry) (e : Entry) (old new : Index) → e.hidden ≡ place_at old e.binding.space e.binding.name
    → IsMoved e (Some (length es)) old new → IsIndexed es old → IsIndexed (es ++ e ∷ []) new
indexed_push es e old new here moved was = record {
  seen = λ s q.
      moved s q
      ∙ ap (λ t. if t then Some (length es) else place_at old s q) (key_binds s q e.binding)
      ∙ ap (λ o. if binds s q e.binding then Some (length es) else o) (was.seen s q)
      ∙ sym (ap (newest s q) (map_push es e)
      ∙ newest_push s q (map binding_of es) e.binding
      ∙ ap (λ n. if binds s q e.binding then Some n else newest s q (map binding_of es)) (length-map es binding_of));
  hidden = λ i d h. hides i d (let n = length-append es (e ∷ []) in omega (arith, n, h)) (cases_lt i (length es));
}
  where
    hides : (i : ℕ) (d : Entry) → i ≤ length es → (i < length es) ⊎ (length es ≤ i) → IsHiding (es ++ e ∷ []) i (get_or (es ++ e ∷ []) i d)
    hides i d most (inl h) =
        let here : get_or (es ++ e ∷ []) i d ≡ get_or es i d = get_or_front es (e ∷ []) i d h in
        ap (λ (x : Entry). x.hidden) here ∙ was.hidden i d h
        ∙ sym (ap (λ x. newest_of x (take i (map binding_of (es ++ e ∷ [])))) here ∙ ap (newest_of (get_or es i d)) (take_front es e i (omega (arith, h))))
    hides i d most (inr h) =
        let is : get_or (es ++ e ∷ []) i d ≡ e = get_or_last es e i d (omega (arith, most, h)) in
        let all : take i (map binding_of (es ++ e ∷ [])) ≡ map binding_of es =
        take_front es e i most ∙ take_all i (map binding_of es) (let n = length-map es binding_of in omega (arith, n, h)) in
        ap (λ (x : Entry). x.hidden) is ∙ here ∙ was.seen e.binding.space e.binding.name
        ∙ sym (ap (λ x. newest_of x (take i (map binding_of (es ++ e ∷ [])))) is ∙ ap (newest_of e) all)

-- the last entry hides what the index is to have again
pub hidden_last : (es : List Entry) (e : Entry) (index : Index) → IsIndexed (es ++ e ∷ []) index → e.hidden ≡ newest_of e (map binding_of es)
hidden_last es e index was =
    let is : get_or (es ++ e ∷ []) (length es) e ≡ e = get_or_last es e (length es) e refl in
    let n = length-append es (e ∷ []) in
    let all : take (length es) (map binding_of (es ++ e ∷ [])) ≡ map binding_of es =
    take_front es e (length es) (omega arith) ∙ take_all (length es) (map binding_of es) (let m = length-map es binding_of in omega (arith, m)) in
    sym (ap (λ (x : Entry). x.hidden) is) ∙ was.hidden (length es) e (omega (arith, n))
    ∙ ap (λ x. newest_of x (take (length es) (map binding_of (es ++ e ∷ [])))) is ∙ ap (newest_of e) all

pub last_is_seen : (es : List Entry) (e : Entry) (index : Index) → IsIndexed (es ++ e ∷ []) index → IsSome (place_at index e.binding.space e.binding.name)
last_is_seen es e index was =
    let is : place_at index e.binding.space e.binding.name ≡ Some (length (map binding_of es)) =
    was.seen e.binding.space e.binding.name
    ∙ ap (newest e.binding.space e.binding.name) (map_push es e)
    ∙ newest_push e.binding.space e.binding.name (map binding_of es) e.binding
    ∙ ap (λ t. if t then Some (length (map binding_of es)) else newest_of e (map binding_of es)) (binds_if e.binding.space e.binding.name e.binding refl refl) in
    subst IsSome (sym is) refl

pub indexed_pop : (es : List Entry) (e : Entry) (old new : Index) → IsMoved e e.hidden old new → IsIndexed (es ++ e ∷ []) old → IsIndexed es new
indexed_pop es e old new moved was = record {
  seen = λ s q.
      moved s q ∙ ap (λ t. if t then e.hidden else place_at old s q) (key_binds s q e.binding)
      ∙ step s q (binds s q e.binding) refl;
  hidden = λ i d h.
      let n = length-append es (e ∷ []) in
      let here : get_or (es ++ e ∷ []) i d ≡ get_or es i d = get_or_front es (e ∷ []) i d h in
      sym (ap (λ (x : Entry). x.hidden) here) ∙ was.hidden i d (omega (arith, n, h))
      ∙ ap (λ x. newest_of x (take i (map binding_of (es ++ e ∷ [])))) here ∙ ap (newest_of (get_or es i d)) (take_front es e i (omega (arith, h)));
}
  where
    step : (s : Space) (q : List ℕ) (t : Bool) → binds s q e.binding ≡ t → (if binds s q e.binding then e.hidden else place_at old s q) ≡ newest s q (map binding_of es)
    step s q true h =
        ap (λ t. if t then e.hidden else place_at old s q) h ∙ hidden_last es e old was
        ∙ (let is = binds_is s q e.binding h in ap (λ x. newest x e.binding.name (map binding_of es)) is.0 ∙ ap (λ n. newest s n (map binding_of es)) is.1)
    step s q false h =
        ap (λ t. if t then e.hidden else place_at old s q) h ∙ was.seen s q ∙ ap (newest s q) (map_push es e)
        ∙ newest_push s q (map binding_of es) e.binding
        ∙ ap (λ t. if t then Some (length (map binding_of es)) else newest s q (map binding_of es)) h

-- an entry with another entity
abbrev pub with_other : Entry → Entity → Entry
with_other e x = record { binding = record { space = e.binding.space; name = e.binding.name; entity = x }; hidden = e.hidden }

pub map_with : (es : List Entry) (i : ℕ) (d : Entry) (x : Entity) → map binding_of (set es i (with_other (get_or es i d) x)) ≡ with_entity (map binding_of es) i x
map_with [] i d x = refl
map_with (e ∷ es) zero d x = refl
map_with (e ∷ es) (suc i) d x = ap (λ bs. e.binding ∷ bs) (map_with es i d x)

same_part : {A : Type 0} (f : Entry → A) (es : List Entry) (i j : ℕ) (d : Entry) (e : Entry) → f e ≡ f (get_or es i d) → (b : Entry) → f (get_or (set es i e) j b) ≡ f (get_or es j b)
same_part f [] i j d e same b = refl
same_part f (x ∷ es) zero zero d e same b = same
same_part f (x ∷ es) zero (suc j) d e same b = refl
same_part f (x ∷ es) (suc i) zero d e same b = refl
same_part f (x ∷ es) (suc i) (suc j) d e same b = same_part f es i j d e same b

pub length_set : (es : List Entry) (i : ℕ) (e : Entry) → length (set es i e) ≡ length es
length_set [] i e = refl
length_set (x ∷ es) zero e = refl
length_set (x ∷ es) (suc i) e = let n = length_set es i e in omega (arith, n)

pub indexed_with : (es : List Entry) (i : ℕ) (d : Entry) (x : Entity) (index : Index) → IsIndexed es index → IsIndexed (set es i (with_other (get_or es i d) x)) index
indexed_with es i d x index was = record {
  seen = λ s q. was.seen s q ∙ sym (ap (newest s q) (map_with es i d x) ∙ newest_with_all s q (map binding_of es) i x);
  hidden = λ j b h.
      let e = with_other (get_or es i d) x in
      let n = length_set es i e in
      let space : (get_or (set es i e) j b).binding.space ≡ (get_or es j b).binding.space = same_part (λ (y : Entry). y.binding.space) es i j d e refl b in
      let name : (get_or (set es i e) j b).binding.name ≡ (get_or es j b).binding.name = same_part (λ (y : Entry). y.binding.name) es i j d e refl b in
      same_part (λ (y : Entry). y.hidden) es i j d e refl b ∙ was.hidden j b (omega (arith, n, h))
      ∙ sym (ap (λ p. newest p (get_or (set es i e) j b).binding.name (take j (map binding_of (set es i e)))) space
      ∙ ap (λ p. newest (get_or es j b).binding.space p (take j (map binding_of (set es i e)))) name
      ∙ ap (λ bs. newest_of (get_or es j b) (take j bs)) (map_with es i d x)
      ∙ newest_with (get_or es j b).binding.space (get_or es j b).binding.name (map binding_of es) i x j);
}

pub entity_at : (es : List Entry) (i : ℕ) (d : Entry) → i < length es → Some (get_or es i d).binding.entity ≡ entity_in (map binding_of es) i
entity_at [] i d h = let bad : ⊥ = omega (arith, h) in absurd bad
entity_at (e ∷ es) zero d h = refl
entity_at (e ∷ es) (suc i) d h = entity_at es i d (omega (arith, h))

-- one more is undone
pub cut_turns : (first now next : List Binding) → now ≡ take (length now) first → 0 < length now → next ≡ take (length now - 1) now → next ≡ take (length next) first
cut_turns first now next front some is =
    let size : length next ≡ length now - 1 = ap length is ∙ length-take-le (length now - 1) now (omega arith) in
    is ∙ ap (take (length now - 1)) front ∙ take-take (length now - 1) (length now) first (omega arith) ∙ ap (λ n. take n first) (sym size)

pub cut_size : (now next : List Binding) → 0 < length now → next ≡ take (length now - 1) now → length next ≡ length now - 1
cut_size now next some is = ap length is ∙ length-take-le (length now - 1) now (omega arith)

pub cut_ends : (first now : List Binding) (place : ℕ) → now ≡ take (length now) first → length now ≡ place → now ≡ take place first
cut_ends first now place front e = front ∙ ap (λ n. take n first) e
