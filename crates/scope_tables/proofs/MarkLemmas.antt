-- The list of scopes that the marks cut the table into, as scopes and names come and go.
use Rattle.std.proofs.Common.{arith, ◌≡◌, ◌<◌, ◌≤◌, ◌+◌, ◌-◌, ◌++◌, ℕ, zero, suc, Bool, true, false, List, [], ◌∷◌, length, take, drop, get_or, Option, None, Some, refl, sym, ap, subst, ◌∙◌, length-append, append_assoc}
use Rattle.std.specs.Prelude.{if◌then◌else◌, reverse}
use Rattle.std.proofs.lemmas.List.{take-append-drop, take_all, take_at, drop_all, drop_at, length-take-le, take_more, reverse-append}
use Rattle.type_data.specs.declared.members.Space.{Space}
use Rattle.scope_tables.specs.Marks.{cut_at, IsOnce, AreMarks}
use Rattle.scope_tables.specs.Places.{newest, or_here, entity_in, with_entity}
use Rattle.scope_tables.specs.Scopes.{binds, bound, put, or_outside, found, here, innermost_kind, declared_in, before, entered}
use Rattle.scope_tables.specs.declared.bindings.Binding.{Binding}
use Rattle.scope_tables.specs.declared.entities.Entity.{Entity}
use Rattle.scope_tables.specs.declared.entities.ScopeKind.{ScopeKind}
use Rattle.scope_tables.specs.declared.scopes.Mark.{Mark}
use Rattle.scope_tables.proofs.NewestLemmas.{binds_if, binds_is, newer, newest_append, newest_below}

-- the entity at a place that there may be
abbrev pub entity_if : List Binding → Option ℕ → Option Entity
entity_if bs None = None
entity_if bs (Some i) = entity_in bs i

unbound_same : (b : Binding) (s : Space) (q : List ℕ) (bs : List Binding) → b.space ≡ s → b.name ≡ q → bound b.space b.name bs ≡ None → bound s q bs ≡ None
unbound_same b s q bs e f h = ap (λ x. bound x q bs) (sym e) ∙ ap (λ n. bound b.space n bs) (sym f) ∙ h

pub absent : (cs : List Binding) (i : ℕ) → entity_in cs i ≡ None → i < length cs → ⊥
absent [] i h k = omega (arith, k)
absent (c ∷ cs) zero h k = cc h
absent (c ∷ cs) (suc i) h k = absent cs i h (omega (arith, k))

-- in a scope the newest binding of a name is the only one
pub bound_newest : (s : Space) (q : List ℕ) (bs : List Binding) → IsOnce bs → bound s q bs ≡ entity_if bs (newest s q bs)
bound_newest s q [] once = refl
bound_newest s q (b ∷ bs) once = step (newest s q bs) (binds s q b) refl refl (bound_newest s q bs once.1)
  where
    step : (o : Option ℕ) (here : Bool) → newest s q bs ≡ o → binds s q b ≡ here → bound s q bs ≡ entity_if bs (newest s q bs)
        → bound s q (b ∷ bs) ≡ entity_if (b ∷ bs) (newest s q (b ∷ bs))
    step (Some i) true e h below =
        let is = binds_is s q b h in
        let none : bound s q bs ≡ None = unbound_same b s q bs is.0 is.1 once.0 in
        let found : entity_in bs i ≡ None = sym (ap (entity_if bs) e) ∙ sym below ∙ none in
        let bad : ⊥ = absent bs i found (newest_below s q bs i e) in
        absurd bad
    step (Some i) false e h below =
        ap (λ t. if t then Some b.entity else bound s q bs) h ∙ below ∙ ap (entity_if bs) e
        ∙ (let n : suc i ≡ i + 1 = omega arith in ap (entity_in (b ∷ bs)) n)
        ∙ sym (ap (λ t. entity_if (b ∷ bs) (or_here (newest s q bs) t)) h ∙ ap (λ o. entity_if (b ∷ bs) (or_here o false)) e)
    step None true e h below =
        ap (λ t. if t then Some b.entity else bound s q bs) h
        ∙ sym (ap (λ t. entity_if (b ∷ bs) (or_here (newest s q bs) t)) h ∙ ap (λ o. entity_if (b ∷ bs) (or_here o true)) e)
    step None false e h below =
        ap (λ t. if t then Some b.entity else bound s q bs) h ∙ below ∙ ap (entity_if bs) e
        ∙ sym (ap (λ t. entity_if (b ∷ bs) (or_here (newest s q bs) t)) h ∙ ap (λ o. entity_if (b ∷ bs) (or_here o false)) e)

entity_front : (xs ys : List Binding) (i : ℕ) → i < length xs → entity_in (xs ++ ys) i ≡ entity_in xs i
entity_front [] ys i h = let bad : ⊥ = omega (arith, h) in absurd bad
entity_front (x ∷ xs) ys zero h = refl
entity_front (x ∷ xs) ys (suc i) h = entity_front xs ys i (omega (arith, h))

entity_behind : (xs ys : List Binding) (i : ℕ) → entity_in (xs ++ ys) (length xs + i) ≡ entity_in ys i
entity_behind [] ys i = let e : 0 + i ≡ i = omega arith in ap (entity_in ys) e
entity_behind (x ∷ xs) ys i =
    (let e : length (x ∷ xs) + i ≡ suc (length xs + i) = omega arith in ap (entity_in (x ∷ (xs ++ ys))) e) ∙ entity_behind xs ys i

-- what a name denotes in `ys` or, where it has none there, in `xs` before it
outside_of : (s : Space) (q : List ℕ) (xs ys : List Binding)
    → or_outside (entity_if ys (newest s q ys)) (entity_if xs (newest s q xs)) ≡ entity_if (xs ++ ys) (newest s q (xs ++ ys))
outside_of s q xs ys = step (newest s q ys) (newest s q xs) refl refl ∙ sym (ap (entity_if (xs ++ ys)) (newest_append s q xs ys))
  where
    step : (p o : Option ℕ) → newest s q ys ≡ p → newest s q xs ≡ o
        → or_outside (entity_if ys (newest s q ys)) (entity_if xs (newest s q xs)) ≡ entity_if (xs ++ ys) (newer (newest s q xs) (length xs) (newest s q ys))
    step (Some j) o e f =
        ap (λ p. or_outside (entity_if ys p) (entity_if xs (newest s q xs))) e
        ∙ there (entity_in ys j) refl (λ h. absent ys j h (newest_below s q ys j e))
        ∙ sym (ap (λ p. entity_if (xs ++ ys) (newer (newest s q xs) (length xs) p)) e ∙ entity_behind xs ys j)
      where
        there : (t : Option Entity) → entity_in ys j ≡ t → (entity_in ys j ≡ None → ⊥) → or_outside (entity_in ys j) (entity_if xs (newest s q xs)) ≡ entity_in ys j
        there (Some x) h not = ap (λ t. or_outside t (entity_if xs (newest s q xs))) h ∙ sym h
        there None h not = absurd (not h)
    step None (Some i) e f =
        ap (λ p. or_outside (entity_if ys p) (entity_if xs (newest s q xs))) e ∙ ap (entity_if xs) f
        ∙ sym (entity_front xs ys i (newest_below s q xs i f))
        ∙ sym (ap (λ p. entity_if (xs ++ ys) (newer (newest s q xs) (length xs) p)) e ∙ ap (entity_if (xs ++ ys)) f)
    step None None e f =
        ap (λ p. or_outside (entity_if ys p) (entity_if xs (newest s q xs))) e ∙ ap (entity_if xs) f
        ∙ sym (ap (λ p. entity_if (xs ++ ys) (newer (newest s q xs) (length xs) p)) e ∙ ap (entity_if (xs ++ ys)) f)

pub found_newest : (s : Space) (q : List ℕ) (ms : List Mark) (bs : List Binding) → AreMarks ms bs → found s q (cut_at ms bs) ≡ entity_if bs (newest s q bs)
found_newest s q [] bs none = sym (ap (λ xs. entity_if xs (newest s q xs)) none)
found_newest s q (m ∷ ms) bs are =
    let ys = drop m.start bs in
    let xs = take m.start bs in
    ap (λ e. or_outside e (found s q (cut_at ms xs))) (bound_newest s q ys are.1)
    ∙ ap (or_outside (entity_if ys (newest s q ys))) (found_newest s q ms xs are.2)
    ∙ outside_of s q xs ys
    ∙ ap (λ zs. entity_if zs (newest s q zs)) (take-append-drop m.start bs)

pub marks_enter : (kind : ScopeKind) (ms : List Mark) (bs : List Binding) → AreMarks ms bs → AreMarks (record { kind = kind; start = length bs } ∷ ms) bs
marks_enter kind ms bs are =
    (omega arith, subst IsOnce (sym (drop_all (length bs) bs (omega arith))) tt, subst (AreMarks ms) (sym (take_all (length bs) bs (omega arith))) are)

pub cut_enter : (kind : ScopeKind) (ms : List Mark) (bs : List Binding) → cut_at (record { kind = kind; start = length bs } ∷ ms) bs ≡ entered kind (cut_at ms bs)
cut_enter kind ms bs =
    ap (λ ys. record { kind = kind; bindings = ys } ∷ cut_at ms (take (length bs) bs)) (drop_all (length bs) bs (omega arith))
    ∙ ap (λ xs. record { kind = kind; bindings = [] } ∷ cut_at ms xs) (take_all (length bs) bs (omega arith))

-- a name that the scope hasn't
put_new : (b : Binding) (ys : List Binding) → bound b.space b.name ys ≡ None → put b ys ≡ ys ++ b ∷ []
put_new b [] none = refl
put_new b (c ∷ cs) none = step (binds b.space b.name c) refl none (λ h. put_new b cs h)
  where
    step : (t : Bool) → binds b.space b.name c ≡ t → bound b.space b.name (c ∷ cs) ≡ None → (bound b.space b.name cs ≡ None → put b cs ≡ cs ++ b ∷ [])
        → put b (c ∷ cs) ≡ c ∷ (cs ++ b ∷ [])
    step true e h more = let bad : Some c.entity ≡ None = sym (ap (λ t. if t then Some c.entity else bound b.space b.name cs) e) ∙ h in cc bad
    step false e h more =
        ap (λ t. if t then b ∷ cs else c ∷ put b cs) e
        ∙ ap (λ xs. c ∷ xs) (more (sym (ap (λ t. if t then Some c.entity else bound b.space b.name cs) e) ∙ h))

-- a name that it has
put_old : (b : Binding) (ys : List Binding) (i : ℕ) → IsOnce ys → newest b.space b.name ys ≡ Some i → put b ys ≡ with_entity ys i b.entity
put_old b [] i once h = cc h
put_old b (c ∷ cs) i once h = step (newest b.space b.name cs) (binds b.space b.name c) refl refl h (λ j g. put_old b cs j once.1 g)
  where
    step : (o : Option ℕ) (here : Bool) → newest b.space b.name cs ≡ o → binds b.space b.name c ≡ here → or_here (newest b.space b.name cs) (binds b.space b.name c) ≡ Some i
        → ((j : ℕ) → newest b.space b.name cs ≡ Some j → put b cs ≡ with_entity cs j b.entity)
        → put b (c ∷ cs) ≡ with_entity (c ∷ cs) i b.entity
    step (Some j) true e f h more =
        let is = binds_is b.space b.name c f in
        let none : bound b.space b.name cs ≡ None = unbound_same c b.space b.name cs is.0 is.1 once.0 in
        absurd (absent cs j (sym (ap (entity_if cs) e) ∙ sym (bound_newest b.space b.name cs once.1) ∙ none) (newest_below b.space b.name cs j e))
    step (Some j) false e f h more =
        let at : Some (j + 1) ≡ Some i = sym (ap (λ t. or_here (newest b.space b.name cs) t) f ∙ ap (λ o. or_here o false) e) ∙ h in
        let is : j + 1 ≡ i = cc at in
        let n : suc j ≡ i = omega (arith, is) in
        ap (λ t. if t then b ∷ cs else c ∷ put b cs) f ∙ ap (λ xs. c ∷ xs) (more j e) ∙ ap (λ k. with_entity (c ∷ cs) k b.entity) n
    step None true e f h more =
        let at : Some 0 ≡ Some i = sym (ap (λ t. or_here (newest b.space b.name cs) t) f ∙ ap (λ o. or_here o true) e) ∙ h in
        let is : 0 ≡ i = cc at in
        let same = binds_is b.space b.name c f in
        ap (λ t. if t then b ∷ cs else c ∷ put b cs) f
        ∙ sym (ap (λ s. record { space = s; name = c.name; entity = b.entity } ∷ cs) same.0 ∙ ap (λ n. record { space = b.space; name = n; entity = b.entity } ∷ cs) same.1)
        ∙ ap (λ k. with_entity (c ∷ cs) k b.entity) is
    step None false e f h more =
        let bad : None ≡ Some i = sym (ap (λ t. or_here (newest b.space b.name cs) t) f ∙ ap (λ o. or_here o false) e) ∙ h in cc bad

-- another name
unbound_put : (s : Space) (q : List ℕ) (b : Binding) (cs : List Binding) → binds s q b ≡ false → bound s q cs ≡ None → bound s q (put b cs) ≡ None
unbound_put s q b [] other none = ap (λ t. if t then Some b.entity else None) other
unbound_put s q b (c ∷ cs) other none = step (binds b.space b.name c) (binds s q c) refl refl none (λ h. unbound_put s q b cs other h)
  where
    step : (t u : Bool) → binds b.space b.name c ≡ t → binds s q c ≡ u → bound s q (c ∷ cs) ≡ None → (bound s q cs ≡ None → bound s q (put b cs) ≡ None) → bound s q (put b (c ∷ cs)) ≡ None
    step t true e f h more = let bad : Some c.entity ≡ None = sym (ap (λ t. if t then Some c.entity else bound s q cs) f) ∙ h in cc bad
    step true false e f h more =
        ap (λ t. bound s q (if t then b ∷ cs else c ∷ put b cs)) e ∙ ap (λ t. if t then Some b.entity else bound s q cs) other
        ∙ sym (ap (λ t. if t then Some c.entity else bound s q cs) f) ∙ h
    step false false e f h more =
        ap (λ t. bound s q (if t then b ∷ cs else c ∷ put b cs)) e ∙ ap (λ t. if t then Some c.entity else bound s q (put b cs)) f
        ∙ more (sym (ap (λ t. if t then Some c.entity else bound s q cs) f) ∙ h)

other_way : (b c : Binding) → binds b.space b.name c ≡ false → binds c.space c.name b ≡ false
other_way b c other = step (binds c.space c.name b) refl
  where
    step : (t : Bool) → binds c.space c.name b ≡ t → binds c.space c.name b ≡ false
    step true e =
        let is = binds_is c.space c.name b e in
        let same = binds_if b.space b.name c (sym is.0) (sym is.1) in
        let bad : true ≡ false = sym same ∙ other in cc bad
    step false e = e

once_put : (b : Binding) (ys : List Binding) → IsOnce ys → IsOnce (put b ys)
once_put b [] once = (refl, tt)
once_put b (c ∷ cs) once = step (binds b.space b.name c) refl (once_put b cs once.1)
  where
    step : (t : Bool) → binds b.space b.name c ≡ t → IsOnce (put b cs) → IsOnce (put b (c ∷ cs))
    step true e more =
        let is = binds_is b.space b.name c e in
        subst (λ t. IsOnce (if t then b ∷ cs else c ∷ put b cs)) (sym e) (unbound_same c b.space b.name cs is.0 is.1 once.0, once.1)
    step false e more =
        subst (λ t. IsOnce (if t then b ∷ cs else c ∷ put b cs)) (sym e) (unbound_put c.space c.name b cs (other_way b c e) once.0, more)

with_behind : (xs ys : List Binding) (i : ℕ) (x : Entity) → with_entity (xs ++ ys) (length xs + i) x ≡ xs ++ with_entity ys i x
with_behind [] ys i x = let e : 0 + i ≡ i = omega arith in ap (λ k. with_entity ys k x) e
with_behind (c ∷ xs) ys i x =
    (let e : length (c ∷ xs) + i ≡ suc (length xs + i) = omega arith in ap (λ k. with_entity (c ∷ (xs ++ ys)) k x) e) ∙ ap (λ zs. c ∷ zs) (with_behind xs ys i x)

-- what a declaration does to the table and to the scopes
pub record IsDeclared (b : Binding) (ms : List Mark) (old new : List Binding) (hidden : Option Entity) : Type 0 where
  pub marks : AreMarks ms new
  pub scopes : cut_at ms new ≡ declared_in b (cut_at ms old)
  pub before : hidden ≡ before b (cut_at ms old)

declared : (b : Binding) (m : Mark) (ms : List Mark) (xs ys zs : List Binding) (old new : List Binding) (hidden : Option Entity)
    → old ≡ xs ++ ys → new ≡ xs ++ zs → zs ≡ put b ys → length xs ≡ m.start → hidden ≡ bound b.space b.name ys
    → AreMarks (m ∷ ms) old → IsDeclared b (m ∷ ms) old new hidden
declared b m ms xs ys zs old new hidden was is change size had are =
    let below : drop m.start old ≡ ys = ap (drop m.start) was ∙ drop_at xs ys m.start size in
    let front : take m.start old ≡ xs = ap (take m.start) was ∙ take_at xs ys m.start size in
    let after : drop m.start new ≡ put b ys = ap (drop m.start) is ∙ drop_at xs zs m.start size ∙ change in
    let kept : take m.start new ≡ xs = ap (take m.start) is ∙ take_at xs zs m.start size in
    let count = ap length is in
    let sum = length-append xs zs in
    record {
      marks = (omega (arith, count, sum, size), subst IsOnce (sym after) (once_put b ys (subst IsOnce below are.1)), subst (AreMarks ms) (front ∙ sym kept) are.2);
      scopes =
          ap (λ bs. record { kind = m.kind; bindings = bs } ∷ cut_at ms (take m.start new)) (after ∙ sym (ap (put b) below))
          ∙ ap (λ bs. record { kind = m.kind; bindings = put b (drop m.start old) } ∷ cut_at ms bs) (kept ∙ sym front);
      before = had ∙ sym (ap (bound b.space b.name) below);
    }

-- the newest binding of all, where it stands in the innermost scope
pub newest_inside : (s : Space) (q : List ℕ) (start : ℕ) (old : List Binding) (i : ℕ) → start ≤ length old → newest s q old ≡ Some i → start ≤ i
    → newest s q (drop start old) ≡ Some (i - start)
newest_inside s q start old i most at inside =
    let xs = take start old in
    let ys = drop start old in
    let size : length xs ≡ start = length-take-le start old most in
    let both : newer (newest s q xs) (length xs) (newest s q ys) ≡ Some i =
    sym (newest_append s q xs ys) ∙ ap (newest s q) (take-append-drop start old) ∙ at in
    step xs ys (newest s q ys) (newest s q xs) refl refl both size
  where
    step : (xs ys : List Binding) (p o : Option ℕ) → newest s q ys ≡ p → newest s q xs ≡ o
        → newer (newest s q xs) (length xs) (newest s q ys) ≡ Some i → length xs ≡ start → newest s q ys ≡ Some (i - start)
    step xs ys (Some k) o e f h size =
        let same : Some (length xs + k) ≡ Some i = sym (ap (newer (newest s q xs) (length xs)) e) ∙ h in
        let sum : length xs + k ≡ i = cc same in
        let is : k ≡ i - start = omega (arith, sum, size) in
        e ∙ ap Some is
    step xs ys None (Some k) e f h size =
        let same : Some k ≡ Some i = sym (ap (newer (newest s q xs) (length xs)) e ∙ f) ∙ h in
        let is : k ≡ i = cc same in
        let below = newest_below s q xs k f in
        let bad : ⊥ = omega (arith, below, is, inside, size) in absurd bad
    step xs ys None None e f h size =
        let bad : None ≡ Some i = sym (ap (newer (newest s q xs) (length xs)) e ∙ f) ∙ h in cc bad

-- where it doesn't
pub newest_outside : (s : Space) (q : List ℕ) (start : ℕ) (old : List Binding) → start ≤ length old → ((i : ℕ) → newest s q old ≡ Some i → i < start)
    → newest s q (drop start old) ≡ None
newest_outside s q start old most outside =
    let xs = take start old in
    let ys = drop start old in
    step xs ys (newest s q ys) refl
    (λ i h. outside (length xs + i) (ap (newest s q) (sym (take-append-drop start old)) ∙ newest_append s q xs ys ∙ ap (newer (newest s q xs) (length xs)) h))
    (length-take-le start old most)
  where
    step : (xs ys : List Binding) (o : Option ℕ) → newest s q ys ≡ o → ((i : ℕ) → newest s q ys ≡ Some i → length xs + i < start) → length xs ≡ start
        → newest s q ys ≡ None
    step xs ys (Some i) e far size = let past = far i e in let bad : ⊥ = omega (arith, past, size) in absurd bad
    step xs ys None e far size = e

-- what a name denotes in the innermost scope
pub bound_inside : (s : Space) (q : List ℕ) (start : ℕ) (old : List Binding) (i : ℕ) → start ≤ length old → IsOnce (drop start old) → newest s q old ≡ Some i
    → start ≤ i → bound s q (drop start old) ≡ entity_in old i
bound_inside s q start old i most once at inside =
    let xs = take start old in
    let ys = drop start old in
    let size : length xs ≡ start = length-take-le start old most in
    let place : length xs + (i - start) ≡ i = omega (arith, size, inside) in
    bound_newest s q ys once ∙ ap (entity_if ys) (newest_inside s q start old i most at inside)
    ∙ sym (entity_behind xs ys (i - start)) ∙ ap (entity_in (xs ++ ys)) place ∙ ap (λ zs. entity_in zs i) (take-append-drop start old)

pub bound_outside : (s : Space) (q : List ℕ) (start : ℕ) (old : List Binding) → start ≤ length old → IsOnce (drop start old)
    → ((i : ℕ) → newest s q old ≡ Some i → i < start) → bound s q (drop start old) ≡ None
bound_outside s q start old most once outside =
    bound_newest s q (drop start old) once ∙ ap (entity_if (drop start old)) (newest_outside s q start old most outside)

pub declared_new : (b : Binding) (m : Mark) (ms : List Mark) (old : List Binding) → AreMarks (m ∷ ms) old
    → ((i : ℕ) → newest b.space b.name old ≡ Some i → i < m.start) → IsDeclared b (m ∷ ms) old (old ++ b ∷ []) None
declared_new b m ms old are outside =
    let xs = take m.start old in
    let ys = drop m.start old in
    let whole : xs ++ ys ≡ old = take-append-drop m.start old in
    let unbound : bound b.space b.name ys ≡ None = bound_outside b.space b.name m.start old are.0 are.1 outside in
    declared b m ms xs ys (ys ++ b ∷ []) old (old ++ b ∷ []) None (sym whole) (ap (λ zs. zs ++ b ∷ []) (sym whole) ∙ append_assoc xs ys (b ∷ []))
    (sym (put_new b ys unbound)) (length-take-le m.start old are.0) (sym unbound) are

pub declared_old : (b : Binding) (m : Mark) (ms : List Mark) (old : List Binding) (i : ℕ) → AreMarks (m ∷ ms) old
    → newest b.space b.name old ≡ Some i → m.start ≤ i → IsDeclared b (m ∷ ms) old (with_entity old i b.entity) (entity_in old i)
declared_old b m ms old i are at inside =
    let xs = take m.start old in
    let ys = drop m.start old in
    let is : old ≡ xs ++ ys = sym (take-append-drop m.start old) in
    let size : length xs ≡ m.start = length-take-le m.start old are.0 in
    let j = i - m.start in
    let place : length xs + j ≡ i = omega (arith, size, inside) in
    let here : newest b.space b.name ys ≡ Some j = newest_inside b.space b.name m.start old i are.0 at inside in
    declared b m ms xs ys (with_entity ys j b.entity) old (with_entity old i b.entity) (entity_in old i) is
    (ap (λ zs. with_entity zs i b.entity) is ∙ ap (λ k. with_entity (xs ++ ys) k b.entity) (sym place) ∙ with_behind xs ys j b.entity)
    (sym (put_old b ys j are.1 here)) size
    (sym (bound_inside b.space b.name m.start old i are.0 are.1 at inside)) are

-- the innermost mark is the last one
pub innermost : (ms : List Mark) (m : Mark) → length ms - 1 < length ms → m ≡ get_or ms (length ms - 1) m → reverse ms ≡ m ∷ reverse (take (length ms - 1) ms)
innermost ms m some last =
    let count : length ms - 1 + 1 ≡ length ms = omega (arith, some) in
    let whole : take (length ms - 1) ms ++ m ∷ [] ≡ ms =
    ap (λ x. take (length ms - 1) ms ++ x ∷ []) last ∙ sym (take_more ms (length ms - 1) m some) ∙ ap (λ n. take n ms) count
    ∙ take_all (length ms) ms (omega arith) in
    ap reverse (sym whole) ∙ reverse-append (take (length ms - 1) ms) (m ∷ [])

pub declares_old : (b : Binding) (marks : List Mark) (m : Mark) (old : List Binding) (i : ℕ) → length marks - 1 < length marks → m ≡ get_or marks (length marks - 1) m
    → AreMarks (reverse marks) old → newest b.space b.name old ≡ Some i → m.start ≤ i → IsDeclared b (reverse marks) old (with_entity old i b.entity) (entity_in old i)
declares_old b marks m old i some last are at inside =
    let is = innermost marks m some last in
    subst (λ ms. IsDeclared b ms old (with_entity old i b.entity) (entity_in old i)) (sym is)
    (declared_old b m (reverse (take (length marks - 1) marks)) old i (subst (λ ms. AreMarks ms old) is are) at inside)

pub declares_new : (b : Binding) (marks : List Mark) (m : Mark) (old : List Binding) → length marks - 1 < length marks → m ≡ get_or marks (length marks - 1) m
    → AreMarks (reverse marks) old → ((i : ℕ) → newest b.space b.name old ≡ Some i → i < m.start) → IsDeclared b (reverse marks) old (old ++ b ∷ []) None
declares_new b marks m old some last are outside =
    let is = innermost marks m some last in
    subst (λ ms. IsDeclared b ms old (old ++ b ∷ []) None) (sym is)
    (declared_new b m (reverse (take (length marks - 1) marks)) old (subst (λ ms. AreMarks ms old) is are) outside)

pub length_cut : (ms : List Mark) (bs : List Binding) → length (cut_at ms bs) ≡ length ms
length_cut [] bs = refl
length_cut (m ∷ ms) bs = let n = length_cut ms (take m.start bs) in omega (arith, n)

pub here_old : (s : Space) (q : List ℕ) (marks : List Mark) (m : Mark) (old : List Binding) (i : ℕ) → length marks - 1 < length marks
    → m ≡ get_or marks (length marks - 1) m → AreMarks (reverse marks) old → newest s q old ≡ Some i → m.start ≤ i
    → entity_in old i ≡ here s q (cut_at (reverse marks) old)
here_old s q marks m old i some last are at inside =
    let is = innermost marks m some last in
    let those = subst (λ ms. AreMarks ms old) is are in
    sym (ap (λ ms. here s q (cut_at ms old)) is ∙ bound_inside s q m.start old i those.0 those.1 at inside)

pub here_new : (s : Space) (q : List ℕ) (marks : List Mark) (m : Mark) (old : List Binding) → length marks - 1 < length marks
    → m ≡ get_or marks (length marks - 1) m → AreMarks (reverse marks) old → ((i : ℕ) → newest s q old ≡ Some i → i < m.start)
    → None ≡ here s q (cut_at (reverse marks) old)
here_new s q marks m old some last are outside =
    let is = innermost marks m some last in
    let those = subst (λ ms. AreMarks ms old) is are in
    sym (ap (λ ms. here s q (cut_at ms old)) is ∙ bound_outside s q m.start old those.0 those.1 outside)

pub here_none : (s : Space) (q : List ℕ) (marks : List Mark) (old : List Binding) → length marks ≡ 0 → None ≡ here s q (cut_at (reverse marks) old)
here_none s q [] old none = refl
here_none s q (m ∷ marks) old none = let bad : ⊥ = omega (arith, none) in absurd bad

pub kind_some : (marks : List Mark) (m : Mark) (old : List Binding) → length marks - 1 < length marks → m ≡ get_or marks (length marks - 1) m
    → Some m.kind ≡ innermost_kind (cut_at (reverse marks) old)
kind_some marks m old some last = sym (ap (λ ms. innermost_kind (cut_at ms old)) (innermost marks m some last))

pub kind_none : (marks : List Mark) (old : List Binding) → length marks ≡ 0 → None ≡ innermost_kind (cut_at (reverse marks) old)
kind_none [] old none = refl
kind_none (m ∷ marks) old none = let bad : ⊥ = omega (arith, none) in absurd bad
