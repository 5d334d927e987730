-- The newest binding of an ordinary name that has linkage, along the bindings that hide one another.
use Rattle.std.proofs.Common.{arith, ◌≡◌, ◌<◌, ◌≤◌, ◌+◌, ◌++◌, ℕ, zero, suc, Bool, true, false, List, [], ◌∷◌, length, take, drop, map, get_or, Option, None, Some, refl, sym, ap, subst, ◌∙◌}
use Rattle.std.specs.Prelude.{if◌then◌else◌}
use Rattle.std.proofs.lemmas.List.{take-append-drop, take-take, take_all, length-map, get_or-take, get_or-map}
use Rattle.type_data.specs.declared.members.Space.{Space}
use Rattle.type_data.specs.declared.members.Space.TheVariants.{Ordinary}
use Rattle.scope_tables.specs.Indexed.{IsIndexed, binding_of}
use Rattle.scope_tables.specs.Marks.{cut_at, IsOnce, AreMarks}
use Rattle.scope_tables.specs.Places.{newest, or_here, entity_in, last_linked, linked_by}
use Rattle.scope_tables.specs.Scopes.{binds, bound, if_linked, is_linked, linked, or_outside}
use Rattle.scope_tables.specs.declared.bindings.Binding.{Binding}
use Rattle.scope_tables.specs.declared.entities.Entity.{Entity}
use Rattle.scope_tables.specs.declared.index.Index.{Index}
use Rattle.scope_tables.specs.declared.scopes.Mark.{Mark}
use Rattle.scope_tables.specs.declared.table.Entry.{Entry}
use Rattle.scope_tables.proofs.NewestLemmas.{binds_is, newest_below}
use Rattle.scope_tables.proofs.TableLemmas.{entity_at}

or_assoc : (a b c : Option Entity) → or_outside (or_outside a b) c ≡ or_outside a (or_outside b c)
or_assoc (Some x) b c = refl
or_assoc None b c = refl

or_nothing : (a : Option Entity) → or_outside a None ≡ a
or_nothing (Some x) = refl
or_nothing None = refl

-- by scopes
linked_append : (q : List ℕ) (xs ys : List Binding) → last_linked q (xs ++ ys) ≡ or_outside (last_linked q ys) (last_linked q xs)
linked_append q [] ys = sym (or_nothing (last_linked q ys))
linked_append q (x ∷ xs) ys = ap (λ o. or_outside o (linked_by q x)) (linked_append q xs ys) ∙ or_assoc (last_linked q ys) (last_linked q xs) (linked_by q x)

linked_once : (q : List ℕ) (bs : List Binding) → IsOnce bs → if_linked (bound Ordinary q bs) ≡ last_linked q bs
linked_once q [] once = refl
linked_once q (b ∷ bs) once = step (binds Ordinary q b) refl (linked_once q bs once.1)
  where
    step : (t : Bool) → binds Ordinary q b ≡ t → if_linked (bound Ordinary q bs) ≡ last_linked q bs → if_linked (bound Ordinary q (b ∷ bs)) ≡ last_linked q (b ∷ bs)
    step true e more =
        let is = binds_is Ordinary q b e in
        let none : bound Ordinary q bs ≡ None = ap (λ s. bound s q bs) (sym is.0) ∙ ap (λ n. bound b.space n bs) (sym is.1) ∙ once.0 in
        let rest : last_linked q bs ≡ None = sym more ∙ ap if_linked none in
        ap (λ t. if_linked (if t then Some b.entity else bound Ordinary q bs)) e
        ∙ sym (ap (λ o. or_outside o (linked_by q b)) rest ∙ ap (λ t. if t then if_linked (Some b.entity) else None) e)
    step false e more =
        ap (λ t. if_linked (if t then Some b.entity else bound Ordinary q bs)) e ∙ more
        ∙ sym (ap (λ t. or_outside (last_linked q bs) (if t then if_linked (Some b.entity) else None)) e ∙ or_nothing (last_linked q bs))

pub linked_scopes : (q : List ℕ) (ms : List Mark) (bs : List Binding) → AreMarks ms bs → last_linked q bs ≡ linked q (cut_at ms bs)
linked_scopes q [] bs none = ap (last_linked q) none
linked_scopes q (m ∷ ms) bs are =
    let xs = take m.start bs in
    let ys = drop m.start bs in
    ap (last_linked q) (sym (take-append-drop m.start bs)) ∙ linked_append q xs ys
    ∙ ap (λ o. or_outside o (last_linked q xs)) (sym (linked_once q ys are.1))
    ∙ ap (or_outside (if_linked (bound Ordinary q ys))) (linked_scopes q ms xs are.2)

-- by the bindings of the name
linked_none : (q : List ℕ) (bs : List Binding) → newest Ordinary q bs ≡ None → last_linked q bs ≡ None
linked_none q [] none = refl
linked_none q (b ∷ bs) none = step (newest Ordinary q bs) (binds Ordinary q b) refl refl none (λ h. linked_none q bs h)
  where
    step : (o : Option ℕ) (t : Bool) → newest Ordinary q bs ≡ o → binds Ordinary q b ≡ t → or_here (newest Ordinary q bs) (binds Ordinary q b) ≡ None
        → (newest Ordinary q bs ≡ None → last_linked q bs ≡ None) → last_linked q (b ∷ bs) ≡ None
    step (Some i) t e f h more = let bad : Some (i + 1) ≡ None = sym (ap (λ o. or_here o (binds Ordinary q b)) e) ∙ h in cc bad
    step None true e f h more = let bad : Some 0 ≡ None = sym (ap (λ o. or_here o (binds Ordinary q b)) e ∙ ap (or_here None) f) ∙ h in cc bad
    step None false e f h more = ap (λ o. or_outside o (linked_by q b)) (more e) ∙ ap (λ t. if t then if_linked (Some b.entity) else None) f

pub linked_at : (q : List ℕ) (bs : List Binding) (i : ℕ) → newest Ordinary q bs ≡ Some i
    → last_linked q bs ≡ or_outside (if_linked (entity_in bs i)) (last_linked q (take i bs))
linked_at q [] i h = cc h
linked_at q (b ∷ bs) i h = step (newest Ordinary q bs) (binds Ordinary q b) refl refl h (λ j g. linked_at q bs j g)
  where
    step : (o : Option ℕ) (t : Bool) → newest Ordinary q bs ≡ o → binds Ordinary q b ≡ t → or_here (newest Ordinary q bs) (binds Ordinary q b) ≡ Some i
        → ((j : ℕ) → newest Ordinary q bs ≡ Some j → last_linked q bs ≡ or_outside (if_linked (entity_in bs j)) (last_linked q (take j bs)))
        → last_linked q (b ∷ bs) ≡ or_outside (if_linked (entity_in (b ∷ bs) i)) (last_linked q (take i (b ∷ bs)))
    step (Some j) t e f h more =
        let at : Some (j + 1) ≡ Some i = sym (ap (λ o. or_here o (binds Ordinary q b)) e) ∙ h in
        let is : j + 1 ≡ i = cc at in
        let n : suc j ≡ i = omega (arith, is) in
        ap (λ o. or_outside o (linked_by q b)) (more j e)
        ∙ or_assoc (if_linked (entity_in bs j)) (last_linked q (take j bs)) (linked_by q b)
        ∙ ap (λ k. or_outside (if_linked (entity_in (b ∷ bs) k)) (last_linked q (take k (b ∷ bs)))) n
    step None true e f h more =
        let at : Some 0 ≡ Some i = sym (ap (λ o. or_here o (binds Ordinary q b)) e ∙ ap (or_here None) f) ∙ h in
        let is : 0 ≡ i = cc at in
        ap (λ o. or_outside o (linked_by q b)) (linked_none q bs e) ∙ ap (λ t. if t then if_linked (Some b.entity) else None) f
        ∙ sym (or_nothing (if_linked (Some b.entity)))
        ∙ ap (λ k. or_outside (if_linked (entity_in (b ∷ bs) k)) (last_linked q (take k (b ∷ bs)))) is
    step None false e f h more = let bad : None ≡ Some i = sym (ap (λ o. or_here o (binds Ordinary q b)) e ∙ ap (or_here None) f) ∙ h in cc bad

newest_binds : (s : Space) (q : List ℕ) (bs : List Binding) (i : ℕ) (d : Binding) → newest s q bs ≡ Some i → binds s q (get_or bs i d) ≡ true
newest_binds s q [] i d h = cc h
newest_binds s q (b ∷ bs) i d h = step (newest s q bs) (binds s q b) refl refl h (λ j g. newest_binds s q bs j d g)
  where
    step : (o : Option ℕ) (t : Bool) → newest s q bs ≡ o → binds s q b ≡ t → or_here (newest s q bs) (binds s q b) ≡ Some i
        → ((j : ℕ) → newest s q bs ≡ Some j → binds s q (get_or bs j d) ≡ true) → binds s q (get_or (b ∷ bs) i d) ≡ true
    step (Some j) t e f h more =
        let at : Some (j + 1) ≡ Some i = sym (ap (λ o. or_here o (binds s q b)) e) ∙ h in
        let is : j + 1 ≡ i = cc at in
        let n : i ≡ suc j = omega (arith, is) in
        ap (λ k. binds s q (get_or (b ∷ bs) k d)) n ∙ more j e
    step None true e f h more =
        let at : Some 0 ≡ Some i = sym (ap (λ o. or_here o (binds s q b)) e ∙ ap (or_here None) f) ∙ h in
        let is : i ≡ 0 = cc at in
        ap (λ k. binds s q (get_or (b ∷ bs) k d)) is ∙ f
    step None false e f h more = let bad : None ≡ Some i = sym (ap (λ o. or_here o (binds s q b)) e ∙ ap (or_here None) f) ∙ h in cc bad

-- what is left to look at: the bindings up to some place, of which this one is the newest
pub record IsLeft (q : List ℕ) (bs : List Binding) (place : Option ℕ) : Type 0 where
  pub upto : ℕ
  pub newest_is : newest Ordinary q (take upto bs) ≡ place
  pub linked_is : last_linked q (take upto bs) ≡ last_linked q bs

short_take : (n : ℕ) (bs : List Binding) → length (take n bs) ≤ n
short_take zero bs = omega arith
short_take (suc n) [] = omega arith
short_take (suc n) (b ∷ bs) = let h = short_take n bs in omega (arith, h)

no_longer_take : (n : ℕ) (bs : List Binding) → length (take n bs) ≤ length bs
no_longer_take zero bs = omega arith
no_longer_take (suc n) [] = omega arith
no_longer_take (suc n) (b ∷ bs) = let h = no_longer_take n bs in omega (arith, h)

entity_take : (n : ℕ) (bs : List Binding) (i : ℕ) → i < length (take n bs) → entity_in (take n bs) i ≡ entity_in bs i
entity_take zero bs i h = let bad : ⊥ = omega (arith, h) in absurd bad
entity_take (suc n) [] i h = refl
entity_take (suc n) (b ∷ bs) zero h = refl
entity_take (suc n) (b ∷ bs) (suc i) h = entity_take n bs i (omega (arith, h))

pub left_begins : (q : List ℕ) (bs : List Binding) (place : Option ℕ) → place ≡ newest Ordinary q bs → IsLeft q bs place
left_begins q bs place is =
    let all : take (length bs) bs ≡ bs = take_all (length bs) bs (omega arith) in
    record { upto = length bs; newest_is = ap (newest Ordinary q) all ∙ sym is; linked_is = ap (last_linked q) all }

pub left_within : (q : List ℕ) (es : List Entry) (i : ℕ) → IsLeft q (map binding_of es) (Some i) → i < length es
left_within q es i left =
    let below = newest_below Ordinary q (take left.upto (map binding_of es)) i left.newest_is in
    let most = no_longer_take left.upto (map binding_of es) in
    let count = length-map es binding_of in
    omega (arith, below, most, count)

-- what the binding at the place says
left_says : (q : List ℕ) (es : List Entry) (i : ℕ) (e : Entry) → e ≡ get_or es i e → (left : IsLeft q (map binding_of es) (Some i))
    → or_outside (if_linked (Some e.binding.entity)) (last_linked q (take i (map binding_of es))) ≡ last_linked q (map binding_of es)
left_says q es i e here left =
    let bs = map binding_of es in
    let below = newest_below Ordinary q (take left.upto bs) i left.newest_is in
    let most = short_take left.upto bs in
    let found : entity_in (take left.upto bs) i ≡ Some e.binding.entity =
    entity_take left.upto bs i below ∙ sym (ap (λ (x : Entry). Some x.binding.entity) here ∙ entity_at es i e (left_within q es i left)) in
    sym (sym left.linked_is ∙ linked_at q (take left.upto bs) i left.newest_is
    ∙ ap (λ o. or_outside (if_linked o) (last_linked q (take i (take left.upto bs)))) found
    ∙ ap (λ xs. or_outside (if_linked (Some e.binding.entity)) (last_linked q xs)) (take-take i left.upto bs (omega (arith, below, most))))

pub left_found : (q : List ℕ) (es : List Entry) (i : ℕ) (e : Entry) → e ≡ get_or es i e → IsLeft q (map binding_of es) (Some i)
    → is_linked e.binding.entity.linkage ≡ true → Some e.binding.entity ≡ last_linked q (map binding_of es)
left_found q es i e here left has =
    sym (ap (λ t. or_outside (if t then Some e.binding.entity else None) (last_linked q (take i (map binding_of es)))) has) ∙ left_says q es i e here left

pub left_turns : (q : List ℕ) (es : List Entry) (index : Index) (i : ℕ) (e : Entry) → e ≡ get_or es i e → IsIndexed es index → IsLeft q (map binding_of es) (Some i)
    → is_linked e.binding.entity.linkage ≡ false → IsLeft q (map binding_of es) e.hidden
left_turns q es index i e here was left lacks =
    let bs = map binding_of es in
    let within = left_within q es i left in
    let below = newest_below Ordinary q (take left.upto bs) i left.newest_is in
    let most = short_take left.upto bs in
    let at : get_or (take left.upto bs) i e.binding ≡ e.binding =
    get_or-take left.upto bs i e.binding (omega (arith, below, most)) ∙ get_or-map binding_of es i e e.binding within ∙ ap binding_of (sym here) in
    let binds_it : binds Ordinary q e.binding ≡ true = ap (binds Ordinary q) (sym at) ∙ newest_binds Ordinary q (take left.upto bs) i e.binding left.newest_is in
    let is = binds_is Ordinary q e.binding binds_it in
    record {
      upto = i;
      newest_is =
          sym (ap (λ (x : Entry). x.hidden) here ∙ was.hidden i e within
          ∙ ap (λ (x : Entry). newest x.binding.space x.binding.name (take i bs)) (sym here)
          ∙ ap (λ s. newest s e.binding.name (take i bs)) is.0 ∙ ap (λ n. newest Ordinary n (take i bs)) is.1);
      linked_is =
          sym (ap (λ t. or_outside (if t then Some e.binding.entity else None) (last_linked q (take i bs))) lacks) ∙ left_says q es i e here left;
    }

pub left_smaller : (q : List ℕ) (es : List Entry) (index : Index) (i j : ℕ) (e : Entry) → e ≡ get_or es i e → IsIndexed es index → i < length es
    → e.hidden ≡ Some j → j < i
left_smaller q es index i j e here was within is =
    let bs = map binding_of es in
    let at : newest (get_or es i e).binding.space (get_or es i e).binding.name (take i bs) ≡ Some j =
    sym (ap (λ (x : Entry). x.hidden) here ∙ was.hidden i e within) ∙ is in
    let below = newest_below (get_or es i e).binding.space (get_or es i e).binding.name (take i bs) j at in
    let most = short_take i bs in
    omega (arith, below, most)

pub left_ends : (q : List ℕ) (bs : List Binding) → IsLeft q bs None → None ≡ last_linked q bs
left_ends q bs left = sym (linked_none q (take left.upto bs) left.newest_is) ∙ left.linked_is

-- how many places may come yet
abbrev pub places_left : Option ℕ → ℕ
places_left None = 0
places_left (Some i) = i + 1

pub fewer_left : (o p : Option ℕ) (i : ℕ) → p ≡ Some i → ((j : ℕ) → o ≡ Some j → j < i) → places_left o < places_left p
fewer_left o p i is below = subst (λ x. places_left o < places_left x) (sym is) (step o below)
  where
    step : (o : Option ℕ) → ((j : ℕ) → o ≡ Some j → j < i) → places_left o < i + 1
    step None far = omega arith
    step (Some j) far = let h = far j refl in omega (arith, h)
