-- A class is a list that chains of links lead to, by way of the tokens that there are.
use Rattle.std.proofs.Common.{◌≡◌, Bool, true, false, ◌&&◌, ◌||◌, cond, List, [], ◌∷◌, ◌++◌, filter, inl, inr, refl, sym, ap, subst, ◌∙◌}
use Rattle.std.specs.Prelude.{◌⊎◌}
use Rattle.std.specs.List.{list_any}
use Rattle.std.specs.Ordering.{is_eq, ordering_reverse}
use Rattle.std.specs.declared.cmp.Ordering.{Ordering}
use Rattle.std.specs.declared.cmp.Ordering.TheVariants.{Less, Equal, Greater}
use Rattle.std.proofs.lemmas.Map.Lookups.{btree_set_from_contains}
use Rattle.tok_data.specs.declared.sources.TokId.{TokId}
use Rattle.scope_tables.specs.declared.entities.Anchor.{Anchor}
use Rattle.scope_tables.specs.declared.entities.Anchor.TheVariants.{External, Local, Made, Macro}
use Rattle.scope_tables.specs.declared.entities.Occ.{Occ}
use Rattle.scope_tables.specs.Occurrences.{counts, same_anchor, same_tok}
use Rattle.rename_core.specs.Classes.{Has, IsClass, Linked, in_a_unit, by_name, Reaches, one, more, tok_cmp}
use Rattle.rename_core.specs.Chained.{is_external, has_too, are_linked, toks_in, toks_of, leads, class_toks}
use Rattle.rename_core.specs.Occurrences.{anchors_at, denotes, in_class}
use Rattle.rename_core.proofs.LinkLemmas.{and_true, both, denotes_occurs}
use Rattle.rename_core.proofs.MentionLemmas.{anchor_exact, tok_exact}
use Rattle.rename_core.proofs.OrderLemmas.{has_same, ordered, tok_cmp_exact, tok_order}
use Rattle.rename_core.proofs.WalkLemmas.{either_true, or_first, or_later}

-- ---- lists

module _ {A : Type 0} where
  pub any_has : (f : A → Bool) (xs : List A) → list_any f xs ≡ true → (x : A) × (Has xs x) × (f x ≡ true)
  any_has f [] e = absurd (cc e)
  any_has f (x ∷ xs) e = elim (either_true (f x) (list_any f xs) e) [
    | inl h ↦ (x, inl refl, h)
    | inr h ↦ let m = any_has f xs h in (m.0, inr m.1, m.2)
  ]

  pub has_any : (f : A → Bool) (xs : List A) (x : A) → Has xs x → f x ≡ true → list_any f xs ≡ true
  has_any f [] x h e = absurd h
  has_any f (y ∷ ys) x h e = elim h [
    | inl i ↦ or_first (f y) (list_any f ys) (ap f i ∙ e)
    | inr l ↦ or_later (f y) (list_any f ys) (has_any f ys x l e)
  ]

  has_front : (xs ys : List A) (x : A) → Has xs x → Has (xs ++ ys) x
  has_front [] ys x h = absurd h
  has_front (y ∷ xs) ys x h = elim h [
    | inl i ↦ inl i
    | inr l ↦ inr (has_front xs ys x l)
  ]

  has_back : (xs ys : List A) (x : A) → Has ys x → Has (xs ++ ys) x
  has_back [] ys x h = h
  has_back (y ∷ xs) ys x h = inr (has_back xs ys x h)

  filtered_by : (p : A → Bool) (y x : A) (ys : List A) (b : Bool) → p y ≡ b → (y ≡ x) ⊎ Has (filter p ys) x → p x ≡ true → Has (cond b (y ∷ filter p ys) (filter p ys)) x
  filtered_by p y x ys true e h is = h
  filtered_by p y x ys false e h is = elim h [
    | inl i ↦ absurd (let bad : ⊥ = cc (e, ap p i, is) in bad)
    | inr l ↦ l
  ]

  has_filtered : (p : A → Bool) (xs : List A) (x : A) → Has xs x → p x ≡ true → Has (filter p xs) x
  has_filtered p [] x h is = absurd h
  has_filtered p (y ∷ ys) x h is = filtered_by p y x ys (p y) refl (elim h [
    | inl i ↦ inl i
    | inr l ↦ inr (has_filtered p ys x l is)
  ]) is

  passed_by : (p : A → Bool) (y x : A) (ys : List A) (b : Bool) → p y ≡ b → (Has (filter p ys) x → p x ≡ true) → Has (cond b (y ∷ filter p ys) (filter p ys)) x → p x ≡ true
  passed_by p y x ys true e later h = elim h [
    | inl i ↦ ap p (sym i) ∙ e
    | inr l ↦ later l
  ]
  passed_by p y x ys false e later h = later h

  has_passed : (p : A → Bool) (xs : List A) (x : A) → Has (filter p xs) x → p x ≡ true
  has_passed p [] x h = absurd h
  has_passed p (y ∷ ys) x h = passed_by p y x ys (p y) refl (has_passed p ys x) h

same_bool : (a b : Bool) → (a ≡ true → b ≡ true) → (b ≡ true → a ≡ true) → a ≡ b
same_bool true b f g = sym (f refl)
same_bool false true f g = g refl
same_bool false false f g = refl

-- ---- sets of tokens

in_has : (set : List TokId) (s : TokId) → in_class set s ≡ true → Has set s
in_has set s e =
    let m = any_has (same_tok s) set e in
    subst (Has set) (sym ((tok_exact s m.0).0 m.2)) m.1

has_in : (set : List TokId) (s : TokId) → Has set s → in_class set s ≡ true
has_in set s h = has_any (same_tok s) set s h ((tok_exact s s).1 refl)

-- ---- links

denotes_has : (os : List Occ) (s : TokId) (a : Anchor) → denotes os s a ≡ true → Has (anchors_at s os) a
denotes_has os s a e =
    let m = any_has (same_anchor a) (anchors_at s os) e in
    subst (Has (anchors_at s os)) (sym ((anchor_exact a m.0).0 m.2)) m.1

has_denotes : (os : List Occ) (s : TokId) (a : Anchor) → Has (anchors_at s os) a → denotes os s a ≡ true
has_denotes os s a h = has_any (same_anchor a) (anchors_at s os) a h ((anchor_exact a a).1 refl)

external_links : (us : List (List Occ)) (s r : TokId) (os : List Occ) (a : Anchor) → Has us os → denotes os s a ≡ true → is_external a && list_any (λ ps. denotes ps r a) us ≡ true → Linked us s r
external_links us s r os (External name) h d e =
    let m = any_has (λ ps. denotes ps r (External name)) us e in
    by_name s r os m.0 name h m.1 d m.2
external_links us s r os (Local t) h d e = absurd (let bad : ⊥ = cc e in bad)
external_links us s r os (Made t name) h d e = absurd (let bad : ⊥ = cc e in bad)
external_links us s r os (Macro name) h d e = absurd (let bad : ⊥ = cc e in bad)

linked_is : (us : List (List Occ)) (s r : TokId) → are_linked us s r ≡ true → Linked us s r
linked_is us s r e =
    let m = any_has (λ os. list_any (has_too us os r) (anchors_at s os)) us e in
    let n = any_has (has_too us m.0 r) (anchors_at s m.0) m.2 in
    let d = has_denotes m.0 s n.0 n.1 in
    elim (either_true (denotes m.0 r n.0) (is_external n.0 && list_any (λ ps. denotes ps r n.0) us) n.2) [
      | inl h ↦ in_a_unit s r m.0 n.0 m.1 d h
      | inr h ↦ external_links us s r m.0 n.0 m.1 d h
    ]

link_in : (us : List (List Occ)) (s r : TokId) (os : List Occ) (a : Anchor) → Has us os → denotes os s a ≡ true → has_too us os r a ≡ true → are_linked us s r ≡ true
link_in us s r os a h d e =
    has_any (λ os. list_any (has_too us os r) (anchors_at s os)) us os h (has_any (has_too us os r) (anchors_at s os) a (denotes_has os s a d) e)

is_linked : (us : List (List Occ)) (s r : TokId) → Linked us s r → are_linked us s r ≡ true
is_linked us s r (in_a_unit x y os a h ds dr) =
    link_in us s r os a h ds (or_first (denotes os r a) (is_external a && list_any (λ ps. denotes ps r a) us) dr)
is_linked us s r (by_name x y os ps name h k ds dr) =
    link_in us s r os (External name) h ds
    (or_later (denotes os r (External name)) (list_any (λ ps. denotes ps r (External name)) us) (has_any (λ ps. denotes ps r (External name)) us ps k dr))

-- ---- what is linked denotes something

toks_by : (o : Occ) (os : List Occ) (t : TokId) (b : Bool) → counts o.role ≡ b → Has (toks_in os) t ⊎ ((o.tok ≡ t) × (counts o.role ≡ true)) →
    Has (cond b (o.tok ∷ toks_in os) (toks_in os)) t
toks_by o os t true e h = elim h [
  | inl l ↦ inr l
  | inr i ↦ inl i.0
]
toks_by o os t false e h = elim h [
  | inl l ↦ l
  | inr i ↦ absurd (let bad : ⊥ = cc (e, i.1) in bad)
]

toks_occur : (os : List Occ) (t : TokId) (o : Occ) → Has os o → counts o.role ≡ true → o.tok ≡ t → Has (toks_in os) t
toks_occur [] t o h c is = absurd h
toks_occur (p ∷ os) t o h c is = toks_by p os t (counts p.role) refl (elim h [
  | inl i ↦ inr (ap (λ x. x.tok) i ∙ is, ap (λ x. counts x.role) i ∙ c)
  | inr l ↦ inl (toks_occur os t o l c is)
])

toks_has : (us : List (List Occ)) (os : List Occ) (t : TokId) → Has us os → Has (toks_in os) t → Has (toks_of us) t
toks_has [] os t h k = absurd h
toks_has (ps ∷ us) os t h k = elim h [
  | inl i ↦ has_front (toks_in ps) (toks_of us) t (subst (λ x. Has (toks_in x) t) (sym i) k)
  | inr l ↦ has_back (toks_in ps) (toks_of us) t (toks_has us os t l k)
]

denoting : (us : List (List Occ)) (os : List Occ) (t : TokId) (a : Anchor) → Has us os → denotes os t a ≡ true → Has (toks_of us) t
denoting us os t a h d =
    let o = denotes_occurs os t a d in
    toks_has us os t h (toks_occur os t o.occ o.among o.plain o.tok)

linked_toks : (us : List (List Occ)) (s r : TokId) → Linked us s r → Has (toks_of us) r
linked_toks us s r (in_a_unit x y os a h ds dr) = denoting us os r a h dr
linked_toks us s r (by_name x y os ps name h k ds dr) = denoting us ps r (External name) k dr

-- ---- chains

reaches_on : (us : List (List Occ)) (t x s : TokId) → Reaches us t x → Reaches us x s → Reaches us t s
reaches_on us t x s way (one y l) = more x y way l
reaches_on us t x s way (more r y c l) = more r y (reaches_on us t x r way c) l

reached_tok : (us : List (List Occ)) (t s : TokId) → Reaches us t s → Has (toks_of us) s
reached_tok us t s (one x l) = linked_toks us t x l
reached_tok us t s (more r x c l) = linked_toks us r x l

module _ (us : List (List Occ)) where
  leads_reaches : (via : List TokId) (t s : TokId) → leads us via t s ≡ true → Reaches us t s
  unfolding leads
  leads_reaches [] t s e = one s (linked_is us t s e)
  leads_reaches (x ∷ via) t s e = elim (either_true (leads us via t s) (leads us via t x && leads us via x s) e) [
    | inl h ↦ leads_reaches via t s h
    | inr h ↦ let p = both (leads us via t x) (leads us via x s) h in reaches_on us t x s (leads_reaches via t x p.0) (leads_reaches via x s p.1)
  ]

  linked_leads : (via : List TokId) (t s : TokId) → are_linked us t s ≡ true → leads us via t s ≡ true
  unfolding leads
  linked_leads [] t s e = e
  linked_leads (x ∷ via) t s e = or_first (leads us via t s) (leads us via t x && leads us via x s) (linked_leads via t s e)

  into_first : (x : TokId) (via : List TokId) (t : TokId) → leads us (x ∷ via) t x ≡ true → leads us via t x ≡ true
  unfolding leads
  into_first x via t e = elim (either_true (leads us via t x) (leads us via t x && leads us via x x) e) [
    | inl h ↦ h
    | inr h ↦ (both (leads us via t x) (leads us via x x) h).0
  ]

  from_first : (x : TokId) (via : List TokId) (s : TokId) → leads us (x ∷ via) x s ≡ true → leads us via x s ≡ true
  unfolding leads
  from_first x via s e = elim (either_true (leads us via x s) (leads us via x x && leads us via x s) e) [
    | inl h ↦ h
    | inr h ↦ (both (leads us via x x) (leads us via x s) h).1
  ]

  by_first : (x : TokId) (via : List TokId) (t s : TokId) → leads us via t x ≡ true → leads us via x s ≡ true → leads us (x ∷ via) t s ≡ true
  unfolding leads
  by_first x via t s e f = or_later (leads us via t s) (leads us via t x && leads us via x s) (and_true (leads us via t x) (leads us via x s) e f)

  past_first : (x : TokId) (via : List TokId) (t s : TokId) → leads us via t s ≡ true → leads us (x ∷ via) t s ≡ true
  unfolding leads
  past_first x via t s e = or_first (leads us via t s) (leads us via t x && leads us via x s) e

  first_or : (x : TokId) (via : List TokId) (t s : TokId) → leads us (x ∷ via) t s ≡ true → (leads us via t s ≡ true) ⊎ ((leads us via t x ≡ true) × (leads us via x s ≡ true))
  unfolding leads
  first_or x via t s e = elim (either_true (leads us via t s) (leads us via t x && leads us via x s) e) [
    | inl h ↦ inl h
    | inr h ↦ inr (both (leads us via t x) (leads us via x s) h)
  ]

  -- two chains that meet at one of the tokens are one chain
  leads_through : (via : List TokId) (x : TokId) → Has via x → (t s : TokId) → leads us via t x ≡ true → leads us via x s ≡ true → leads us via t s ≡ true
  leads_through [] x h t s e f = absurd h
  leads_through (y ∷ via) x h t s e f = elim h [
    | inl i ↦ by_first y via t s
        (into_first y via t (subst (λ z. leads us (y ∷ via) t z ≡ true) (sym i) e))
        (from_first y via s (subst (λ z. leads us (y ∷ via) z s ≡ true) (sym i) f))
    | inr l ↦ meets y via x t s (leads_through via x l) (first_or y via t x e) (first_or y via x s f)
  ]
    where
      meets : (y : TokId) (via : List TokId) (x t s : TokId) → ((t s : TokId) → leads us via t x ≡ true → leads us via x s ≡ true → leads us via t s ≡ true) →
          (leads us via t x ≡ true) ⊎ ((leads us via t y ≡ true) × (leads us via y x ≡ true)) →
          (leads us via x s ≡ true) ⊎ ((leads us via x y ≡ true) × (leads us via y s ≡ true)) → leads us (y ∷ via) t s ≡ true
      meets y via x t s joined (inl e) (inl f) = past_first y via t s (joined t s e f)
      meets y via x t s joined (inl e) (inr f) = by_first y via t s (joined t y e f.0) f.1
      meets y via x t s joined (inr e) (inl f) = by_first y via t s e.0 (joined y s e.1 f)
      meets y via x t s joined (inr e) (inr f) = by_first y via t s e.0 f.1

  reaches_leads : (t s : TokId) → Reaches us t s → leads us (toks_of us) t s ≡ true
  reaches_leads t s (one x l) = linked_leads (toks_of us) t x (is_linked us t x l)
  reaches_leads t s (more r x c l) =
      leads_through (toks_of us) r (reached_tok us t r c) t x (reaches_leads t r c) (linked_leads (toks_of us) r x (is_linked us r x l))

-- ---- the class

module _ (us : List (List Occ)) (t : TokId) where
  class_reached : (s : TokId) → in_class (filter (leads us (toks_of us) t) (toks_of us)) s ≡ true → Reaches us t s
  class_reached s e =
      leads_reaches us (toks_of us) t s
      (has_passed (leads us (toks_of us) t) (toks_of us) s (in_has (filter (leads us (toks_of us) t) (toks_of us)) s e))

  reached_class : (s : TokId) → Reaches us t s → in_class (filter (leads us (toks_of us) t) (toks_of us)) s ≡ true
  reached_class s way =
      has_in (filter (leads us (toks_of us) t) (toks_of us)) s
      (has_filtered (leads us (toks_of us) t) (toks_of us) s (reached_tok us t s way) (reaches_leads us t s way))

  pub is_class : IsClass us t (class_toks us t)
  unfolding class_toks
  is_class = record {
    ordered = ordered (filter (leads us (toks_of us) t) (toks_of us));
    members = λ s. (
      (λ e. class_reached s (sym (has_same (filter (leads us (toks_of us) t) (toks_of us)) s) ∙ e)),
      (λ way. has_same (filter (leads us (toks_of us) t) (toks_of us)) s ∙ reached_class s way),
    );
  }

-- ---- ascending lists with the same tokens

balanced : (r : Ordering) → r ≡ ordering_reverse r → r ≡ Equal
balanced Less e = absurd (let bad : ⊥ = cc e in bad)
balanced Equal e = refl
balanced Greater e = absurd (let bad : ⊥ = cc e in bad)

itself : (t : TokId) → tok_cmp t t ≡ Equal
itself t = balanced (tok_cmp t t) (tok_order.antisymm t t)

equal : (r : Ordering) → is_eq r ≡ true → r ≡ Equal
equal Less e = absurd (let bad : ⊥ = cc e in bad)
equal Equal e = refl
equal Greater e = absurd (let bad : ⊥ = cc e in bad)

eq_is : (q t : TokId) → is_eq (tok_cmp q t) ≡ same_tok q t
eq_is q t =
    same_bool (is_eq (tok_cmp q t)) (same_tok q t)
    (λ e. (tok_exact q t).1 (tok_cmp_exact q t (equal (tok_cmp q t) e)))
    (λ e. ap is_eq (ap (tok_cmp q) (sym ((tok_exact q t).0 e)) ∙ itself q))

found_is : (q : TokId) (ts : List TokId) → list_any (λ k. is_eq (tok_cmp q k)) ts ≡ in_class ts q
found_is q [] = refl
found_is q (t ∷ ts) = λ i. eq_is q t i || found_is q ts i

-- no other list is the class
pub one_class : (us : List (List Occ)) (t : TokId) (class : List TokId) → IsClass us t class → class ≡ class_toks us t
one_class us t class is =
    btree_set_from_contains tok_order (record { keys = class }) (record { keys = class_toks us t }) is.ordered (is_class us t).ordered
    (λ q. found_is q class ∙ same_bool (in_class class q) (in_class (class_toks us t) q) (λ e. ((is_class us t).members q).1 ((is.members q).0 e)) (λ e. (is.members q).1 (((is_class us t).members q).0 e))
    ∙ sym (found_is q (class_toks us t))) tok_cmp_exact
