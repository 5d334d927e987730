-- What is gathered unit by unit and anchor by anchor, against the list of all occurrences.
use Rattle.std.proofs.Common.{◌≡◌, ◌++◌, Bool, true, false, ◌&&◌, ◌||◌, List, [], ◌∷◌, refl, sym, ap, ◌∙◌}
use Rattle.std.specs.Prelude.{map, flat_map, if◌then◌else◌}
use Rattle.std.specs.Bool.{Decides}
use Rattle.std.specs.List.{filter, list_any}
use Rattle.indexmap.specs.IndexSet.{IndexSet}
use Rattle.tok_data.specs.declared.sources.TokId.{TokId}
use Rattle.scope_tables.specs.declared.entities.Anchor.{Anchor}
use Rattle.scope_tables.specs.declared.entities.Occ.{Occ}
use Rattle.unit_index.specs.declared.shared.Asked.{Asked}
use Rattle.unit_index.specs.Definition.{toks_that}
use Rattle.unit_index.specs.Known.{Known}
use Rattle.scope_tables.specs.Occurrences.{same_tok, same_anchor, counts, is_at}
use Rattle.unit_index.specs.Occurrences.{is_of, occs_of, all_occs, anchors_of, has_anchor, shared}
use Rattle.unit_index.specs.Sets as sets
use Rattle.unit_index.specs.Shared.{is_asked, is_under, gives}
use Rattle.unit_index.proofs.WalkLemmas.{anchor_exact}

-- ---- any

or_assoc : (a b c : Bool) → (a || b) || c ≡ a || (b || c)
or_assoc true b c = refl
or_assoc false b c = refl

any_append : {A : Type 0} (f : A → Bool) (xs ys : List A) → list_any f (xs ++ ys) ≡ (list_any f xs || list_any f ys)
any_append f [] ys = refl
any_append f (x ∷ xs) ys = ap (λ b. f x || b) (any_append f xs ys) ∙ sym (or_assoc (f x) (list_any f xs) (list_any f ys))

pub any_map : {A B : Type 0} (f : B → Bool) (g : A → B) (xs : List A) → list_any f (map g xs) ≡ list_any (λ x. f (g x)) xs
any_map f g [] = refl
any_map f g (x ∷ xs) = ap (λ b. f (g x) || b) (any_map f g xs)

any_if : {A : Type 0} (f : A → Bool) (c : Bool) (x : A) (xs : List A) → list_any f (if c then x ∷ xs else xs) ≡ ((f x && c) || list_any f xs)
any_if f true x xs = ap (λ b. b || list_any f xs) (sym (and_true (f x)))
  where
    and_true : (b : Bool) → b && true ≡ b
    and_true true = refl
    and_true false = refl
any_if f false x xs = ap (λ b. b || list_any f xs) (sym (and_false (f x)))
  where
    and_false : (b : Bool) → b && false ≡ false
    and_false true = refl
    and_false false = refl

pub any_filter : {A : Type 0} (f p : A → Bool) (xs : List A) → list_any f (filter p xs) ≡ list_any (λ x. f x && p x) xs
any_filter f p [] = refl
any_filter f p (x ∷ xs) = any_if f (p x) x (filter p xs) ∙ ap (λ b. (f x && p x) || b) (any_filter f p xs)

pub any_same : {A : Type 0} (f g : A → Bool) → ((x : A) → f x ≡ g x) → (xs : List A) → list_any f xs ≡ list_any g xs
any_same f g h [] = refl
any_same f g h (x ∷ xs) = (λ i. h x i || list_any f xs) ∙ ap (λ b. g x || b) (any_same f g h xs)

-- all units joined
pub any_joined : {A B : Type 0} (f : B → Bool) (g : A → List B) (xs : List A) → list_any f (flat_map g xs) ≡ list_any (λ x. list_any f (g x)) xs
any_joined f g [] = refl
any_joined f g (x ∷ xs) = any_append f (g x) (flat_map g xs) ∙ ap (λ b. list_any f (g x) || b) (any_joined f g xs)

pub none_of : {A : Type 0} (f : A → Bool) (xs : List A) → list_any (λ x. f x && false) xs ≡ false
none_of f [] = refl
none_of f (x ∷ xs) = ap (λ b. b || list_any (λ y. f y && false) xs) (and_false (f x)) ∙ none_of f xs
  where
    and_false : (b : Bool) → b && false ≡ false
    and_false true = refl
    and_false false = refl

or_swap : (a b c d : Bool) → (a || b) || (c || d) ≡ (a || c) || (b || d)
or_swap true b c d = refl
or_swap false true true d = refl
or_swap false true false d = refl
or_swap false false c d = refl

pub any_or : {A : Type 0} (f g : A → Bool) (xs : List A) → (list_any f xs || list_any g xs) ≡ list_any (λ x. f x || g x) xs
any_or f g [] = refl
any_or f g (x ∷ xs) = or_swap (f x) (list_any f xs) (g x) (list_any g xs) ∙ ap (λ b. (f x || g x) || b) (any_or f g xs)

-- ---- equal keys

same_bool : (a b : Bool) → (a ≡ true → b ≡ true) → (b ≡ true → a ≡ true) → a ≡ b
same_bool true b f g = sym (f refl)
same_bool false true f g = g refl
same_bool false false f g = refl

symmetric : {A : Type 0} (same : A → A → Bool) → ((x y : A) → Decides (same x y) (x ≡ y)) → (x y : A) → same x y ≡ same y x
symmetric same exact x y = same_bool (same x y) (same y x) (λ e. (exact y x).1 (sym ((exact x y).0 e))) (λ e. (exact x y).1 (sym ((exact y x).0 e)))

-- ---- the anchors of a token

pub under_all : (us : List Known) (t : TokId) (q : Anchor) → list_any (λ u. list_any (is_under q) (filter (is_at t) (occs_of u))) us ≡ list_any (same_anchor q) (anchors_of us t)
under_all us t q =
    any_same (λ u. list_any (is_under q) (filter (is_at t) (occs_of u))) (λ u. list_any (λ o. is_under q o && is_at t o) (occs_of u)) (λ u. any_filter (is_under q) (is_at t) (occs_of u)) us
    ∙ sym (any_joined (λ o. is_under q o && is_at t o) occs_of us)
    ∙ sym (any_filter (is_under q) (is_at t) (all_occs us))
    ∙ any_same (is_under q) (λ o. same_anchor q o.anchor) (λ o. symmetric same_anchor anchor_exact o.anchor q) (filter (is_at t) (all_occs us))
    ∙ sym (any_map (same_anchor q) (λ o. o.anchor) (filter (is_at t) (all_occs us)))

-- ---- the mentions of anchors

parts : (f c s r : Bool) → ((f && (c && s)) || (f && (c && r))) ≡ (f && (c && (s || r)))
parts false c s r = refl
parts true false s r = refl
parts true true s r = refl

of_anchors : (f : Occ → Bool) (ks : List Anchor) (os : List Occ) → list_any (λ a. list_any f (filter (is_of a) os)) ks ≡ list_any (λ o. f o && has_anchor ks o) os
of_anchors f [] os = sym (any_same (λ o. f o && has_anchor [] o) (λ o. f o && false) (λ o. ap (λ b. f o && b) (nothing (counts o.role))) os ∙ none_of f os)
  where
    nothing : (b : Bool) → b && false ≡ false
    nothing true = refl
    nothing false = refl
of_anchors f (k ∷ ks) os =
    (λ i. any_filter f (is_of k) os i || of_anchors f ks os i)
    ∙ any_or (λ o. f o && is_of k o) (λ o. f o && has_anchor ks o) os
    ∙ any_same (λ o. (f o && is_of k o) || (f o && has_anchor ks o)) (λ o. f o && has_anchor (k ∷ ks) o)
    (λ o. parts (f o) (counts o.role) (same_anchor o.anchor k) (list_any (same_anchor o.anchor) ks)) os

turned : (d s h : Bool) → (d && s) && h ≡ (s && d) && h
turned true true h = refl
turned true false h = refl
turned false true h = refl
turned false false h = refl

-- all units' mentions of some anchors, which are those of a token
pub mentioned : (k : Asked) (us : List Known) (t : TokId) (keys : List Anchor) (q : TokId) → ((a : Anchor) → list_any (same_anchor a) keys ≡ list_any (same_anchor a) (anchors_of us t))
    → list_any (λ u. list_any (λ a. list_any (gives k q) (filter (is_of a) (occs_of u))) keys) us ≡ list_any (λ x. same_tok x q) (toks_that (is_asked k) (shared us t))
mentioned k us t keys q alike =
    any_same (λ u. list_any (λ a. list_any (gives k q) (filter (is_of a) (occs_of u))) keys) (λ u. list_any (λ o. gives k q o && has_anchor keys o) (occs_of u))
    (λ u. of_anchors (gives k q) keys (occs_of u)) us
    ∙ sym (any_joined (λ o. gives k q o && has_anchor keys o) occs_of us)
    ∙ any_same (λ o. gives k q o && has_anchor keys o) (λ o. (same_tok o.tok q && is_asked k o.role) && has_anchor (anchors_of us t) o)
    (λ o. turned (is_asked k o.role) (same_tok o.tok q) (has_anchor keys o) ∙ ap (λ b. (same_tok o.tok q && is_asked k o.role) && (counts o.role && b)) (alike o.anchor)) (all_occs us)
    ∙ sym (any_filter (λ o. same_tok o.tok q && is_asked k o.role) (has_anchor (anchors_of us t)) (all_occs us))
    ∙ sym (any_filter (λ o. same_tok o.tok q) (λ o. is_asked k o.role) (shared us t))
    ∙ sym (any_map (λ x. same_tok x q) (λ o. o.tok) (filter (λ o. is_asked k o.role) (shared us t)))

-- a set with the anchors of a token
pub keys_alike : {S : Type 0} (set : IndexSet Anchor S) (us : List Known) (t : TokId)
    → ((q : Anchor) → sets.has_anchor set q ≡ list_any (λ u. list_any (is_under q) (filter (is_at t) (occs_of u))) us)
    → (a : Anchor) → list_any (same_anchor a) set.keys ≡ list_any (same_anchor a) (anchors_of us t)
unfolding sets.has_anchor
keys_alike set us t has a = has a ∙ under_all us t a

pub any_here : {A : Type 0} (f : A → Bool) (x : A) (xs ys : List A) → xs ≡ x ∷ ys → f x ≡ true → true ≡ list_any f xs
any_here f x xs ys is holds = sym (ap (list_any f) is ∙ ap (λ b. b || list_any f ys) holds)

pub any_nowhere : {A : Type 0} (f : A → Bool) (xs : List A) → xs ≡ [] → false ≡ list_any f xs
any_nowhere f xs is = sym (ap (list_any f) is)
