-- A way along a chain leads from one occurrence of a key to the next.
use Rattle.std.proofs.Common.{arith, rules, ◌≡◌, ◌<◌, ℕ, ◌+◌, ◌++◌, Bool, true, false, ◌&&◌, List, [], ◌∷◌, length, drop, get_or, Option, Some, refl, sym, ap, subst, ◌∙◌, append_assoc, length-append}
use Rattle.std.proofs.lemmas.Option.{slice_get-get_or}
use Rattle.std.specs.Prelude.{if◌then◌else◌}
use Rattle.std.specs.Bool.{Decides}
use Rattle.std.specs.List.{filter, slice_get}
use Rattle.tok_data.specs.declared.sources.TokId.{TokId}
use Rattle.scope_tables.specs.declared.entities.Anchor.{Anchor}
use Rattle.scope_tables.specs.declared.entities.Entity.{Entity}
use Rattle.scope_tables.specs.declared.entities.Occ.{Occ}
use Rattle.unit_index.specs.declared.chains.By.{By}
use Rattle.unit_index.specs.declared.chains.By.TheVariants as by
use Rattle.scope_tables.specs.Occurrences.{same_tok, same_anchor, counts, is_at}
use Rattle.unit_index.specs.Occurrences.{is_of}
use Rattle.unit_index.specs.Chains.{first_from, alike, chained, left}
use Rattle.unit_index.specs.Codes.{token_code, anchor_code, by_token, by_anchor, by_name}
use Rattle.unit_index.specs.Speaking.{is_named}
use Rattle.unit_index.specs.Walks.{IsThere, Stands, IsOnTheWay}
use Rattle.unit_index.proofs.PlaceLemmas.{dropped, there, cut_at}

-- ---- keys

pub tok_exact : (s t : TokId) → Decides (same_tok s t) (s ≡ t)
tok_exact s t = search rules

pub anchor_exact : (a b : Anchor) → Decides (same_anchor a b) (a ≡ b)
anchor_exact a b = search rules

pub both : (a b : Bool) → a && b ≡ true → (a ≡ true) × (b ≡ true)
both true true e = (refl, refl)
both true false e = absurd (cc e)
both false b e = absurd (cc e)

-- what passes the test has the key, and has it alone
abbrev pub IsKey : By → (Occ → Bool) → Type 0
IsKey b p = (x : Occ) → p x ≡ true → alike b x ≡ p

pub is_token : (t : TokId) → IsKey by.Token (is_at t)
is_token t x e = ap is_at ((tok_exact x.tok t).0 (both (counts x.role) (same_tok x.tok t) e).1)

pub is_anchor : (a : Anchor) → IsKey by.Anchor (is_of a)
is_anchor a x e = ap is_of ((anchor_exact x.anchor a).0 (both (counts x.role) (same_anchor x.anchor a) e).1)

-- occurrences of a key have its number
pub token_number : (t : TokId) (x : Occ) → is_at t x ≡ true → by_token x ≡ token_code t
token_number t x e = ap token_code ((tok_exact x.tok t).0 (both (counts x.role) (same_tok x.tok t) e).1)

pub anchor_number : (a : Anchor) (x : Occ) → is_of a x ≡ true → by_anchor x ≡ anchor_code a
anchor_number a x e = ap anchor_code ((anchor_exact x.anchor a).0 (both (counts x.role) (same_anchor x.anchor a) e).1)

pub name_number : (a : Anchor) (x : Entity) → is_named a x ≡ true → by_name x ≡ anchor_code a
name_number a x e = ap anchor_code ((anchor_exact x.anchor a).0 e)

pub is_alike : (b : By) (x : Occ) → IsKey b (alike b x)
is_alike by.Token x = is_token x.tok
is_alike by.Anchor x = is_anchor x.anchor

-- ---- places

shorter : {A : Type 0} (front : List A) (x : A) (xs : List A) → length front < length (front ++ x ∷ xs)
shorter front x xs = let e = length-append front (x ∷ xs) in omega (arith, e)

-- ---- the first place of a key

-- a place leads to those that pass among what stands behind
abbrev Leads : By → (Occ → Bool) → List Occ → Option ℕ → List Occ → Type 0
Leads b p all at rest = Stands b all at × (left b all at ≡ rest)

leads_here : (b : By) (p : Occ → Bool) (all front xs : List Occ) (x : Occ) (n : ℕ) → IsKey b p → front ++ x ∷ xs ≡ all → length front ≡ n → p x ≡ true
    → Leads b p all (Some n) (x ∷ filter p xs)
leads_here b p all front xs x n key split place holds =
    let same : alike b x ≡ p = key x holds in
    let found = there all front xs x n split place in
    let behind = dropped all front (x ∷ xs) n split place in
    let within : n < length all = subst (λ zs. n < length zs) split (subst (λ k. k < length (front ++ x ∷ xs)) place (shorter front x xs)) in
    let here : filter p (x ∷ xs) ≡ x ∷ filter p xs = ap (λ c. if c then x ∷ filter p xs else filter p xs) holds in (
      (within, subst (IsThere b all) (sym found) (ap (λ f. f x) same ∙ holds)),
      ap (λ o. chained b all o n) found ∙ ap (λ f. filter f (drop n all)) same ∙ ap (filter p) behind ∙ here,
    )

leads_by : (b : By) (p : Occ → Bool) (all xs : List Occ) (x : Occ) (n : ℕ) (c : Bool) → p x ≡ c
    → (p x ≡ true → Leads b p all (Some n) (x ∷ filter p xs)) → Leads b p all (first_from p (n + 1) xs) (filter p xs)
    → Leads b p all (if c then Some n else first_from p (n + 1) xs) (if c then x ∷ filter p xs else filter p xs)
leads_by b p all xs x n true e here later = here e
leads_by b p all xs x n false e here later = later

pub leads : (b : By) (p : Occ → Bool) (all front xs : List Occ) (n : ℕ) → IsKey b p → front ++ xs ≡ all → length front ≡ n
    → Leads b p all (first_from p n xs) (filter p xs)
leads b p all front [] n key split place = (tt, refl)
leads b p all front (x ∷ xs) n key split place =
    leads_by b p all xs x n (p x) refl (leads_here b p all front xs x n key split place)
    (leads b p all (front ++ x ∷ []) xs (n + 1) key (append_assoc front (x ∷ []) xs ∙ split) (length-append front (x ∷ []) ∙ ap (λ k. k + 1) place))

-- ---- the next place of a key

-- one step
pub record IsStep (b : By) (all : List Occ) (i : ℕ) (x : Occ) (next : Option ℕ) : Type 0 where
  pub stands : Stands b all next
  pub goes : left b all (Some i) ≡ x ∷ left b all next

pub steps : (b : By) (all : List Occ) (codes : List ℕ) (i : ℕ) (x : Occ) (o : Option ℕ) → IsOnTheWay b all codes (Some i) → slice_get all i ≡ Some x
    → o ≡ first_from (alike b x) (i + 1) (drop (i + 1) all) → IsStep b all i x o
steps b all codes i x o way found next =
    let cut = cut_at all i x found in
    let holds : alike b x x ≡ true = subst (IsThere b all) found way.stands.1 in
    let key = is_alike b x in
    let split : (cut.front ++ x ∷ []) ++ cut.rest ≡ all = append_assoc cut.front (x ∷ []) cut.rest ∙ cut.split in
    let place : length (cut.front ++ x ∷ []) ≡ i + 1 = length-append cut.front (x ∷ []) ∙ ap (λ k. k + 1) cut.place in
    let to : o ≡ first_from (alike b x) (i + 1) cut.rest = next ∙ ap (first_from (alike b x) (i + 1)) (dropped all (cut.front ++ x ∷ []) cut.rest (i + 1) split place) in
    let here = leads_here b (alike b x) all cut.front cut.rest x i key cut.split cut.place holds in
    let later = leads b (alike b x) all (cut.front ++ x ∷ []) cut.rest (i + 1) key split place in
    record {
      stands = subst (Stands b all) (sym to) later.0;
      goes = here.1 ∙ ap (λ os. x ∷ os) (sym later.1 ∙ ap (left b all) (sym to));
    }

pub stands_there : (b : By) (all : List Occ) (codes : List ℕ) (at : Option ℕ) (i : ℕ) (x : Occ) → at ≡ Some i → x ≡ get_or all i x → IsOnTheWay b all codes at → slice_get all i ≡ Some x
stands_there b all codes at i x is read way =
    let here = subst (IsOnTheWay b all codes) is way in
    slice_get-get_or all i x here.stands.0 ∙ ap Some (sym read)

pub step_is : (b : By) (all : List Occ) (codes : List ℕ) (at : Option ℕ) (i : ℕ) (x : Occ) (o : Option ℕ) → at ≡ Some i → x ≡ get_or all i x → IsOnTheWay b all codes at
    → o ≡ first_from (alike b x) (i + 1) (drop (i + 1) all) → IsStep b all i x o
step_is b all codes at i x o is read way next =
    steps b all codes i x o (subst (IsOnTheWay b all codes) is way) (stands_there b all codes at i x is read way) next
