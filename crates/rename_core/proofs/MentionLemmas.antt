-- Lists of what units say, made occurrence by occurrence and unit by unit.
use Rattle.std.proofs.Common.{arith, rules, ◌≡◌, ℕ, suc, zero, ◌+◌, Bool, true, false, ◌||◌, List, [], ◌∷◌, ◌++◌, length, drop, map, Option, Some, None, refl, sym, ap, ◌∙◌, append_assoc}
use denote.Ref.{Bor}
use Rattle.std.proofs.lemmas.Option.{slice_get-map, slice_get_read}
use Rattle.std.specs.Bool.{Decides}
use Rattle.std.specs.List.{list_any, slice_get, slice_index_or}
use Rattle.std.specs.Prelude.{if◌then◌else◌, ◌<◌, option_map}
use Rattle.tok_data.specs.declared.sources.TokId.{TokId}
use Rattle.scope_tables.specs.declared.entities.Anchor.{Anchor}
use Rattle.scope_tables.specs.declared.entities.Occ.{Occ}
use Rattle.rename_core.specs.declared.mentions.Told.{Told}
use Rattle.rename_core.specs.declared.mentions.Denoted.{Denoted}
use Rattle.rename_core.specs.Found.{pasted_at, pasted_from}
use Rattle.rename_core.specs.Mentions.{same_denoted, told_in, is_of, tolds, tokens_in, tokens_of}
use Rattle.scope_tables.specs.Occurrences.{same_tok, same_anchor, is_at}
use Rattle.rename_core.specs.Occurrences.{anchors_at, or_later}
use Rattle.rename_core.specs.Showing.{is_spelled_at, spelled_in}

pub tok_exact : (s t : TokId) → Decides (same_tok s t) (s ≡ t)
tok_exact s t = search rules

pub anchor_exact : (a b : Anchor) → Decides (same_anchor a b) (a ≡ b)
anchor_exact a b = search rules

pub denoted_exact : (a b : Denoted) → Decides (same_denoted a b) (a ≡ b)
denoted_exact a b = search rules

-- ---- one more value at a key

-- where a key has one more value, what is told of the key that is asked for
pub added : {K V : Type 0} (same : K → K → Bool) (exact : (a b : K) → Decides (same a b) (a ≡ b)) (old new : K → List V) (key : K) (v : V) (q : K)
    → new q ≡ (if same key q then old key ++ v ∷ [] else old q) → new q ≡ (if same key q then old q ++ v ∷ [] else old q)
added {K} {V} same exact old new key v q is = is ∙ by_test (same key q) refl
  where
    by_test : (b : Bool) → same key q ≡ b → (if b then old key ++ v ∷ [] else old q) ≡ (if b then old q ++ v ∷ [] else old q)
    by_test true e = ap (λ k. old k ++ v ∷ []) ((exact key q).0 e)
    by_test false e = refl

-- ---- an occurrence more

pub tells_more : (unit : ℕ) (o : Occ) (rest : List Occ) (old new : List Told) (q : TokId) (all : List Told)
    → new ≡ (if is_at q o then old ++ told_in unit o.anchor ∷ [] else old) → old ++ map (told_in unit) (anchors_at q (o ∷ rest)) ≡ all
    → new ++ map (told_in unit) (anchors_at q rest) ≡ all
tells_more unit o rest old new q all is was = by_test (is_at q o) is was
  where
    by_test : (b : Bool) → new ≡ (if b then old ++ told_in unit o.anchor ∷ [] else old) → old ++ map (told_in unit) (if b then o.anchor ∷ anchors_at q rest else anchors_at q rest) ≡ all
        → new ++ map (told_in unit) (anchors_at q rest) ≡ all
    by_test true n w = ap (λ l. l ++ map (told_in unit) (anchors_at q rest)) n ∙ append_assoc old (told_in unit o.anchor ∷ []) (map (told_in unit) (anchors_at q rest)) ∙ w
    by_test false n w = ap (λ l. l ++ map (told_in unit) (anchors_at q rest)) n ∙ w

pub mentions_more : (unit : ℕ) (o : Occ) (rest : List Occ) (old new : List TokId) (q : Denoted) (all : List TokId)
    → new ≡ (if is_of unit q o then old ++ o.tok ∷ [] else old) → old ++ tokens_in unit q (o ∷ rest) ≡ all → new ++ tokens_in unit q rest ≡ all
mentions_more unit o rest old new q all is was = by_test (is_of unit q o) is was
  where
    by_test : (b : Bool) → new ≡ (if b then old ++ o.tok ∷ [] else old) → old ++ (if b then o.tok ∷ tokens_in unit q rest else tokens_in unit q rest) ≡ all → new ++ tokens_in unit q rest ≡ all
    by_test true n w = ap (λ l. l ++ tokens_in unit q rest) n ∙ append_assoc old (o.tok ∷ []) (tokens_in unit q rest) ∙ w
    by_test false n w = ap (λ l. l ++ tokens_in unit q rest) n ∙ w

-- ---- a unit more

drop_here : {A : Type 0} (xs : List A) (n : ℕ) (x : A) → slice_get xs n ≡ Some x → drop n xs ≡ x ∷ drop (n + 1) xs
drop_here [] n x e = absurd (cc e)
drop_here (y ∷ ys) zero x e = let same : y ≡ x = cc e in ap (λ z. z ∷ ys) same
drop_here (y ∷ ys) (suc n) x e = let f : suc (n + 1) ≡ suc n + 1 = omega arith in drop_here ys n x e ∙ ap (λ m. x ∷ drop m (y ∷ ys)) f

-- a unit that is lent
pub lent : (us : List (Bor (List Occ))) (n : ℕ) (os : Bor (List Occ)) → n < length us → os ≡ slice_index_or us n os → slice_get (map (λ u. u.now) us) n ≡ Some os.now
lent us n os within is = slice_get-map (λ u. u.now) us n ∙ ap (option_map (λ u. u.now)) (slice_get_read us (length us) n os refl within is)

pub unit_told : (us : List (List Occ)) (unit : ℕ) (os : List Occ) (old new : List Told) (q : TokId) (all : List Told) → slice_get us unit ≡ Some os
    → new ≡ old ++ map (told_in unit) (anchors_at q os) → old ++ tolds unit q (drop unit us) ≡ all → new ++ tolds (unit + 1) q (drop (unit + 1) us) ≡ all
unit_told us unit os old new q all here is was =
    ap (λ l. l ++ tolds (unit + 1) q (drop (unit + 1) us)) is ∙ append_assoc old (map (told_in unit) (anchors_at q os)) (tolds (unit + 1) q (drop (unit + 1) us))
    ∙ ap (λ vs. old ++ tolds unit q vs) (sym (drop_here us unit os here)) ∙ was

pub unit_mentioned : (us : List (List Occ)) (unit : ℕ) (os : List Occ) (old new : List TokId) (q : Denoted) (all : List TokId) → slice_get us unit ≡ Some os
    → new ≡ old ++ tokens_in unit q os → old ++ tokens_of unit q (drop unit us) ≡ all → new ++ tokens_of (unit + 1) q (drop (unit + 1) us) ≡ all
unit_mentioned us unit os old new q all here is was =
    ap (λ l. l ++ tokens_of (unit + 1) q (drop (unit + 1) us)) is ∙ append_assoc old (tokens_in unit q os) (tokens_of (unit + 1) q (drop (unit + 1) us))
    ∙ ap (λ vs. old ++ tokens_of unit q vs) (sym (drop_here us unit os here)) ∙ was

or_joined : (a b c : Bool) → (a || b) || c ≡ a || (b || c)
or_joined true b c = refl
or_joined false b c = refl

pub unit_spelled : (us : List (List Occ)) (unit : ℕ) (os : List Occ) (old new : Bool) (q : TokId) (all : Bool) → slice_get us unit ≡ Some os
    → new ≡ (old || list_any (is_spelled_at q) os) → (old || spelled_in (drop unit us) q) ≡ all → (new || spelled_in (drop (unit + 1) us) q) ≡ all
unit_spelled us unit os old new q all here is was =
    ap (λ b. b || spelled_in (drop (unit + 1) us) q) is ∙ or_joined old (list_any (is_spelled_at q) os) (spelled_in (drop (unit + 1) us) q)
    ∙ ap (λ vs. old || spelled_in vs q) (sym (drop_here us unit os here)) ∙ was

pub pasted_here : (us : List (List Occ)) (unit : ℕ) (os : List Occ) (ds : List Denoted) (t : TokId) (all : Option TokId) → slice_get us unit ≡ Some os
    → Some t ≡ pasted_at unit ds os → pasted_from unit ds (drop unit us) ≡ all → Some t ≡ all
pasted_here us unit os ds t all here found was =
    ap (λ o. or_later o (pasted_from (unit + 1) ds (drop (unit + 1) us))) found ∙ ap (pasted_from unit ds) (sym (drop_here us unit os here)) ∙ was

pub pasted_later : (us : List (List Occ)) (unit : ℕ) (os : List Occ) (ds : List Denoted) (all : Option TokId) → slice_get us unit ≡ Some os
    → None ≡ pasted_at unit ds os → pasted_from unit ds (drop unit us) ≡ all → pasted_from (unit + 1) ds (drop (unit + 1) us) ≡ all
pasted_later us unit os ds all here none was =
    ap (λ o. or_later o (pasted_from (unit + 1) ds (drop (unit + 1) us))) none ∙ ap (pasted_from unit ds) (sym (drop_here us unit os here)) ∙ was
