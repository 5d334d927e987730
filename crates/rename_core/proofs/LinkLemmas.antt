-- Tokens are linked exactly where they share something denoted, so chains along the lists lead where chains of links do.
use Rattle.std.proofs.Common.{arith, ◌≡◌, ℕ, suc, zero, ◌+◌, Bool, true, false, ◌&&◌, List, [], ◌∷◌, ◌++◌, map, Option, Some, None, inl, inr, refl, sym, ap, subst, ◌∙◌}
use Rattle.std.proofs.lemmas.List.{map-append}
use Rattle.std.specs.List.{list_any, slice_get}
use Rattle.std.specs.Prelude.{if◌then◌else◌, ◌⊎◌}
use Rattle.tok_data.specs.declared.sources.TokId.{TokId}
use Rattle.scope_tables.specs.declared.entities.Anchor.{Anchor}
use Rattle.scope_tables.specs.declared.entities.Anchor.TheVariants.{External, Local, Made, Macro}
use Rattle.scope_tables.specs.declared.entities.Occ.{Occ}
use Rattle.rename_core.specs.declared.mentions.Denoted.{Denoted}
use Rattle.rename_core.specs.declared.mentions.Denoted.TheVariants.{Everywhere, Within}
use Rattle.rename_core.specs.Classes.{Has, Linked, in_a_unit, by_name, Reaches, one, more}
use Rattle.rename_core.specs.Mentions.{same_denoted, denoted_in, denoted_by, told_in, is_of, tolds, tokens_in, tokens_of}
use Rattle.scope_tables.specs.Occurrences.{same_tok, same_anchor, counts, is_at}
use Rattle.rename_core.specs.Occurrences.{anchors_at, denotes}
use Rattle.rename_core.specs.Ties.Walked.{Shares, Chain, first, further}
use Rattle.rename_core.proofs.MentionLemmas.{tok_exact, anchor_exact, denoted_exact}
use Rattle.rename_core.proofs.WalkLemmas.{either_true, has_front, has_back, has_parts, or_first, or_later}

pub both : (a b : Bool) → a && b ≡ true → (a ≡ true) × (b ≡ true)
both true true e = (refl, refl)
both true false e = absurd (cc e)
both false b e = absurd (cc e)

pub and_true : (a b : Bool) → a ≡ true → b ≡ true → a && b ≡ true
and_true a b e f = ap (λ x. x && b) e ∙ f

-- ---- an occurrence of a token with an anchor

pub record Occurs (os : List Occ) (t : TokId) (a : Anchor) : Type 0 where
  pub occ : Occ
  pub among : Has os occ
  pub plain : counts occ.role ≡ true
  pub tok : occ.tok ≡ t
  pub anchor : occ.anchor ≡ a

occurs_later : (o : Occ) (os : List Occ) (t : TokId) (a : Anchor) → Occurs os t a → Occurs (o ∷ os) t a
occurs_later o os t a c = record { occ = c.occ; among = inr c.among; plain = c.plain; tok = c.tok; anchor = c.anchor }

pub denotes_occurs : (os : List Occ) (t : TokId) (a : Anchor) → denotes os t a ≡ true → Occurs os t a
denotes_occurs [] t a h = absurd (cc h)
denotes_occurs (o ∷ os) t a h = by_test (denotes_occurs os t a) (is_at t o) refl h
  where
    by_test : (denotes os t a ≡ true → Occurs os t a) → (b : Bool) → is_at t o ≡ b → list_any (same_anchor a) (if b then o.anchor ∷ anchors_at t os else anchors_at t os) ≡ true
        → Occurs (o ∷ os) t a
    by_test again true e k =
        let p = both (counts o.role) (same_tok o.tok t) e in
        elim (either_true (same_anchor a o.anchor) (list_any (same_anchor a) (anchors_at t os)) k) [
          | inl s ↦ record { occ = o; among = inl refl; plain = p.0; tok = (tok_exact o.tok t).0 p.1; anchor = sym ((anchor_exact a o.anchor).0 s) }
          | inr l ↦ occurs_later o os t a (again l)
        ]
    by_test again false e k = occurs_later o os t a (again k)

pub occurs_denotes : (os : List Occ) (t : TokId) (a : Anchor) → Occurs os t a → denotes os t a ≡ true
occurs_denotes [] t a c = absurd c.among
occurs_denotes (o ∷ os) t a c = by_test (λ h. occurs_denotes os t a (record { occ = c.occ; among = h; plain = c.plain; tok = c.tok; anchor = c.anchor })) (is_at t o) refl
  where
    here : o ≡ c.occ → is_at t o ≡ true
    here e = ap (is_at t) e ∙ and_true (counts c.occ.role) (same_tok c.occ.tok t) c.plain ((tok_exact c.occ.tok t).1 c.tok)

    by_test : (Has os c.occ → denotes os t a ≡ true) → (b : Bool) → is_at t o ≡ b → list_any (same_anchor a) (if b then o.anchor ∷ anchors_at t os else anchors_at t os) ≡ true
    by_test later true e = elim c.among [
      | inl i ↦ or_first (same_anchor a o.anchor) (denotes os t a) ((anchor_exact a o.anchor).1 (sym (ap (λ x. x.anchor) i ∙ c.anchor)))
      | inr h ↦ or_later (same_anchor a o.anchor) (denotes os t a) (later h)
    ]
    by_test later false e = elim c.among [
      | inl i ↦ absurd (let bad : ⊥ = cc (here i, e) in bad)
      | inr h ↦ later h
    ]

pub tokens_occur : (i : ℕ) (d : Denoted) (os : List Occ) (t : TokId) → list_any (same_tok t) (tokens_in i d os) ≡ true → (a : Anchor) × (Occurs os t a) × (denoted_in i a ≡ d)
tokens_occur i d [] t h = absurd (cc h)
tokens_occur i d (o ∷ os) t h = by_test (tokens_occur i d os t) (is_of i d o) refl h
  where
    later : (a : Anchor) × (Occurs os t a) × (denoted_in i a ≡ d) → (a : Anchor) × (Occurs (o ∷ os) t a) × (denoted_in i a ≡ d)
    later r = (r.0, occurs_later o os t r.0 r.1, r.2)

    by_test : (list_any (same_tok t) (tokens_in i d os) ≡ true → (a : Anchor) × (Occurs os t a) × (denoted_in i a ≡ d)) → (b : Bool) → is_of i d o ≡ b
        → list_any (same_tok t) (if b then o.tok ∷ tokens_in i d os else tokens_in i d os) ≡ true → (a : Anchor) × (Occurs (o ∷ os) t a) × (denoted_in i a ≡ d)
    by_test again true e k =
        let p = both (counts o.role) (same_denoted (denoted_in i o.anchor) d) e in
        elim (either_true (same_tok t o.tok) (list_any (same_tok t) (tokens_in i d os)) k) [
          | inl s ↦ (o.anchor, record { occ = o; among = inl refl; plain = p.0; tok = sym ((tok_exact t o.tok).0 s); anchor = refl }, (denoted_exact (denoted_in i o.anchor) d).0 p.1)
          | inr l ↦ later (again l)
        ]
    by_test again false e k = later (again k)

pub occurs_tokens : (i : ℕ) (d : Denoted) (os : List Occ) (t : TokId) (a : Anchor) → Occurs os t a → denoted_in i a ≡ d → list_any (same_tok t) (tokens_in i d os) ≡ true
occurs_tokens i d [] t a c is = absurd c.among
occurs_tokens i d (o ∷ os) t a c is =
    by_test (λ h. occurs_tokens i d os t a (record { occ = c.occ; among = h; plain = c.plain; tok = c.tok; anchor = c.anchor }) is) (is_of i d o) refl
  where
    here : o ≡ c.occ → is_of i d o ≡ true
    here e = ap (is_of i d) e ∙ and_true (counts c.occ.role) (same_denoted (denoted_in i c.occ.anchor) d) c.plain ((denoted_exact (denoted_in i c.occ.anchor) d).1 (ap (denoted_in i) c.anchor ∙ is))

    by_test : (Has os c.occ → list_any (same_tok t) (tokens_in i d os) ≡ true) → (b : Bool) → is_of i d o ≡ b
        → list_any (same_tok t) (if b then o.tok ∷ tokens_in i d os else tokens_in i d os) ≡ true
    by_test later true e = elim c.among [
      | inl s ↦ or_first (same_tok t o.tok) (list_any (same_tok t) (tokens_in i d os)) ((tok_exact t o.tok).1 (sym (ap (λ x. x.tok) s ∙ c.tok)))
      | inr h ↦ or_later (same_tok t o.tok) (list_any (same_tok t) (tokens_in i d os)) (later h)
    ]
    by_test later false e = elim c.among [
      | inl s ↦ absurd (let bad : ⊥ = cc (here s, e) in bad)
      | inr h ↦ later h
    ]

-- ---- a token that denotes something in some unit, the first one having the number i

pub record Says (i : ℕ) (us : List (List Occ)) (t : TokId) (d : Denoted) : Type 0 where
  pub number : ℕ
  pub unit : List Occ
  pub at : slice_get us number ≡ Some unit
  pub anchor : Anchor
  pub occurs : Occurs unit t anchor
  pub is : denoted_in (i + number) anchor ≡ d

says_here : (i : ℕ) (os : List Occ) (us : List (List Occ)) (t : TokId) (a : Anchor) (d : Denoted) → Occurs os t a → denoted_in i a ≡ d → Says i (os ∷ us) t d
says_here i os us t a d c is = let e : i + 0 ≡ i = omega arith in record { number = 0; unit = os; at = refl; anchor = a; occurs = c; is = ap (λ n. denoted_in n a) e ∙ is }

says_later : (i : ℕ) (os : List Occ) (us : List (List Occ)) (t : TokId) (d : Denoted) → Says (i + 1) us t d → Says i (os ∷ us) t d
says_later i os us t d s =
    let e : i + suc s.number ≡ i + 1 + s.number = omega arith in
    record { number = suc s.number; unit = s.unit; at = s.at; anchor = s.anchor; occurs = s.occurs; is = ap (λ n. denoted_in n s.anchor) e ∙ s.is }

-- the same of the units behind the first one
says_cut : (i : ℕ) (os : List Occ) (us : List (List Occ)) (t : TokId) (d : Denoted) → Says i (os ∷ us) t d → ((a : Anchor) × (Occurs os t a) × (denoted_in i a ≡ d)) ⊎ Says (i + 1) us t d
says_cut i os us t d s = by_number s.number refl
  where
    by_number : (n : ℕ) → s.number ≡ n → ((a : Anchor) × (Occurs os t a) × (denoted_in i a ≡ d)) ⊎ Says (i + 1) us t d
    by_number zero e =
        let at : slice_get (os ∷ us) 0 ≡ Some s.unit = subst (λ n. slice_get (os ∷ us) n ≡ Some s.unit) e s.at in
        let same : os ≡ s.unit = cc at in
        let f : i ≡ i + s.number = omega (arith, e) in
        let is : denoted_in i s.anchor ≡ d = ap (λ n. denoted_in n s.anchor) f ∙ s.is in
        inl (s.anchor, subst (λ u. Occurs u t s.anchor) (sym same) s.occurs, is)
    by_number (suc n) e =
        let at : slice_get us n ≡ Some s.unit = subst (λ m. slice_get (os ∷ us) m ≡ Some s.unit) e s.at in
        let f : i + s.number ≡ i + 1 + n = omega (arith, e) in
        inr (record { number = n; unit = s.unit; at = at; anchor = s.anchor; occurs = s.occurs; is = sym (ap (λ m. denoted_in m s.anchor) f) ∙ s.is })

keys_in : (i : ℕ) (d : Denoted) (xs : List Anchor) → list_any (same_denoted d) (map denoted_by (map (told_in i) xs)) ≡ true → (a : Anchor) × (list_any (same_anchor a) xs ≡ true) × (denoted_in i a ≡ d)
keys_in i d [] h = absurd (cc h)
keys_in i d (a ∷ xs) h =
    elim (either_true (same_denoted d (denoted_in i a)) (list_any (same_denoted d) (map denoted_by (map (told_in i) xs))) h) [
      | inl e ↦ (a, or_first (same_anchor a a) (list_any (same_anchor a) xs) ((anchor_exact a a).1 refl), sym ((denoted_exact d (denoted_in i a)).0 e))
      | inr k ↦ (let r = keys_in i d xs k in (r.0, or_later (same_anchor r.0 a) (list_any (same_anchor r.0) xs) r.1, r.2))
    ]

in_keys : (i : ℕ) (d : Denoted) (xs : List Anchor) (a : Anchor) → list_any (same_anchor a) xs ≡ true → denoted_in i a ≡ d → list_any (same_denoted d) (map denoted_by (map (told_in i) xs)) ≡ true
in_keys i d [] a h is = absurd (cc h)
in_keys i d (b ∷ xs) a h is =
    elim (either_true (same_anchor a b) (list_any (same_anchor a) xs) h) [
      | inl e ↦ or_first (same_denoted d (denoted_in i b)) (list_any (same_denoted d) (map denoted_by (map (told_in i) xs)))
          ((denoted_exact d (denoted_in i b)).1 (sym is ∙ ap (denoted_in i) ((anchor_exact a b).0 e)))
      | inr k ↦ or_later (same_denoted d (denoted_in i b)) (list_any (same_denoted d) (map denoted_by (map (told_in i) xs))) (in_keys i d xs a k is)
    ]

-- what a token's list has
abbrev pub keys_from : ℕ → List (List Occ) → TokId → List Denoted
keys_from i us t = map denoted_by (tolds i t us)

pub keys_say : (i : ℕ) (us : List (List Occ)) (t : TokId) (d : Denoted) → list_any (same_denoted d) (keys_from i us t) ≡ true → Says i us t d
keys_say i [] t d h = absurd (cc h)
keys_say i (os ∷ us) t d h =
    let h' : list_any (same_denoted d) (map denoted_by (map (told_in i) (anchors_at t os)) ++ keys_from (i + 1) us t) ≡ true =
    subst (λ l. list_any (same_denoted d) l ≡ true) (map-append denoted_by (map (told_in i) (anchors_at t os)) (tolds (i + 1) t us)) h in
    elim (has_parts same_denoted denoted_exact (map denoted_by (map (told_in i) (anchors_at t os))) (keys_from (i + 1) us t) d h') [
      | inl a ↦ (let r = keys_in i d (anchors_at t os) a in says_here i os us t r.0 d (denotes_occurs os t r.0 r.1) r.2)
      | inr a ↦ says_later i os us t d (keys_say (i + 1) us t d a)
    ]

pub says_keys : (i : ℕ) (us : List (List Occ)) (t : TokId) (d : Denoted) → Says i us t d → list_any (same_denoted d) (keys_from i us t) ≡ true
says_keys i [] t d s = absurd (let e = s.at in cc e)
says_keys i (os ∷ us) t d s =
    subst (λ l. list_any (same_denoted d) l ≡ true) (sym (map-append denoted_by (map (told_in i) (anchors_at t os)) (tolds (i + 1) t us)))
    (elim (says_cut i os us t d s) [
      | inl r ↦ has_front same_denoted denoted_exact (map denoted_by (map (told_in i) (anchors_at t os))) (keys_from (i + 1) us t) d
          (in_keys i d (anchors_at t os) r.0 (occurs_denotes os t r.0 r.1) r.2)
      | inr r ↦ has_back same_denoted denoted_exact (map denoted_by (map (told_in i) (anchors_at t os))) (keys_from (i + 1) us t) d (says_keys (i + 1) us t d r)
    ])

pub tokens_say : (i : ℕ) (us : List (List Occ)) (t : TokId) (d : Denoted) → list_any (same_tok t) (tokens_of i d us) ≡ true → Says i us t d
tokens_say i [] t d h = absurd (cc h)
tokens_say i (os ∷ us) t d h =
    elim (has_parts same_tok tok_exact (tokens_in i d os) (tokens_of (i + 1) d us) t h) [
      | inl a ↦ (let r = tokens_occur i d os t a in says_here i os us t r.0 d r.1 r.2)
      | inr a ↦ says_later i os us t d (tokens_say (i + 1) us t d a)
    ]

pub says_tokens : (i : ℕ) (us : List (List Occ)) (t : TokId) (d : Denoted) → Says i us t d → list_any (same_tok t) (tokens_of i d us) ≡ true
says_tokens i [] t d s = absurd (let e = s.at in cc e)
says_tokens i (os ∷ us) t d s =
    elim (says_cut i os us t d s) [
      | inl r ↦ has_front same_tok tok_exact (tokens_in i d os) (tokens_of (i + 1) d us) t (occurs_tokens i d os t r.0 r.1 r.2)
      | inr r ↦ has_back same_tok tok_exact (tokens_in i d os) (tokens_of (i + 1) d us) t (says_tokens (i + 1) us t d r)
    ]

-- ---- links

pub get_has : {A : Type 0} (xs : List A) (n : ℕ) (x : A) → slice_get xs n ≡ Some x → Has xs x
get_has [] n x e = absurd (cc e)
get_has (y ∷ ys) zero x e = let same : y ≡ x = cc e in inl same
get_has (y ∷ ys) (suc n) x e = inr (get_has ys n x e)

pub has_get : {A : Type 0} (xs : List A) (x : A) → Has xs x → (n : ℕ) × (slice_get xs n ≡ Some x)
has_get [] x h = absurd h
has_get (y ∷ ys) x (inl e) = (0, ap Some e)
has_get (y ∷ ys) x (inr h) = let r = has_get ys x h in (suc r.0, r.1)

abbrev anchor_of : Denoted → Anchor
anchor_of (Everywhere name) = External name
anchor_of (Within i a) = a

anchor_is : (i : ℕ) (a : Anchor) → anchor_of (denoted_in i a) ≡ a
anchor_is i (External name) = refl
anchor_is i (Local t) = refl
anchor_is i (Made t name) = refl
anchor_is i (Macro name) = refl

pub anchor_is_same : (m n : ℕ) (a b : Anchor) → denoted_in m a ≡ denoted_in n b → a ≡ b
anchor_is_same m n a b e = sym (anchor_is m a) ∙ ap anchor_of e ∙ anchor_is n b

abbrev unit_of : Denoted → Option ℕ
unit_of (Everywhere name) = None
unit_of (Within i a) = Some i

some_same : (m n : ℕ) → Some m ≡ Some n → m ≡ n
some_same m n e = cc e

-- one anchor denotes the same in two units only where it is External
pub same_unit : (m n : ℕ) (a : Anchor) → denoted_in m a ≡ denoted_in n a → ((name : List ℕ) × (a ≡ External name)) ⊎ (m ≡ n)
same_unit m n (External name) e = inl (name, refl)
same_unit m n (Local t) e = inr (some_same m n (ap unit_of e))
same_unit m n (Made t name) e = inr (some_same m n (ap unit_of e))
same_unit m n (Macro name) e = inr (some_same m n (ap unit_of e))

pub some_unit : (os ps : List Occ) → Some os ≡ Some ps → os ≡ ps
some_unit os ps e = cc e

pub said_links : (us : List (List Occ)) (s t : TokId) (d : Denoted) → Says 0 us s d → Says 0 us t d → Linked us s t
said_links us s t d p q =
    let same : denoted_in (0 + p.number) p.anchor ≡ denoted_in (0 + q.number) q.anchor = p.is ∙ sym q.is in
    let anchors : p.anchor ≡ q.anchor = anchor_is_same (0 + p.number) (0 + q.number) p.anchor q.anchor same in
    let again : Occurs q.unit t p.anchor = subst (λ a. Occurs q.unit t a) (sym anchors) q.occurs in
    elim (same_unit (0 + p.number) (0 + q.number) p.anchor (same ∙ ap (denoted_in (0 + q.number)) (sym anchors))) [
      | inl r ↦ by_name s t p.unit q.unit r.0 (get_has us p.number p.unit p.at) (get_has us q.number q.unit q.at)
          (occurs_denotes p.unit s (External r.0) (subst (λ a. Occurs p.unit s a) r.1 p.occurs))
          (occurs_denotes q.unit t (External r.0) (subst (λ a. Occurs q.unit t a) r.1 again))
      | inr r ↦ (let n : q.number ≡ p.number = omega (arith, r) in
          let units : q.unit ≡ p.unit = some_unit q.unit p.unit (sym q.at ∙ ap (slice_get us) n ∙ p.at) in
          in_a_unit s t p.unit p.anchor (get_has us p.number p.unit p.at) (occurs_denotes p.unit s p.anchor p.occurs)
          (occurs_denotes p.unit t p.anchor (subst (λ u. Occurs u t p.anchor) units again)))
    ]

says_in : (us : List (List Occ)) (t : TokId) (os : List Occ) (n : ℕ) (a : Anchor) → slice_get us n ≡ Some os → denotes os t a ≡ true → Says 0 us t (denoted_in n a)
says_in us t os n a e h = let z : 0 + n ≡ n = omega arith in record { number = n; unit = os; at = e; anchor = a; occurs = denotes_occurs os t a h; is = ap (λ m. denoted_in m a) z }

module _ (us : List (List Occ)) where
  abbrev pub keys : TokId → List Denoted
  keys t = keys_from 0 us t

  abbrev pub tokens : Denoted → List TokId
  tokens d = tokens_of 0 d us

  pub shares_links : (s t : TokId) → Shares same_tok same_denoted keys tokens s t → Linked us s t
  shares_links s t h = said_links us s t h.key (keys_say 0 us s h.key h.mine) (tokens_say 0 us t h.key h.yours)

  pub links_share : (s t : TokId) → Linked us s t → Shares same_tok same_denoted keys tokens s t
  links_share s t (in_a_unit x y os a h p q) =
      let g = has_get us os h in
      record {
        key = denoted_in g.0 a;
        mine = says_keys 0 us s (denoted_in g.0 a) (says_in us s os g.0 a g.1 p);
        yours = says_tokens 0 us t (denoted_in g.0 a) (says_in us t os g.0 a g.1 q);
      }
  links_share s t (by_name x y os ps name h k p q) =
      let g = has_get us os h in
      let f = has_get us ps k in
      record {
        key = Everywhere name;
        mine = says_keys 0 us s (Everywhere name) (says_in us s os g.0 (External name) g.1 p);
        yours = says_tokens 0 us t (Everywhere name) (says_in us t ps f.0 (External name) f.1 q);
      }

  pub chain_reaches : (t s : TokId) → Chain same_tok same_denoted keys tokens t s → Reaches us t s
  chain_reaches t s (first x h) = one x (shares_links t x h)
  chain_reaches t s (further r x c h) = more r x (chain_reaches t r c) (shares_links r x h)

  pub reaches_chain : (t s : TokId) → Reaches us t s → Chain same_tok same_denoted keys tokens t s
  reaches_chain t s (one x h) = first x (links_share t x h)
  reaches_chain t s (more r x c h) = further r x (reaches_chain t r c) (links_share r x h)
