-- A token that was made denotes something of the class exactly where what it denotes was come to.
use Rattle.std.proofs.Common.{arith, ◌≡◌, ℕ, suc, ◌+◌, Bool, true, false, ◌&&◌, List, [], ◌∷◌, Some, inl, inr, refl, sym, ap, subst, ◌∙◌}
use Rattle.std.specs.List.{find, list_any, slice_get}
use Rattle.std.specs.Prelude.{option_map}
use Rattle.tok_data.specs.declared.sources.TokId.{TokId}
use Rattle.scope_tables.specs.declared.entities.Anchor.{Anchor}
use Rattle.scope_tables.specs.declared.entities.Anchor.TheVariants.{External, Local, Made, Macro}
use Rattle.scope_tables.specs.declared.entities.Occ.{Occ}
use Rattle.rename_core.specs.declared.mentions.Denoted.{Denoted}
use Rattle.rename_core.specs.Classes.{Has}
use Rattle.rename_core.specs.Found.{is_pasted_as, pasted_from}
use Rattle.rename_core.specs.Mentions.{same_denoted, denoted_in}
use Rattle.scope_tables.specs.Occurrences.{same_tok, same_anchor, counts}
use Rattle.rename_core.specs.Occurrences.{in_class, or_later, first_some}
use Rattle.rename_core.specs.Showing.{across, has_anchor, class_has, is_pasted, is_pasted_of, pasted_in}
use Rattle.rename_core.specs.Ties.Steps.{Seen}
use Rattle.rename_core.specs.Ties.Walked.{Chain, first, From, IsWalked}
use Rattle.rename_core.proofs.LinkLemmas.{Says, both, and_true, keys_say, says_keys, says_tokens, keys, tokens, get_has, has_get, same_unit, anchor_is_same, some_unit}
use Rattle.rename_core.proofs.MentionLemmas.{anchor_exact}
use Rattle.rename_core.proofs.WalkLemmas.{either_true, or_first, or_later as or_second}

any_has : {A : Type 0} (p : A → Bool) (xs : List A) (x : A) → Has xs x → p x ≡ true → list_any p xs ≡ true
any_has p [] x h e = absurd h
any_has p (y ∷ ys) x (inl i) e = or_first (p y) (list_any p ys) (ap p i ∙ e)
any_has p (y ∷ ys) x (inr h) e = or_second (p y) (list_any p ys) (any_has p ys x h e)

has_any : {A : Type 0} (p : A → Bool) (xs : List A) → list_any p xs ≡ true → (x : A) × (Has xs x) × (p x ≡ true)
has_any p [] h = absurd (cc h)
has_any p (y ∷ ys) h =
    elim (either_true (p y) (list_any p ys) h) [
      | inl e ↦ (y, inl refl, e)
      | inr k ↦ (let r = has_any p ys k in (r.0, inr r.1, r.2))
    ]

same_bool : (a b : Bool) → (a ≡ true → b ≡ true) → (b ≡ true → a ≡ true) → a ≡ b
same_bool true b f g = sym (f refl)
same_bool false true f g = g refl
same_bool false false f g = refl

own_across : (us : List (List Occ)) (os : List Occ) (a : Anchor) → Has us os → Has (across us os a) os
own_across us os (External name) h = h
own_across us os (Local t) h = inl refl
own_across us os (Made t name) h = inl refl
own_across us os (Macro name) h = inl refl

-- a unit in which the anchor means the same has a number at which it denotes the same
across_at : (us : List (List Occ)) (n : ℕ) (os : List Occ) (a : Anchor) (ps : List Occ) → slice_get us n ≡ Some os → Has (across us os a) ps
    → (m : ℕ) × (slice_get us m ≡ Some ps) × (denoted_in m a ≡ denoted_in n a)
across_at us n os (External name) ps e h = let r = has_get us ps h in (r.0, r.1, refl)
across_at us n os (Local t) ps e (inl i) = (n, e ∙ ap Some i, refl)
across_at us n os (Made t name) ps e (inl i) = (n, e ∙ ap Some i, refl)
across_at us n os (Macro name) ps e (inl i) = (n, e ∙ ap Some i, refl)
across_at us n os (Local t) ps e (inr h) = absurd h
across_at us n os (Made t name) ps e (inr h) = absurd h
across_at us n os (Macro name) ps e (inr h) = absurd h

module _ (us : List (List Occ)) (t : TokId) (seen : Seen TokId Denoted) (class : List TokId) (w : IsWalked same_tok same_denoted (keys us) (tokens us) t seen)
    (members : (s : TokId) → in_class class s ≡ in_class seen.toks s) where
  from_class : (d : Denoted) → From same_tok same_denoted (keys us) (tokens us) t d → (y : TokId) × (in_class class y ≡ true) × Says 0 us y d
  from_class d f =
      let says = keys_say 0 us f.token d f.denotes in
      let chain : Chain same_tok same_denoted (keys us) (tokens us) t f.token = elim f.come [
        | inl i ↦ first f.token (record { key = d; mine = subst (λ z. list_any (same_denoted d) (keys us z) ≡ true) i f.denotes; yours = says_tokens 0 us f.token d says })
        | inr c ↦ c
      ] in
      (f.token, members f.token ∙ (w.toks f.token).1 chain, says)

  to_class : (n : ℕ) (os : List Occ) (a : Anchor) → slice_get us n ≡ Some os → list_any (same_denoted (denoted_in n a)) seen.denoted ≡ true → class_has class us os a ≡ true
  to_class n os a e h =
      let r = from_class (denoted_in n a) ((w.denoted (denoted_in n a)).0 h) in
      let s = r.2 in
      let anchors : s.anchor ≡ a = anchor_is_same (0 + s.number) n s.anchor a s.is in
      let o = s.occurs.occ in
      let passes : has_anchor class a o ≡ true = and_true (counts o.role) (same_anchor o.anchor a && in_class class o.tok) s.occurs.plain
      (and_true (same_anchor o.anchor a) (in_class class o.tok) ((anchor_exact o.anchor a).1 (s.occurs.anchor ∙ anchors)) (ap (in_class class) s.occurs.tok ∙ r.1)) in
      let there : Has (across us os a) s.unit = elim (same_unit (0 + s.number) n a (ap (denoted_in (0 + s.number)) (sym anchors) ∙ s.is)) [
        | inl x ↦ subst (λ b. Has (across us os b) s.unit) (sym x.1) (get_has us s.number s.unit s.at)
        | inr x ↦ (let m : s.number ≡ n = omega (arith, x) in
            subst (λ u. Has (across us os a) u) (some_unit os s.unit (sym e ∙ ap (slice_get us) (sym m) ∙ s.at)) (own_across us os a (get_has us n os e)))
      ] in
      any_has (λ ps. list_any (has_anchor class a) ps) (across us os a) s.unit there (any_has (has_anchor class a) s.unit o s.occurs.among passes)

  of_class : (n : ℕ) (os : List Occ) (a : Anchor) → slice_get us n ≡ Some os → class_has class us os a ≡ true → list_any (same_denoted (denoted_in n a)) seen.denoted ≡ true
  of_class n os a e h =
      let u = has_any (λ ps. list_any (has_anchor class a) ps) (across us os a) h in
      let p = has_any (has_anchor class a) u.0 u.2 in
      let o = p.0 in
      let parts = both (counts o.role) (same_anchor o.anchor a && in_class class o.tok) p.2 in
      let more = both (same_anchor o.anchor a) (in_class class o.tok) parts.1 in
      let at = across_at us n os a u.0 e u.1 in
      let z : 0 + at.0 ≡ at.0 = omega arith in
      let says : Says 0 us o.tok (denoted_in n a) = record {
        number = at.0;
        unit = u.0;
        at = at.1;
        anchor = a;
        occurs = record { occ = o; among = p.1; plain = parts.0; tok = refl; anchor = (anchor_exact o.anchor a).0 more.0 };
        is = ap (λ m. denoted_in m a) z ∙ at.2;
      } in
      (w.denoted (denoted_in n a)).1 (record {
        token = o.tok;
        come = inr ((w.toks o.tok).0 (sym (members o.tok) ∙ more.1));
        denotes = says_keys 0 us o.tok (denoted_in n a) says;
      })

  pasted_as : (n : ℕ) (os : List Occ) (o : Occ) → slice_get us n ≡ Some os → is_pasted_as n seen.denoted o ≡ is_pasted_of class us os o
  pasted_as n os o e =
      ap (λ b. is_pasted o.role && b)
      (same_bool (list_any (same_denoted (denoted_in n o.anchor)) seen.denoted) (class_has class us os o.anchor) (to_class n os o.anchor e) (of_class n os o.anchor e))

  -- from a unit on
  pasted_on : (n : ℕ) (ps : List (List Occ)) → ((k : ℕ) (os : List Occ) → slice_get ps k ≡ Some os → slice_get us (n + k) ≡ Some os)
      → pasted_from n seen.denoted ps ≡ first_some (pasted_in class us) ps
  pasted_on n [] there = refl
  pasted_on n (os ∷ ps) there =
      let z : n + 0 ≡ n = omega arith in
      let here : slice_get us n ≡ Some os = ap (slice_get us) (sym z) ∙ there 0 os refl in
      ap (λ p. or_later (option_map (λ o. o.tok) (find p os)) (pasted_from (n + 1) seen.denoted ps)) (λ i o. pasted_as n os o here i)
      ∙ ap (or_later (pasted_in class us os)) (pasted_on (n + 1) ps (λ k qs e. let m : n + 1 + k ≡ n + suc k = omega arith in ap (slice_get us) m ∙ there (suc k) qs e))

  pub pasted_are : pasted_from 0 seen.denoted us ≡ first_some (pasted_in class us) us
  pasted_are = pasted_on 0 us (λ k os e. let z : 0 + k ≡ k = omega arith in ap (slice_get us) z ∙ e)
