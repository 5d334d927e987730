-- Parts of the names of types that hold no expression: qualifiers and pointers; and with what a name begins.
use Rattle.std.proofs.Common.{◌≡◌, refl, ap, sym, ◌∙◌, subst, ℕ, ◌+◌, ◌<◌, ◌≤◌, List, [], ◌∷◌, ◌++◌, arith, Bool, true, false, length, append_assoc, append-nil}
use Rattle.tree_data.specs.Trees.{Specifying, Word_of, Typedef_of, Tag_of, Atomic_of, No_specifiers, Specifier_then, Naming, Type_of, Aligned_as_of, Aligned_of, Members_of, Enumerators_of}
use Rattle.c_parser.specs.declared.kinds.Kind.{Kind}
use Rattle.c_parser.specs.declared.kinds.Kind.TheVariants.{Star}
use Rattle.c_parser.specs.Declarators.{spell_pointers, AreQualifiers, ArePointers}
use Rattle.c_parser.specs.Kinds.{kind_at, starts_type, qualifies_at}
use Rattle.c_parser.specs.Reading.{HoldSpecifying, HoldQualifiers, HoldPointers, HoldsNaming, HoldsType}
use Rattle.c_parser.specs.TypeNames.{FoundQualifiers, FoundPointers}
use Rattle.c_parser.specs.Numbers.{Spans}
use Rattle.c_parser.proofs.Numbers.{spans_join, spans_split, spans_forth}
use Rattle.c_parser.proofs.Words.{specifies_starts, qualifies_not, typedef_starts, tagging_starts}

pub qualifiers_formed : (ks : List Kind) → (ns : List ℕ) → (a b : ℕ) → HoldQualifiers ks ns a b → AreQualifiers ks ns
qualifiers_formed ks [] a b h = tt
qualifiers_formed ks (n ∷ ns) a b h = (ap (λ x. qualifies_at ks x) h.0 ∙ h.1, qualifiers_formed ks ns (a + 1) b h.2)

pub pointers_formed : (ks : List Kind) → (ps : List (ℕ × List ℕ)) → (a b : ℕ) → HoldPointers ks ps a b → ArePointers ks ps
pointers_formed ks [] a b h = tt
pointers_formed ks (p ∷ ps) a b h =
    (ap (λ x. kind_at ks x) h.1 ∙ h.2, qualifiers_formed ks p.1 (a + 1) h.0 h.3, pointers_formed ks ps h.0 b h.4)

pub qualifiers_spanned : (ks : List Kind) → (ns : List ℕ) → (a b : ℕ) → HoldQualifiers ks ns a b → Spans ns a b
qualifiers_spanned ks [] a b h = h
qualifiers_spanned ks (n ∷ ns) a b h = (h.0, qualifiers_spanned ks ns (a + 1) b h.2)

pub pointers_spanned : (ks : List Kind) → (ps : List (ℕ × List ℕ)) → (a b : ℕ) → HoldPointers ks ps a b → Spans (spell_pointers ps) a b
pointers_spanned ks [] a b h = h
pointers_spanned ks (p ∷ ps) a b h = (
  h.1,
  spans_join
      p.1
      (spell_pointers ps)
      (a + 1)
      h.0
      b
      (qualifiers_spanned ks p.1 (a + 1) h.0 h.3)
      (pointers_spanned ks ps h.0 b h.4),
)

pub qualifiers_held : (ks : List Kind) → (ns : List ℕ) → (a b : ℕ) → AreQualifiers ks ns → Spans ns a b → HoldQualifiers ks ns a b
qualifiers_held ks [] a b f s = s
qualifiers_held ks (n ∷ ns) a b f s =
    (s.0, ap (λ x. qualifies_at ks x) (sym s.0) ∙ f.0, qualifiers_held ks ns (a + 1) b f.1 s.1)

pub pointers_held : (ks : List Kind) → (ps : List (ℕ × List ℕ)) → (a b : ℕ) → ArePointers ks ps → Spans (spell_pointers ps) a b → HoldPointers ks ps a b
pointers_held ks [] a b f s = s
pointers_held ks (p ∷ ps) a b f s =
    let r = spans_split p.1 (spell_pointers ps) (a + 1) b s.1 in (
      r.at,
      s.0,
      ap (λ x. kind_at ks x) (sym s.0) ∙ f.0,
      qualifiers_held ks p.1 (a + 1) r.at f.1 r.front,
      pointers_held ks ps r.at b f.2 r.back,
    )

pub pointers_forth : (ks : List Kind) → (ps : List (ℕ × List ℕ)) → (a b : ℕ) → HoldPointers ks ps a b → a ≤ b
pointers_forth ks ps a b h = spans_forth (spell_pointers ps) a b (pointers_spanned ks ps a b h)

pub qualifiers_forth : (ks : List Kind) → (ns : List ℕ) → (a b : ℕ) → HoldQualifiers ks ns a b → a ≤ b
qualifiers_forth ks ns a b h = spans_forth ns a b (qualifiers_spanned ks ns a b h)

-- what the first token is
pub starting : (ks : List Kind) → (y : Bool) → (s : Specifying) → (a b : ℕ) → HoldSpecifying ks y s a b → starts_type (kind_at ks a) ≡ true
starting ks y (Word_of n) a b h = specifies_starts ks a h.1
starting ks y (Typedef_of n) a b h = typedef_starts (kind_at ks a) h.2
starting ks y (Tag_of k n) a b h = tagging_starts (kind_at ks a) h.1
starting ks y (Atomic_of k o t c) a b h = ap starts_type h.1
starting ks y (Aligned_as_of k o t c) a b h = ap starts_type h.1
starting ks y (Aligned_of k o t c) a b h = ap starts_type h.1
starting ks y (Members_of k g o ms c) a b h = ap starts_type h.1
starting ks y (Enumerators_of k g o e es t c) a b h = ap starts_type h.3

pub naming_starts : (ks : List Kind) → (y : Bool) → (t : Naming) → (a b : ℕ) → HoldsNaming ks y t a b → starts_type (kind_at ks a) ≡ true
naming_starts ks y (Type_of No_specifiers d) a b h = absurd h.1
naming_starts ks y (Type_of (Specifier_then s ss) d) a b h = starting ks false s a h.2.0 h.2.1

pub type_starts : (ks : List Kind) → (t : Naming) → (a b : ℕ) → HoldsType ks t a b → starts_type (kind_at ks a) ≡ true
type_starts ks t a b h = naming_starts ks false t a b h

pub qualifiers_only : (ks : List Kind) → (ns : List ℕ) → (a m : ℕ) → HoldQualifiers ks ns a m → (qualifies_at ks m ≡ true → ⊥)
    → (ns' : List ℕ) → (m' : ℕ) → HoldQualifiers ks ns' a m' → (qualifies_at ks m' ≡ true → ⊥) → (ns ≡ ns') × (m ≡ m')
qualifiers_only ks [] a m h n [] m' h' n' = (refl, h ∙ sym h')
qualifiers_only ks [] a m h n (x ∷ xs) m' h' n' = absurd (n (ap (λ k. qualifies_at ks k) h ∙ h'.1))
qualifiers_only ks (x ∷ xs) a m h n [] m' h' n' = absurd (n' (ap (λ k. qualifies_at ks k) h' ∙ h.1))
qualifiers_only ks (x ∷ xs) a m h n (x' ∷ xs') m' h' n' =
    let more = qualifiers_only ks xs (a + 1) m h.2 n xs' m' h'.2 n' in
    (ap (λ k. k ∷ xs) (h.0 ∙ sym h'.0) ∙ ap (λ k. x' ∷ k) more.0, more.1)

-- no qualifier goes on where pointers do, or where they end
pub between : (ks : List Kind) → (ps : List (ℕ × List ℕ)) → (m b : ℕ) → HoldPointers ks ps m b → (qualifies_at ks b ≡ true → ⊥)
    → qualifies_at ks m ≡ true → ⊥
between ks [] m b h n e = n (ap (λ k. qualifies_at ks k) h ∙ e)
between ks (p ∷ ps) m b h n e = qualifies_not ks m Star e h.2 refl refl

pub pointers_only : (ks : List Kind) → (ps : List (ℕ × List ℕ)) → (a b : ℕ) → HoldPointers ks ps a b → (kind_at ks b ≡ Star → ⊥)
    → (qualifies_at ks b ≡ true → ⊥) → (ps' : List (ℕ × List ℕ)) → (b' : ℕ) → HoldPointers ks ps' a b' → (kind_at ks b' ≡ Star → ⊥)
    → (qualifies_at ks b' ≡ true → ⊥) → (ps ≡ ps') × (b ≡ b')
pointers_only ks [] a b h n q [] b' h' n' q' = (refl, h ∙ sym h')
pointers_only ks [] a b h n q (p ∷ ps) b' h' n' q' = absurd (n (ap (λ k. kind_at ks k) h ∙ h'.2))
pointers_only ks (p ∷ ps) a b h n q [] b' h' n' q' = absurd (n' (ap (λ k. kind_at ks k) h' ∙ h.2))
pointers_only ks (p ∷ ps) a b h n q (p' ∷ ps') b' h' n' q' =
    let one = qualifiers_only ks p.1 (a + 1) h.0 h.3 (between ks ps h.0 b h.4 q) p'.1 h'.0 h'.3 (between ks ps' h'.0 b' h'.4 q') in
    let more = pointers_only ks ps h.0 b h.4 n q ps' b' (subst (λ x. HoldPointers ks ps' x b') (sym one.1) h'.4) n' q' in (
      ap (λ x. (x, p.1) ∷ ps) (h.1 ∙ sym h'.1)
          ∙ ap (λ x. (p'.0, x) ∷ ps) one.0
          ∙ ap (λ xs. p' ∷ xs) more.0,
      more.1,
    )

-- what the loops keep
pub record Qualifiers (ks : List Kind) (start : ℕ) (done : List ℕ) (at : ℕ) : Type 0 where
  pub grows : (ns : List ℕ) → (b : ℕ) → HoldQualifiers ks ns at b → HoldQualifiers ks (done ++ ns) start b
  pub forth : start ≤ at
  pub inside : at ≤ length ks

pub qualifiers_turn : (ks : List Kind) → (start : ℕ) → (done : List ℕ) → (at : ℕ) → Qualifiers ks start done at → qualifies_at ks at ≡ true
    → at < length ks → Qualifiers ks start (done ++ at ∷ []) (at + 1)
qualifiers_turn ks start done at loop k i =
    let one : start ≤ at = loop.forth in
    record {
      grows = λ ns b h.
          subst (λ xs. HoldQualifiers ks xs start b) (sym (append_assoc done (at ∷ []) ns)) (loop.grows (at ∷ ns) b (refl, k, h));
      forth = omega arith;
      inside = omega arith;
    }

pub qualifiers_end : (ks : List Kind) → (start : ℕ) → (done : List ℕ) → (at : ℕ) → Qualifiers ks start done at → (qualifies_at ks at ≡ true → ⊥)
    → FoundQualifiers ks start done at
qualifiers_end ks start done at loop n = record {
  reads = subst (λ xs. HoldQualifiers ks xs start at) (append-nil done) (loop.grows [] at refl);
  no_more = n;
  forth = loop.forth;
  inside = loop.inside;
}

pub record Pointers (ks : List Kind) (start : ℕ) (done : List (ℕ × List ℕ)) (at : ℕ) : Type 0 where
  pub grows : (ps : List (ℕ × List ℕ)) → (b : ℕ) → HoldPointers ks ps at b → HoldPointers ks (done ++ ps) start b
  pub unqualified : (qualifies_at ks start ≡ true → ⊥) → qualifies_at ks at ≡ true → ⊥
  pub forth : start ≤ at
  pub inside : at ≤ length ks

pub pointers_start : (ks : List Kind) → (at : ℕ) → at ≤ length ks → Pointers ks at [] at
pointers_start ks at i = record { grows = λ ps b h. h; unqualified = λ n. n; forth = omega arith; inside = i }

pub pointers_turn : (ks : List Kind) → (start : ℕ) → (done : List (ℕ × List ℕ)) → (at : ℕ) → (ns : List ℕ) → (m : ℕ) → Pointers ks start done at
    → kind_at ks at ≡ Star → FoundQualifiers ks (at + 1) ns m → Pointers ks start (done ++ (at, ns) ∷ []) m
pointers_turn ks start done at ns m loop k found =
    let one : start ≤ at = loop.forth in
    let two : at + 1 ≤ m = found.forth in
    record {
      grows = λ ps b h.
          subst
          (λ xs. HoldPointers ks xs start b)
          (sym (append_assoc done ((at, ns) ∷ []) ps))
          (loop.grows ((at, ns) ∷ ps) b (m, refl, k, found.reads, h));
      unqualified = λ n. found.no_more;
      forth = omega arith;
      inside = found.inside;
    }

pub pointers_end : (ks : List Kind) → (start : ℕ) → (done : List (ℕ × List ℕ)) → (at : ℕ) → Pointers ks start done at → (kind_at ks at ≡ Star → ⊥)
    → FoundPointers ks start done at
pointers_end ks start done at loop n = record {
  reads = subst (λ xs. HoldPointers ks xs start at) (append-nil done) (loop.grows [] at refl);
  no_more = n;
  unqualified = loop.unqualified;
  forth = loop.forth;
  inside = loop.inside;
}
