-- Lists of identifiers, as the code reads them one behind another.
use Rattle.std.proofs.Common.{◌≡◌, refl, ap, sym, ◌∙◌, subst, ℕ, ◌+◌, ◌<◌, ◌≤◌, List, [], ◌∷◌, ◌++◌, length, arith}
use Rattle.tree_data.specs.Trees.{Names_of}
use Rattle.c_parser.specs.declared.kinds.Kind.{Kind}
use Rattle.c_parser.specs.declared.kinds.Kind.TheVariants.{Identifier, CloseParen, Comma}
use Rattle.c_parser.specs.Declarators.{spell_names, AreNames}
use Rattle.c_parser.specs.Kinds.{kind_at, is_identifier}
use Rattle.c_parser.specs.Reading.{HoldNames}
use Rattle.c_parser.specs.TypeNames.{FoundNames, FoundParameters}
use Rattle.c_parser.proofs.Marks.{clash}
use Rattle.c_parser.specs.Numbers.{Spans}
use Rattle.c_parser.proofs.Words.{test_inside}

pub names_formed : (ks : List Kind) → (ns : List (ℕ × ℕ)) → (a b : ℕ) → HoldNames ks ns a b → AreNames ks ns
names_formed ks [] a b h = tt
names_formed ks (p ∷ ps) a b h =
    (ap (λ x. kind_at ks x) h.0 ∙ h.1, ap (λ x. kind_at ks x) h.2 ∙ h.3, names_formed ks ps ((a + 1) + 1) b h.4)

pub names_spanned : (ks : List Kind) → (ns : List (ℕ × ℕ)) → (a b : ℕ) → HoldNames ks ns a b → Spans (spell_names ns) a b
names_spanned ks [] a b h = h
names_spanned ks (p ∷ ps) a b h = (h.0, (h.2, names_spanned ks ps ((a + 1) + 1) b h.4))

pub names_held : (ks : List Kind) → (ns : List (ℕ × ℕ)) → (a b : ℕ) → AreNames ks ns → Spans (spell_names ns) a b → HoldNames ks ns a b
names_held ks [] a b f s = s
names_held ks (p ∷ ps) a b f s = (
  s.0,
  ap (λ x. kind_at ks x) (sym s.0) ∙ f.0,
  s.1.0,
  ap (λ x. kind_at ks x) (sym s.1.0) ∙ f.1,
  names_held ks ps ((a + 1) + 1) b f.2 s.1.1,
)

pub names_only : (ks : List Kind) → (ns : List (ℕ × ℕ)) → (a b : ℕ) → HoldNames ks ns a b → (kind_at ks b ≡ Comma → ⊥)
    → (ns' : List (ℕ × ℕ)) → (b' : ℕ) → HoldNames ks ns' a b' → (kind_at ks b' ≡ Comma → ⊥) → (ns ≡ ns') × (b ≡ b')
names_only ks [] a b h n [] b' h' n' = (refl, h ∙ sym h')
names_only ks [] a b h n (p ∷ ps) b' h' n' = absurd (n (ap (λ x. kind_at ks x) h ∙ h'.1))
names_only ks (p ∷ ps) a b h n [] b' h' n' = absurd (n' (ap (λ x. kind_at ks x) h' ∙ h.1))
names_only ks (p ∷ ps) a b h n (p' ∷ ps') b' h' n' =
    let more = names_only ks ps ((a + 1) + 1) b h.4 n ps' b' h'.4 n' in (
      ap (λ x. (x, p.1) ∷ ps) (h.0 ∙ sym h'.0) ∙ ap (λ x. (p'.0, x) ∷ ps) (h.2 ∙ sym h'.2) ∙ ap (λ x. p' ∷ x) more.0,
      more.1,
    )

pub closes : (ks : List Kind) → (c : ℕ) → kind_at ks c ≡ CloseParen → kind_at ks c ≡ Comma → ⊥
closes ks c k e = clash (kind_at ks c) CloseParen Comma k e (λ x. omega (arith, x))

-- what the loop keeps
pub record Listing (ks : List Kind) (start : ℕ) (done : List (ℕ × ℕ)) (at : ℕ) : Type 0 where
  pub reads : HoldNames ks done start at
  pub forth : start ≤ at
  pub inside : at ≤ length ks

pub names_start : (ks : List Kind) → (at : ℕ) → at ≤ length ks → Listing ks at [] at
names_start ks at i = record { reads = refl; forth = omega arith; inside = i }

more_names : (ks : List Kind) → (ns : List (ℕ × ℕ)) → (a m : ℕ) → HoldNames ks ns a m → kind_at ks m ≡ Comma → kind_at ks (m + 1) ≡ Identifier
    → HoldNames ks (ns ++ (m, m + 1) ∷ []) a ((m + 1) + 1)
more_names ks [] a m h k i =
    subst (λ x. HoldNames ks ((m, m + 1) ∷ []) x ((m + 1) + 1)) h (refl, k, refl, i, refl)
more_names ks (p ∷ ps) a m h k i = (h.0, h.1, h.2, h.3, more_names ks ps ((a + 1) + 1) m h.4 k i)

pub names_turn : (ks : List Kind) → (start : ℕ) → (done more : List (ℕ × ℕ)) → (at : ℕ) → Listing ks start done at → kind_at ks at ≡ Comma
    → kind_at ks (at + 1) ≡ Identifier → more ≡ done ++ (at, at + 1) ∷ [] → Listing ks start more (at + 2)
names_turn ks start done more at loop k i grown =
    let one : start ≤ at = loop.forth in
    let here : at + 1 < length ks = test_inside is_identifier refl ks (at + 1) (ap is_identifier i) in
    let two : (at + 1) + 1 ≡ at + 2 = omega arith in
    record {
      reads =
          subst
          (λ xs. HoldNames ks xs start (at + 2))
          (sym grown)
          (subst (λ x. HoldNames ks (done ++ (at, at + 1) ∷ []) start x) two (more_names ks done start at loop.reads k i));
      forth = omega arith;
      inside = omega arith;
    }

pub names_end : (ks : List Kind) → (start : ℕ) → (done : List (ℕ × ℕ)) → (at : ℕ) → Listing ks start done at → (kind_at ks at ≡ Comma → ⊥)
    → FoundNames ks start done at
names_end ks start done at loop n = record { reads = loop.reads; no_more = n; forth = loop.forth; inside = loop.inside }

-- behind a comma no identifier stands
stops_names : (ks : List Kind) → (done : List (ℕ × ℕ)) → (a m : ℕ) → HoldNames ks done a m → kind_at ks m ≡ Comma → (kind_at ks (m + 1) ≡ Identifier → ⊥)
    → (ns : List (ℕ × ℕ)) → (b : ℕ) → HoldNames ks ns a b → (kind_at ks b ≡ Comma → ⊥) → ⊥
stops_names ks [] a m h k u [] b g n = n (ap (λ x. kind_at ks x) (g ∙ sym h) ∙ k)
stops_names ks [] a m h k u (p ∷ ps) b g n = u (ap (λ x. kind_at ks (x + 1)) h ∙ g.3)
stops_names ks (p ∷ done) a m h k u [] b g n = n (ap (λ x. kind_at ks x) g ∙ h.1)
stops_names ks (p ∷ done) a m h k u (p' ∷ ps) b g n = stops_names ks done ((a + 1) + 1) m h.4 k u ps b g.4 n

pub names_fail : (ks : List Kind) → (start : ℕ) → (done : List (ℕ × ℕ)) → (at : ℕ) → Listing ks start done at → kind_at ks at ≡ Comma
    → (kind_at ks (at + 1) ≡ Identifier → ⊥) → (ns : List (ℕ × ℕ)) → (b : ℕ) → HoldNames ks ns start b → kind_at ks b ≡ CloseParen → ⊥
names_fail ks start done at loop k u ns b h e = stops_names ks done start at loop.reads k u ns b h (closes ks b e)

pub names_found : (ks : List Kind) → (a : ℕ) → kind_at ks a ≡ Identifier → (ns : List (ℕ × ℕ)) → (b : ℕ) → FoundNames ks (a + 1) ns b
    → FoundParameters ks a (Names_of a ns) b
names_found ks a k ns b x =
    let one : a + 1 ≤ b = x.forth in
    record { reads = (refl, k, x.reads); forth = omega arith; inside = x.inside }
