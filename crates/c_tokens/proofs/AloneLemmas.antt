-- A byte that is a unit by itself.
use Rattle.std.proofs.Common.{◌≡◌, ◌≢◌, inl, inr, ℕ, ◌+◌, ◌<◌, ◌==◌, false, List, [], ◌∷◌, length, drop, slice_index, refl, ap, sym, ◌∙◌, arith}
use Rattle.std.proofs.lemmas.Bool.Decides.{eqb_tells}
use Rattle.std.proofs.lemmas.List.{get_or-drop, length-drop}
use Rattle.c_tokens.specs.declared.logical.Read.{Read}
use Rattle.c_tokens.specs.declared.logical.Unit.TheVariants.{Plain}
use Rattle.c_tokens.specs.Logical.{first_unit, backslash_width, begins_trigraph, continues}
use Rattle.c_tokens.specs.Reading.{rest, ahead, IsAlone, IsLook, IsNext}
use Rattle.c_tokens.proofs.AfterLemmas.{after_begins, after_turns, ahead_next}
use Rattle.c_tokens.proofs.Boundaries.{before_lead}
use Rattle.c_tokens.proofs.ReadingLemmas.{plain_step, plain_code}

differs : (a b : ℕ) → a ≢ b → (a == b) ≡ false
differs a b other = elim (eqb_tells a b) [ inl w ↦ absurd (other w.1) | inr w ↦ w.0 ]

-- no backslash, no question mark, and nothing that continues it
lone_unit : (bytes : List ℕ) → 1 < length bytes → (slice_index bytes 0 == 92) ≡ false → (slice_index bytes 0 == 63) ≡ false → continues (slice_index bytes 1) ≡ false → first_unit bytes ≡ Plain 1
unfolding first_unit backslash_width begins_trigraph
lone_unit [] long backslash question ends = absurd (omega arith)
lone_unit (b ∷ []) long backslash question ends = absurd (omega arith)
lone_unit (b ∷ (d ∷ bytes)) long backslash question ends = rw (backslash, question, ends) refl

pub alone : (text : List ℕ) (at : ℕ) → at + 1 < length text → slice_index text at ≢ 92 → slice_index text at ≢ 63 → continues (slice_index text (at + 1)) ≡ false → IsAlone text at
alone text at within backslash question ends =
    let first : slice_index (drop at text) 0 ≡ slice_index text at = get_or-drop at text 0 0 ∙ ap (λ k. slice_index text k) (omega arith) in
    let second : slice_index (drop at text) 1 ≡ slice_index text (at + 1) = get_or-drop at text 1 0 in
    record {
      within = within;
      unit = lone_unit (drop at text) (omega (arith, length-drop at text)) (ap (λ b. b == 92) first ∙ differs _ 92 backslash) (ap (λ b. b == 63) first ∙ differs _ 63 question) (ap continues second ∙ ends);
      ends = ends;
    }

pub alone_next : (text : List ℕ) (at : ℕ) → IsAlone text at → IsNext text at (record { unit = Plain 1; code = slice_index text at; own = at; end = at + 1 })
unfolding rest
alone_next text at alone =
    let within : at < length text = omega (arith, alone.within) in
    record {
      first = plain_step text (drop at text) at at 1 refl within (sym alone.unit) (omega arith) refl;
      code = sym (get_or-drop at text 0 0 ∙ ap (λ k. slice_index text k) (omega arith)) ∙ plain_code text (drop at text) at 1 refl (omega arith);
      character = tt;
      begins = omega arith;
      goes_on = omega arith;
      within = omega (arith, alone.within);
      own_boundary = λ _ first. first;
      boundary = λ _ _. before_lead text (at + 1) (omega (arith, alone.within)) (λ _. alone.ends);
    }

pub alone_look : (text : List ℕ) (at : ℕ) → IsAlone text at → IsLook text at (record { code = slice_index text at; end = at + 1 })
alone_look text at alone =
    let r : Read = record { unit = Plain 1; code = slice_index text at; own = at; end = at + 1 } in
    let next : IsNext text at r = alone_next text at alone in
    let codes : ahead text at ≡ slice_index text at ∷ ahead text (at + 1) = ahead_next text at r next in
    record {
      code = ap (λ cs. slice_index cs 0) (sym codes);
      left = ap (drop 1) (sym codes);
      one = λ _. after_turns text at 0 at r (after_begins text at (omega (arith, alone.within))) next;
      within = next.within;
    }
