-- A text is read unit by unit.
use Rattle.std.proofs.Common.{◌≡◌, ℕ, ◌+◌, ◌-◌, ◌<◌, ◌≤◌, List, [], ◌∷◌, length, take, drop, slice_index, get_or, ap, sym, ◌∙◌, subst, arith, IsUtf8, IsCharBoundary}
use Rattle.std.proofs.lemmas.List.{length-drop, drop-drop, get_or-take}
use Rattle.std.proofs.lemmas.Str.{IsCharBoundary-from_rest, IsUtf8-drop}
use Rattle.c_tokens.specs.declared.logical.Unit.{Unit}
use Rattle.c_tokens.specs.declared.logical.Unit.TheVariants.{Removed, Trigraph, Plain}
use Rattle.c_tokens.specs.Logical.{first_unit, first_source, source_of, characters}
use Rattle.c_tokens.specs.Reading.{units, rest, KeepsBoundary}
use Rattle.c_tokens.proofs.CutLemmas.{cut_at}

-- the first unit from a place on, and the units behind it
units_at : (text : List ℕ) (at : ℕ) (u : Unit) → at < length text → u ≡ first_unit (drop at text) → 0 < (source_of u (drop at text)).width → units text at ≡ source_of u (drop at text) ∷ units text (at + (source_of u (drop at text)).width)
units_at text at u within e some =
    let f : Unit = first_unit (drop at text) in
    let back : f ≡ u = sym e in
    let wide : 0 < (first_source (drop at text)).width = rw back some in
    let long : 0 < length (drop at text) = omega (arith, length-drop at text) in
    let cuts = rw (drop-drop (first_source (drop at text)).width at text) at (cut_at first_source (λ s. s.width) (drop at text) long wide) in
    rw back at cuts

-- a removed unit
pub removed_step : (text behind : List ℕ) (at own w : ℕ) → behind ≡ drop own text → own < length text → Removed w ≡ first_unit behind → 0 < w → characters at own (units text own) ≡ rest text at → characters at (own + w) (units text (own + w)) ≡ rest text at
removed_step text behind at own w e within f some same = ap (characters at own) (sym (units_at text own (Removed w) within (f ∙ ap first_unit e) some)) ∙ same

-- a unit that stands for a character
pub trigraph_step : (text behind : List ℕ) (at own c : ℕ) → behind ≡ drop own text → own < length text → Trigraph c ≡ first_unit behind → characters at own (units text own) ≡ rest text at → rest text at ≡ (record { spelling = c ∷ []; from = at; own = own; to = own + 3 }) ∷ rest text (own + 3)
unfolding rest
trigraph_step text behind at own c e within f same = sym same ∙ ap (characters at own) (units_at text own (Trigraph c) within (f ∙ ap first_unit e) (omega arith))

pub plain_step : (text behind : List ℕ) (at own w : ℕ) → behind ≡ drop own text → own < length text → Plain w ≡ first_unit behind → 0 < w → characters at own (units text own) ≡ rest text at → rest text at ≡ (record { spelling = take (own + w - own) (drop own text); from = at; own = own; to = own + w }) ∷ rest text (own + w)
unfolding rest
plain_step text behind at own w e within f some same =
    let same_width : own + w - own ≡ w = omega arith in
    rw same_width (sym same ∙ ap (characters at own) (units_at text own (Plain w) within (f ∙ ap first_unit e) some))

-- a place behind the rest of a text that may be cut there
pub boundary_behind : (text behind : List ℕ) (at own w : ℕ) → behind ≡ drop own text → own ≤ length text → (IsUtf8 behind → IsCharBoundary behind w) → KeepsBoundary text at own → KeepsBoundary text at (own + w)
boundary_behind text behind at own w e within kept keeps utf8 first =
    let here : IsCharBoundary text own = keeps utf8 first in
    let rest8 : IsUtf8 (drop own text) = IsUtf8-drop text own utf8 here in
    let cut_there : IsCharBoundary (drop own text) w = subst (λ (xs : List ℕ). IsCharBoundary xs w) e (kept (subst (λ (xs : List ℕ). IsUtf8 xs) (sym e) rest8)) in
    IsCharBoundary-from_rest text own w within cut_there

pub plain_code : (text behind : List ℕ) (own w : ℕ) → behind ≡ drop own text → 0 < w → get_or behind 0 0 ≡ slice_index (take (own + w - own) (drop own text)) 0
plain_code text behind own w e some =
    let same_width : own + w - own ≡ w = omega arith in
    rw (same_width, e) (sym (get_or-take w (drop own text) 0 0 some))
