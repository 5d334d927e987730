-- The ranges of a text's characters follow one another.
use Rattle.std.proofs.Common.{◌≡◌, ℕ, zero, suc, ◌+◌, ◌-◌, ◌<◌, ◌≤◌, Bool, true, ◌&&◌, List, [], ◌∷◌, ◌++◌, length, drop, refl, subst, arith, Option, Some, None, slice_index, nat_lt, ◌==◌}
use Rattle.std.proofs.lemmas.Grind.{common_steps}
use Rattle.std.proofs.lemmas.List.{length-drop}
use Rattle.std.specs.List.{prefix_len}
use Rattle.c_tokens.specs.declared.logical.Unit.{Unit}
use Rattle.c_tokens.specs.Cut.{cut}
use Rattle.c_tokens.specs.Logical.{Source, Character, trigraph, line_end_width, backslash_width, begins_trigraph, continues, plain, replaced, first_unit, first_source, source_of, characters, characters_of, end_of}
use Rattle.c_tokens.specs.Laws.{Follow}
use Rattle.c_tokens.specs.Reading.{rest, units}
use Rattle.c_tokens.proofs.Boundaries.{within_from_some}
use Rattle.c_tokens.proofs.FrontLemmas.{if_cases}

same_from_test : (a b : ℕ) → a == b ≡ true → a ≡ b
same_from_test a b e = grind (arith, common_steps, e)

pub within_from_code : (bytes : List ℕ) (k c : ℕ) → 0 < c → slice_index bytes k == c ≡ true → k < length bytes
within_from_code bytes k c some e = within_from_some bytes k (omega (arith, same_from_test (slice_index bytes k) c e))

line_end_within : (bytes : List ℕ) (k : ℕ) → 0 < line_end_width bytes k → k + line_end_width bytes k ≤ length bytes
unfolding line_end_width
line_end_within bytes k = if_cases (λ (w : ℕ). 0 < w → k + w ≤ length bytes) (slice_index bytes k == 10) _ _
    (λ e _. omega (arith, within_from_code bytes k 10 (omega arith) e))
    (λ _. if_cases (λ (w : ℕ). 0 < w → k + w ≤ length bytes) (slice_index bytes k == 13) _ _
    (λ e. if_cases (λ (w : ℕ). 0 < w → k + w ≤ length bytes) (slice_index bytes (k + 1) == 10) _ _
    (λ f _. omega (arith, within_from_code bytes (k + 1) 10 (omega arith) f))
    (λ _ _. omega (arith, within_from_code bytes k 13 (omega arith) e)))
    (λ _ some. omega (arith, some)))

prefix_within : (p : ℕ → Bool) (xs : List ℕ) → prefix_len p xs ≤ length xs
prefix_within p [] = omega arith
prefix_within p (x ∷ xs) = if_cases (λ (n : ℕ). n ≤ length (x ∷ xs)) (p x) _ _ (λ _. omega (arith, prefix_within p xs)) (λ _. omega arith)

-- the bytes of the unit at the front
abbrev pub Within : List ℕ → Unit → Type 0
Within bytes u = (0 < (source_of u bytes).width) × ((source_of u bytes).width ≤ length bytes)

plain_within : (bytes : List ℕ) → 0 < length bytes → Within bytes (plain bytes)
plain_within bytes long = (omega arith, omega (arith, prefix_within continues (drop 1 bytes), length-drop 1 bytes, long))

trigraph_some : (third c : ℕ) → Some c ≡ trigraph third → 0 < third
unfolding trigraph
trigraph_some zero c e = cc e
trigraph_some (suc third) c e = omega arith

replaced_within : (bytes : List ℕ) (o : Option ℕ) → o ≡ trigraph (slice_index bytes 2) → 0 < length bytes → Within bytes (replaced o bytes)
replaced_within bytes None e long = plain_within bytes long
replaced_within bytes (Some c) e long = (omega arith, omega (arith, within_from_some bytes 2 (trigraph_some (slice_index bytes 2) c e)))

pub source_within : (bytes : List ℕ) → 0 < length bytes → Within bytes (first_unit bytes)
unfolding first_unit
source_within bytes long = if_cases (Within bytes) (nat_lt 0 (backslash_width bytes) && nat_lt 0 (line_end_width bytes (backslash_width bytes))) _ _
    (λ e. removed_within (backslash_width bytes) (line_end_width bytes (backslash_width bytes)) e (line_end_within bytes (backslash_width bytes)))
    (λ _. if_cases (Within bytes) (begins_trigraph bytes) _ _ (λ _. replaced_within bytes (trigraph (slice_index bytes 2)) refl long) (λ _. plain_within bytes long))
  where
    removed_within : (b l : ℕ) → nat_lt 0 b && nat_lt 0 l ≡ true → (0 < l → b + l ≤ length bytes) → (0 < b + l) × (b + l ≤ length bytes)
    removed_within b l e within = let some : 0 < l = grind (arith, common_steps, e) in (omega (arith, some), within some)

-- the bytes of units
abbrev pub widths : List Source → ℕ
widths [] = 0
widths (s ∷ us) = s.width + widths us

widths_of_cut : (skip : ℕ) (bytes : List ℕ) → skip ≤ length bytes → widths (cut first_source (λ s. s.width) skip bytes) + skip ≡ length bytes
widths_of_cut zero [] within = omega arith
widths_of_cut (suc skip) [] within = absurd (omega arith)
widths_of_cut (suc skip) (b ∷ bytes) within = omega (arith, widths_of_cut skip bytes (omega arith))
widths_of_cut zero (b ∷ bytes) within =
    let bounds : Within (b ∷ bytes) (first_unit (b ∷ bytes)) = source_within (b ∷ bytes) (omega arith) in
    omega (arith, bounds.0, bounds.1, widths_of_cut ((first_source (b ∷ bytes)).width - 1) bytes (omega (arith, bounds.0, bounds.1)))

characters_follow : (from at : ℕ) (us : List Source) → from ≤ at → Follow from (at + widths us) (characters from at us)
characters_follow from at [] before = omega (arith, before)
characters_follow from at (s ∷ us) before =
    let e : at + s.width + widths us ≡ at + (s.width + widths us) = omega arith in
    if_cases (λ (cs : List Character). Follow from (at + (s.width + widths us)) cs) s.removed _ _
    (λ _. subst (λ (limit : ℕ). Follow from limit (characters from (at + s.width) us)) e (characters_follow from (at + s.width) us (omega (arith, before))))
    (λ _. (refl, before, omega arith, subst (λ (limit : ℕ). Follow (at + s.width) limit (characters (at + s.width) (at + s.width) us)) e (characters_follow (at + s.width) (at + s.width) us (omega arith))))

-- the characters from a place on
pub rest_follows : (text : List ℕ) (at : ℕ) → Follow at (at + widths (units text at)) (rest text at)
unfolding rest
rest_follows text at = characters_follow at at (units text at) (omega arith)

pub text_follows : (text : List ℕ) → Follow 0 (length text) (characters_of text)
text_follows text = subst (λ (limit : ℕ). Follow 0 limit (characters_of text)) (omega (arith, widths_of_cut 0 text (omega arith))) (characters_follow 0 0 (cut first_source (λ s. s.width) 0 text) (omega arith))

-- with one character more, up to the limit
pub follow_closed : (at limit : ℕ) (cs : List Character) (m : Character) → m.from ≡ end_of at cs → m.own ≡ limit → m.to ≡ limit → Follow at limit cs → Follow at limit (cs ++ m ∷ [])
follow_closed at limit [] m from own to follow = (from, omega (arith, from, own, follow), omega (arith, own, to), omega (arith, to))
follow_closed at limit (c ∷ cs) m from own to follow = (follow.0, follow.1, follow.2, follow_closed c.to limit cs m from own to follow.3)
