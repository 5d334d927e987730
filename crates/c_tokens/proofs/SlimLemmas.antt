-- Characters that take as many bytes as they are were written as they are spelled.
use Rattle.std.proofs.Common.{◌≡◌, ℕ, zero, suc, ◌+◌, ◌-◌, ◌<◌, ◌≤◌, false, List, [], ◌∷◌, ◌++◌, length, take, drop, refl, ap, sym, ◌∙◌, subst, arith}
use Rattle.std.proofs.lemmas.List.{append-nil, length-take-le, drop-drop}
use Rattle.c_tokens.specs.declared.logical.Unit.{Unit}
use Rattle.c_tokens.specs.declared.logical.Unit.TheVariants.{Removed, Trigraph, Plain}
use Rattle.c_tokens.specs.Cut.{cut}
use Rattle.c_tokens.specs.Logical.{Source, Character, first_unit, first_source, source_of, characters, start_of, end_of}
use Rattle.c_tokens.specs.Pieces.{spelling}
use Rattle.c_tokens.specs.Reading.{rest}
use Rattle.c_tokens.proofs.FindingLemmas.{end_of_some}
use Rattle.c_tokens.proofs.FollowLemmas.{Within, source_within}
use Rattle.c_tokens.proofs.FrontLemmas.{if_cases}

-- the first n characters of some that were read from `bytes`, which stand at `place`, from `at` on
record Slim (place at : ℕ) (bytes : List ℕ) (cs : List Character) (n : ℕ) : Type 0 where
  begins : at ≤ start_of cs
  takes : start_of cs + n ≤ end_of 0 (take n cs)
  spells : end_of 0 (take n cs) ≡ start_of cs + n → spelling (take n cs) ≡ take n (drop (start_of cs - place) bytes)

-- a unit of one byte is that byte
one_byte : (u : Unit) (b : ℕ) (bytes : List ℕ) → (source_of u (b ∷ bytes)).removed ≡ false → (source_of u (b ∷ bytes)).width ≡ 1 → (source_of u (b ∷ bytes)).spelling ≡ b ∷ []
one_byte (Removed w) b bytes kept e = absurd (cc kept)
one_byte (Trigraph c) b bytes kept e = absurd (omega (arith, e))
one_byte (Plain w) b bytes kept e = ap (λ n. take n (b ∷ bytes)) e

drop_more : (o place b : ℕ) (bytes : List ℕ) → place < o → drop (o - place) (b ∷ bytes) ≡ drop (o - (place + 1)) bytes
drop_more o place b bytes h = let e : o - place ≡ suc (o - (place + 1)) = omega arith in ap (λ n. drop n (b ∷ bytes)) e

-- a character in front
kept : (place at width b : ℕ) (bytes : List ℕ) (c : Character) (cs : List Character) → at ≡ place → c.own ≡ at → c.to ≡ at + width → 0 < width
    → (width ≡ 1 → c.spelling ≡ b ∷ [])
    → ((m : ℕ) → 0 < m → m ≤ length cs → Slim (place + 1) (at + width) bytes cs m)
    → (n : ℕ) → 0 < n → n ≤ length (c ∷ cs) → Slim place at (b ∷ bytes) (c ∷ cs) n
kept place at width b bytes c cs here own to wide one again zero some enough = absurd (omega arith)
kept place at width b bytes c cs here own to wide one again (suc zero) some enough = record {
  begins = omega (arith, own);
  takes = omega (arith, own, to, wide);
  spells = λ e.
      let w : width ≡ 1 = omega (arith, e, own, to) in
      let z : c.own - place ≡ 0 = omega (arith, own, here) in
      append-nil c.spelling ∙ one w ∙ ap (λ k. take 1 (drop k (b ∷ bytes))) (sym z);
}
kept place at width b bytes c cs here own to wide one again (suc (suc m)) some enough =
    let s = again (suc m) (omega arith) (omega (arith, enough)) in
    let more : 0 < length (take (suc m) cs) = omega (arith, length-take-le (suc m) cs (omega (arith, enough))) in
    let end : end_of c.to (take (suc m) cs) ≡ end_of 0 (take (suc m) cs) = sym (end_of_some c.to (take (suc m) cs) more) in
    record {
      begins = omega (arith, own);
      takes = omega (arith, own, s.begins, s.takes, end, wide);
      spells = λ e.
          let w : width ≡ 1 = omega (arith, e, own, s.begins, s.takes, end, wide) in
          let first : start_of cs - (place + 1) ≡ 0 = omega (arith, e, own, here, s.begins, s.takes, end, wide) in
          let z : c.own - place ≡ 0 = omega (arith, own, here) in
          let last : end_of 0 (take (suc m) cs) ≡ start_of cs + suc m = omega (arith, e, own, here, s.begins, s.takes, end, wide) in
          ap (λ t. t ++ spelling (take (suc m) cs)) (one w)
          ∙ ap (λ t. b ∷ t) (s.spells last ∙ ap (λ k. take (suc m) (drop k bytes)) first)
          ∙ ap (λ k. take (suc (suc m)) (drop k (b ∷ bytes))) (sym z);
    }

slim : (bytes : List ℕ) (place skip from n : ℕ) → skip ≤ length bytes
    → 0 < n → n ≤ length (characters from (place + skip) (cut first_source (λ s. s.width) skip bytes))
    → Slim place (place + skip) bytes (characters from (place + skip) (cut first_source (λ s. s.width) skip bytes)) n
slim [] place zero from n within some enough = absurd (omega (arith, some, enough))
slim [] place (suc skip) from n within some enough = absurd (omega arith)
slim (b ∷ bytes) place (suc skip) from n within some enough =
    let at : (place + 1) + skip ≡ place + suc skip = omega arith in
    let us : List Source = cut first_source (λ s. s.width) skip bytes in
    let P : ℕ → Type 0 = λ k. n ≤ length (characters from k us) → Slim place k (b ∷ bytes) (characters from k us) n in
    subst P at (λ enough. further (characters from ((place + 1) + skip) us) ((place + 1) + skip) (omega arith) (slim bytes (place + 1) skip from n (omega arith) some enough)) enough where
      further : (cs : List Character) (k : ℕ) → place < k → Slim (place + 1) k bytes cs n → Slim place k (b ∷ bytes) cs n
      further cs k h s = record {
        begins = s.begins;
        takes = s.takes;
        spells = λ e. s.spells e ∙ ap (take n) (sym (drop_more (start_of cs) place b bytes (omega (arith, s.begins, h))));
      }
slim (b ∷ bytes) place zero from n within some enough =
    let s : Source = first_source (b ∷ bytes) in
    let bounds : Within (b ∷ bytes) (first_unit (b ∷ bytes)) = source_within (b ∷ bytes) (omega arith) in
    let us : List Source = cut first_source (λ s. s.width) (s.width - 1) bytes in
    let at = place + 0 in
    let next : (place + 1) + (s.width - 1) ≡ at + s.width = omega (arith, bounds.0) in
    let P : ℕ → ℕ → Type 0 = λ from k. (n : ℕ) → 0 < n → n ≤ length (characters from k us) → Slim (place + 1) k bytes (characters from k us) n in
    let again : (from : ℕ) → P from (at + s.width) =
    λ from. subst (P from) next (λ n some enough. slim bytes (place + 1) (s.width - 1) from n (omega (arith, bounds.0, bounds.1)) some enough) in
    if_cases (λ (cs : List Character). n ≤ length cs → Slim place at (b ∷ bytes) cs n) s.removed _ _
    (λ r enough. removed (characters from (at + s.width) us) at (at + s.width) (omega arith) (omega (arith, bounds.0)) (again from n some enough))
    (λ r enough. kept place at s.width b bytes _ (characters (at + s.width) (at + s.width) us) (omega arith) refl refl bounds.0 (one_byte (first_unit (b ∷ bytes)) b bytes r) (again (at + s.width)) n some enough)
    enough where
      removed : (cs : List Character) (at k : ℕ) → at ≡ place → place < k → Slim (place + 1) k bytes cs n → Slim place at (b ∷ bytes) cs n
      removed cs at k here h s = record {
        begins = omega (arith, s.begins, here, h);
        takes = s.takes;
        spells = λ e. s.spells e ∙ ap (take n) (sym (drop_more (start_of cs) place b bytes (omega (arith, s.begins, h))));
      }

-- `count` characters from a place on
pub spelled_as_written : (text : List ℕ) (at own end count : ℕ) → at ≤ length text → 0 < count → count ≤ length (rest text at)
    → own ≡ start_of (take count (rest text at)) → end ≡ end_of at (take count (rest text at)) → end ≡ own + count
    → take (end - own) (drop own text) ≡ spelling (take count (rest text at))
unfolding rest
spelled_as_written text at own end count within some enough own_is end_is slim_is =
    let cs = rest text at in
    let zero_more : at + 0 ≡ at = omega arith in
    let P : ℕ → Type 0 = λ k. count ≤ length (characters at k (cut first_source (λ s. s.width) 0 (drop at text))) → Slim at k (drop at text) (characters at k (cut first_source (λ s. s.width) 0 (drop at text))) count in
    let s : Slim at at (drop at text) cs count = subst P zero_more (λ enough. slim (drop at text) at 0 at count (omega arith) some enough) enough in
    let front : start_of (take count cs) ≡ start_of cs = front_of_some count cs some in
    let more : 0 < length (take count cs) = omega (arith, length-take-le count cs enough) in
    let back : end_of 0 (take count cs) ≡ end = end_of_some at (take count cs) more ∙ sym end_is in
    let size : end - own ≡ count = omega (arith, slim_is) in
    let place : at + (start_of cs - at) ≡ own = omega (arith, s.begins, own_is, front) in
    ap (λ k. take k (drop own text)) size
    ∙ ap (λ k. take count (drop k text)) (sym place)
    ∙ ap (take count) (sym (drop-drop (start_of cs - at) at text))
    ∙ sym (s.spells (omega (arith, back, slim_is, own_is, front))) where
      front_of_some : (n : ℕ) (xs : List Character) → 0 < n → start_of (take n xs) ≡ start_of xs
      front_of_some zero xs some = absurd (omega arith)
      front_of_some (suc n) [] some = refl
      front_of_some (suc n) (x ∷ xs) some = refl
