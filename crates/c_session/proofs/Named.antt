-- A place of a text that a position can name reads back.
use Rattle.std.proofs.Common.{◌≡◌, ℕ, zero, suc, ◌+◌, ◌-◌, ◌<◌, ◌≤◌, Bool, true, false, cond, not, nat_le, nat_eq, ◌==◌, ◌||◌, ◌&&◌, List, [], ◌∷◌, ◌++◌, take, drop, length, slice_index, Some, None, refl, sym, ap, subst, ◌∙◌, arith, IsUtf8, IsCharBoundary, take-append-drop, length-take-le, length-append, get_or-take}
use Rattle.std.proofs.lemmas.Bool.{le-leb}
use Rattle.std.proofs.lemmas.Bool.Decides.{nat_tests}
use Rattle.std.proofs.lemmas.Str.{IsUtf8-take, IsUtf8-drop, chars-append, encodes-chars, encodes-append, len_utf8_bounds}
use lib.Utf8.{encode, encodes}
use Rattle.std.specs.Char.{len_utf8}
use Rattle.std.specs.Str.{chars}
use Rattle.text_lines.proofs.Bytes.{bytes_of}
use Rattle.text_lines.proofs.Places.{reads_back}
use Rattle.text_lines.specs.Lines.{Lines, Last, Ended, lines, after_char, is_line_end, content}
use Rattle.text_lines.specs.Positions.{offset_in, offset_of, line_at, pos_at}
use Rattle.text_lines.specs.Units.{units, fitting, code_units}
use Rattle.text_lines.specs.declared.encoding.Encoding.{Encoding}
use Rattle.text_lines.specs.declared.encoding.Encoding.TheVariants.{Utf8, Utf16, Utf32}
use Rattle.text_lines.specs.declared.pos.Pos.{Pos}

-- a place that cuts no code point, and doesn't part the CR and the LF of one line end
pub record CanBeNamed (text : List ℕ) (place : ℕ) : Type 0 where
  pub boundary : IsCharBoundary text place
  pub apart : slice_index text (place - 1) ≡ 13 → slice_index (drop place text) 0 ≡ 10 → ⊥

-- ---- code units

some_units : (enc : Encoding) (c : ℕ) → 0 < code_units enc c
some_units Utf8 c = omega (arith, len_utf8_bounds c)
some_units Utf16 c = grind (arith, nat_tests)
some_units Utf32 c = omega arith

none_fits : (enc : Encoding) (cs : List ℕ) → fitting enc 0 cs ≡ []
none_fits enc [] = refl
none_fits enc (c ∷ rest) =
    let more : nat_le (code_units enc c) 0 ≡ false = grind (arith, nat_tests, some_units enc c) in
    rw more refl

front_fits : (enc : Encoding) (before behind : List ℕ) → fitting enc (units enc before) (before ++ behind) ≡ before
front_fits enc [] behind = none_fits enc behind
front_fits enc (c ∷ before) behind =
    let first : nat_le (code_units enc c) (code_units enc c + units enc before) ≡ true = le-leb _ _ (omega arith) in
    let left : code_units enc c + units enc before - code_units enc c ≡ units enc before = omega arith in
    rw (first, left) (ap (λ cs. c ∷ cs) (front_fits enc before behind))

-- ---- places of lines

-- a place of these lines has so many bytes in front
record Found (enc : Encoding) (ls : Lines) (k : ℕ) : Type 0 where
  on : ℕ
  line : List ℕ
  before : List ℕ
  behind : List ℕ
  found : line_at ls on ≡ Some line
  parts : content line ≡ before ++ behind
  bytes : offset_in enc ls on (units enc before) ≡ k

at_front : (enc : Encoding) (ls : Lines) → Found enc ls 0
at_front enc (Last line) = record { on = 0; line = line; before = []; behind = content line; found = refl; parts = refl; bytes = ap (units Utf8) (none_fits enc (content line)) }
at_front enc (Ended line more) = record { on = 0; line = line; before = []; behind = content line; found = refl; parts = refl; bytes = ap (units Utf8) (none_fits enc (content line)) }

-- behind a line end
past_end : (enc : Encoding) (c : ℕ) (ls : Lines) (k : ℕ) → Found enc ls k → Found enc (Ended (c ∷ []) ls) (len_utf8 c + k)
past_end enc c ls k f =
    let e : suc f.on - 1 ≡ f.on = omega arith in
    let z : nat_eq (suc f.on) 0 ≡ false = grind (arith, nat_tests) in
    let same : offset_in enc ls (suc f.on - 1) (units enc f.before) ≡ k = ap (λ n. offset_in enc ls n (units enc f.before)) e ∙ f.bytes in
    record {
      on = suc f.on;
      line = f.line;
      before = f.before;
      behind = f.behind;
      found = rw z (ap (line_at ls) e ∙ f.found);
      parts = f.parts;
      bytes = rw z (omega (arith, same));
    }

some_is : (x y : List ℕ) → Some x ≡ Some y → x ≡ y
some_is x y e = cc e

-- the bytes of the front of a line
front_bytes : (enc : Encoding) (line before behind : List ℕ) → content line ≡ before ++ behind → units Utf8 (fitting enc (units enc before) (content line)) ≡ units Utf8 before
front_bytes enc line before behind e = ap (λ cs. units Utf8 (fitting enc (units enc before) cs)) e ∙ ap (units Utf8) (front_fits enc before behind)

with_char : (c : ℕ) (line before behind : List ℕ) → nat_eq c 10 || nat_eq c 13 ≡ false → content line ≡ before ++ behind → content (c ∷ line) ≡ (c ∷ before) ++ behind
with_char c line before behind plain e = rw plain (ap (λ cs. c ∷ cs) e)

-- behind a code point that ends no line
past_char : (enc : Encoding) (c k : ℕ) (ls : Lines) (on : ℕ) (line before behind : List ℕ) → line_at ls on ≡ Some line → content line ≡ before ++ behind → offset_in enc ls on (units enc before) ≡ k →
    (on ≡ 0 → nat_eq c 10 || nat_eq c 13 ≡ false) → Found enc (after_char c ls) (len_utf8 c + k)
past_char enc c k (Last only) zero line before behind found parts bytes plain =
    let here : content only ≡ before ++ behind = ap content (some_is only line found) ∙ parts in
    let more : content (c ∷ only) ≡ (c ∷ before) ++ behind = with_char c only before behind (plain refl) here in
    let old : units Utf8 (fitting enc (units enc before) (content only)) ≡ k = bytes in
    let b : units Utf8 before ≡ k = sym (front_bytes enc only before behind here) ∙ old in
    record { on = 0; line = c ∷ only; before = c ∷ before; behind = behind; found = refl; parts = more; bytes = front_bytes enc (c ∷ only) (c ∷ before) behind more ∙ ap (λ n. len_utf8 c + n) b }
past_char enc c k (Last only) (suc n) line before behind found parts bytes plain =
    let z : nat_eq (suc n) 0 ≡ false = grind (arith, nat_tests) in
    let none : None ≡ Some line = rw z at found in
    absurd (let bad : ⊥ = cc none in bad)
past_char enc c k (Ended first more) zero line before behind found parts bytes plain =
    let here : content first ≡ before ++ behind = ap content (some_is first line found) ∙ parts in
    let new : content (c ∷ first) ≡ (c ∷ before) ++ behind = with_char c first before behind (plain refl) here in
    let old : units Utf8 (fitting enc (units enc before) (content first)) ≡ k = bytes in
    let b : units Utf8 before ≡ k = sym (front_bytes enc first before behind here) ∙ old in
    record { on = 0; line = c ∷ first; before = c ∷ before; behind = behind; found = refl; parts = new; bytes = front_bytes enc (c ∷ first) (c ∷ before) behind new ∙ ap (λ n. len_utf8 c + n) b }
past_char enc c k (Ended first more) (suc n) line before behind found parts bytes plain =
    let z : nat_eq (suc n) 0 ≡ false = grind (arith, nat_tests) in
    let old : units Utf8 first + offset_in enc more (suc n - 1) (units enc before) ≡ k = rw z at bytes in
    let there : line_at more (suc n - 1) ≡ Some line = rw z at found in
    record { on = suc n; line = line; before = before; behind = behind; found = rw z there; parts = parts; bytes = rw z (omega (arith, old)) }

-- ---- code points in front of which a text can be cut

-- a CR isn't the last of those before where an LF follows
abbrev AreApart : List ℕ → List ℕ → Type 0
AreApart before behind = (xs : List ℕ) → before ≡ xs ++ 13 ∷ [] → slice_index behind 0 ≡ 10 → ⊥

apart_behind : (c : ℕ) (before behind : List ℕ) → AreApart (c ∷ before) behind → AreApart before behind
apart_behind c before behind apart = λ xs e f. apart (c ∷ xs) (ap (λ ys. c ∷ ys) e) f

-- the line that an LF alone makes has no place but its front
no_place : (enc : Encoding) (d u k on : ℕ) (xs : List ℕ) → d ≡ 10 → on ≡ 0 → offset_in enc (lines (d ∷ xs)) on u ≡ k → 0 < k → ⊥
no_place enc d u k on xs lf first bytes some =
    let at : offset_in enc (lines (10 ∷ xs)) 0 u ≡ k = subst (λ n. offset_in enc (lines (n ∷ xs)) 0 u ≡ k) lf (subst (λ n. offset_in enc (lines (d ∷ xs)) n u ≡ k) first bytes) in
    let none : 0 ≡ k = at in
    omega (arith, none, some)

followed : (c : ℕ) (rest : List ℕ) (a b f : Bool) → a || (b && not f) ≡ false → (f ≡ true → b ≡ true → ⊥) → a || b ≡ false
followed c rest true b f e apart = cc e
followed c rest false true true e apart = absurd (apart refl refl)
followed c rest false true false e apart = cc e
followed c rest false false f e apart = refl

is_number : (m n : ℕ) → m == n ≡ true → m ≡ n
is_number m n e = grind (arith, nat_tests)

not_parted : (enc : Encoding) (c u on : ℕ) (before behind : List ℕ) → AreApart (c ∷ before) behind → offset_in enc (lines (before ++ behind)) on u ≡ units Utf8 before → on ≡ 0 →
    slice_index (before ++ behind) 0 == 10 ≡ true → nat_eq c 13 ≡ true → ⊥
not_parted enc c u on [] behind apart bytes first lf cr = apart [] (ap (λ n. n ∷ []) (is_number c 13 cr)) (is_number _ 10 lf)
not_parted enc c u on (d ∷ before) behind apart bytes first lf cr =
    no_place enc d u (units Utf8 (d ∷ before)) on (before ++ behind) (is_number d 10 lf) first bytes (omega (arith, len_utf8_bounds d))

step : (enc : Encoding) (c : ℕ) (before behind : List ℕ) (b : Bool) → is_line_end c (before ++ behind) ≡ b → AreApart (c ∷ before) behind → Found enc (lines (before ++ behind)) (units Utf8 before) →
    Found enc (cond b (Ended (c ∷ []) (lines (before ++ behind))) (after_char c (lines (before ++ behind)))) (len_utf8 c + units Utf8 before)
step enc c before behind true e apart f = past_end enc c (lines (before ++ behind)) (units Utf8 before) f
step enc c before behind false e apart f =
    past_char enc c (units Utf8 before) (lines (before ++ behind)) f.on f.line f.before f.behind f.found f.parts f.bytes
    (λ first. followed c (before ++ behind) (nat_eq c 10) (nat_eq c 13) (slice_index (before ++ behind) 0 == 10) e (not_parted enc c (units enc f.before) f.on before behind apart f.bytes first))

found_at : (enc : Encoding) (before behind : List ℕ) → AreApart before behind → Found enc (lines (before ++ behind)) (units Utf8 before)
found_at enc [] behind apart = at_front enc (lines behind)
found_at enc (c ∷ before) behind apart = step enc c before behind (is_line_end c (before ++ behind)) refl apart (found_at enc before behind (apart_behind c before behind apart))

-- ---- texts

by_place : (text : List ℕ) (k : ℕ) (enc : Encoding) → Found enc (lines (chars text)) k → offset_of text (pos_at text k enc) enc ≡ k
unfolding offset_of
by_place text k enc f =
    let pos : Pos = record { line = f.on; character = units enc f.before } in
    let here : offset_of text pos enc ≡ k = f.bytes in
    let back : pos_at text (offset_of text pos enc) enc ≡ pos = reads_back text pos enc (record { line = f.line; before = f.before; behind = f.behind; found = f.found; parts = f.parts; counted = refl }) in
    let same : pos_at text k enc ≡ pos = ap (λ n. pos_at text n enc) (sym here) ∙ back in
    ap (λ p. offset_of text p enc) same ∙ here

ends_in : (cs xs bytes : List ℕ) → cs ≡ xs ++ 13 ∷ [] → encodes cs ≡ bytes → bytes ≡ encodes xs ++ 13 ∷ []
unfolding encode
ends_in cs xs bytes e is = sym is ∙ ap encodes e ∙ encodes-append xs (13 ∷ [])

begins_with : (cs bytes : List ℕ) → slice_index cs 0 ≡ 10 → encodes cs ≡ bytes → slice_index bytes 0 ≡ 10
unfolding encode
begins_with [] bytes e is = absurd (let bad : ⊥ = omega (arith, e) in bad)
begins_with (c ∷ cs) bytes e is = ap (λ bs. slice_index bs 0) (sym is) ∙ ap (λ n. slice_index (encodes (n ∷ cs)) 0) e

last_of : (xs : List ℕ) (c : ℕ) → slice_index (xs ++ c ∷ []) (length xs) ≡ c
last_of [] c = refl
last_of (x ∷ xs) c = last_of xs c

last_taken : (k : ℕ) (text xs : List ℕ) (c : ℕ) → k ≤ length text → take k text ≡ xs ++ c ∷ [] → slice_index text (k - 1) ≡ c
last_taken k text xs c within e =
    let long : k ≡ length xs + 1 = sym (length-take-le k text within) ∙ ap length e ∙ length-append xs (c ∷ []) in
    let at : k - 1 ≡ length xs = omega (arith, long) in
    sym (get_or-take k text (k - 1) 0 (omega (arith, long))) ∙ ap (λ ys. slice_index ys (k - 1)) e ∙ ap (λ i. slice_index (xs ++ c ∷ []) i) at ∙ last_of xs c

pub place_reads_back : (text : List ℕ) (k : ℕ) (enc : Encoding) → IsUtf8 text → CanBeNamed text k → offset_of text (pos_at text k enc) enc ≡ k
place_reads_back text k enc utf8 can =
    let front8 : IsUtf8 (take k text) = IsUtf8-take text k utf8 can.boundary in
    let back8 : IsUtf8 (drop k text) = IsUtf8-drop text k utf8 can.boundary in
    let parts : chars (take k text) ++ chars (drop k text) ≡ chars text = sym (chars-append (take k text) (drop k text) front8) ∙ ap chars (take-append-drop k text) in
    let within : k ≤ length text = can.boundary.0 in
    let bytes : units Utf8 (chars (take k text)) ≡ k = bytes_of (take k text) front8 ∙ length-take-le k text within in
    let apart : AreApart (chars (take k text)) (chars (drop k text)) =
    λ xs e f. can.apart (last_taken k text (encodes xs) 13 within (ends_in (chars (take k text)) xs (take k text) e (encodes-chars (take k text) front8))) (begins_with (chars (drop k text)) (drop k text) f (encodes-chars (drop k text) back8)) in
    by_place text k enc (subst (λ n. Found enc (lines (chars text)) n) bytes (subst (λ cs. Found enc (lines cs) (units Utf8 (chars (take k text)))) parts (found_at enc (chars (take k text)) (chars (drop k text)) apart)))

-- ranges of bytes, none of which is empty, stand in order and apart from a place on
abbrev pub AreOrdered : ℕ → List (ℕ × ℕ) → Type 0
AreOrdered at [] = Unit {0}
AreOrdered at (p ∷ ps) = (at ≤ p.0) × (p.0 < p.1) × AreOrdered p.1 ps
