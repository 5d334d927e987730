-- The position of the byte of a place is the place.
use Rattle.std.proofs.Common.{◌≡◌, ℕ, ◌+◌, ◌-◌, ◌<◌, Bool, true, false, cond, nat_le, nat_lt, nat_eq, ◌||◌, List, [], ◌∷◌, ◌++◌, Some, None, refl, ap, subst, ◌∙◌, arith, append_assoc, zero-add}
use Rattle.std.proofs.lemmas.Bool.{le-leb}
use Rattle.std.proofs.lemmas.Bool.Decides.{nat_tests}
use Rattle.std.proofs.lemmas.Str.{len_utf8_bounds}
use Rattle.std.specs.Char.{len_utf8}
use Rattle.std.specs.Str.{chars}
use Rattle.text_lines.proofs.Sought.{or_weaker}
use Rattle.text_lines.specs.Lines.{Lines, Last, Ended, lines, after_char, is_line_end, content}
use Rattle.text_lines.specs.Positions.{pos_in, pos_on, pos_at, offset_in, offset_of, line_at, IsPlace}
use Rattle.text_lines.specs.Units.{units, fitting, code_units}
use Rattle.text_lines.specs.declared.encoding.Encoding.{Encoding}
use Rattle.text_lines.specs.declared.encoding.Encoding.TheVariants.{Utf8, Utf16, Utf32}
use Rattle.text_lines.specs.declared.pos.Pos.{Pos}

-- no code point is without code units
some_units : (enc : Encoding) (c : ℕ) → 0 < code_units enc c
some_units Utf8 c = omega (arith, len_utf8_bounds c)
some_units Utf16 c = grind (arith, nat_tests)
some_units Utf32 c = omega arith

none_fits : (enc : Encoding) (cs : List ℕ) → fitting enc 0 cs ≡ []
none_fits enc [] = refl
none_fits enc (c ∷ rest) =
    let more : nat_le (code_units enc c) 0 ≡ false = grind (arith, nat_tests, some_units enc c) in
    rw more refl

-- so many code units as a front has are the front
front_fits : (enc : Encoding) (before behind : List ℕ) → fitting enc (units enc before) (before ++ behind) ≡ before
front_fits enc [] behind = none_fits enc behind
front_fits enc (c ∷ before) behind =
    let first : nat_le (code_units enc c) (code_units enc c + units enc before) ≡ true = le-leb _ _ (omega arith) in
    let left : code_units enc c + units enc before - code_units enc c ≡ units enc before = omega arith in
    rw (first, left) (ap (λ cs. c ∷ cs) (front_fits enc before behind))

-- a line is its content and then its mark
mark : List ℕ → List ℕ
mark [] = []
mark (c ∷ rest) = cond (nat_eq c 10 || nat_eq c 13) (c ∷ rest) (mark rest)

mark_step : (c : ℕ) (rest : List ℕ) (b : Bool) → rest ≡ content rest ++ mark rest → c ∷ rest ≡ cond b [] (c ∷ content rest) ++ cond b (c ∷ rest) (mark rest)
mark_step c rest true e = refl
mark_step c rest false e = ap (λ cs. c ∷ cs) e

content_mark : (line : List ℕ) → line ≡ content line ++ mark line
unfolding mark
content_mark [] = refl
content_mark (c ∷ rest) = mark_step c rest (nat_eq c 10 || nat_eq c 13) (content_mark rest)

units_append : (enc : Encoding) (xs ys : List ℕ) → units enc (xs ++ ys) ≡ units enc xs + units enc ys
units_append enc [] ys = omega arith
units_append enc (x ∷ xs) ys = let e = units_append enc xs ys in omega (arith, e)

-- each line but the last has a mark
abbrev AreMarked : Lines → Type 0
AreMarked (Last line) = Unit {0}
AreMarked (Ended line more) = (units Utf8 (content line) < units Utf8 line) × AreMarked more

marked_end : (c : ℕ) (rest : List ℕ) → is_line_end c rest ≡ true → units Utf8 (content (c ∷ [])) < units Utf8 (c ∷ [])
marked_end c rest e = rw (or_weaker (nat_eq c 10) (nat_eq c 13) _ e) (omega (arith, len_utf8_bounds c))

marked_past : (c : ℕ) (line : List ℕ) (b : Bool) → units Utf8 (content line) < units Utf8 line → units Utf8 (cond b [] (c ∷ content line)) < len_utf8 c + units Utf8 line
marked_past c line true h = omega (arith, len_utf8_bounds c)
marked_past c line false h = omega arith

marked_char : (c : ℕ) (ls : Lines) → AreMarked ls → AreMarked (after_char c ls)
marked_char c (Last line) h = tt
marked_char c (Ended line more) h = (marked_past c line (nat_eq c 10 || nat_eq c 13) h.0, h.1)

marked_step : (c : ℕ) (rest : List ℕ) (b : Bool) → is_line_end c rest ≡ b → AreMarked (lines rest) → AreMarked (cond b (Ended (c ∷ []) (lines rest)) (after_char c (lines rest)))
marked_step c rest true e h = (marked_end c rest e, h)
marked_step c rest false e h = marked_char c (lines rest) h

marked : (cs : List ℕ) → AreMarked (lines cs)
marked [] = tt
marked (c ∷ rest) = marked_step c rest (is_line_end c rest) refl (marked rest)

-- on one line
same_on : (enc : Encoding) (n : ℕ) (line before behind : List ℕ) → content line ≡ before ++ behind
    → pos_on enc n line (units Utf8 (fitting enc (units enc before) (content line))) ≡ record { line = n; character = units enc before }
same_on enc n line before behind e =
    let inner : fitting enc (units enc before) (content line) ≡ before = ap (λ cs. fitting enc (units enc before) cs) e ∙ front_fits enc before behind in
    let whole : line ≡ before ++ (behind ++ mark line) = content_mark line ∙ ap (λ cs. cs ++ mark line) e ∙ append_assoc before behind (mark line) in
    let outer : fitting Utf8 (units Utf8 before) line ≡ before = ap (λ cs. fitting Utf8 (units Utf8 before) cs) whole ∙ front_fits Utf8 before (behind ++ mark line) in
    let place : List ℕ → Pos = λ cs. record { line = n; character = units enc cs } in
    ap (λ cs. place (fitting Utf8 (units Utf8 cs) line)) inner ∙ ap place outer

ended_within : (enc : Encoding) (m : ℕ) (first : List ℕ) (more : Lines) (k : ℕ) → k < units Utf8 first → pos_in enc m (Ended first more) k ≡ pos_on enc m first k
ended_within enc m first more k h = let within : nat_lt k (units Utf8 first) ≡ true = grind (arith, nat_tests) in rw within refl

ended_past : (enc : Encoding) (m : ℕ) (first : List ℕ) (more : Lines) (k : ℕ) → pos_in enc m (Ended first more) (units Utf8 first + k) ≡ pos_in enc (m + 1) more k
ended_past enc m first more k =
    let past : nat_lt (units Utf8 first + k) (units Utf8 first) ≡ false = grind (arith, nat_tests) in
    let left : units Utf8 first + k - units Utf8 first ≡ k = omega arith in
    rw (past, left) refl

on_first_bytes : (enc : Encoding) (first before behind : List ℕ) → content first ≡ before ++ behind → units Utf8 (content first) < units Utf8 first
    → units Utf8 (fitting enc (units enc before) (content first)) < units Utf8 first
on_first_bytes enc first before behind e h =
    let inner : fitting enc (units enc before) (content first) ≡ before = ap (λ cs. fitting enc (units enc before) cs) e ∙ front_fits enc before behind in
    let whole : units Utf8 (content first) ≡ units Utf8 before + units Utf8 behind = ap (λ cs. units Utf8 cs) e ∙ units_append Utf8 before behind in
    let bytes = ap (λ cs. units Utf8 cs) inner in
    omega (arith, whole, bytes)

place_of : ℕ → ℕ → Pos
place_of n u = record { line = n; character = u }

in_last : (enc : Encoding) (m n : ℕ) (only line before behind : List ℕ) (z : Bool) → nat_eq n 0 ≡ z → cond z (Some only) None ≡ Some line → content line ≡ before ++ behind
    → pos_on enc m only (cond z (units Utf8 (fitting enc (units enc before) (content only))) (units Utf8 only)) ≡ place_of (m + n) (units enc before)
unfolding place_of
in_last enc m n only line before behind true z found e =
    let same : content only ≡ before ++ behind = cc in
    let here : m ≡ m + n = grind (arith, nat_tests) in
    same_on enc m only before behind same ∙ ap (λ k. place_of k (units enc before)) here
in_last enc m n only line before behind false z found e = cc

in_ended : (enc : Encoding) (m n : ℕ) (first : List ℕ) (more : Lines) (line before behind : List ℕ) (z : Bool) → nat_eq n 0 ≡ z
    → units Utf8 (content first) < units Utf8 first → cond z (Some first) (line_at more (n - 1)) ≡ Some line → content line ≡ before ++ behind
    → (line_at more (n - 1) ≡ Some line → pos_in enc (m + 1) more (offset_in enc more (n - 1) (units enc before)) ≡ place_of (m + 1 + (n - 1)) (units enc before))
    → pos_in enc m (Ended first more) (cond z (units Utf8 (fitting enc (units enc before) (content first))) (units Utf8 first + offset_in enc more (n - 1) (units enc before)))
    ≡ place_of (m + n) (units enc before)
unfolding place_of
in_ended enc m n first more line before behind true z h found e later =
    let same : content first ≡ before ++ behind = cc in
    let here : m ≡ m + n = grind (arith, nat_tests) in
    let within = on_first_bytes enc first before behind same h in
    ended_within enc m first more _ within ∙ same_on enc m first before behind same ∙ ap (λ k. place_of k (units enc before)) here
in_ended enc m n first more line before behind false z h found e later =
    let past : m + 1 + (n - 1) ≡ m + n = grind (arith, nat_tests) in
    ended_past enc m first more _ ∙ later found ∙ ap (λ k. place_of k (units enc before)) past

reads_back_in : (enc : Encoding) (m n : ℕ) (ls : Lines) (line before behind : List ℕ) → AreMarked ls → line_at ls n ≡ Some line → content line ≡ before ++ behind
    → pos_in enc m ls (offset_in enc ls n (units enc before)) ≡ place_of (m + n) (units enc before)
reads_back_in enc m n (Last only) line before behind h found e = in_last enc m n only line before behind (nat_eq n 0) refl found e
reads_back_in enc m n (Ended first more) line before behind h found e =
    in_ended enc m n first more line before behind (nat_eq n 0) refl h.0 found e (λ later. reads_back_in enc (m + 1) (n - 1) more line before behind h.1 later e)

pub reads_back : (text : List ℕ) (pos : Pos) (enc : Encoding) → IsPlace text pos enc → pos_at text (offset_of text pos enc) enc ≡ pos
unfolding pos_at offset_of place_of
reads_back text pos enc place =
    let P : ℕ → Type 0 = λ u. pos_in enc 0 (lines (chars text)) (offset_in enc (lines (chars text)) pos.line u) ≡ place_of pos.line u in
    subst P place.counted (reads_back_in enc 0 pos.line (lines (chars text)) place.line place.before place.behind (marked (chars text)) place.found place.parts
    ∙ ap (λ k. place_of k (units enc place.before)) (zero-add pos.line))
