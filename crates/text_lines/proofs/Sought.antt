-- The place of a position by one code point at a time.
use Rattle.std.proofs.Common.{◌≡◌, ℕ, ◌+◌, ◌-◌, ◌≤◌, ◌<◌, Bool, true, false, cond, nat_eq, ◌||◌, ◌&&◌, length, List, [], ◌∷◌, refl, ap, sym, ◌∙◌, arith}
use Rattle.std.proofs.lemmas.Bool.Decides.{nat_tests}
use Rattle.std.specs.Char.{len_utf8}
use Rattle.std.specs.Str.{IsUtf8, chars}
use Rattle.text_lines.proofs.Bytes.{bytes_of}
use Rattle.text_lines.proofs.Starts.{later_starts, line_starts_later}
use Rattle.text_lines.specs.Lines.{Lines, Last, Ended, lines, after_char, is_line_end, content}
use Rattle.text_lines.specs.Positions.{offset_in, offset_of, line_starts}
use Rattle.text_lines.specs.Units.{units, fitting}
use Rattle.text_lines.specs.Walked.{sought}
use Rattle.text_lines.specs.declared.encoding.Encoding.{Encoding}
use Rattle.text_lines.specs.declared.encoding.Encoding.TheVariants.{Utf8}
use Rattle.text_lines.specs.declared.pos.Pos.{Pos}

abbrev first_line : Lines → List ℕ
first_line (Last line) = line
first_line (Ended line more) = line

pub or_weaker : (a b d : Bool) → (a || (b && d)) ≡ true → (a || b) ≡ true
or_weaker true b d h = refl
or_weaker false true d h = refl
or_weaker false false d h = cc

mark_first : (c : ℕ) (rest : List ℕ) → is_line_end c rest ≡ true → content (c ∷ []) ≡ content (c ∷ rest)
mark_first c rest e = rw (or_weaker (nat_eq c 10) (nat_eq c 13) _ e) refl

first_char : (c : ℕ) (ls : Lines) → first_line (after_char c ls) ≡ c ∷ first_line ls
first_char c (Last line) = refl
first_char c (Ended line more) = refl

content_char : (c : ℕ) (xs ys : List ℕ) → content xs ≡ content ys → content (c ∷ xs) ≡ content (c ∷ ys)
content_char c xs ys e = ap (λ zs. cond (nat_eq c 10 || nat_eq c 13) [] (c ∷ zs)) e

first_step : (c : ℕ) (rest : List ℕ) (b : Bool) → is_line_end c rest ≡ b → content (first_line (lines rest)) ≡ content rest
    → content (first_line (cond b (Ended (c ∷ []) (lines rest)) (after_char c (lines rest)))) ≡ content (c ∷ rest)
first_step c rest true e same = mark_first c rest e
first_step c rest false e same = ap content (first_char c (lines rest)) ∙ content_char c (first_line (lines rest)) rest same

first_content : (cs : List ℕ) → content (first_line (lines cs)) ≡ content cs
first_content [] = refl
first_content (c ∷ rest) = first_step c rest (is_line_end c rest) refl (first_content rest)

-- on the first line
on_first : (enc : Encoding) (n u : ℕ) (ls : Lines) → nat_eq n 0 ≡ true → offset_in enc ls n u ≡ units Utf8 (fitting enc u (content (first_line ls)))
on_first enc n u (Last line) e = rw e refl
on_first enc n u (Ended line more) e = rw e refl

-- past it
past_ended : (enc : Encoding) (n u c : ℕ) (ls : Lines) → nat_eq n 0 ≡ false → offset_in enc (Ended (c ∷ []) ls) n u ≡ len_utf8 c + offset_in enc ls (n - 1) u
past_ended enc n u c ls e = rw e (omega arith)

past_char : (enc : Encoding) (n u c : ℕ) (ls : Lines) → nat_eq n 0 ≡ false → offset_in enc (after_char c ls) n u ≡ len_utf8 c + offset_in enc ls n u
past_char enc n u c (Last line) e = rw e refl
past_char enc n u c (Ended line more) e = rw e (omega arith)

pub sought_here : (enc : Encoding) (u : ℕ) (cs : List ℕ) → sought enc 0 u cs ≡ units Utf8 (fitting enc u (content cs))
sought_here enc u [] = refl
sought_here enc u (c ∷ rest) = refl

offset_step : (enc : Encoding) (n u c : ℕ) (rest : List ℕ) (b : Bool) → nat_eq n 0 ≡ false
    → ((m : ℕ) → offset_in enc (lines rest) m u ≡ sought enc m u rest)
    → offset_in enc (cond b (Ended (c ∷ []) (lines rest)) (after_char c (lines rest))) n u ≡ len_utf8 c + sought enc (cond b (n - 1) n) u rest
offset_step enc n u c rest true e same = past_ended enc n u c (lines rest) e ∙ ap (λ m. len_utf8 c + m) (same (n - 1))
offset_step enc n u c rest false e same = past_char enc n u c (lines rest) e ∙ ap (λ m. len_utf8 c + m) (same n)

sought_first : (enc : Encoding) (n u c : ℕ) (rest : List ℕ) → nat_eq n 0 ≡ true → sought enc n u (c ∷ rest) ≡ units Utf8 (fitting enc u (content (c ∷ rest)))
sought_first enc n u c rest e = rw e refl

sought_later : (enc : Encoding) (n u c : ℕ) (rest : List ℕ) → nat_eq n 0 ≡ false → sought enc n u (c ∷ rest) ≡ len_utf8 c + sought enc (cond (is_line_end c rest) (n - 1) n) u rest
sought_later enc n u c rest e = rw e refl

offset_either : (enc : Encoding) (n u c : ℕ) (rest : List ℕ) (z : Bool) → nat_eq n 0 ≡ z
    → ((m : ℕ) → offset_in enc (lines rest) m u ≡ sought enc m u rest)
    → offset_in enc (lines (c ∷ rest)) n u ≡ sought enc n u (c ∷ rest)
offset_either enc n u c rest true e same =
    on_first enc n u (lines (c ∷ rest)) e ∙ ap (λ cs. units Utf8 (fitting enc u cs)) (first_content (c ∷ rest)) ∙ sym (sought_first enc n u c rest e)
offset_either enc n u c rest false e same =
    offset_step enc n u c rest (is_line_end c rest) e same ∙ sym (sought_later enc n u c rest e)

none_either : (b : Bool) → (let none : ℕ = 0 in cond b none none ≡ none)
none_either true = refl
none_either false = refl

offset_sought : (enc : Encoding) (n u : ℕ) (cs : List ℕ) → offset_in enc (lines cs) n u ≡ sought enc n u cs
offset_sought enc n u [] = none_either (nat_eq n 0)
offset_sought enc n u (c ∷ rest) = offset_either enc n u c rest (nat_eq n 0) refl (λ m. offset_sought enc m u rest)

pub offset_of_sought : (text : List ℕ) (pos : Pos) (enc : Encoding) → sought enc pos.line pos.character (chars text) ≡ offset_of text pos enc
unfolding offset_of
offset_of_sought text pos enc = sym (offset_sought enc pos.line pos.character (chars text))

-- what a walk to a line and one along it find
pub found_on : (text : List ℕ) (pos : Pos) (enc : Encoding) (s bytes : ℕ) (behind : List ℕ)
    → sought enc pos.line pos.character (chars text) ≡ s + sought enc 0 pos.character behind
    → bytes ≡ units Utf8 (fitting enc pos.character (content behind)) → s + bytes ≡ offset_of text pos enc
found_on text pos enc s bytes behind found e =
    ap (λ n. s + n) (e ∙ sym (sought_here enc pos.character behind)) ∙ sym found ∙ offset_of_sought text pos enc

pub same_sought : (enc : Encoding) (n m u : ℕ) (cs : List ℕ) → n ≡ m → sought enc n u cs ≡ sought enc m u cs
same_sought enc n m u cs e = ap (λ k. sought enc k u cs) e

-- a line past the last
past_step : (at n : ℕ) (rest : List ℕ) (b : Bool) → length (cond b (at ∷ later_starts at rest) (later_starts at rest)) < n → length (later_starts at rest) < cond b (n - 1) n
past_step at n rest true h = omega arith
past_step at n rest false h = h

sought_past : (enc : Encoding) (at n u : ℕ) (cs : List ℕ) → length (later_starts at cs) < n → sought enc n u cs ≡ units Utf8 cs
sought_past enc at n u [] h = refl
sought_past enc at n u (c ∷ rest) h =
    sought_later enc n u c rest (grind (arith, nat_tests))
    ∙ ap (λ m. len_utf8 c + m) (sought_past enc (at + len_utf8 c) (cond (is_line_end c rest) (n - 1) n) u rest (past_step (at + len_utf8 c) n rest (is_line_end c rest) h))

pub offset_past : (text : List ℕ) (pos : Pos) (enc : Encoding) → IsUtf8 text → length (line_starts text) ≤ pos.line → length text ≡ offset_of text pos enc
offset_past text pos enc utf8 h =
    let more : length (later_starts 0 (chars text)) < pos.line = omega (arith, h, ap length (line_starts_later text)) in
    sym (bytes_of text utf8) ∙ sym (sought_past enc 0 pos.line pos.character (chars text) more) ∙ offset_of_sought text pos enc
