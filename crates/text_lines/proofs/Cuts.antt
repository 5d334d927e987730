-- Each offset that a position gives is the front of a code point, or the end of the text.
use Rattle.std.proofs.Common.{◌≡◌, ℕ, ◌+◌, ◌-◌, Bool, true, false, cond, nat_le, nat_eq, ◌||◌, List, [], ◌∷◌, ◌++◌, refl, ap, sym, subst, ◌∙◌}
use Rattle.std.proofs.lemmas.Str.{encodes-append, encodes-chars, scalars-chars, IsCharBoundary-at_seam}
use lib.Utf8.{scalars, encodes}
use Rattle.std.specs.Char.{len_utf8}
use Rattle.std.specs.Str.{IsUtf8, IsCharBoundary, chars}
use Rattle.text_lines.proofs.Bytes.{length_encodes, scalars_behind}
use Rattle.text_lines.proofs.Sought.{offset_of_sought}
use Rattle.text_lines.specs.Lines.{content, is_line_end}
use Rattle.text_lines.specs.Positions.{offset_of}
use Rattle.text_lines.specs.Units.{units, fitting, code_units}
use Rattle.text_lines.specs.Walked.{sought}
use Rattle.text_lines.specs.declared.encoding.Encoding.{Encoding}
use Rattle.text_lines.specs.declared.encoding.Encoding.TheVariants.{Utf8}
use Rattle.text_lines.specs.declared.pos.Pos.{Pos}

-- these code points can be cut behind s bytes
record IsCut (cs : List ℕ) (s : ℕ) : Type 0 where
  before : List ℕ
  behind : List ℕ
  split : cs ≡ before ++ behind
  bytes : units Utf8 before ≡ s

cut_front : (cs : List ℕ) → IsCut cs 0
cut_front cs = record { before = []; behind = cs; split = refl; bytes = refl }

cut_past : (c s : ℕ) (rest : List ℕ) → IsCut rest s → IsCut (c ∷ rest) (len_utf8 c + s)
cut_past c s rest cut = record {
  before = c ∷ cut.before;
  behind = cut.behind;
  split = ap (λ cs. c ∷ cs) cut.split;
  bytes = ap (λ n. len_utf8 c + n) cut.bytes;
}

cut_some : (c : ℕ) (rest xs : List ℕ) (b : Bool) → IsCut rest (units Utf8 xs) → IsCut (c ∷ rest) (units Utf8 (cond b (c ∷ xs) []))
cut_some c rest xs true cut = cut_past c (units Utf8 xs) rest cut
cut_some c rest xs false cut = cut_front (c ∷ rest)

cut_if : (enc : Encoding) (c u : ℕ) (rest : List ℕ) (mark : Bool) → IsCut rest (units Utf8 (fitting enc (u - code_units enc c) (content rest)))
    → IsCut (c ∷ rest) (units Utf8 (fitting enc u (cond mark [] (c ∷ content rest))))
cut_if enc c u rest true cut = cut_front (c ∷ rest)
cut_if enc c u rest false cut = cut_some c rest (fitting enc (u - code_units enc c) (content rest)) (nat_le (code_units enc c) u) cut

cut_fitting : (enc : Encoding) (u : ℕ) (cs : List ℕ) → IsCut cs (units Utf8 (fitting enc u (content cs)))
cut_fitting enc u [] = cut_front []
cut_fitting enc u (c ∷ rest) = cut_if enc c u rest (nat_eq c 10 || nat_eq c 13) (cut_fitting enc (u - code_units enc c) rest)

cut_either : (enc : Encoding) (n u c : ℕ) (rest : List ℕ) (z : Bool) → IsCut rest (sought enc n u rest)
    → IsCut (c ∷ rest) (cond z (units Utf8 (fitting enc u (content (c ∷ rest)))) (len_utf8 c + sought enc n u rest))
cut_either enc n u c rest true cut = cut_fitting enc u (c ∷ rest)
cut_either enc n u c rest false cut = cut_past c _ rest cut

cut_sought : (enc : Encoding) (n u : ℕ) (cs : List ℕ) → IsCut cs (sought enc n u cs)
cut_sought enc n u [] = cut_front []
cut_sought enc n u (c ∷ rest) =
    cut_either enc (cond (is_line_end c rest) (n - 1) n) u c rest (nat_eq n 0) (cut_sought enc (cond (is_line_end c rest) (n - 1) n) u rest)

cut_boundary : (text : List ℕ) (s : ℕ) → IsUtf8 text → IsCut (chars text) s → IsCharBoundary text s
cut_boundary text s utf8 cut =
    let spell : text ≡ encodes cut.before ++ encodes cut.behind = sym (encodes-chars text utf8) ∙ ap encodes cut.split ∙ encodes-append cut.before cut.behind in
    let fits : scalars cut.behind ≡ true = scalars_behind cut.before cut.behind (ap scalars (sym cut.split) ∙ scalars-chars text utf8) in
    subst (λ n. IsCharBoundary text n) (length_encodes cut.before ∙ cut.bytes)
    (IsCharBoundary-at_seam text (encodes cut.before) (encodes cut.behind) spell (cut.behind, (fits, refl)))

pub offset_boundary : (text : List ℕ) (pos : Pos) (enc : Encoding) → IsUtf8 text → IsCharBoundary text (offset_of text pos enc)
offset_boundary text pos enc utf8 =
    subst (λ n. IsCharBoundary text n) (offset_of_sought text pos enc) (cut_boundary text _ utf8 (cut_sought enc pos.line pos.character (chars text)))
