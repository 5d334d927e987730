-- The front of a line of a text, found by the table of starts.
use Rattle.std.proofs.Common.{◌≡◌, ℕ, zero, suc, ◌+◌, ◌-◌, ◌≤◌, ◌<◌, true, get_or, length, drop, List, ◌∷◌, ◌++◌, refl, ap, sym, subst, ◌∙◌, arith, zero-add, length-append, length-drop}
use Rattle.std.proofs.Math.Nat.{sub-zero}
use Rattle.std.proofs.Math.Seq.{drop-append_seam}
use Rattle.std.proofs.lemmas.Str.{chars-encodes, encodes-append, encodes-chars, scalars-chars, IsCharBoundary-at_seam, IsCharBoundary-start}
use Rattle.std.proofs.lemmas.List.{get_or_default}
use lib.Utf8.{scalars, encodes}
use Rattle.std.specs.Str.{IsUtf8, IsCharBoundary, chars}
use Rattle.text_lines.proofs.Bytes.{length_encodes, scalars_behind}
use Rattle.text_lines.proofs.Fronts.{IsFront, front_at, same_walked}
use Rattle.text_lines.proofs.Sought.{sought_here, offset_of_sought}
use Rattle.text_lines.proofs.Starts.{later_starts, line_starts_later}
use Rattle.text_lines.proofs.Walked.{pos_at_walked}
use Rattle.text_lines.specs.Positions.{line_starts, offset_of}
use Rattle.text_lines.specs.Lines.{content}
use Rattle.text_lines.specs.Units.{units, fitting}
use Rattle.text_lines.specs.Walked.{walked, sought, pos_from, IsPlaceIn}
use Rattle.text_lines.specs.declared.encoding.Encoding.{Encoding}
use Rattle.text_lines.specs.declared.encoding.Encoding.TheVariants.{Utf8}
use Rattle.text_lines.specs.declared.walk.Place.{Place}

-- line i of a text begins at the byte s
pub record IsLineFront (text : List ℕ) (i s : ℕ) : Type 0 where
  pub boundary : IsCharBoundary text s
  pub place : (enc : Encoding) (p : Place) → p.rest.now ≡ drop s text → p.at ≡ s → p.line ≡ i → p.character ≡ 0 → IsPlaceIn text enc p
  pub seeks : (enc : Encoding) (u : ℕ) (rest : List ℕ) → rest ≡ drop s text
      → s + units Utf8 (fitting enc u (content (chars rest))) ≡ offset_of text (record { line = i; character = u }) enc

told : (enc : Encoding) (p : Place) (i s k : ℕ) (after behind : List ℕ) → chars after ≡ behind
    → p.rest.now ≡ after → p.at ≡ s → p.line ≡ i → p.character ≡ 0 → pos_from enc p k ≡ walked enc i 0 (k - s) behind
told enc p i s k after behind reads rest at line character = cc (ap chars rest)

placed : (text : List ℕ) (enc : Encoding) (p : Place) (i s : ℕ) (behind : List ℕ) → length text ≤ 4290772992 → i ≤ s → s ≤ length text
    → chars (drop s text) ≡ behind
    → ((k : ℕ) → s ≤ k → walked enc i 0 (k - s) behind ≡ walked enc 0 0 k (chars text))
    → p.rest.now ≡ drop s text → p.at ≡ s → p.line ≡ i → p.character ≡ 0 → IsPlaceIn text enc p
placed text enc p i s behind short rises within reads tells rest at line character = record {
  bounded = record {
    rest = omega (arith, ap length rest, length-drop s text);
    short = short;
    line = omega arith;
    character = omega arith;
  };
  tells = λ k h. told enc p i s k (drop s text) behind reads rest at line character ∙ tells k (omega arith) ∙ pos_at_walked text k enc;
}

seek : (text : List ℕ) (enc : Encoding) (u i s : ℕ) (rest behind : List ℕ) → chars rest ≡ behind → sought enc i u (chars text) ≡ s + sought enc 0 u behind
    → s + units Utf8 (fitting enc u (content (chars rest))) ≡ offset_of text (record { line = i; character = u }) enc
seek text enc u i s rest behind reads found =
    ap (λ cs. s + units Utf8 (fitting enc u (content cs))) reads ∙ ap (λ n. s + n) (sym (sought_here enc u behind))
    ∙ sym found ∙ offset_of_sought text (record { line = i; character = u }) enc

sought_from : {cs : List ℕ} (enc : Encoding) (u j s : ℕ) (f : IsFront cs 0 j s) → sought enc (suc j) u cs ≡ s + sought enc 0 u f.behind
sought_from {cs} enc u j s f =
    let same : sought enc (suc j) u cs ≡ sought enc (j + 1) u cs = ap (λ n. sought enc n u cs) (omega arith) in
    let found = f.seeks enc u in
    omega (arith, same, found, f.bytes)

first_front : (text : List ℕ) → IsUtf8 text → length text ≤ 4290772992 → IsLineFront text 0 0
first_front text utf8 short = record {
  boundary = IsCharBoundary-start text utf8;
  place = λ enc p. placed text enc p 0 0 (chars text) short (omega arith) (omega arith) refl (λ k h. ap (λ m. walked enc 0 0 m (chars text)) (sub-zero k));
  seeks = λ enc u rest e. seek text enc u 0 0 rest (chars text) (ap chars e) (sym (zero-add (sought enc 0 u (chars text))));
}

spelled : (text : List ℕ) (j s : ℕ) → IsUtf8 text → (f : IsFront (chars text) 0 j s) → text ≡ encodes f.before ++ encodes f.behind
spelled text j s utf8 f = sym (encodes-chars text utf8) ∙ ap encodes f.split ∙ encodes-append f.before f.behind

behind_scalars : (text : List ℕ) (j s : ℕ) → IsUtf8 text → (f : IsFront (chars text) 0 j s) → scalars f.behind ≡ true
behind_scalars text j s utf8 f = scalars_behind f.before f.behind (ap scalars (sym f.split) ∙ scalars-chars text utf8)

before_bytes : (text : List ℕ) (j s : ℕ) (f : IsFront (chars text) 0 j s) → length (encodes f.before) ≡ s
before_bytes text j s f = length_encodes f.before ∙ sym (zero-add (units Utf8 f.before)) ∙ f.bytes

later_front : (text : List ℕ) (j s : ℕ) → IsUtf8 text → length text ≤ 4290772992 → IsFront (chars text) 0 j s → IsLineFront text (suc j) s
later_front text j s utf8 short f =
    let spell = spelled text j s utf8 f in
    let scalar_behind = behind_scalars text j s utf8 f in
    let bytes = before_bytes text j s f in
    let whole = length-append (encodes f.before) (encodes f.behind) in
    let P : ℕ → Type 0 = λ n. IsCharBoundary text n in
    let after : drop s text ≡ encodes f.behind =
    ap (λ n. drop n text) (sym bytes) ∙ ap (λ t. drop (length (encodes f.before)) t) spell ∙ drop-append_seam (encodes f.before) (encodes f.behind) in
    record {
      boundary = subst P bytes (IsCharBoundary-at_seam text (encodes f.before) (encodes f.behind) spell (f.behind, (scalar_behind, refl)));
      place = λ enc p. placed text enc p (suc j) s f.behind short (omega (arith, f.rises, f.bytes)) (omega (arith, ap length spell, whole, bytes))
          (ap chars after ∙ chars-encodes f.behind scalar_behind)
          (λ k h. same_walked enc _ _ _ _ f.behind (omega arith) (omega (arith, f.bytes)) ∙ sym (f.tells enc 0 0 k (omega (arith, f.bytes))));
      seeks = λ enc u rest e. seek text enc u (suc j) s rest f.behind (ap chars (e ∙ after) ∙ chars-encodes f.behind scalar_behind) (sought_from enc u j s f);
    }

by_line : (text : List ℕ) (i : ℕ) → IsUtf8 text → length text ≤ 4290772992 → i < length (0 ∷ later_starts 0 (chars text))
    → IsLineFront text i (get_or (0 ∷ later_starts 0 (chars text)) i 0)
by_line text zero utf8 short h = first_front text utf8 short
by_line text (suc j) utf8 short h = later_front text j _ utf8 short (front_at 0 j (chars text) (omega arith))

line_front : (text : List ℕ) (i : ℕ) → IsUtf8 text → length text ≤ 4290772992 → i < length (line_starts text) → IsLineFront text i (get_or (line_starts text) i 0)
line_front text i utf8 short h = rw line_starts_later (by_line text i utf8 short (subst (λ starts. i < length starts) (line_starts_later text) h))

-- what a read of the table gives
start_read : (items now starts : List ℕ) (i s : ℕ) → items ≡ now → now ≡ starts → i < length now → s ≡ get_or items i s → get_or starts i 0 ≡ s
start_read items now starts i s seen e within read =
    sym (read ∙ ap (λ xs. get_or xs i s) (seen ∙ e) ∙ get_or_default starts i s 0 (subst (λ xs. i < length xs) e within))

pub front_read : (text items now : List ℕ) (i s : ℕ) → IsUtf8 text → length text ≤ 4290772992
    → items ≡ now → now ≡ line_starts text → i < length now → s ≡ get_or items i s → IsLineFront text i s
front_read text items now i s utf8 short seen e within read =
    subst (λ start. IsLineFront text i start) (start_read items now (line_starts text) i s seen e within read)
    (line_front text i utf8 short (subst (λ xs. i < length xs) e within))
