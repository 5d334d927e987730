-- Positions by one code point at a time.
use Rattle.std.proofs.Common.{◌≡◌, ℕ, ◌+◌, ◌-◌, ◌≤◌, ◌<◌, Bool, true, false, cond, nat_lt, nat_le, List, [], ◌∷◌, ap, subst, length, sym, ◌∙◌, inl, inr, arith, add_assoc, add-zero, zero-add}
use Rattle.std.proofs.Math.Nat.{sub-zero}
use Rattle.std.proofs.lemmas.Bool.{le-leb}
use Rattle.std.proofs.lemmas.Bool.Decides.{nat_tests, leb_tells}
use Rattle.std.specs.Str.{chars}
use Rattle.std.specs.Char.{len_utf8}
use Rattle.text_lines.specs.Lines.{Lines, Last, Ended, lines, after_char, is_line_end}
use Rattle.text_lines.specs.Positions.{pos_in, pos_at}
use Rattle.text_lines.specs.Units.{units, fitting, code_units}
use Rattle.text_lines.specs.Walked.{place, walked, pos_from, IsBounded, IsPlaceIn}
use Rattle.text_lines.specs.declared.encoding.Encoding.{Encoding}
use Rattle.text_lines.specs.declared.encoding.Encoding.TheVariants.{Utf8}
use Rattle.text_lines.specs.declared.pos.Pos.{Pos}
use Rattle.text_lines.specs.declared.walk.Place.{Place}

-- the same of lines, of which u code units of the first are left out
abbrev pos_further : Encoding → ℕ → ℕ → ℕ → Lines → Pos
pos_further enc n u k (Last line) = record { line = n; character = u + units enc (fitting Utf8 k line) }
pos_further enc n u k (Ended line more) =
    cond (nat_lt k (units Utf8 line)) (record { line = n; character = u + units enc (fitting Utf8 k line) })
    (pos_in enc (n + 1) more (k - units Utf8 line))

further_none : (enc : Encoding) (n k : ℕ) (ls : Lines) → pos_further enc n 0 k ls ≡ pos_in enc n ls k
further_none enc n k (Last line) = grind (arith, nat_tests)
further_none enc n k (Ended line more) = simp zero-add

fits_front : (enc : Encoding) (u k c : ℕ) (rest : List ℕ) → len_utf8 c ≤ k → u + units enc (fitting Utf8 k (c ∷ rest)) ≡ u + code_units enc c + units enc (fitting Utf8 (k - len_utf8 c) rest)
fits_front enc u k c rest h = rw (le-leb (len_utf8 c) k h) (sym (add_assoc u (code_units enc c) _))

fits_none : (enc : Encoding) (u k c : ℕ) (rest : List ℕ) → k < len_utf8 c → u + units enc (fitting Utf8 k (c ∷ rest)) ≡ u
fits_none enc u k c rest h = grind (arith, nat_tests)

test_less : (k l m : ℕ) → l ≤ k → nat_lt k (l + m) ≡ nat_lt (k - l) m
test_less k l m h = grind (arith, nat_tests)

less_front : (k l m : ℕ) → k < l → nat_lt k (l + m) ≡ true
less_front k l m h = grind (arith, nat_tests)

not_below_none : (k : ℕ) → nat_lt k 0 ≡ false
not_below_none k = grind (arith, nat_tests)

sub_more : (k l m : ℕ) → k - (l + m) ≡ k - l - m
sub_more k l m = omega arith

same_cond : {A : Type 0} {a b : Bool} {x y z w : A} → a ≡ b → x ≡ z → y ≡ w → cond a x y ≡ cond b z w
same_cond e f g = cc

further_char : (enc : Encoding) (n u k c : ℕ) (ls : Lines) → len_utf8 c ≤ k → pos_further enc n u k (after_char c ls) ≡ pos_further enc n (u + code_units enc c) (k - len_utf8 c) ls
further_char enc n u k c (Last line) h = ap (λ m. place n m) (fits_front enc u k c line h)
further_char enc n u k c (Ended line more) h =
    same_cond (test_less k (len_utf8 c) (units Utf8 line) h)
    (ap (λ m. place n m) (fits_front enc u k c line h))
    (ap (λ m. pos_in enc (n + 1) more m) (sub_more k (len_utf8 c) (units Utf8 line)))

further_here : (enc : Encoding) (n u k c : ℕ) (ls : Lines) → k < len_utf8 c → pos_further enc n u k (after_char c ls) ≡ record { line = n; character = u }
further_here enc n u k c (Last line) h = ap (λ m. place n m) (fits_none enc u k c line h)
further_here enc n u k c (Ended line more) h = rw (less_front k (len_utf8 c) (units Utf8 line) h) (ap (λ m. place n m) (fits_none enc u k c line h))

ended_here : (enc : Encoding) (n u k c : ℕ) (more : Lines) → k < len_utf8 c → pos_further enc n u k (Ended (c ∷ []) more) ≡ place n u
ended_here enc n u k c more h = further_here enc n u k c (Ended [] more) h

ended_past : (enc : Encoding) (n u k c : ℕ) (more : Lines) → len_utf8 c ≤ k → pos_further enc n u k (Ended (c ∷ []) more) ≡ pos_further enc (n + 1) 0 (k - len_utf8 c) more
ended_past enc n u k c more h =
    further_char enc n u k c (Ended [] more) h ∙ simp (not_below_none, sub-zero) (sym (further_none enc (n + 1) (k - len_utf8 c) more))

then_is : {b : Bool} {w x : Pos} (y : Pos) → b ≡ true → w ≡ x → w ≡ cond b x y
then_is y e h = cc

else_is : {b : Bool} {w y : Pos} (x : Pos) → b ≡ false → w ≡ y → w ≡ cond b x y
else_is x e h = cc

further_step : (enc : Encoding) (n u k c : ℕ) (rest : List ℕ) (b : Bool)
    → pos_further enc (n + 1) 0 (k - len_utf8 c) (lines rest) ≡ walked enc (n + 1) 0 (k - len_utf8 c) rest
    → pos_further enc n (u + code_units enc c) (k - len_utf8 c) (lines rest) ≡ walked enc n (u + code_units enc c) (k - len_utf8 c) rest
    → pos_further enc n u k (cond b (Ended (c ∷ []) (lines rest)) (after_char c (lines rest)))
    ≡ cond (nat_le (len_utf8 c) k) (cond b (walked enc (n + 1) 0 (k - len_utf8 c) rest) (walked enc n (u + code_units enc c) (k - len_utf8 c) rest)) (place n u)
further_step enc n u k c rest true ended same =
    elim (leb_tells (len_utf8 c) k) [
      | inl t ↦ then_is _ t.0 (ended_past enc n u k c (lines rest) t.1 ∙ ended)
      | inr t ↦ else_is _ t.0 (ended_here enc n u k c (lines rest) t.1)
    ]
further_step enc n u k c rest false ended same =
    elim (leb_tells (len_utf8 c) k) [
      | inl t ↦ then_is _ t.0 (further_char enc n u k c (lines rest) t.1 ∙ same)
      | inr t ↦ else_is _ t.0 (further_here enc n u k c (lines rest) t.1)
    ]

further-walked : (enc : Encoding) (n u k : ℕ) (cs : List ℕ) → pos_further enc n u k (lines cs) ≡ walked enc n u k cs
further-walked enc n u k [] = ap (λ m. place n m) (add-zero u)
further-walked enc n u k (c ∷ rest) =
    further_step enc n u k c rest (is_line_end c rest) (further-walked enc (n + 1) 0 (k - len_utf8 c) rest)
    (further-walked enc n (u + code_units enc c) (k - len_utf8 c) rest)

pub pos-walked : (enc : Encoding) (n k : ℕ) (cs : List ℕ) → pos_in enc n (lines cs) k ≡ walked enc n 0 k cs
pos-walked enc n k cs = sym (further_none enc n k (lines cs)) ∙ further-walked enc n 0 k cs

pub pos_at_walked : (text : List ℕ) (k : ℕ) (enc : Encoding) → walked enc 0 0 k (chars text) ≡ pos_at text k enc
unfolding pos_at
pos_at_walked text k enc = sym (pos-walked enc 0 k (chars text))

pub place_bounded : {text : List ℕ} {enc : Encoding} {p : Place} → IsPlaceIn text enc p → IsBounded p (p.at + length p.rest.now)
place_bounded {text} {enc} {p} reached = subst (λ n. IsBounded p n) (sym reached.bounded.rest) reached.bounded

pub place_moved : {text : List ℕ} {enc : Encoding} {p q : Place} → IsPlaceIn text enc p → p.at ≤ q.at → IsBounded q (p.at + length p.rest.now)
    → ((k : ℕ) → q.at ≤ k → pos_from enc p k ≡ pos_from enc q k) → IsPlaceIn text enc q
place_moved {text} {enc} {p} {q} reached forward bounded tells = record {
  bounded = subst (λ n. IsBounded q n) reached.bounded.rest bounded;
  tells = λ k h. sym (tells k h) ∙ reached.tells k (omega arith);
}
