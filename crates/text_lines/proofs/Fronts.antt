-- Where the lines after the first begin among the code points of a text.
use Rattle.std.proofs.Common.{◌≡◌, ℕ, zero, suc, ◌+◌, ◌-◌, ◌≤◌, ◌<◌, Bool, true, false, cond, get_or, length, nat_eq, List, [], ◌∷◌, ◌++◌, refl, ap, ◌∙◌, arith}
use Rattle.std.proofs.lemmas.Bool.{le-leb}
use Rattle.std.proofs.lemmas.Bool.Decides.{nat_tests}
use Rattle.std.proofs.lemmas.Str.{len_utf8_bounds}
use Rattle.std.specs.Char.{len_utf8}
use Rattle.text_lines.proofs.Starts.{later_starts}
use Rattle.text_lines.specs.Lines.{is_line_end}
use Rattle.text_lines.specs.Units.{units, code_units}
use Rattle.text_lines.specs.Walked.{walked, sought}
use Rattle.text_lines.specs.declared.encoding.Encoding.{Encoding}
use Rattle.text_lines.specs.declared.encoding.Encoding.TheVariants.{Utf8}

-- behind `at` bytes and these code points, line j + 1 of them begins at the byte s
pub record IsFront (cs : List ℕ) (at j s : ℕ) : Type 0 where
  pub before : List ℕ
  pub behind : List ℕ
  pub split : cs ≡ before ++ behind
  pub bytes : at + units Utf8 before ≡ s
  pub rises : j + 1 ≤ units Utf8 before
  pub tells : (enc : Encoding) (n u k : ℕ) → units Utf8 before ≤ k → walked enc n u k cs ≡ walked enc (n + 1 + j) 0 (k - units Utf8 before) behind
  pub seeks : (enc : Encoding) (u : ℕ) → sought enc (j + 1) u cs ≡ units Utf8 before + sought enc 0 u behind

-- one code point on
walked_ended : (enc : Encoding) (n u k c : ℕ) (rest : List ℕ) → is_line_end c rest ≡ true → len_utf8 c ≤ k
    → walked enc n u k (c ∷ rest) ≡ walked enc (n + 1) 0 (k - len_utf8 c) rest
walked_ended enc n u k c rest e h = rw (le-leb (len_utf8 c) k h, e) refl

walked_same : (enc : Encoding) (n u k c : ℕ) (rest : List ℕ) → is_line_end c rest ≡ false → len_utf8 c ≤ k
    → walked enc n u k (c ∷ rest) ≡ walked enc n (u + code_units enc c) (k - len_utf8 c) rest
walked_same enc n u k c rest e h = rw (le-leb (len_utf8 c) k h, e) refl

pub same_walked : (enc : Encoding) (n m k l : ℕ) (cs : List ℕ) → n ≡ m → k ≡ l → walked enc n 0 k cs ≡ walked enc m 0 l cs
same_walked enc n m k l cs e f = cc

sought_ended : (enc : Encoding) (n u c : ℕ) (rest : List ℕ) → is_line_end c rest ≡ true → sought enc (n + 1) u (c ∷ rest) ≡ len_utf8 c + sought enc n u rest
sought_ended enc n u c rest e =
    let later : nat_eq (n + 1) 0 ≡ false = grind (arith, nat_tests) in
    let less : n + 1 - 1 ≡ n = omega arith in
    rw (later, e, less) refl

sought_same : (enc : Encoding) (n u c : ℕ) (rest : List ℕ) → is_line_end c rest ≡ false → sought enc (n + 1) u (c ∷ rest) ≡ len_utf8 c + sought enc (n + 1) u rest
sought_same enc n u c rest e =
    let later : nat_eq (n + 1) 0 ≡ false = grind (arith, nat_tests) in
    rw (later, e) refl

front_here : (c at : ℕ) (rest : List ℕ) → is_line_end c rest ≡ true → IsFront (c ∷ rest) at 0 (at + len_utf8 c)
front_here c at rest e = record {
  before = c ∷ [];
  behind = rest;
  split = refl;
  bytes = omega arith;
  rises = omega (arith, len_utf8_bounds c);
  tells = λ enc n u k h. walked_ended enc n u k c rest e (omega arith) ∙ same_walked enc _ _ _ _ rest (omega arith) (omega arith);
  seeks = λ enc u. let one = sought_ended enc 0 u c rest e in omega (arith, one);
}

front_ended : (c at j s : ℕ) (rest : List ℕ) → is_line_end c rest ≡ true → IsFront rest (at + len_utf8 c) j s → IsFront (c ∷ rest) at (suc j) s
front_ended c at j s rest e f = record {
  before = c ∷ f.before;
  behind = f.behind;
  split = ap (λ cs. c ∷ cs) f.split;
  bytes = omega (arith, f.bytes);
  rises = omega (arith, len_utf8_bounds c, f.rises);
  tells = λ enc n u k h.
      walked_ended enc n u k c rest e (omega arith) ∙ f.tells enc (n + 1) 0 (k - len_utf8 c) (omega arith)
      ∙ same_walked enc _ _ _ _ f.behind (omega arith) (omega arith);
  seeks = λ enc u.
      let one = sought_ended enc (suc j) u c rest e in
      let same : sought enc (suc j) u rest ≡ sought enc (j + 1) u rest = ap (λ n. sought enc n u rest) (omega arith) in
      let later = f.seeks enc u in
      omega (arith, one, same, later);
}

front_same : (c at j s : ℕ) (rest : List ℕ) → is_line_end c rest ≡ false → IsFront rest (at + len_utf8 c) j s → IsFront (c ∷ rest) at j s
front_same c at j s rest e f = record {
  before = c ∷ f.before;
  behind = f.behind;
  split = ap (λ cs. c ∷ cs) f.split;
  bytes = omega (arith, f.bytes);
  rises = omega (arith, f.rises);
  tells = λ enc n u k h.
      walked_same enc n u k c rest e (omega arith) ∙ f.tells enc n (u + code_units enc c) (k - len_utf8 c) (omega arith)
      ∙ same_walked enc _ _ _ _ f.behind refl (omega arith);
  seeks = λ enc u.
      let one = sought_same enc j u c rest e in
      let later = f.seeks enc u in
      omega (arith, one, later);
}

front_step : (c at j : ℕ) (rest : List ℕ) (b : Bool) → is_line_end c rest ≡ b
    → ((i : ℕ) → i < length (later_starts (at + len_utf8 c) rest) → IsFront rest (at + len_utf8 c) i (get_or (later_starts (at + len_utf8 c) rest) i 0))
    → j < length (cond b ((at + len_utf8 c) ∷ later_starts (at + len_utf8 c) rest) (later_starts (at + len_utf8 c) rest))
    → IsFront (c ∷ rest) at j (get_or (cond b ((at + len_utf8 c) ∷ later_starts (at + len_utf8 c) rest) (later_starts (at + len_utf8 c) rest)) j 0)
front_step c at zero rest true e later h = front_here c at rest e
front_step c at (suc j) rest true e later h = front_ended c at j _ rest e (later j (omega arith))
front_step c at j rest false e later h = front_same c at j _ rest e (later j h)

pub front_at : (at j : ℕ) (cs : List ℕ) → j < length (later_starts at cs) → IsFront cs at j (get_or (later_starts at cs) j 0)
front_at at j [] h = absurd (omega arith)
front_at at j (c ∷ rest) h = front_step c at j rest (is_line_end c rest) refl (λ i l. front_at (at + len_utf8 c) i rest l) h
