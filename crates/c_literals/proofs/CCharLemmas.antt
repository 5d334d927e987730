-- What the loops over a character constant keep.
use Rattle.std.proofs.Common.{arith, ◌≡◌, ◌≤◌, ◌<◌, ◌+◌, ◌-◌, ◌*◌, ℕ, Bool, true, false, List, [], ◌∷◌, length, drop, subst, ap, sym, ◌∙◌, Some, None, Option}
use Rattle.std.specs.Prelude.{refl, zero, suc, ◌==◌, nat_lt, if◌then◌else◌, slice_index}
use Rattle.std.specs.Str.Parse.{digits_value, digits_value_after}
use Rattle.std.specs.Char.{is_digit, digit_value}
use Rattle.std.specs.Str.{chars, IsUtf8}
use Rattle.std.proofs.lemmas.Str.{length-le-encodes, encodes-chars}
use Rattle.c_literals.specs.declared.literal.Literal.TheVariants as literal
use Rattle.c_literals.specs.declared.prefix.Prefix.{Prefix}
use Rattle.c_literals.specs.declared.prefix.Prefix.TheVariants as prefix
use Rattle.c_literals.specs.declared.seen.Seen.{Seen}
use Rattle.c_literals.specs.declared.seen.Seen.TheVariants as seen
use Rattle.c_literals.specs.CChars.{CChar, Front, Plain, Escape, Stray, digits, octal, hexadecimal, simple, escape, front, c_chars, c_chars_past, closed, at_end, before, is_new_line}
use Rattle.c_literals.specs.Units.{limit, one_unit, units_of, units, joined}
use Rattle.c_literals.specs.Character.{several, of_units, of_c_chars, quoted, of_characters}
use Rattle.c_literals.specs.Kept.{shown, with_more, Adds, goes_on}
use Rattle.c_literals.proofs.DigitLemmas.{keeps}

-- more than four units have no value, whatever they are
several_none : (p : Prefix) (us : List ℕ) → 5 ≤ length us → several p us ≡ literal.Bad 313
unfolding several
several_none p us long = let e : nat_lt (length us) 5 ≡ false = grind arith in rw e refl

-- the c-chars behind the first `skip` code points
pub past_is : (skip : ℕ) (cs : List ℕ) → c_chars_past skip cs ≡ c_chars (drop skip cs)
past_is zero [] = refl
past_is (suc skip) [] = refl
past_is zero (c ∷ cs) = refl
past_is (suc skip) (c ∷ cs) = past_is skip cs

limit_most : (p : Prefix) → limit p ≤ 4294967296
limit_most prefix.Narrow = omega arith
limit_most prefix.Utf8 = omega arith
limit_most prefix.Char16 = omega arith
limit_most prefix.Char32 = omega arith
limit_most prefix.Wide = omega arith

one_unit_past : (p : Prefix) (n : ℕ) → 4294967296 ≤ n → one_unit p n ≡ None
unfolding one_unit
one_unit_past p n large =
    let most = limit_most p in
    let e : nat_lt n (limit p) ≡ false = grind arith in
    rw e refl

-- values past the range of every unit are alike, whatever digits follow
pub past_alike : (p : Prefix) (base m n : ℕ) (ds : List ℕ) → 1 ≤ base → 4294967296 ≤ m → 4294967296 ≤ n → one_unit p (digits_value_after base m ds) ≡ one_unit p (digits_value_after base n ds)
past_alike p base m n ds some large larger =
    let one = keeps base m ds some in
    let two = keeps base n ds some in
    one_unit_past p (digits_value_after base m ds) (omega arith) ∙ sym (one_unit_past p (digits_value_after base n ds) (omega arith))

-- digits at the front, one by one
pub digits_nil : (base left : ℕ) → digits base left [] ≡ []
digits_nil base zero = refl
digits_nil base (suc left) = refl

pub digits_end : (base left c : ℕ) (cs : List ℕ) → base ≤ digit_value c → digits base left (c ∷ cs) ≡ []
digits_end base zero c cs none = refl
digits_end base (suc left) c cs none = let e : is_digit c base ≡ false = grind arith in rw e refl

digits_next : (base left c : ℕ) (cs : List ℕ) → 0 < left → digit_value c < base → digits base left (c ∷ cs) ≡ c ∷ digits base (left - 1) cs
digits_next base zero c cs some digit = absurd (omega arith)
digits_next base (suc left) c cs some digit =
    let e : is_digit c base ≡ true = grind arith in
    let n : suc left - 1 ≡ left = omega arith in
    rw (e, n) refl

-- what the loop over digits keeps: `rest` is behind `most - left` of them
pub record Reading (base most left value : ℕ) (all rest : List ℕ) : Type 0 where
  pub within : left ≤ most
  pub low : value ≤ 4294967296
  pub count : (most - left) + length (digits base left rest) ≡ length (digits base most all)
  pub number : (p : Prefix) → one_unit p (digits_value_after base value (digits base left rest)) ≡ one_unit p (digits_value base (digits base most all))
  pub behind : drop (length (digits base left rest)) rest ≡ drop (length (digits base most all)) all

pub reading_begins : (base most : ℕ) (all : List ℕ) → Reading base most most 0 all all
reading_begins base most all = record {
  within = omega arith;
  low = omega arith;
  count = omega arith;
  number = λ p. refl;
  behind = refl;
}

-- where a digit's value is added in, up to what is past every unit
pub reading_turns : (base most left value c next : ℕ) (all cs : List ℕ) → 1 ≤ base → 0 < left → digit_value c < base → next ≤ 4294967296
    → ((p : Prefix) (b : ℕ) (ds : List ℕ) → 1 ≤ b → one_unit p (digits_value_after b next ds) ≡ one_unit p (digits_value_after b (value * base + digit_value c) ds))
    → Reading base most left value all (c ∷ cs) → Reading base most (left - 1) next all cs
reading_turns base most left value c next all cs some more digit low alike was =
    let step : digits base left (c ∷ cs) ≡ c ∷ digits base (left - 1) cs = digits_next base left c cs more digit in
    let within = was.within in
    let count : (most - left) + length (c ∷ digits base (left - 1) cs) ≡ length (digits base most all) = ap (λ ds. (most - left) + length ds) (sym step) ∙ was.count in
    record {
      within = omega arith;
      low = low;
      count = omega (arith, count);
      number = λ p. alike p base (digits base (left - 1) cs) some ∙ ap (λ ds. one_unit p (digits_value_after base value ds)) (sym step) ∙ was.number p;
      behind = ap (λ ds. drop (length ds) (c ∷ cs)) (sym step) ∙ was.behind;
    }

module _ {base most left value : ℕ} {all rest : List ℕ} (was : Reading base most left value all rest) (none : digits base left rest ≡ []) where
  pub read_count : most - left ≡ length (digits base most all)
  read_count = let count = ap (λ ds. (most - left) + length ds) (sym none) ∙ was.count in omega (arith, count)

  pub read_number : (p : Prefix) → one_unit p value ≡ one_unit p (digits_value base (digits base most all))
  read_number p = ap (λ ds. one_unit p (digits_value_after base value ds)) (sym none) ∙ was.number p

  pub read_behind : rest ≡ drop (length (digits base most all)) all
  read_behind = ap (λ ds. drop (length ds) rest) (sym none) ∙ was.behind

-- a limit that no text reaches changes nothing
digits_most : (base m n : ℕ) (cs : List ℕ) → length cs ≤ m → length cs ≤ n → digits base m cs ≡ digits base n cs
digits_most base m n [] low lower = digits_nil base m ∙ sym (digits_nil base n)
digits_most base zero n (c ∷ cs) low lower = absurd (omega (arith, low))
digits_most base (suc m) zero (c ∷ cs) low lower = absurd (omega (arith, lower))
digits_most base (suc m) (suc n) (c ∷ cs) low lower =
    ap (λ ds. if is_digit c base then c ∷ ds else []) (digits_most base m n cs (omega (arith, low)) (omega (arith, lower)))

chars_fewer : (bs : List ℕ) → IsUtf8 bs → length (chars bs) ≤ length bs
chars_fewer bs text = let fewer = length-le-encodes (chars bs) in subst (λ xs. length (chars bs) ≤ length xs) (encodes-chars bs text) fewer

hexadecimal_is : (bs : List ℕ) (c : ℕ) → IsUtf8 bs → digits 16 (length bs) (chars bs) ≡ hexadecimal (c ∷ chars bs)
hexadecimal_is bs c text = let fewer = chars_fewer bs text in digits_most 16 (length bs) (length (c ∷ chars bs)) (chars bs) fewer (omega arith)

-- the three kinds of escapes
pub escape_octal : (behind : List ℕ) → (length (octal behind) ≡ 0 → ⊥)
    → escape behind ≡ record { c_char = Escape (digits_value 8 (octal behind)); width = 1 + length (octal behind) }
unfolding escape
escape_octal behind some = let e : (length (octal behind) == 0) ≡ false = grind arith in rw e refl

pub escape_hexadecimal : (bs : List ℕ) (c : ℕ) → IsUtf8 bs → c ≡ 120 → length (octal (c ∷ chars bs)) ≡ 0 → (length (digits 16 (length bs) (chars bs)) ≡ 0 → ⊥)
    → escape (c ∷ chars bs) ≡ record { c_char = Escape (digits_value 16 (digits 16 (length bs) (chars bs))); width = 2 + length (digits 16 (length bs) (chars bs)) }
unfolding escape
escape_hexadecimal bs c text x none some =
    let d : (length (octal (c ∷ chars bs)) == 0) ≡ true = grind arith in
    let e : (c == 120) ≡ true = grind arith in
    let f : (length (digits 16 (length bs) (chars bs)) == 0) ≡ false = grind arith in
    rw (hexadecimal_is bs c text) (rw (← hexadecimal_is bs c text) (rw (d, e, f) refl))

pub escape_simple : (bs : List ℕ) (c : ℕ) → (c ≡ 120 → ⊥) → length (octal (c ∷ chars bs)) ≡ 0 → escape (c ∷ chars bs) ≡ record { c_char = simple c; width = 2 }
unfolding escape
escape_simple bs c other none =
    let d : (length (octal (c ∷ chars bs)) == 0) ≡ true = grind arith in
    let e : (c == 120) ≡ false = grind arith in
    rw (d, e) refl

-- an `x` without digits is none
pub escape_bare : (bs : List ℕ) (c : ℕ) → IsUtf8 bs → c ≡ 120 → length (octal (c ∷ chars bs)) ≡ 0 → length (digits 16 (length bs) (chars bs)) ≡ 0
    → escape (c ∷ chars bs) ≡ record { c_char = Stray; width = 2 }
unfolding escape simple
escape_bare bs c text x none bare =
    let d : (length (octal (c ∷ chars bs)) == 0) ≡ true = grind arith in
    let f : (length (hexadecimal (c ∷ chars bs)) == 0) ≡ true = let g = ap (λ ds. length ds) (hexadecimal_is bs c text) in grind arith in
    rw (d, x, f) refl

pub escape_nothing : escape [] ≡ record { c_char = Stray; width = 2 }
unfolding escape simple
escape_nothing = refl

pub push_four : (p : Prefix) (s : Seen) (a b c d u : ℕ) (more : List ℕ) → s ≡ seen.Four a b c d → several p (0 ∷ 0 ∷ 0 ∷ 0 ∷ 0 ∷ more) ≡ with_more p s (Some (u ∷ more))
push_four p s a b c d u more e =
    several_none p (0 ∷ 0 ∷ 0 ∷ 0 ∷ 0 ∷ more) (omega arith)
    ∙ sym (ap (λ s. with_more p s (Some (u ∷ more))) e ∙ several_none p (a ∷ b ∷ c ∷ d ∷ u ∷ more) (omega arith))

pub push_many : (p : Prefix) (s : Seen) (u : ℕ) (more : List ℕ) → s ≡ seen.Many → several p (0 ∷ 0 ∷ 0 ∷ 0 ∷ 0 ∷ more) ≡ with_more p s (Some (u ∷ more))
push_many p s u more e =
    several_none p (0 ∷ 0 ∷ 0 ∷ 0 ∷ 0 ∷ more) (omega arith)
    ∙ sym (ap (λ s. with_more p s (Some (u ∷ more))) e ∙ several_none p (0 ∷ 0 ∷ 0 ∷ 0 ∷ 0 ∷ u ∷ more) (omega arith))

pub drop_more : (n c : ℕ) (cs : List ℕ) → drop (2 + n - 1) (c ∷ cs) ≡ drop n cs
drop_more n c cs = let e : 2 + n - 1 ≡ suc n = omega arith in rw e refl

-- a c-char that neither closes a constant nor ends its line
unfoldable IsInside : ℕ → CChar → Type 0
IsInside q (Plain c) = ((c == q) ≡ false) × (is_new_line c ≡ false)
IsInside q (Escape n) = Unit {0}
IsInside q Stray = Unit {0}

if_both : {A : Type 0} (P : A → Type 0) (b : Bool) (x y : A) → P x → P y → P (if b then x else y)
if_both P true x y p q = p
if_both P false x y p q = q

plain_is : (q c : ℕ) → (c == q) ≡ false → is_new_line c ≡ false → IsInside q (Plain c)
unfolding IsInside
plain_is q c other line = (other, line)

escape_is : (q n : ℕ) → IsInside q (Escape n)
unfolding IsInside
escape_is q n = tt

stray_is : (q : ℕ) → IsInside q Stray
unfolding IsInside
stray_is q = tt

simple_inside : (q c : ℕ) → IsInside q (simple c)
unfolding simple
simple_inside q c =
    if_both (IsInside q) _ _ _ (escape_is q c) (if_both (IsInside q) _ _ _ (escape_is q 7) (if_both (IsInside q) _ _ _ (escape_is q 8) (if_both (IsInside q) _ _ _ (escape_is q 12)
    (if_both (IsInside q) _ _ _ (escape_is q 10) (if_both (IsInside q) _ _ _ (escape_is q 13) (if_both (IsInside q) _ _ _ (escape_is q 9)
    (if_both (IsInside q) _ _ _ (escape_is q 11) (stray_is q))))))))

escape_inside : (q : ℕ) (behind : List ℕ) → IsInside q (escape behind).c_char
unfolding escape
escape_inside q behind =
    if_both (λ (f : Front). IsInside q f.c_char) _ _ _ (escape_is q (digits_value 8 (octal behind)))
    (if_both (λ (f : Front). IsInside q f.c_char) _ _ _ (escape_is q (digits_value 16 (hexadecimal behind))) (simple_inside q (slice_index behind 0)))

front_inside : (q c : ℕ) (behind : List ℕ) → (c == q) ≡ false → is_new_line c ≡ false → IsInside q (front c behind).c_char
unfolding front
front_inside q c behind other line = if_both (λ (f : Front). IsInside q f.c_char) (c == 92) (escape behind) (record { c_char = Plain c; width = 1 }) (escape_inside q behind) (plain_is q c other line)

closed_next : (q : ℕ) (e : CChar) (es : List CChar) → IsInside q e → closed q (e ∷ es) ≡ before e (closed q es)
unfolding IsInside
closed_next q (Plain c) es inside = let other = inside.0 in let line = inside.1 in rw (other, line) refl
closed_next q (Escape n) es inside = refl
closed_next q Stray es inside = refl

-- the first c-char of a text that neither closes it nor ends its line
pub closed_step : (q c : ℕ) (cs rest all : List ℕ) → (c == q) ≡ false → is_new_line c ≡ false → rest ≡ drop ((front c cs).width - 1) cs → all ≡ c ∷ cs
    → closed q (c_chars all) ≡ before (front c cs).c_char (closed q (c_chars rest))
closed_step q c cs rest all other line behind is =
    ap (λ xs. closed q (c_chars xs)) is
    ∙ closed_next q (front c cs).c_char (c_chars_past ((front c cs).width - 1) cs) (front_inside q c cs other line)
    ∙ ap (λ es. before (front c cs).c_char (closed q es)) (past_is ((front c cs).width - 1) cs ∙ sym (ap c_chars behind))

joined_none : (us : Option (List ℕ)) → joined us None ≡ None
joined_none None = refl
joined_none (Some us) = refl

adds_any : (p : Prefix) (s after : Seen) (us more : Option (List ℕ)) → Adds p s us after → with_more p after more ≡ with_more p s (joined us more)
adds_any p s after us None adds =
    ap (of_units p) (joined_none (shown after)) ∙ sym (ap (λ x. with_more p s x) (joined_none us) ∙ ap (of_units p) (joined_none (shown s)))
adds_any p s after us (Some more) adds = adds more

goes_further : (p : Prefix) (s after : Seen) (e : CChar) (es : Option (List CChar)) → Adds p s (units_of p e) after → goes_on p after es ≡ goes_on p s (before e es)
goes_further p s after e None adds = refl
goes_further p s after e (Some es) adds = adds_any p s after (units_of p e) (units p es) adds

-- one c-char more
pub one_more : (p : Prefix) (s after : Seen) (c : ℕ) (cs rest all : List ℕ) → (c == 39) ≡ false → is_new_line c ≡ false → Adds p s (units_of p (front c cs).c_char) after
    → rest ≡ drop ((front c cs).width - 1) cs → all ≡ c ∷ cs → goes_on p after (closed 39 (c_chars rest)) ≡ goes_on p s (closed 39 (c_chars all))
one_more p s after c cs rest all other line adds behind is =
    goes_further p s after (front c cs).c_char (closed 39 (c_chars rest)) adds
    ∙ sym (ap (goes_on p s) (closed_step 39 c cs rest all other line behind is))

-- a text that ends here, or with a quote here
pub nothing_more : (p : Prefix) (s : Seen) (all : List ℕ) → all ≡ [] → literal.Bad 102 ≡ goes_on p s (closed 39 (c_chars all))
nothing_more p s all is = sym (ap (λ xs. goes_on p s (closed 39 (c_chars xs))) is)

pub quote_here : (p : Prefix) (s : Seen) (c : ℕ) (cs all : List ℕ) → c ≡ 39 → all ≡ c ∷ cs → goes_on p s (at_end (c_chars cs)) ≡ goes_on p s (closed 39 (c_chars all))
unfolding front
quote_here p s c cs all quote is = sym (ap (λ xs. goes_on p s (closed 39 (c_chars xs))) (is ∙ ap (λ c. c ∷ cs) quote))

pub line_here : (p : Prefix) (s : Seen) (c : ℕ) (cs all : List ℕ) → (c == 39) ≡ false → (c == 92) ≡ false → is_new_line c ≡ true → all ≡ c ∷ cs → literal.Bad 102 ≡ goes_on p s (closed 39 (c_chars all))
unfolding front
line_here p s c cs all other plain line is = sym (ap (λ xs. goes_on p s (closed 39 (c_chars xs))) is ∙ (rw (plain, other, line) refl))

pub begins : (p : Prefix) (es : Option (List CChar)) → goes_on p seen.Nothing es ≡ of_c_chars p es
begins p None = refl
begins p (Some es) = elim (units p es) as (λ us. of_units p (joined (Some []) us) ≡ of_units p us) [ None ↦ refl | Some us ↦ refl ]

pub of_nothing : (cs : List ℕ) → cs ≡ [] → literal.Bad 102 ≡ of_characters cs
unfolding of_characters quoted
of_nothing cs is = sym (ap of_characters is)
