-- What the loops over the pieces of a string literal keep.
use Rattle.std.proofs.Common.{◌≡◌, ◌-◌, ◌++◌, ℕ, true, false, List, [], ◌∷◌, drop, ap, sym, ◌∙◌, Some, None, Option, append_assoc}
use Rattle.std.specs.Prelude.{refl, ◌==◌}
use Rattle.c_literals.specs.declared.prefix.Prefix.{Prefix}
use Rattle.c_literals.specs.CChars.{CChar, front, c_chars, closed, before, is_new_line}
use Rattle.c_literals.specs.Strings.{Outcome, Open, Faulty, Units, followed, of_units, of_content}
use Rattle.c_literals.specs.Units.{units, units_of, joined}
use Rattle.c_literals.proofs.CCharLemmas.{closed_step}

pub followed_open : (x : Outcome) → followed x Open ≡ Open
followed_open Open = refl
followed_open Faulty = refl
followed_open (Units us) = refl

nothing_behind : (us : List ℕ) → us ++ [] ≡ us
nothing_behind [] = refl
nothing_behind (u ∷ us) = ap (λ xs. u ∷ xs) (nothing_behind us)

pub followed_nothing : (x : Outcome) → followed x (Units []) ≡ x
followed_nothing Open = refl
followed_nothing Faulty = refl
followed_nothing (Units us) = ap Units (nothing_behind us)

pub followed_assoc : (x y z : Outcome) → followed (followed x y) z ≡ followed x (followed y z)
followed_assoc Open y z = refl
followed_assoc Faulty Open z = refl
followed_assoc Faulty Faulty Open = refl
followed_assoc Faulty Faulty Faulty = refl
followed_assoc Faulty Faulty (Units ws) = refl
followed_assoc Faulty (Units vs) Open = refl
followed_assoc Faulty (Units vs) Faulty = refl
followed_assoc Faulty (Units vs) (Units ws) = refl
followed_assoc (Units us) Open z = refl
followed_assoc (Units us) Faulty Open = refl
followed_assoc (Units us) Faulty Faulty = refl
followed_assoc (Units us) Faulty (Units ws) = refl
followed_assoc (Units us) (Units vs) Open = refl
followed_assoc (Units us) (Units vs) Faulty = refl
followed_assoc (Units us) (Units vs) (Units ws) = ap Units (append_assoc us vs ws)

joined_is : (us vs : Option (List ℕ)) → of_units (joined us vs) ≡ followed (of_units us) (of_units vs)
joined_is None None = refl
joined_is None (Some vs) = refl
joined_is (Some us) None = refl
joined_is (Some us) (Some vs) = refl

content_before : (p : Prefix) (e : CChar) (es : Option (List CChar)) → of_content p (before e es) ≡ followed (of_units (units_of p e)) (of_content p es)
content_before p e None = sym (followed_open (of_units (units_of p e)))
content_before p e (Some es) = joined_is (units_of p e) (units p es)

-- one s-char more
pub one_added : (p : Prefix) (x after : Outcome) (c : ℕ) (cs rest all : List ℕ) → (c == 34) ≡ false → is_new_line c ≡ false
    → after ≡ followed x (of_units (units_of p (front c cs).c_char)) → rest ≡ drop ((front c cs).width - 1) cs → all ≡ c ∷ cs
    → followed after (of_content p (closed 34 (c_chars rest))) ≡ followed x (of_content p (closed 34 (c_chars all)))
one_added p x after c cs rest all other line adds behind is =
    ap (λ y. followed y (of_content p (closed 34 (c_chars rest)))) adds
    ∙ followed_assoc x (of_units (units_of p (front c cs).c_char)) (of_content p (closed 34 (c_chars rest)))
    ∙ ap (followed x) (sym (content_before p (front c cs).c_char (closed 34 (c_chars rest))))
    ∙ ap (λ es. followed x (of_content p es)) (sym (closed_step 34 c cs rest all other line behind is))

-- the text ends here, or its line, or it is closed here
pub ends_open : (p : Prefix) (x : Outcome) (all : List ℕ) → all ≡ [] → Open ≡ followed x (of_content p (closed 34 (c_chars all)))
ends_open p x all is = sym (ap (λ xs. followed x (of_content p (closed 34 (c_chars xs)))) is ∙ followed_open x)

pub line_ends : (p : Prefix) (x : Outcome) (c : ℕ) (cs all : List ℕ) → (c == 34) ≡ false → (c == 92) ≡ false → is_new_line c ≡ true → all ≡ c ∷ cs
    → Open ≡ followed x (of_content p (closed 34 (c_chars all)))
unfolding front
line_ends p x c cs all other plain line is =
    sym (ap (λ xs. followed x (of_content p (closed 34 (c_chars xs)))) is ∙ (rw (plain, other, line) (followed_open x)))

pub quote_ends : (p : Prefix) (x : Outcome) (c : ℕ) (all : List ℕ) → c ≡ 34 → all ≡ c ∷ [] → x ≡ followed x (of_content p (closed 34 (c_chars all)))
unfolding front
quote_ends p x c all quote is =
    sym (ap (λ xs. followed x (of_content p (closed 34 (c_chars xs)))) (is ∙ ap (λ c. c ∷ []) quote) ∙ followed_nothing x)

-- something stands behind the quote
pub quote_inside : (p : Prefix) (x : Outcome) (c d : ℕ) (ds all : List ℕ) → c ≡ 34 → all ≡ c ∷ d ∷ ds → Open ≡ followed x (of_content p (closed 34 (c_chars all)))
unfolding front
quote_inside p x c d ds all quote is =
    sym (ap (λ xs. followed x (of_content p (closed 34 (c_chars xs)))) (is ∙ ap (λ c. c ∷ d ∷ ds) quote) ∙ followed_open x)
