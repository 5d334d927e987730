-- A number that a text writes.
use Rattle.std.proofs.Common.{◌≡◌, ℕ, ◌<◌, ◌^◌, Bool, true, false, ◌&&◌, List, [], ◌∷◌, length, nat_lt, Option, Some, None, Result, Ok, Err, if◌then◌else◌, refl, inl, inr, ltb-true, lt-ltb}
use Rattle.std.proofs.lemmas.Bool.{cases_Bool, and_parts}
use Rattle.std.specs.List.{list_all}
use Rattle.std.specs.Char.{digit_value}
use Rattle.std.specs.Str.Parse.{AllDigits, IsNumeral, ParsesUnsigned, digits_value, without_leading_plus}
use Rattle.clap.specs.ValueTests.{is_numeral}
use Rattle.project_conf.specs.Words.{number_in}

digits_from : (ds : List ℕ) → list_all (λ d. nat_lt (digit_value d) 10) ds ≡ true → AllDigits 10 ds
digits_from [] e = tt
digits_from (d ∷ ds) e = let parts = and_parts _ _ e in (ltb-true _ _ parts.0, digits_from ds parts.1)

digits_back : (ds : List ℕ) → AllDigits 10 ds → list_all (λ d. nat_lt (digit_value d) 10) ds ≡ true
digits_back [] h = refl
digits_back (d ∷ ds) h = rw (lt-ltb (digit_value d) 10 h.0) (digits_back ds h.1)

abbrev IsShort : List ℕ → Type 0
IsShort ds = IsNumeral 10 ds × (digits_value 10 ds < 2 ^ 32)

abbrev is_short : List ℕ → Bool
is_short ds = is_numeral ds && nat_lt (digits_value 10 ds) (2 ^ 32)

short_from : (ds : List ℕ) → is_short ds ≡ true → IsShort ds
short_from ds e =
    let parts = and_parts _ _ e in
    let numeral = and_parts _ _ parts.0 in
    ((ltb-true _ _ numeral.0, digits_from ds numeral.1), ltb-true _ _ parts.1)

short_back : (ds : List ℕ) → IsShort ds → is_short ds ≡ true
short_back ds h = rw (lt-ltb 0 (length ds) h.0.0, digits_back ds h.0.1, lt-ltb _ _ h.1) refl

not_short : (ds : List ℕ) → (IsShort ds → ⊥) → is_short ds ≡ false
not_short ds long = elim (cases_Bool (is_short ds)) as (λ _. is_short ds ≡ false) [ inl e ↦ absurd (long (short_from ds e)) | inr e ↦ e ]

abbrev ok_of : {E : Type 0} → Result ℕ E → Option ℕ
ok_of (Ok n) = Some n
ok_of (Err e) = None

then_some : (b : Bool) (n m : ℕ) → b ≡ true → n ≡ m → Some n ≡ (if b then Some m else None)
then_some b n m h e = rw (h, e) refl

then_none : (b : Bool) (m : ℕ) → b ≡ false → None ≡ (if b then Some m else None)
then_none b m h = rw h refl

pub number_read : {E : Type 0} (text : List ℕ) (r : Result ℕ E) → ParsesUnsigned 32 10 text r → ok_of r ≡ number_in text
unfolding number_in
number_read text (Ok n) h = then_some (is_short (without_leading_plus text)) n _ (short_back _ h.0) h.1
number_read text (Err e) h = then_none (is_short (without_leading_plus text)) _ (not_short _ h)
