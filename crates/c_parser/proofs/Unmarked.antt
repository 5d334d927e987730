-- Where no `enum` stands, no token is an enumeration constant.
use Rattle.std.proofs.Common.{◌≡◌, refl, ap, sym, ◌∙◌, ℕ, zero, suc, ◌+◌, ◌-◌, List, [], ◌∷◌, ◌++◌, length, take, Bool, true, false, true≢false, ◌&&◌, ◌||◌, if◌then◌else◌, slice_index_or}
use Rattle.std.specs.List.{list_any}
use Rattle.c_parser.specs.declared.kinds.Kind.{Kind}
use Rattle.c_parser.specs.declared.kinds.Kind.TheVariants.{TypeName}
use Rattle.c_parser.specs.Brackets.{opens, closes}
use Rattle.c_parser.specs.Enumerations.{is_enum, is_comma, opens_list, outer, open_behind, open_at, is_constant, enumerates, is_name, last_of, earlier_by, AreMarks}
use Rattle.c_parser.specs.Kinds.{kind_at, is_brace, is_word}

first_of : (a b : Bool) → (a || b) ≡ false → a ≡ false
first_of true b h = h
first_of false b h = refl

rest_of : (a b : Bool) → (a || b) ≡ false → b ≡ false
rest_of true b h = absurd (true≢false h)
rest_of false b h = h

and_false : (b : Bool) → (b && false) ≡ false
and_false true = refl
and_false false = refl

none_at : (ks : List Kind) → list_any is_enum ks ≡ false → (n : ℕ) → is_enum (kind_at ks n) ≡ false
none_at [] h n = refl
none_at (k ∷ ks) h zero = first_of (is_enum k) (list_any is_enum ks) h
none_at (k ∷ ks) h (suc n) = none_at ks (rest_of (is_enum k) (list_any is_enum ks) h) n

unopened : (ks : List Kind) → ((n : ℕ) → is_enum (kind_at ks n) ≡ false) → (at : ℕ) → opens_list ks at ≡ false
unfolding opens_list
unopened ks h at =
    ap (λ b. is_brace (kind_at ks at) && (b || (is_word (kind_at ks (at - 1)) && is_enum (kind_at ks (at - 2))))) (h (at - 1))
    ∙ ap (λ b. is_brace (kind_at ks at) && (is_word (kind_at ks (at - 1)) && b)) (h (at - 2))
    ∙ ap (λ b. is_brace (kind_at ks at) && b) (and_false (is_word (kind_at ks (at - 1))))
    ∙ and_false (is_brace (kind_at ks at))

-- enumerators stand in none of these brackets
abbrev Shut : List Bool → Type 0
Shut levels = (n : ℕ) → slice_index_or levels n false ≡ false

shut_more : (levels : List Bool) → Shut levels → Shut (levels ++ false ∷ [])
shut_more [] h zero = refl
shut_more [] h (suc n) = refl
shut_more (x ∷ xs) h zero = h zero
shut_more (x ∷ xs) h (suc n) = shut_more xs (λ m. h (suc m)) n

shut_front : (levels : List Bool) → (k : ℕ) → Shut levels → Shut (take k levels)
shut_front [] zero h n = refl
shut_front [] (suc k) h n = refl
shut_front (x ∷ xs) zero h n = refl
shut_front (x ∷ xs) (suc k) h zero = h zero
shut_front (x ∷ xs) (suc k) h (suc n) = shut_front xs k (λ m. h (suc m)) n

shut_by : (levels : List Bool) → (o c list : Bool) → list ≡ false → Shut levels
    → Shut (if o then levels ++ list ∷ [] else (if c then outer levels else levels))
shut_by levels true c true e h = absurd (true≢false e)
shut_by levels true c false e h = shut_more levels h
shut_by levels false true list e h = shut_front levels (length levels - 1) h
shut_by levels false false list e h = h

shut_behind : (levels : List Bool) → (k : Kind) → (list : Bool) → list ≡ false → Shut levels → Shut (open_behind levels k list)
unfolding open_behind
shut_behind levels k list e h = shut_by levels (opens k) (closes k) list e h

shut_at : (ks : List Kind) → ((n : ℕ) → is_enum (kind_at ks n) ≡ false) → (at : ℕ) → Shut (open_at ks at)
shut_at ks h zero n = refl
shut_at ks h (suc at) n = shut_behind (open_at ks at) (kind_at ks at) (opens_list ks at) (unopened ks h at) (shut_at ks h at) n

none_enumerates : (ks : List Kind) → ((n : ℕ) → is_enum (kind_at ks n) ≡ false) → (at : ℕ) → enumerates ks at ≡ false
unfolding is_constant
none_enumerates ks h at =
    ap (λ b. b && (is_word (kind_at ks at) && (is_brace (kind_at ks (at - 1)) || is_comma (kind_at ks (at - 1)))))
    (shut_at ks h at (length (open_at ks at) - 1))

none_last : (ks : List Kind) → ((at : ℕ) → enumerates ks at ≡ false) → (n at : ℕ) → last_of ks n at ≡ 0
none_last ks h n zero = refl
none_last ks h n (suc at) =
    ap (λ b. if b && is_name n (kind_at ks at) then at + 1 else last_of ks n at) (h at) ∙ none_last ks h n at

none_earlier : (ks : List Kind) → ((at : ℕ) → enumerates ks at ≡ false) → (k : Kind) → (at : ℕ) → earlier_by ks k at ≡ 0
none_earlier ks h (TypeName n) at = none_last ks h n at
none_earlier ks h _ at = refl

unmarked : (ks : List Kind) → list_any is_enum ks ≡ false → AreMarks ks [] []
unmarked ks h = record {
  constant = λ at. sym (none_enumerates ks (none_at ks h) at);
  last = λ at. sym (none_earlier ks (none_enumerates ks (none_at ks h)) (kind_at ks at) at);
}

pub are_unmarked : (ks : List Kind) → (constants : List Bool) → (behind : List ℕ) → list_any is_enum ks ≡ false → constants ≡ [] → behind ≡ []
    → AreMarks ks constants behind
are_unmarked ks constants behind h c b = rw (c, b) (unmarked ks h)
