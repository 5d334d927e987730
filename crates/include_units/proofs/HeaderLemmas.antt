-- Header names.
use Rattle.std.proofs.Common.{◌≡◌, ◌≢◌, ◌<◌, refl, sym, ap, ◌∙◌, arith, ℕ, ◌==◌, nat_lt, ◌&&◌, Bool, true, false, List, [], ◌∷◌, length, Option, None, Some, cond, codes}
use Rattle.std.specs.List.{position_or_len, before_first, after_first}
use Rattle.uri_paths.specs.Paths.{is_path, path_read}
use Rattle.include_units.specs.Inclusion.{Name, up_to, unless_empty, header_name}

less : (m n : ℕ) → m < n → nat_lt m n ≡ true
less m n h = grind (arith, h)

not_less : (m n : ℕ) → m ≡ n → nat_lt m n ≡ false
not_less m n h = grind (arith, h)

pub up_none : (end : ℕ) (text : List ℕ) → position_or_len (λ c. c == end) text ≡ length text → None ≡ up_to end text
up_none end text e =
    sym (ap (λ b. cond (b && (length (after_first (λ c. c == end) text) == 0)) (Some (before_first (λ c. c == end) text)) None) (not_less (position_or_len (λ c. c == end) text) (length text) e))

up_at : (end : ℕ) (text front behind : List ℕ) → front ≡ before_first (λ c. c == end) text → behind ≡ after_first (λ c. c == end) text →
    position_or_len (λ c. c == end) text < length text → up_to end text ≡ cond (length behind == 0) (Some front) None
up_at end text front behind f b h =
    ap (λ x. cond (x && (length (after_first (λ c. c == end) text) == 0)) (Some (before_first (λ c. c == end) text)) None) (less (position_or_len (λ c. c == end) text) (length text) h)
    ∙ ap (λ xs. cond (length xs == 0) (Some (before_first (λ c. c == end) text)) None) (sym b)
    ∙ ap (λ xs. cond (length behind == 0) (Some xs) None) (sym f)

pub up_ends : (end : ℕ) (text front behind : List ℕ) (is : Bool) → front ≡ before_first (λ c. c == end) text → behind ≡ after_first (λ c. c == end) text →
    position_or_len (λ c. c == end) text < length text → is ≡ (length behind == 0) → cond is (Some front) None ≡ up_to end text
up_ends end text front behind is f b h e = ap (λ x. cond x (Some front) None) e ∙ sym (up_at end text front behind f b h)

neither : (a b : Bool) (x y : Option Name) → (a ≡ true → ⊥) → (b ≡ true → ⊥) → None ≡ cond a x (cond b y None)
neither true b x y f g = absurd (f refl)
neither false true x y f g = absurd (g refl)
neither false false x y f g = refl

number_is : (m n : ℕ) → (m == n) ≡ true → m ≡ n
number_is m n e = grind (arith, e)

pub header_none : (text : List ℕ) → ((rest : List ℕ) → text ≢ 60 ∷ rest) → ((rest : List ℕ) → text ≢ 34 ∷ rest) → None ≡ header_name text
header_none [] f g = refl
header_none (c ∷ cs) f g =
    neither (c == 60) (c == 34) (unless_empty false (up_to 62 cs)) (unless_empty true (up_to 34 cs)) (λ e. f cs (ap (λ x. x ∷ cs) (number_is c 60 e))) (λ e. g cs (ap (λ x. x ∷ cs) (number_is c 34 e)))

-- `/` is a path
pub root_is : path_read (codes "/") ≡ Some (codes "/")
unfolding is_path
root_is = refl
