-- The line of an offset is the number of later starts that are at most the offset.
use Rattle.std.proofs.Common.{◌≡◌, ℕ, zero, suc, ◌+◌, ◌-◌, ◌≤◌, ◌<◌, Bool, true, false, cond, nat_lt, nat_le, ◌⊎◌, get_or, length, drop, List, [], ◌∷◌, refl, ap, zero-add, sym, subst, ◌∙◌, inl, inr, arith}
use Rattle.std.proofs.lemmas.Bool.{leb-true}
use Rattle.std.proofs.lemmas.Bool.Decides.{nat_tests, leb_tells}
use Rattle.std.proofs.lemmas.List.Recursion.{is_count_by}
use Rattle.std.proofs.lemmas.List.Sorted.{IsNonDecreasingBy-from_default}
use Rattle.std.proofs.lemmas.Str.{len_utf8_bounds}
use Rattle.std.specs.Char.{len_utf8}
use Rattle.std.specs.List.{count_by}
use Rattle.std.specs.List.Sorted.{IsPartitionPoint}
use Rattle.std.specs.Str.{IsUtf8, chars}
use Rattle.text_lines.proofs.Fronts.{front_at}
use Rattle.text_lines.proofs.Bytes.{bytes_of}
use Rattle.text_lines.proofs.Starts.{later_starts, line_starts_later}
use Rattle.text_lines.specs.Lines.{Lines, Last, Ended, lines, is_line_end}
use Rattle.text_lines.specs.Positions.{line_starts, starts_after, pos_in, pos_at}
use Rattle.text_lines.specs.Starts.{AreStarts}
use Rattle.text_lines.specs.Units.{units}
use Rattle.text_lines.specs.declared.encoding.Encoding.{Encoding}
use Rattle.text_lines.specs.declared.encoding.Encoding.TheVariants.{Utf8}

-- how many of these are at most k
abbrev up_to : ℕ → List ℕ → ℕ
up_to k [] = 0
up_to k (x ∷ xs) = cond (nat_le x k) (1 + up_to k xs) (up_to k xs)

up_to_count : (k : ℕ) (xs : List ℕ) → up_to k xs ≡ count_by (λ x. nat_le x k) xs
up_to_count k xs = is_count_by (up_to k) (λ x. nat_le x k) refl (λ x ys. refl) xs

up_to_yes : (k x : ℕ) (xs : List ℕ) → nat_le x k ≡ true → up_to k (x ∷ xs) ≡ 1 + up_to k xs
up_to_yes k x xs e = rw e refl

up_to_no : (k x : ℕ) (xs : List ℕ) → nat_le x k ≡ false → up_to k (x ∷ xs) ≡ up_to k xs
up_to_no k x xs e = rw e refl

-- the part of a list behind its first element
point_behind : (p : ℕ → Bool) (x i j : ℕ) (xs : List ℕ) → j + 1 ≡ i ⊎ (i ≡ 0) × (j ≡ 0) → IsPartitionPoint (λ y. p y ≡ true) (λ y. p y ≡ false) (x ∷ xs) i → IsPartitionPoint (λ y. p y ≡ true) (λ y. p y ≡ false) xs j
point_behind p x i j xs h point =
    ((λ k d low high. point.0 (suc k) d (omega arith) (omega arith)), (λ k d low high. point.1 (suc k) d (omega arith) (omega arith)))

pub up_to_point : (k : ℕ) (xs : List ℕ) (i : ℕ) → i ≤ length xs → IsPartitionPoint (λ y. nat_le y k ≡ true) (λ y. nat_le y k ≡ false) xs i → up_to k xs ≡ i
up_to_point k [] i h point = omega arith
up_to_point k (x ∷ xs) zero h point =
    up_to_no k x xs (point.1 0 0 (omega arith) (omega arith)) ∙ up_to_point k xs zero (omega arith) (point_behind (λ y. nat_le y k) x zero zero xs (inr (refl, refl)) point)
up_to_point k (x ∷ xs) (suc i) h point =
    up_to_yes k x xs (point.0 0 0 (omega arith) (omega arith)) ∙ ap (λ n. 1 + n) (up_to_point k xs i (omega arith) (point_behind (λ y. nat_le y k) x (suc i) i xs (inl (omega arith)) point)) ∙ omega arith

pub partition_count : (k : ℕ) (xs : List ℕ) (i : ℕ) → i ≤ length xs → IsPartitionPoint (λ y. nat_le y k ≡ true) (λ y. nat_le y k ≡ false) xs i → i ≡ count_by (λ y. nat_le y k) xs
partition_count k xs i h point = sym (up_to_point k xs i h point) ∙ up_to_count k xs

no_start : (at k : ℕ) (ls : Lines) → k < at → up_to k (starts_after at ls) ≡ 0
no_start at k (Last line) h = refl
no_start at k (Ended line more) h =
    up_to_no k (at + units Utf8 line) _ (grind (arith, nat_tests)) ∙ no_start (at + units Utf8 line) k more (omega arith)

line_here : (enc : Encoding) (n at k : ℕ) (line : List ℕ) (more : Lines) → k < units Utf8 line
    → n + up_to (at + k) (starts_after at (Ended line more)) ≡ (pos_in enc n (Ended line more) k).line
line_here enc n at k line more h =
    let none = up_to_no (at + k) (at + units Utf8 line) (starts_after (at + units Utf8 line) more) (grind (arith, nat_tests)) in
    let later = no_start (at + units Utf8 line) (at + k) more (omega arith) in
    let here : nat_lt k (units Utf8 line) ≡ true = grind (arith, nat_tests) in
    rw (here) (omega (arith, none, later))

line_behind : (enc : Encoding) (n at k : ℕ) (line : List ℕ) (more : Lines) → units Utf8 line ≤ k
    → n + 1 + up_to (at + units Utf8 line + (k - units Utf8 line)) (starts_after (at + units Utf8 line) more) ≡ (pos_in enc (n + 1) more (k - units Utf8 line)).line
    → n + up_to (at + k) (starts_after at (Ended line more)) ≡ (pos_in enc n (Ended line more) k).line
line_behind enc n at k line more h later =
    let one = up_to_yes (at + k) (at + units Utf8 line) (starts_after (at + units Utf8 line) more) (grind (arith, nat_tests)) in
    let behind : nat_lt k (units Utf8 line) ≡ false = grind (arith, nat_tests) in
    let same : at + units Utf8 line + (k - units Utf8 line) ≡ at + k = omega arith in
    let count = ap (λ m. up_to m (starts_after (at + units Utf8 line) more)) same in
    rw behind (omega (arith, one, later, count))

line_in : (enc : Encoding) (n at k : ℕ) (ls : Lines) → n + up_to (at + k) (starts_after at ls) ≡ (pos_in enc n ls k).line
line_in enc n at k (Last line) = omega arith
line_in enc n at k (Ended line more) =
    elim (leb_tells (units Utf8 line) k) [
      | inl t ↦ line_behind enc n at k line more t.1 (line_in enc (n + 1) (at + units Utf8 line) (k - units Utf8 line) more)
      | inr t ↦ line_here enc n at k line more t.1
    ]

pub line_counted : (text : List ℕ) (enc : Encoding) (k : ℕ) → count_by (λ start. nat_le start k) (drop 1 (line_starts text)) ≡ (pos_at text k enc).line
unfolding line_starts pos_at
line_counted text enc k =
    sym (up_to_count k (starts_after 0 (lines (chars text)))) ∙ ap (λ m. up_to m (starts_after 0 (lines (chars text)))) (sym (zero-add k))
    ∙ sym (zero-add (up_to (0 + k) (starts_after 0 (lines (chars text))))) ∙ line_in enc 0 0 k (lines (chars text))

later_than : (at : ℕ) (cs : List ℕ) (j : ℕ) → j < length (later_starts at cs) → at ≤ get_or (later_starts at cs) j 0
later_than at cs j h = let f = front_at at j cs h in omega (arith, f.bytes)

sorted_step : (at i j : ℕ) (rest : List ℕ) (b : Bool) → i ≤ j → j < length (cond b (at ∷ later_starts at rest) (later_starts at rest))
    → ((i j : ℕ) → i ≤ j → j < length (later_starts at rest) → get_or (later_starts at rest) i 0 ≤ get_or (later_starts at rest) j 0)
    → get_or (cond b (at ∷ later_starts at rest) (later_starts at rest)) i 0 ≤ get_or (cond b (at ∷ later_starts at rest) (later_starts at rest)) j 0
sorted_step at i j rest false h l sorted = sorted i j h l
sorted_step at zero zero rest true h l sorted = omega arith
sorted_step at zero (suc j) rest true h l sorted = later_than at rest j (omega arith)
sorted_step at (suc i) zero rest true h l sorted = absurd (omega arith)
sorted_step at (suc i) (suc j) rest true h l sorted = sorted i j (omega arith) (omega arith)

sorted_later : (at : ℕ) (cs : List ℕ) (i j : ℕ) → i ≤ j → j < length (later_starts at cs) → get_or (later_starts at cs) i 0 ≤ get_or (later_starts at cs) j 0
sorted_later at [] i j h l = absurd (omega arith)
sorted_later at (c ∷ rest) i j h l = sorted_step (at + len_utf8 c) i j rest (is_line_end c rest) h l (sorted_later (at + len_utf8 c) rest)

few_step : (at n : ℕ) (rest : List ℕ) (b : Bool) → length (later_starts at rest) ≤ n → length (cond b (at ∷ later_starts at rest) (later_starts at rest)) ≤ n + 1
few_step at n rest true h = omega arith
few_step at n rest false h = omega arith

few_later : (at : ℕ) (cs : List ℕ) → length (later_starts at cs) ≤ units Utf8 cs
few_later at [] = omega arith
few_later at (c ∷ rest) =
    let few = few_step (at + len_utf8 c) (units Utf8 rest) rest (is_line_end c rest) (few_later (at + len_utf8 c) rest) in
    omega (arith, few, len_utf8_bounds c)

pub are_starts : (text : List ℕ) → IsUtf8 text → length text ≤ 4290772992 → AreStarts (line_starts text)
are_starts text utf8 short = subst AreStarts (sym (line_starts_later text)) (record {
  some = omega arith;
  few = omega (arith, few_later 0 (chars text), bytes_of text utf8);
  first = refl;
  sorted = IsNonDecreasingBy-from_default (λ x. x) (later_starts 0 (chars text)) 0 (sorted_later 0 (chars text));
})

begins_among : (x : ℕ) (xs : List ℕ) (i k : ℕ) → x ≡ 0 → IsPartitionPoint (λ y. nat_le y k ≡ true) (λ y. nat_le y k ≡ false) xs i → get_or (x ∷ xs) i 0 ≤ k
begins_among x xs zero k first point = omega arith
begins_among x xs (suc i) k first point = leb-true _ _ (point.0 i 0 (omega arith) (omega arith))

pub begins_before : (starts later : List ℕ) (i k : ℕ) → later ≡ drop 1 starts → AreStarts starts
    → IsPartitionPoint (λ y. nat_le y k ≡ true) (λ y. nat_le y k ≡ false) later i → get_or starts i 0 ≤ k
begins_before [] later i k e are point = omega arith
begins_before (x ∷ xs) later i k e are point =
    begins_among x xs i k are.first (subst (λ ys. IsPartitionPoint (λ y. nat_le y k ≡ true) (λ y. nat_le y k ≡ false) ys i) e point)
