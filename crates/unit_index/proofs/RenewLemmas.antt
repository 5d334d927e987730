-- What is judged anew on some names and taken over on the others is what is judged of all.
use Rattle.std.proofs.Common.{arith, ◌≡◌, ℕ, suc, ◌+◌, ◌-◌, ◌<◌, ◌≤◌, Bool, true, false, ◌||◌, List, [], ◌∷◌, ◌++◌, length, map, Option, Some, None, option_map, refl, sym, ap, ◌∙◌, subst, append_assoc, append-nil, true≢false}
use Rattle.std.specs.Prelude.{◌&&◌, ◌==◌, nat_eq, nat_lt, bytes_eq, if◌then◌else◌}
use Rattle.std.specs.Cmp.Lexicographic.{pointwise}
use Rattle.std.specs.HashSet.{HashSet}
use Rattle.std.specs.List.{AllByRecursion}
use Rattle.std.proofs.lemmas.Slice.Eq.{bytes_eq-Decides}
use Rattle.std.proofs.lemmas.Bool.Decides.{nat_tests}
use Rattle.unit_index.specs.declared.across.news.News.{News}
use Rattle.unit_index.specs.declared.across.news.Shift.{Shift}
use Rattle.unit_index.specs.declared.crossing.Crossing.{Crossing}
use Rattle.unit_index.specs.declared.crossing.Wrong.TheVariants.{OtherType, DefinedToo}
use Rattle.unit_index.specs.declared.exported.Does.{Does}
use Rattle.unit_index.specs.declared.exported.Does.TheVariants.{Declares, Defines}
use Rattle.unit_index.specs.Crossing.{Origin, Seen, Sight, all_crossings, crossing, crossings, defined, definition_told, differs, does_seen, first_seen, on_name, on_names, one_seen, origin, seen, seen_in, sight, twice, typed, types_told}
use Rattle.unit_index.specs.Exported.{From, Shown}
use Rattle.unit_index.specs.Firsts.{first_some, given, or_else}
use Rattle.unit_index.specs.Handles.{Tagging}
use Rattle.unit_index.specs.Matching.{Test}
use Rattle.unit_index.specs.News.{AreNews, AreShifts, IsShift, Known, has, is_of}
use Rattle.unit_index.specs.News.Known.{Alike, Anew}
use Rattle.unit_index.specs.Renewed.{AreFirsts, judged, left, number_before, of_units, one_taken, renewed, taken}
use Rattle.unit_index.proofs.PlacingLemmas.{first_alike}

-- ---- the numbers of warnings

abbrev Below : ℕ → List Crossing → Type 0
Below n cs = AllByRecursion (λ c. c.nth < n) cs

abbrev On : ℕ → List Crossing → Type 0
On n cs = AllByRecursion (λ c. c.nth ≡ n) cs

abbrev Above : ℕ → List Crossing → Type 0
Above n cs = AllByRecursion (λ c. n < c.nth) cs

all_both : (P : Crossing → Type 0) (xs ys : List Crossing) → AllByRecursion P xs → AllByRecursion P ys → AllByRecursion P (xs ++ ys)
all_both P [] ys a b = b
all_both P (x ∷ xs) ys a b = (a.0, all_both P xs ys a.1 b)

all_as : (P Q : Crossing → Type 0) → ((c : Crossing) → P c → Q c) → (xs : List Crossing) → AllByRecursion P xs → AllByRecursion Q xs
all_as P Q f [] a = tt
all_as P Q f (x ∷ xs) a = (f x a.0, all_as P Q f xs a.1)

on_unless : (n : ℕ) (b : Bool) (cs : List Crossing) → On n cs → On n (if b then [] else cs)
on_unless n true cs is = tt
on_unless n false cs is = is

on_where : (n : ℕ) (b : Bool) (cs : List Crossing) → On n cs → On n (if b then cs else [])
on_where n true cs is = is
on_where n false cs is = tt

-- the same warning on a name with another number
abbrev at_number : ℕ → Crossing → Crossing
at_number n c = crossing n c.wrong c.text

moved_unless : (n : ℕ) (b : Bool) (cs ds : List Crossing) → map (at_number n) cs ≡ ds → map (at_number n) (if b then [] else cs) ≡ (if b then [] else ds)
moved_unless n true cs ds is = refl
moved_unless n false cs ds is = is

moved_where : (n : ℕ) (b : Bool) (cs ds : List Crossing) → map (at_number n) cs ≡ ds → map (at_number n) (if b then cs else []) ≡ (if b then ds else [])
moved_where n true cs ds is = is
moved_where n false cs ds is = refl

moved_both : (n : ℕ) (cs ds : List Crossing) → map (at_number n) (cs ++ ds) ≡ map (at_number n) cs ++ map (at_number n) ds
moved_both n [] ds = refl
moved_both n (c ∷ cs) ds = ap (λ l. at_number n c ∷ l) (moved_both n cs ds)

module _ (test : Test) where
  typed_on : (o : Option Origin) (path : List ℕ) (tags : Tagging) (n : ℕ) (s : Seen) → On n (typed test o path tags n s)
  typed_on None path tags n s = tt
  typed_on (Some o) path tags n s =
      on_unless n (bytes_eq o.path path) (differs test o tags n s) (on_unless n (test o.tags tags o.name.ty s.ty) (crossing n OtherType (types_told o tags s) ∷ []) (refl, tt))

  typed_moved : (o : Option Origin) (path : List ℕ) (tags : Tagging) (b n : ℕ) (s : Seen) → map (at_number n) (typed test o path tags b s) ≡ typed test o path tags n s
  typed_moved None path tags b n s = refl
  typed_moved (Some o) path tags b n s =
      moved_unless n (bytes_eq o.path path) (differs test o tags b s) (differs test o tags n s)
      (moved_unless n (test o.tags tags o.name.ty s.ty) (crossing b OtherType (types_told o tags s) ∷ []) (crossing n OtherType (types_told o tags s) ∷ []) refl)

defined_on : (o : Option Origin) (path : List ℕ) (n : ℕ) (s : Seen) → On n (defined o path n s)
defined_on None path n s = tt
defined_on (Some o) path n s =
    on_unless n (bytes_eq o.path path) (twice o.path n s) (on_where n s.is_defined (crossing n DefinedToo (definition_told o.path s) ∷ []) (refl, tt))

defined_moved : (o : Option Origin) (path : List ℕ) (b n : ℕ) (s : Seen) → map (at_number n) (defined o path b s) ≡ defined o path n s
defined_moved None path b n s = refl
defined_moved (Some o) path b n s =
    moved_unless n (bytes_eq o.path path) (twice o.path b s) (twice o.path n s)
    (moved_where n s.is_defined (crossing b DefinedToo (definition_told o.path s) ∷ []) (crossing n DefinedToo (definition_told o.path s) ∷ []) refl)

module _ (test : Test) (ss : List Sight) (path : List ℕ) (tags : Tagging) where
  name_on : (n : ℕ) (s : Seen) → On n (on_name test ss path tags n s)
  name_on n s =
      all_both (λ c. c.nth ≡ n) (typed test (first_seen Declares ss s.name) path tags n s) (defined (first_seen Defines ss s.name) path n s)
      (typed_on test (first_seen Declares ss s.name) path tags n s) (defined_on (first_seen Defines ss s.name) path n s)

  name_moved : (b n : ℕ) (s : Seen) → map (at_number n) (on_name test ss path tags b s) ≡ on_name test ss path tags n s
  name_moved b n s =
      moved_both n (typed test (first_seen Declares ss s.name) path tags b s) (defined (first_seen Defines ss s.name) path b s)
      ∙ (λ i. typed_moved test (first_seen Declares ss s.name) path tags b n s i ++ defined_moved (first_seen Defines ss s.name) path b n s i)

  names_above : (b n : ℕ) (names : List Seen) → b < n → Above b (on_names test ss path tags n names)
  names_above b n [] h = tt
  names_above b n (s ∷ names) h =
      all_both (λ c. b < c.nth) (on_name test ss path tags n s) (on_names test ss path tags (n + 1) names)
      (all_as (λ c. c.nth ≡ n) (λ c. b < c.nth) (λ c e. omega (arith, e, h)) (on_name test ss path tags n s) (name_on n s))
      (names_above b (n + 1) names (omega (arith, h)))

  names_below : (n m : ℕ) (names : List Seen) → n + length names ≡ m → Below m (on_names test ss path tags n names)
  names_below n m [] e = tt
  names_below n m (s ∷ names) e =
      all_both (λ c. c.nth < m) (on_name test ss path tags n s) (on_names test ss path tags (n + 1) names)
      (all_as (λ c. c.nth ≡ n) (λ c. c.nth < m) (λ c f. omega (arith, e, f)) (on_name test ss path tags n s) (name_on n s))
      (names_below (n + 1) m names (omega (arith, e)))

  names_both : (n m : ℕ) (xs ys : List Seen) → n + length xs ≡ m → on_names test ss path tags n (xs ++ ys) ≡ on_names test ss path tags n xs ++ on_names test ss path tags m ys
  names_both n m [] ys e = let same : n ≡ m = omega (arith, e) in ap (λ k. on_names test ss path tags k ys) same
  names_both n m (s ∷ xs) ys e =
      ap (λ l. on_name test ss path tags n s ++ l) (names_both (n + 1) m xs ys (omega (arith, e)))
      ∙ sym (append_assoc (on_name test ss path tags n s) (on_names test ss path tags (n + 1) xs) (on_names test ss path tags m ys))

-- ---- what is taken over

not_past : (b k : ℕ) → k ≤ b → nat_lt b k ≡ false
not_past b k h = grind (arith, nat_tests, h)

is_past : (b k : ℕ) → b < k → nat_lt b k ≡ true
is_past b k h = grind (arith, nat_tests, h)

is_other : (b k : ℕ) → k < b → (k == b) ≡ false
is_other b k h = grind (arith, nat_tests, h)

is_same : (b k : ℕ) → k ≡ b → (k == b) ≡ true
is_same b k h = grind (arith, nat_tests, h)

module _ (b n : ℕ) where
  taken_below : (xs ys : List Crossing) → Below b xs → taken b n (xs ++ ys) ≡ taken b n ys
  taken_below [] ys h = refl
  taken_below (c ∷ xs) ys h =
      ap (λ p. if p then [] else one_taken b n c ++ taken b n (xs ++ ys)) (not_past b c.nth (let few : c.nth < b = h.0 in omega (arith, few)))
      ∙ ap (λ p. (if p then crossing n c.wrong c.text ∷ [] else []) ++ taken b n (xs ++ ys)) (is_other b c.nth h.0)
      ∙ taken_below xs ys h.1

  taken_on : (xs ys : List Crossing) → On b xs → taken b n (xs ++ ys) ≡ map (at_number n) xs ++ taken b n ys
  taken_on [] ys h = refl
  taken_on (c ∷ xs) ys h =
      ap (λ p. if p then [] else one_taken b n c ++ taken b n (xs ++ ys)) (not_past b c.nth (let same : c.nth ≡ b = h.0 in omega (arith, same)))
      ∙ ap (λ p. (if p then crossing n c.wrong c.text ∷ [] else []) ++ taken b n (xs ++ ys)) (is_same b c.nth h.0)
      ∙ ap (λ l. at_number n c ∷ l) (taken_on xs ys h.1)

  taken_above : (xs : List Crossing) → Above b xs → taken b n xs ≡ []
  taken_above [] h = refl
  taken_above (c ∷ xs) h = ap (λ p. if p then [] else one_taken b n c ++ taken b n xs) (is_past b c.nth h.0)

left_below : (b : ℕ) (xs ys : List Crossing) → Below b xs → left b (xs ++ ys) ≡ left b ys
left_below b [] ys h = refl
left_below b (c ∷ xs) ys h =
    ap (λ p. if p then c ∷ (xs ++ ys) else left b (xs ++ ys)) (not_past b c.nth (let few : c.nth < b = h.0 in omega (arith, few))) ∙ left_below b xs ys h.1

left_on : (b : ℕ) (xs ys : List Crossing) → On b xs → left b (xs ++ ys) ≡ left b ys
left_on b [] ys h = refl
left_on b (c ∷ xs) ys h =
    ap (λ p. if p then c ∷ (xs ++ ys) else left b (xs ++ ys)) (not_past b c.nth (let same : c.nth ≡ b = h.0 in omega (arith, same))) ∙ left_on b xs ys h.1

left_above : (b : ℕ) (xs : List Crossing) → Above b xs → left b xs ≡ xs
left_above b [] h = refl
left_above b (c ∷ xs) h = ap (λ p. if p then c ∷ xs else left b xs) (is_past b c.nth h.0)

-- of what stands below a number, on it, and above it
taken_there : (b n : ℕ) (xs ys zs : List Crossing) → Below b xs → On b ys → Above b zs → taken b n (xs ++ (ys ++ zs)) ≡ map (at_number n) ys
taken_there b n xs ys zs below on above =
    taken_below b n xs (ys ++ zs) below ∙ taken_on b n ys zs on ∙ ap (λ l. map (at_number n) ys ++ l) (taken_above b n zs above) ∙ append-nil (map (at_number n) ys)

left_there : (b : ℕ) (xs ys zs : List Crossing) → Below b xs → On b ys → Above b zs → left b (xs ++ (ys ++ zs)) ≡ zs
left_there b xs ys zs below on above = left_below b xs (ys ++ zs) below ∙ left_on b ys zs on ∙ left_above b zs above

-- ---- the names of a unit

module _ (test : Test) (ss ts : List Sight) (noted : List ℕ → Bool) (declares defines : List ℕ → Option From)
    (others : (does : Does) (q : List ℕ) → noted q ≡ false → first_seen does ss q ≡ first_seen does ts q)
    (declared : (q : List ℕ) → noted q ≡ true → option_map origin (declares q) ≡ first_seen Declares ts q)
    (defined_by : (q : List ℕ) → noted q ≡ true → option_map origin (defines q) ≡ first_seen Defines ts q) where
  name_anew : (path : List ℕ) (tags : Tagging) (n : ℕ) (s : Seen) → noted s.name ≡ true → judged test noted declares defines path tags n s ≡ on_name test ts path tags n s
  name_anew path tags n s is = λ i. typed test (declared s.name is i) path tags n s ++ defined (defined_by s.name is i) path n s

  name_stays : (path : List ℕ) (tags : Tagging) (n : ℕ) (s : Seen) → noted s.name ≡ false → on_name test ss path tags n s ≡ on_name test ts path tags n s
  name_stays path tags n s is = λ i. typed test (others Declares s.name is i) path tags n s ++ defined (others Defines s.name is i) path n s

  module _ (path : List ℕ) (tags : Tagging) (shift : Shift) where
    abbrev walk : ℕ → List Seen → List Crossing → List Crossing
    walk n names kept = renewed test noted declares defines path tags shift n names kept

    abbrev old : ℕ → List Seen → List Crossing
    old n names = on_names test ss path tags n names

    abbrev new : ℕ → List Seen → List Crossing
    new n names = on_names test ts path tags n names

    turn_anew : (n : ℕ) (s : Seen) (names : List Seen) (kept : List Crossing) → noted s.name ≡ true → walk n (s ∷ names) kept ≡ on_name test ts path tags n s ++ walk (n + 1) names kept
    turn_anew n s names kept is =
        ap (λ c. if c then judged test noted declares defines path tags n s ++ walk (n + 1) names kept else taken (number_before shift n) n kept ++ walk (n + 1) names (left (number_before shift n) kept)) is
        ∙ ap (λ l. l ++ walk (n + 1) names kept) (name_anew path tags n s is)

    turn_kept : (n b : ℕ) (s : Seen) (names older : List Seen) (done : List Crossing) → noted s.name ≡ false → number_before shift n ≡ b → Below b done
        → walk n (s ∷ names) (done ++ old b (s ∷ older)) ≡ on_name test ts path tags n s ++ walk (n + 1) names (old (b + 1) older)
    turn_kept n b s names older done is number below =
        let kept : List Crossing = done ++ old b (s ∷ older) in
        let above : Above b (old (b + 1) older) = names_above test ss path tags b (b + 1) older (omega arith) in
        let on : On b (on_name test ss path tags b s) = name_on test ss path tags b s in
        ap (λ c. if c then judged test noted declares defines path tags n s ++ walk (n + 1) names kept else taken (number_before shift n) n kept ++ walk (n + 1) names (left (number_before shift n) kept)) is
        ∙ ap (λ m. taken m n kept ++ walk (n + 1) names (left m kept)) number
        ∙ (λ i. (taken_there b n done (on_name test ss path tags b s) (old (b + 1) older) below on above ∙ name_moved test ss path tags b n s ∙ name_stays path tags n s is) i
        ++ walk (n + 1) names (left_there b done (on_name test ss path tags b s) (old (b + 1) older) below on above i))

    -- names that are seen as before, with what stands behind them
    part : (xs : List Seen) (n b m e : ℕ) (more older : List Seen) (done goal : List Crossing) → n + length xs ≡ m → b + length xs ≡ e
        → ((i : ℕ) → i < length xs → number_before shift (n + i) ≡ b + i) → Below b done
        → ((made : List Crossing) → Below e made → walk m more (made ++ old e older) ≡ goal)
        → walk n (xs ++ more) (done ++ old b (xs ++ older)) ≡ new n xs ++ goal
    part [] n b m e more older done goal nm be numbers below on =
        let now : n ≡ m = omega (arith, nm) in
        let before : b ≡ e = omega (arith, be) in
        (λ i. walk (now i) more (done ++ old (before i) older)) ∙ on done (subst (λ x. Below x done) before below)
    part (s ∷ xs) n b m e more older done goal nm be numbers below on =
        by (noted s.name) refl (λ made h. part xs (n + 1) (b + 1) m e more older made goal (omega (arith, nm)) (omega (arith, be)) further h on)
      where
        further : (i : ℕ) → i < length xs → number_before shift ((n + 1) + i) ≡ (b + 1) + i
        further i h =
            ap (number_before shift) (let f : (n + 1) + i ≡ n + suc i = omega arith in f) ∙ numbers (suc i) (omega (arith, h)) ∙ (let f : b + suc i ≡ (b + 1) + i = omega arith in f)

        by : (c : Bool) → noted s.name ≡ c → ((made : List Crossing) → Below (b + 1) made → walk (n + 1) (xs ++ more) (made ++ old (b + 1) (xs ++ older)) ≡ new (n + 1) xs ++ goal)
            → walk n (s ∷ (xs ++ more)) (done ++ old b (s ∷ (xs ++ older))) ≡ new n (s ∷ xs) ++ goal
        by true is later =
            turn_anew n s (xs ++ more) (done ++ old b (s ∷ (xs ++ older))) is
            ∙ ap (λ l. on_name test ts path tags n s ++ walk (n + 1) (xs ++ more) l) (sym (append_assoc done (on_name test ss path tags b s) (old (b + 1) (xs ++ older))))
            ∙ ap (λ l. on_name test ts path tags n s ++ l)
            (later (done ++ on_name test ss path tags b s)
            (all_both (λ c. c.nth < b + 1) done (on_name test ss path tags b s)
            (all_as (λ c. c.nth < b) (λ c. c.nth < b + 1) (λ c h. omega (arith, h)) done below)
            (all_as (λ c. c.nth ≡ b) (λ c. c.nth < b + 1) (λ c h. omega (arith, h)) (on_name test ss path tags b s) (name_on test ss path tags b s))))
            ∙ sym (append_assoc (on_name test ts path tags n s) (new (n + 1) xs) goal)
        by false is later =
            turn_kept n b s (xs ++ more) (xs ++ older) done is
            (ap (number_before shift) (let f : n ≡ n + 0 = omega arith in f) ∙ numbers 0 (omega arith) ∙ (let f : b + 0 ≡ b = omega arith in f)) below
            ∙ ap (λ l. on_name test ts path tags n s ++ l) (later [] tt)
            ∙ sym (append_assoc (on_name test ts path tags n s) (new (n + 1) xs) goal)

    -- names that are all in the set
    all_anew : (xs : List Seen) (n m : ℕ) (more : List Seen) (kept : List Crossing) → n + length xs ≡ m → ((q : List ℕ) → is_of q xs ≡ true → noted q ≡ true)
        → walk n (xs ++ more) kept ≡ new n xs ++ walk m more kept
    all_anew [] n m more kept e are = let same : n ≡ m = omega (arith, e) in ap (λ k. walk k more kept) same
    all_anew (s ∷ xs) n m more kept e are =
        turn_anew n s (xs ++ more) kept (are s.name (ap (λ b. b || is_of s.name xs) (itself s.name)))
        ∙ ap (λ l. on_name test ts path tags n s ++ l)
        (all_anew xs (n + 1) m more kept (omega (arith, e)) (λ q h. are q (ap (λ b. pointwise nat_eq s.name q || b) h ∙ or_true (pointwise nat_eq s.name q))))
        ∙ sym (append_assoc (on_name test ts path tags n s) (new (n + 1) xs) (walk m more kept))
      where
        or_true : (b : Bool) → b || true ≡ true
        or_true true = refl
        or_true false = refl

        itself : (q : List ℕ) → pointwise nat_eq q q ≡ true
        itself q = (bytes_eq-Decides q q).1 refl

    in_front : (i : ℕ) → i < shift.front → number_before shift (0 + i) ≡ 0 + i
    in_front i h = ap (λ c. if c then 0 + i else ((0 + i) - shift.come) + shift.gone) (let below : nat_lt (0 + i) shift.front ≡ true = grind (arith, nat_tests, h) in below)

    at_end : (i : ℕ) → number_before shift ((shift.front + shift.come) + i) ≡ (shift.front + shift.gone) + i
    at_end i =
        ap (λ c. if c then (shift.front + shift.come) + i else (((shift.front + shift.come) + i) - shift.come) + shift.gone)
        (let past : nat_lt ((shift.front + shift.come) + i) shift.front ≡ false = grind (arith, nat_tests) in past)
        ∙ (let f : (((shift.front + shift.come) + i) - shift.come) + shift.gone ≡ (shift.front + shift.gone) + i = omega arith in f)

    -- where those behind begin
    abbrev middle : ℕ
    middle = shift.front + shift.come

    abbrev older : ℕ
    older = shift.front + shift.gone

    three_parts : (ahead lost found behind : List Seen) → length ahead ≡ shift.front → length lost ≡ shift.gone → length found ≡ shift.come → ((q : List ℕ) → is_of q found ≡ true → noted q ≡ true)
        → walk 0 (ahead ++ (found ++ behind)) (old 0 (ahead ++ (lost ++ behind))) ≡ new 0 (ahead ++ (found ++ behind))
    three_parts ahead lost found behind fronts losses gains are =
        part ahead 0 0 shift.front shift.front (found ++ behind) (lost ++ behind) [] (new shift.front found ++ new middle behind) (omega (arith, fronts)) (omega (arith, fronts))
        (λ i h. in_front i (let below : i < shift.front = omega (arith, h, fronts) in below)) tt
        (λ made below.
        all_anew found shift.front middle behind (made ++ old shift.front (lost ++ behind)) (omega (arith, gains)) are
        ∙ ap (λ l. new shift.front found ++ l)
        (ap (walk middle behind)
        (ap (λ l. made ++ l) (names_both test ss path tags shift.front older lost behind (omega (arith, losses))) ∙ sym (append_assoc made (old shift.front lost) (old older behind)))
        ∙ (λ i. walk middle (sym (append-nil behind) i) ((made ++ old shift.front lost) ++ old older (sym (append-nil behind) i)))
        ∙ part behind middle older (middle + length behind) (older + length behind) [] [] (made ++ old shift.front lost) [] refl refl (λ i h. at_end i)
        (all_both (λ c. c.nth < older) made (old shift.front lost)
        (all_as (λ c. c.nth < shift.front) (λ c. c.nth < older) (λ c h. omega (arith, h)) made below)
        (names_below test ss path tags shift.front older lost (omega (arith, losses))))
        (λ rest h. refl)
        ∙ append-nil (new middle behind)))
        ∙ ap (λ l. new 0 ahead ++ l) (sym (names_both test ts path tags shift.front middle found behind (omega (arith, gains))))
        ∙ sym (names_both test ts path tags 0 shift.front ahead (found ++ behind) (omega (arith, fronts)))

    found_alone : (found : List Seen) (kept : List Crossing) → ((q : List ℕ) → is_of q found ≡ true → noted q ≡ true) → walk 0 ([] ++ (found ++ [])) kept ≡ new 0 ([] ++ (found ++ []))
    found_alone found kept are = all_anew found 0 (0 + length found) [] kept refl are ∙ append-nil (new 0 found) ∙ ap (new 0) (sym (append-nil found))

  -- ---- the units

  parted : (a b c : Bool) → ((a || b) ≡ true → c ≡ true) → b ≡ true → c ≡ true
  parted true b c f e = f refl
  parted false b c f e = f e

  by_tags : (path : List ℕ) (before now : Tagging) (shift : Shift) (ahead lost found behind : List Seen) → Known before now ahead behind
      → length ahead ≡ shift.front → length lost ≡ shift.gone → length found ≡ shift.come → ((q : List ℕ) → is_of q found ≡ true → noted q ≡ true)
      → renewed test noted declares defines path now shift 0 (ahead ++ (found ++ behind)) (on_names test ss path before 0 (ahead ++ (lost ++ behind))) ≡ on_names test ts path now 0 (ahead ++ (found ++ behind))
  by_tags path before now shift ahead lost found behind (Alike same) fronts losses gains are =
      ap (λ g. renewed test noted declares defines path now shift 0 (ahead ++ (found ++ behind)) (on_names test ss path g 0 (ahead ++ (lost ++ behind)))) same
      ∙ three_parts path now shift ahead lost found behind fronts losses gains are
  by_tags path before now shift ahead lost found behind (Anew front end) fronts losses gains are =
      (λ i. renewed test noted declares defines path now shift 0 (front i ++ (found ++ end i)) (on_names test ss path before 0 (front i ++ (lost ++ end i))))
      ∙ found_alone path now shift found (on_names test ss path before 0 ([] ++ (lost ++ []))) are
      ∙ (λ i. on_names test ts path now 0 (sym front i ++ (found ++ sym end i)))

  one_unit : (s t : Sight) (shift : Shift) → IsShift noted s t shift → renewed test noted declares defines t.path t.tags shift 0 t.names (crossings test ss s) ≡ crossings test ts t
  one_unit s t shift is =
      ap (λ p. renewed test noted declares defines t.path t.tags shift 0 t.names (on_names test ss p s.tags 0 s.names)) is.path
      ∙ (λ i. renewed test noted declares defines t.path t.tags shift 0 (is.now i) (on_names test ss t.path s.tags 0 (is.before i)))
      ∙ by_tags t.path s.tags t.tags shift is.ahead is.lost is.found is.behind is.tags is.first is.losses is.gains
      (λ q e. parted (is_of q is.lost) (is_of q is.found) (noted q) (is.names q) e)
      ∙ ap (on_names test ts t.path t.tags 0) (sym is.now)

  all_units : (us : List Shown) (old : List Sight) (shifts : List Shift) → AreShifts noted old (map sight us) shifts
      → of_units test noted declares defines us shifts (map (crossings test ss) old) ≡ map (crossings test ts) (map sight us)
  all_units [] [] [] are = refl
  all_units [] [] (x ∷ shifts) are = absurd are
  all_units [] (s ∷ old) shifts are = absurd are
  all_units (u ∷ us) [] shifts are = absurd are
  all_units (u ∷ us) (s ∷ old) [] are = absurd are
  all_units (u ∷ us) (s ∷ old) (x ∷ shifts) are = λ i. one_unit s (sight u) x are.0 i ∷ all_units us old shifts are.1 i

-- ---- names that no unit shows otherwise

or_grouped : {A : Type 0} (a b c : Option A) → or_else (or_else a b) c ≡ or_else a (or_else b c)
or_grouped None b c = refl
or_grouped (Some x) b c = refl

firsts_both : {A B : Type 0} (f : A → Option B) (xs ys : List A) → first_some f (xs ++ ys) ≡ or_else (first_some f xs) (first_some f ys)
firsts_both f [] ys = refl
firsts_both f (x ∷ xs) ys = ap (or_else (f x)) (firsts_both f xs ys) ∙ sym (or_grouped (f x) (first_some f xs) (first_some f ys))

and_false : (b : Bool) → (b && false) ≡ false
and_false true = refl
and_false false = refl

neither : (a b : Bool) → (a || b) ≡ false → (a ≡ false) × (b ≡ false)
neither true b e = absurd (true≢false e)
neither false b e = (refl, e)

none_here : (does : Does) (path : List ℕ) (tags : Tagging) (q : List ℕ) (names : List Seen) → is_of q names ≡ false → first_some (one_seen does path tags q) names ≡ None
none_here does path tags q [] e = refl
none_here does path tags q (s ∷ names) e =
    let parts = neither (pointwise nat_eq s.name q) (is_of q names) e in
    ap (λ b. or_else (given (does_seen does s && b) (record { path = path; tags = tags; name = s })) (first_some (one_seen does path tags q) names)) parts.0
    ∙ ap (λ b. or_else (given b (record { path = path; tags = tags; name = s })) (first_some (one_seen does path tags q) names)) (and_false (does_seen does s))
    ∙ none_here does path tags q names parts.1

outside : (a b c : Bool) → ((a || b) ≡ true → c ≡ true) → c ≡ false → (a ≡ false) × (b ≡ false)
outside true b c f e = absurd (true≢false (sym (f refl) ∙ e))
outside false true c f e = absurd (true≢false (sym (f refl) ∙ e))
outside false false c f e = (refl, refl)

-- of names that were replaced by others
around : (does : Does) (path : List ℕ) (tags : Tagging) (q : List ℕ) (ahead names behind : List Seen) → is_of q names ≡ false
    → first_some (one_seen does path tags q) (ahead ++ (names ++ behind)) ≡ or_else (first_some (one_seen does path tags q) ahead) (first_some (one_seen does path tags q) behind)
around does path tags q ahead names behind e =
    firsts_both (one_seen does path tags q) ahead (names ++ behind)
    ∙ ap (or_else (first_some (one_seen does path tags q) ahead))
    (firsts_both (one_seen does path tags q) names behind ∙ ap (λ o. or_else o (first_some (one_seen does path tags q) behind)) (none_here does path tags q names e))

by_known : (does : Does) (path : List ℕ) (before now : Tagging) (q : List ℕ) (ahead behind : List Seen) → Known before now ahead behind
    → or_else (first_some (one_seen does path before q) ahead) (first_some (one_seen does path before q) behind) ≡ or_else (first_some (one_seen does path now q) ahead) (first_some (one_seen does path now q) behind)
by_known does path before now q ahead behind (Alike same) = ap (λ g. or_else (first_some (one_seen does path g q) ahead) (first_some (one_seen does path g q) behind)) same
by_known does path before now q ahead behind (Anew front end) =
    (λ i. or_else (first_some (one_seen does path before q) (front i)) (first_some (one_seen does path before q) (end i)))
    ∙ (λ i. or_else (first_some (one_seen does path now q) (sym front i)) (first_some (one_seen does path now q) (sym end i)))

module _ (noted : List ℕ → Bool) (does : Does) (q : List ℕ) (other : noted q ≡ false) where
  seen_still : (s t : Sight) (shift : Shift) → IsShift noted s t shift → seen_in does q s ≡ seen_in does q t
  seen_still s t shift is =
      let none = outside (is_of q is.lost) (is_of q is.found) (noted q) (is.names q) other in
      (λ i. first_some (one_seen does (is.path i) s.tags q) (is.before i))
      ∙ around does t.path s.tags q is.ahead is.lost is.behind none.0
      ∙ by_known does t.path s.tags t.tags q is.ahead is.behind is.tags
      ∙ sym (around does t.path t.tags q is.ahead is.found is.behind none.1)
      ∙ ap (first_some (one_seen does t.path t.tags q)) (sym is.now)

  first_still : (ss ts : List Sight) (shifts : List Shift) → AreShifts noted ss ts shifts → first_seen does ss q ≡ first_seen does ts q
  first_still [] [] shifts are = refl
  first_still [] (t ∷ ts) shifts are = absurd are
  first_still (s ∷ ss) [] shifts are = absurd are
  first_still (s ∷ ss) (t ∷ ts) [] are = absurd are
  first_still (s ∷ ss) (t ∷ ts) (x ∷ shifts) are = λ i. or_else (seen_still s t x are.0 i) (first_still ss ts shifts are.1 i)

-- ---- all of it

pub all_renewed : (test : Test) (ss : List Sight) (us : List Shown) (noted : List ℕ → Bool) (declares defines : List ℕ → Option From) (shifts : List Shift) (kept : List (List Crossing))
    → AreFirsts noted us declares defines → AreShifts noted ss (map sight us) shifts → kept ≡ all_crossings test ss
    → of_units test noted declares defines us shifts kept ≡ all_crossings test (map sight us)
all_renewed test ss us noted declares defines shifts kept firsts are was =
    ap (of_units test noted declares defines us shifts) was
    ∙ all_units test ss (map sight us) noted declares defines
    (λ does q other. first_still noted does q other ss (map sight us) shifts are)
    (λ q is. ap (option_map origin) (firsts.declarations q is) ∙ first_alike Declares us q)
    (λ q is. ap (option_map origin) (firsts.definitions q is) ∙ first_alike Defines us q)
    us ss shifts are

pub after_news : {S : Type 0} (test : Test) (ss : List Sight) (us : List Shown) (news : News) (declares defines : List ℕ → Option From) (names : HashSet (List ℕ) S) (shifts : List Shift) (kept all : List (List Crossing))
    → ((q : List ℕ) → has names q ≡ has news.names q) → shifts ≡ news.shifts.items → AreFirsts (has names) us declares defines → all ≡ of_units test (has names) declares defines us shifts kept
    → AreNews ss (map sight us) news → kept ≡ all_crossings test ss → all ≡ all_crossings test (map sight us)
after_news test ss us news declares defines names shifts kept all same shifted firsts is are was =
    let noted : has names ≡ has news.names = λ i q. same q i in
    is ∙ all_renewed test ss us (has names) declares defines shifts kept firsts (subst (λ f. AreShifts f ss (map sight us) shifts) (sym noted) (subst (AreShifts (has news.names) ss (map sight us)) (sym shifted) are.shifts)) was
