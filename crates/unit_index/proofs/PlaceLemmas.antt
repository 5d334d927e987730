-- Places that are linked by remainders lead to those of a number, and these to those of a key.
use Rattle.std.proofs.Common.{arith, ◌≡◌, ◌<◌, ◌≤◌, ℕ, zero, suc, ◌+◌, ◌-◌, ◌%◌, ◌++◌, Bool, true, false, List, [], ◌∷◌, length, drop, map, get_or, reverse, nat_eq, Option, Some, None, refl, sym, ap, subst, ◌∙◌, append_assoc, length-append}
use Rattle.std.proofs.lemmas.List.{append-nil, reverse-append, length-map, length-set, map-append, get_or-set_same, get_or-set_other, drop-map}
use Rattle.std.proofs.lemmas.Option.{slice_get-map, slice_get-get_or, slice_get_within}
use Rattle.std.proofs.lemmas.Bool.{eqb-true, eq-eqb}
use Rattle.std.proofs.Math.ListN.{set}
use Rattle.std.proofs.Math.Nat.{mod-lt}
use Rattle.std.proofs.Math.Seq.{drop-append_seam}
use Rattle.std.specs.Prelude.{if◌then◌else◌, option_map}
use Rattle.std.specs.List.{slice_get}
use Rattle.unit_index.specs.Chains.{first_from, from_place, HasCode}
use Rattle.unit_index.specs.Places.{place_from, leaves, links, next_from, AreLinked, AreNone, IsLinkedTo}
use Rattle.unit_index.proofs.ChainLemmas.{length_end, empty}
use Rattle.unit_index.proofs.FirstLemmas.{rest_none}

-- ---- lists and places

pub slice_at : {A : Type 0} (front : List A) (x : A) (xs : List A) → slice_get (front ++ x ∷ xs) (length front) ≡ Some x
slice_at [] x xs = refl
slice_at (y ∷ front) x xs = slice_at front x xs

-- a list in two parts, of which the second begins at a place
pub record IsCut {A : Type 0} (all : List A) (i : ℕ) (x : A) : Type 0 where
  pub front : List A
  pub rest : List A
  pub split : front ++ x ∷ rest ≡ all
  pub place : length front ≡ i

pub cut_at : {A : Type 0} (all : List A) (i : ℕ) (x : A) → slice_get all i ≡ Some x → IsCut all i x
cut_at [] i x e = absurd (cc e)
cut_at (y ∷ ys) zero x e = let same : y ≡ x = cc e in record { front = []; rest = ys; split = ap (λ z. z ∷ ys) (sym same); place = refl }
cut_at (y ∷ ys) (suc i) x e =
    let more = cut_at ys i x e in
    record { front = y ∷ more.front; rest = more.rest; split = ap (λ zs. y ∷ zs) more.split; place = ap suc more.place }

-- what stands from a place on
pub dropped : {A : Type 0} (all front xs : List A) (n : ℕ) → front ++ xs ≡ all → length front ≡ n → drop n all ≡ xs
dropped all front xs n split place = ap (drop n) (sym split) ∙ ap (λ k. drop k (front ++ xs)) (sym place) ∙ drop-append_seam front xs

-- what stands at one
pub there : {A : Type 0} (all front xs : List A) (x : A) (n : ℕ) → front ++ x ∷ xs ≡ all → length front ≡ n → slice_get all n ≡ Some x
there all front xs x n split place = ap (λ zs. slice_get zs n) (sym split) ∙ ap (λ k. slice_get (front ++ x ∷ xs) k) (sym place) ∙ slice_at front x xs

one_more : {A : Type 0} (front : List A) (x : A) (n : ℕ) → length front ≡ n → length (front ++ x ∷ []) ≡ n + 1
one_more front x n place = length-append front (x ∷ []) ∙ ap (λ k. k + 1) place

moved : {A : Type 0} (all front xs : List A) (x : A) → front ++ x ∷ xs ≡ all → (front ++ x ∷ []) ++ xs ≡ all
moved all front xs x split = append_assoc front (x ∷ []) xs ∙ split

inside : {A : Type 0} (all front xs : List A) (n : ℕ) → front ++ xs ≡ all → length front ≡ n → n + length xs ≡ length all
inside all front xs n split place = ap (λ k. k + length xs) (sym place) ∙ sym (length-append front xs) ∙ ap length split

some : {A : Type 0} (a b : A) → Some a ≡ Some b → a ≡ b
some a b e = cc e

abbrev Narrows : {A : Type 0} → (A → Bool) → (A → Bool) → Type 0
Narrows {A} p q = (x : A) → p x ≡ true → q x ≡ true

out_by : (b c : Bool) → (b ≡ true → c ≡ true) → c ≡ false → b ≡ false
out_by true c within fails = absurd (cc (sym (within refl) ∙ fails))
out_by false c within fails = refl

-- ---- what doesn't pass a wider test is left out

skip_by : {A : Type 0} (p q : A → Bool) (all xs : List A) (x : A) (n : ℕ) (c : Bool) → q x ≡ c → (q x ≡ false → p x ≡ false) → drop n all ≡ x ∷ xs
    → first_from p (n + 1) xs ≡ first_from p (place_from q (n + 1) xs) (drop (place_from q (n + 1) xs) all)
    → first_from p n (x ∷ xs) ≡ first_from p (if c then n else place_from q (n + 1) xs) (drop (if c then n else place_from q (n + 1) xs) all)
skip_by p q all xs x n true is out here later = ap (first_from p n) (sym here)
skip_by p q all xs x n false is out here later = ap (λ b. if b then Some n else first_from p (n + 1) xs) (out is) ∙ later

pub skips : {A : Type 0} (p q : A → Bool) → Narrows p q → (all front xs : List A) (n : ℕ) → front ++ xs ≡ all → length front ≡ n
    → first_from p n xs ≡ first_from p (place_from q n xs) (drop (place_from q n xs) all)
skips p q within all front [] n split place = ap (first_from p n) (sym (dropped all front [] n split place))
skips p q within all front (x ∷ xs) n split place =
    skip_by p q all xs x n (q x) refl (out_by (p x) (q x) (within x)) (dropped all front (x ∷ xs) n split place)
    (skips p q within all (front ++ x ∷ []) xs (n + 1) (moved all front xs x split) (one_more front x n place))

-- a place that isn't in front of n, of an element that passes
pub record IsPlace {A : Type 0} (q : A → Bool) (all : List A) (n at : ℕ) : Type 0 where
  pub behind : n ≤ at
  pub within : at ≤ length all
  pub passes : (y : A) → slice_get all at ≡ Some y → q y ≡ true

place_by : {A : Type 0} (q : A → Bool) (all xs : List A) (x : A) (n : ℕ) (c : Bool) → q x ≡ c → slice_get all n ≡ Some x → n ≤ length all
    → IsPlace q all (n + 1) (place_from q (n + 1) xs) → IsPlace q all n (if c then n else place_from q (n + 1) xs)
place_by q all xs x n true is here short later = record {
  behind = omega arith;
  within = short;
  passes = λ y e. ap q (some y x (sym e ∙ here)) ∙ is;
}
place_by q all xs x n false is here short later = record {
  behind = let l = later.behind in omega (arith, l);
  within = later.within;
  passes = later.passes;
}

pub place_is : {A : Type 0} (q : A → Bool) (all front xs : List A) (n : ℕ) → front ++ xs ≡ all → length front ≡ n → IsPlace q all n (place_from q n xs)
place_is q all front [] n split place =
    let e = inside all front [] n split place in
    record {
      behind = omega arith;
      within = omega (arith, e);
      passes = λ y here. let cut = cut_at all n y here in absurd (cc (sym (dropped all front [] n split place) ∙ dropped all cut.front (y ∷ cut.rest) n cut.split cut.place));
    }
place_is q all front (x ∷ xs) n split place =
    let e = inside all front (x ∷ xs) n split place in
    place_by q all xs x n (q x) refl (there all front xs x n split place) (omega (arith, e))
    (place_is q all (front ++ x ∷ []) xs (n + 1) (moved all front xs x split) (one_more front x n place))

-- ---- the places of a number

same_rest : (count code c : ℕ) → leaves count (code % count) c ≡ true → c % count ≡ code % count
same_rest count code c e = sym (eqb-true (code % count) (c % count) e)

-- numbers that are the same leave the same remainder
narrows : (count code f : ℕ) → f % count ≡ code % count → Narrows (nat_eq code) (leaves count (f % count))
narrows count code f alike x e = eq-eqb (f % count) (x % count) (alike ∙ ap (λ c. c % count) (eqb-true code x e))

linked_to : (count code f n at : ℕ) (codes : List ℕ) → f % count ≡ code % count → IsPlace (leaves count (f % count)) codes n at → IsLinkedTo count codes code at
linked_to count code f n at codes alike is = record {
  within = is.within;
  alike = λ c e. same_rest count f c (is.passes c e) ∙ alike;
}

link_at : (count n : ℕ) (front : List ℕ) (x : ℕ) (xs : List ℕ) → get_or (links count n (front ++ x ∷ xs)) (length front) 0 ≡ place_from (leaves count (x % count)) (n + length front + 1) xs
link_at count n [] x xs = let e : n + 1 ≡ n + 0 + 1 = omega arith in ap (λ k. place_from (leaves count (x % count)) k xs) e
link_at count n (y ∷ front) x xs =
    let e : n + 1 + length front + 1 ≡ n + length (y ∷ front) + 1 = omega arith in
    link_at count (n + 1) front x xs ∙ ap (λ k. place_from (leaves count (x % count)) k xs) e

-- what is read at a place
pub looked : (xs codes : List ℕ) (at f : ℕ) → xs ≡ codes → at < length xs → f ≡ get_or xs at f → slice_get codes at ≡ Some f
looked xs codes at f same short is = ap (λ zs. slice_get zs at) (sym same) ∙ slice_get-get_or xs at f short ∙ ap Some (sym is)

length_links : (count n : ℕ) (codes : List ℕ) → length (links count n codes) ≡ length codes
length_links count n [] = refl
length_links count n (c ∷ codes) = ap suc (length_links count (n + 1) codes)

pub link_is_there : (firsts nexts codes : List ℕ) (f at : ℕ) → AreLinked codes firsts nexts → slice_get codes at ≡ Some f → at < length nexts
link_is_there firsts nexts codes f at linked here =
    let cut = cut_at codes at f here in
    let more = inside codes cut.front (f ∷ cut.rest) at cut.split cut.place in
    let many : length nexts ≡ length codes = ap length linked.nexts ∙ length_links (length firsts) 0 codes in
    omega (arith, more, many)

-- the way to the end is shorter at the next place
pub nearer : (codes : List ℕ) (f at next : ℕ) → slice_get codes at ≡ Some f → at + 1 ≤ next → length codes - next < length codes - at
nearer codes f at next here l =
    let cut = cut_at codes at f here in
    let more = inside codes cut.front (f ∷ cut.rest) at cut.split cut.place in
    omega (arith, more, l)

any_default : (xs : List ℕ) (i v : ℕ) → i < length xs → v ≡ get_or xs i v → v ≡ get_or xs i 0
any_default xs i v short is = is ∙ some (get_or xs i v) (get_or xs i 0) (sym (slice_get-get_or xs i v short) ∙ slice_get-get_or xs i 0 short)

-- what a link leads to
pub record IsNext (count : ℕ) (codes : List ℕ) (code at next : ℕ) : Type 0 where
  pub behind : at + 1 ≤ next
  pub way : IsLinkedTo count codes code next
  pub same : first_from (nat_eq code) (at + 1) (drop (at + 1) codes) ≡ first_from (nat_eq code) next (drop next codes)

pub next_is : (firsts nexts codes : List ℕ) (code f at next : ℕ) → AreLinked codes firsts nexts → slice_get codes at ≡ Some f → f % length firsts ≡ code % length firsts
    → next ≡ get_or nexts at next → IsNext (length firsts) codes code at next
next_is firsts nexts codes code f at next linked here alike is =
    let count = length firsts in
    let cut = cut_at codes at f here in
    let q = leaves count (f % count) in
    let place : 0 + length cut.front + 1 ≡ at + 1 = let p = cut.place in omega (arith, p) in
    let to : next ≡ place_from q (at + 1) cut.rest =
    any_default nexts at next (link_is_there firsts nexts codes f at linked here) is ∙ ap (λ l. get_or l at 0) linked.nexts ∙ ap (λ zs. get_or (links count 0 zs) at 0) (sym cut.split)
    ∙ ap (λ k. get_or (links count 0 (cut.front ++ f ∷ cut.rest)) k 0) (sym cut.place) ∙ link_at count 0 cut.front f cut.rest ∙ ap (λ k. place_from q k cut.rest) place in
    let split = moved codes cut.front cut.rest f cut.split in
    let more = one_more cut.front f at cut.place in
    let found = subst (IsPlace q codes (at + 1)) (sym to) (place_is q codes (cut.front ++ f ∷ []) cut.rest (at + 1) split more) in
    record {
      behind = found.behind;
      way = linked_to count code f (at + 1) next codes alike found;
      same = ap (first_from (nat_eq code) (at + 1)) (dropped codes (cut.front ++ f ∷ []) cut.rest (at + 1) split more)
          ∙ skips (nat_eq code) q (narrows count code f alike) codes (cut.front ++ f ∷ []) cut.rest (at + 1) split more
          ∙ ap (λ k. first_from (nat_eq code) k (drop k codes)) (sym to);
    }

-- from the front of the list
pub record IsFirst (count : ℕ) (codes : List ℕ) (code at : ℕ) : Type 0 where
  pub way : IsLinkedTo count codes code at
  pub same : first_from (nat_eq code) 0 codes ≡ first_from (nat_eq code) at (drop at codes)

pub first_is : (firsts nexts codes : List ℕ) (code at : ℕ) → AreLinked codes firsts nexts → at ≡ get_or firsts (code % length firsts) at
    → IsFirst (length firsts) codes code at
first_is firsts nexts codes code at linked is =
    let count = length firsts in
    let q = leaves count (code % count) in
    let short : code % count < count = mod-lt code linked.some in
    let to : at ≡ place_from q 0 codes = any_default firsts (code % count) at short is ∙ linked.firsts (code % count) short in
    record {
      way = linked_to count code code 0 at codes refl (subst (IsPlace q codes 0) (sym to) (place_is q codes [] codes 0 refl refl));
      same = skips (nat_eq code) q (narrows count code code refl) codes [] codes 0 refl refl ∙ ap (λ k. first_from (nat_eq code) k (drop k codes)) (sym to);
    }

-- ---- what is asked

pub first_code_is : (firsts nexts codes : List ℕ) (code at : ℕ) (o : Option ℕ) → AreLinked codes firsts nexts → at ≡ get_or firsts (code % length firsts) at
    → o ≡ first_from (nat_eq code) at (drop at codes) → o ≡ first_from (nat_eq code) 0 codes
first_code_is firsts nexts codes code at o linked is found = found ∙ sym (first_is firsts nexts codes code at linked is).same

pub next_code_is : (firsts nexts codes : List ℕ) (f at next : ℕ) (o : Option ℕ) → AreLinked codes firsts nexts → slice_get codes at ≡ Some f → next ≡ get_or nexts at next
    → o ≡ first_from (nat_eq f) next (drop next codes) → o ≡ next_from (slice_get codes at) at codes
next_code_is firsts nexts codes f at next o linked here is found =
    found ∙ sym (next_is firsts nexts codes f f at next linked here refl is).same ∙ ap (λ c. next_from c at codes) (sym here)

-- ---- a search along the links

pub record AreSought (count : ℕ) (codes : List ℕ) (code from at : ℕ) : Type 0 where
  pub same : first_from (nat_eq code) from (drop from codes) ≡ first_from (nat_eq code) at (drop at codes)
  pub way : IsLinkedTo count codes code at

pub sought_here : (codes : List ℕ) (code f at : ℕ) → slice_get codes at ≡ Some f → nat_eq code f ≡ true → first_from (nat_eq code) at (drop at codes) ≡ Some at
sought_here codes code f at here is =
    let cut = cut_at codes at f here in
    ap (first_from (nat_eq code) at) (dropped codes cut.front (f ∷ cut.rest) at cut.split cut.place) ∙ ap (λ b. if b then Some at else first_from (nat_eq code) (at + 1) cut.rest) is

sought_on : (codes : List ℕ) (code f at : ℕ) → slice_get codes at ≡ Some f → nat_eq code f ≡ false
    → first_from (nat_eq code) at (drop at codes) ≡ first_from (nat_eq code) (at + 1) (drop (at + 1) codes)
sought_on codes code f at here not =
    let cut = cut_at codes at f here in
    ap (first_from (nat_eq code) at) (dropped codes cut.front (f ∷ cut.rest) at cut.split cut.place) ∙ ap (λ b. if b then Some at else first_from (nat_eq code) (at + 1) cut.rest) not
    ∙ ap (first_from (nat_eq code) (at + 1)) (sym (dropped codes (cut.front ++ f ∷ []) cut.rest (at + 1) (moved codes cut.front cut.rest f cut.split) (one_more cut.front f at cut.place)))

differs_by : (code f : ℕ) (b : Bool) → nat_eq code f ≡ b → (f ≡ code → ⊥) → nat_eq code f ≡ false
differs_by code f true is not = absurd (not (sym (eqb-true code f is)))
differs_by code f false is not = is

differs : (code f : ℕ) → (f ≡ code → ⊥) → nat_eq code f ≡ false
differs code f not = differs_by code f (nat_eq code f) refl not

pub sought_turns : (firsts nexts codes : List ℕ) (code from f at next : ℕ) → AreLinked codes firsts nexts → slice_get codes at ≡ Some f → (f ≡ code → ⊥) → next ≡ get_or nexts at next
    → AreSought (length firsts) codes code from at → (at + 1 ≤ next) × AreSought (length firsts) codes code from next
sought_turns firsts nexts codes code from f at next linked here not is was =
    let on = next_is firsts nexts codes code f at next linked here (was.way.alike f here) is in
    (on.behind, record { same = was.same ∙ sought_on codes code f at here (differs code f not) ∙ on.same; way = on.way })

pub sought_ends : (codes : List ℕ) (code at : ℕ) → slice_get codes at ≡ None → first_from (nat_eq code) at (drop at codes) ≡ None
sought_ends codes code at none = ap (first_from (nat_eq code) at) (rest_none codes at (sym none))

-- ---- links that are made from a list's end to its front

-- the places that are filled, and how many are left
pub record AreFilled (count place left : ℕ) (firsts : List ℕ) : Type 0 where
  pub all : length firsts + left ≡ count
  pub none : (r : ℕ) → r < length firsts → get_or firsts r 0 ≡ place

get_behind : (xs : List ℕ) (y r : ℕ) → (r < length xs → get_or xs r 0 ≡ y) → r < length xs + 1 → get_or (xs ++ y ∷ []) r 0 ≡ y
get_behind [] y zero was l = refl
get_behind [] y (suc r) was l = let bad : ⊥ = omega (arith, l) in absurd bad
get_behind (x ∷ xs) y zero was l = was (omega arith)
get_behind (x ∷ xs) y (suc r) was l = get_behind xs y r (λ m. was (omega (arith, m))) (omega (arith, l))

pub filled_more : (count place left : ℕ) (firsts firsts' : List ℕ) → firsts' ≡ firsts ++ place ∷ [] → 0 < left → AreFilled count place left firsts → AreFilled count place (left - 1) firsts'
filled_more count place left firsts firsts' pushed some was =
    let more = ap length pushed ∙ length-append firsts (place ∷ []) in
    let all = was.all in
    record {
      all = omega (arith, more, all, some);
      none = λ r l. ap (λ zs. get_or zs r 0) pushed ∙ get_behind firsts place r (was.none r) (omega (arith, l, more));
    }

pub all_filled : (count place left : ℕ) (firsts : List ℕ) → left ≡ 0 → AreFilled count place left firsts → AreNone count place firsts
all_filled count place left firsts done was =
    let all = was.all in
    let many : length firsts ≡ count = omega (arith, all, done) in
    record { all = many; none = λ r l. was.none r (omega (arith, l, many)) }

pub record AreSoFar (count : ℕ) (codes rest first_places next_places : List ℕ) : Type 0 where
  pub behind : List ℕ
  pub split : rest ++ behind ≡ codes
  pub width : length first_places ≡ count
  pub firsts : (r : ℕ) → r < count → get_or first_places r 0 ≡ place_from (leaves count r) (length rest) behind
  pub nexts : reverse next_places ≡ links count (length rest) behind

pub so_far_begins : (count len : ℕ) (codes firsts nexts : List ℕ) → len ≡ length codes → AreNone count len firsts → nexts ≡ [] → AreSoFar count codes codes firsts nexts
so_far_begins count len codes firsts nexts is none empty = record {
  behind = [];
  split = append-nil codes;
  width = none.all;
  firsts = λ r l. none.none r l ∙ is;
  nexts = ap reverse empty;
}

put_by : (firsts : List ℕ) (r k place : ℕ) (b : Bool) → nat_eq r k ≡ b → r < length firsts → get_or (set firsts k place) r 0 ≡ (if b then place else get_or firsts r 0)
put_by firsts r k place true is short =
    let same : r ≡ k = eqb-true r k is in
    ap (λ i. get_or (set firsts i place) r 0) (sym same) ∙ get_or-set_same firsts r place 0 short
put_by firsts r k place false not short = get_or-set_other firsts k r place 0 (λ same. cc (sym (eq-eqb r k same) ∙ not))

pub so_far_turns : (count x : ℕ) (codes rest before firsts firsts' nexts nexts' : List ℕ) → rest ≡ before ++ x ∷ [] → firsts' ≡ set firsts (x % count) (length before)
    → nexts' ≡ nexts ++ get_or firsts (x % count) 0 ∷ [] → x % count < count
    → AreSoFar count codes rest firsts nexts → AreSoFar count codes before firsts' nexts'
so_far_turns count x codes rest before firsts firsts' nexts nexts' is put pushed short was =
    let more = length_end before rest x is in
    let later : (r : ℕ) → r < count → get_or firsts r 0 ≡ place_from (leaves count r) (length before + 1) was.behind
    = λ r l. was.firsts r l ∙ ap (λ n. place_from (leaves count r) n was.behind) more in
    record {
      behind = x ∷ was.behind;
      split = sym (append_assoc before (x ∷ []) was.behind) ∙ ap (λ xs. xs ++ was.behind) (sym is) ∙ was.split;
      width = ap length put ∙ length-set firsts (x % count) (length before) ∙ was.width;
      firsts = λ r l.
          ap (λ fs. get_or fs r 0) put ∙ put_by firsts r (x % count) (length before) (nat_eq r (x % count)) refl (subst (λ n. r < n) (sym was.width) l)
          ∙ ap (λ v. if leaves count r x then length before else v) (later r l);
      nexts = ap reverse pushed ∙ reverse-append nexts (get_or firsts (x % count) 0 ∷ []) ∙ ap (λ v. v ∷ reverse nexts) (later (x % count) short)
          ∙ ap (λ vs. place_from (leaves count (x % count)) (length before + 1) was.behind ∷ vs) (was.nexts ∙ ap (λ n. links count n was.behind) more);
    }

pub so_far_ends : (count : ℕ) (codes rest firsts nexts : List ℕ) → 0 < count → length rest ≡ 0 → AreSoFar count codes rest firsts nexts → AreLinked codes firsts (reverse nexts)
so_far_ends count codes rest firsts nexts some none was =
    let whole : was.behind ≡ codes = ap (λ xs. xs ++ was.behind) (sym (empty rest none)) ∙ was.split in
    let width = was.width in
    record {
      some = subst (λ n. 0 < n) (sym width) some;
      firsts = λ r l. was.firsts r (subst (λ n. r < n) width l) ∙ ap (λ n. place_from (leaves count r) n was.behind) none
          ∙ ap (place_from (leaves count r) 0) whole ∙ ap (λ n. place_from (leaves n r) 0 codes) (sym width);
      nexts = was.nexts ∙ ap (λ n. links count n was.behind) none ∙ ap (links count 0) whole ∙ ap (λ n. links n 0 codes) (sym width);
    }

-- ---- the places of a key among those of its number

first_by : {A : Type 0} (p q : A → Bool) (all xs : List A) (x : A) (n : ℕ) (c : Bool) → q x ≡ c → (q x ≡ false → p x ≡ false) → drop n all ≡ x ∷ xs
    → first_from p (n + 1) xs ≡ from_place p (first_from q (n + 1) xs) all
    → first_from p n (x ∷ xs) ≡ from_place p (if c then Some n else first_from q (n + 1) xs) all
first_by p q all xs x n true is out here later = ap (first_from p n) (sym here)
first_by p q all xs x n false is out here later = ap (λ b. if b then Some n else first_from p (n + 1) xs) (out is) ∙ later

pub leads_to : {A : Type 0} (p q : A → Bool) → Narrows p q → (all front xs : List A) (n : ℕ) → front ++ xs ≡ all → length front ≡ n
    → first_from p n xs ≡ from_place p (first_from q n xs) all
leads_to p q within all front [] n split place = refl
leads_to p q within all front (x ∷ xs) n split place =
    first_by p q all xs x n (q x) refl (out_by (p x) (q x) (within x)) (dropped all front (x ∷ xs) n split place)
    (leads_to p q within all (front ++ x ∷ []) xs (n + 1) (moved all front xs x split) (one_more front x n place))

first_map : {A : Type 0} (f : A → ℕ) (q : ℕ → Bool) (n : ℕ) (xs : List A) → first_from q n (map f xs) ≡ first_from (λ x. q (f x)) n xs
first_map f q n [] = refl
first_map f q n (x ∷ xs) = ap (λ o. if q (f x) then Some n else o) (first_map f q (n + 1) xs)

-- a place that isn't in front of n, of an element that passes
pub record IsFound {A : Type 0} (q : A → Bool) (all : List A) (n i : ℕ) : Type 0 where
  pub one : A
  pub behind : n ≤ i
  pub short : i < length all
  pub there : slice_get all i ≡ Some one
  pub passes : q one ≡ true

found_by : {A : Type 0} (q : A → Bool) (all xs : List A) (x : A) (n i : ℕ) (c : Bool) → q x ≡ c → slice_get all n ≡ Some x → n < length all
    → (first_from q (n + 1) xs ≡ Some i → IsFound q all (n + 1) i) → (if c then Some n else first_from q (n + 1) xs) ≡ Some i → IsFound q all n i
found_by q all xs x n i true is here short later e =
    let same : n ≡ i = some n i e in
    subst (IsFound q all n) same (record { one = x; behind = omega arith; short = short; there = here; passes = is })
found_by q all xs x n i false is here short later e =
    let found = later e in
    record { one = found.one; behind = let l = found.behind in omega (arith, l); short = found.short; there = found.there; passes = found.passes }

pub found_is : {A : Type 0} (q : A → Bool) (all front xs : List A) (n i : ℕ) → front ++ xs ≡ all → length front ≡ n → first_from q n xs ≡ Some i → IsFound q all n i
found_is q all front [] n i split place e = absurd (cc e)
found_is q all front (x ∷ xs) n i split place e =
    let l = inside all front (x ∷ xs) n split place in
    found_by q all xs x n i (q x) refl (there all front xs x n split place) (omega (arith, l))
    (found_is q all (front ++ x ∷ []) xs (n + 1) i (moved all front xs x split) (one_more front x n place)) e

-- what a search for a number gives is a place of it
code_by : (code n : ℕ) (codes front xs : List ℕ) (o : Option ℕ) → front ++ xs ≡ codes → length front ≡ n → first_from (nat_eq code) n xs ≡ o → HasCode code codes o
code_by code n codes front xs None split place e = tt
code_by code n codes front xs (Some i) split place e =
    let found = found_is (nat_eq code) codes front xs n i split place e in
    found.there ∙ ap Some (sym (eqb-true code found.one found.passes))

-- ---- a search for a key

-- elements, their numbers, and the number that all have that pass
pub record AreNumbered {A : Type 0} (p : A → Bool) (f : A → ℕ) (all : List A) (numbers : List ℕ) (code : ℕ) : Type 0 where
  pub codes : numbers ≡ map f all
  pub within : (x : A) → p x ≡ true → f x ≡ code

abbrev has : {A : Type 0} (f : A → ℕ) (code : ℕ) → A → Bool
has f code x = nat_eq code (f x)

to_number : {A : Type 0} (p : A → Bool) (f : A → ℕ) (code : ℕ) → ((x : A) → p x ≡ true → f x ≡ code) → Narrows p (has f code)
to_number p f code within x e = eq-eqb code (f x) (sym (within x e))

pub first_code : {A : Type 0} (p : A → Bool) (f : A → ℕ) (all : List A) (codes : List ℕ) (code : ℕ) (o : Option ℕ) → AreNumbered p f all codes code → o ≡ first_from (nat_eq code) 0 codes
    → HasCode code codes o × (from_place p o all ≡ first_from p 0 all)
first_code p f all codes code o are is = (
  code_by code 0 codes [] codes o refl refl (sym is),
  ap (λ r. from_place p r all) (is ∙ ap (first_from (nat_eq code) 0) are.codes ∙ first_map f (nat_eq code) 0 all)
      ∙ sym (leads_to p (has f code) (to_number p f code are.within) all [] all 0 refl refl),
)

pub next_code : {A : Type 0} (p : A → Bool) (f : A → ℕ) (all : List A) (codes : List ℕ) (code place : ℕ) (x : A) (o : Option ℕ) → AreNumbered p f all codes code
    → slice_get all place ≡ Some x → f x ≡ code → o ≡ next_from (slice_get codes place) place codes
    → HasCode code codes o × (from_place p o all ≡ first_from p (place + 1) (drop (place + 1) all))
next_code p f all codes code place x o are here is next =
    let cut = cut_at all place x here in
    let split = moved all cut.front cut.rest x cut.split in
    let more = one_more cut.front x place cut.place in
    let rest = dropped all (cut.front ++ x ∷ []) cut.rest (place + 1) split more in
    let number : slice_get codes place ≡ Some code
    = ap (λ cs. slice_get cs place) are.codes ∙ slice_get-map f all place ∙ ap (option_map f) here ∙ ap Some is in
    let to : o ≡ first_from (nat_eq code) (place + 1) (drop (place + 1) codes) = next ∙ ap (λ c. next_from c place codes) number in
    let numbers : drop (place + 1) codes ≡ map f cut.rest = ap (drop (place + 1)) are.codes ∙ drop-map f (place + 1) all ∙ ap (map f) rest in (
      code_by code (place + 1) codes (map f (cut.front ++ x ∷ [])) (map f cut.rest) o
          (sym (map-append f (cut.front ++ x ∷ []) cut.rest) ∙ ap (map f) split ∙ sym are.codes) (length-map (cut.front ++ x ∷ []) f ∙ more)
          (ap (first_from (nat_eq code) (place + 1)) (sym numbers) ∙ sym to),
      ap (λ r. from_place p r all) (to ∙ ap (first_from (nat_eq code) (place + 1)) numbers ∙ first_map f (nat_eq code) (place + 1) cut.rest)
          ∙ sym (leads_to p (has f code) (to_number p f code are.within) all (cut.front ++ x ∷ []) cut.rest (place + 1) split more)
          ∙ ap (first_from p (place + 1)) (sym rest),
    )

-- how far it is to the end
abbrev pub to_go : ℕ → Option ℕ → ℕ
to_go n None = 0
to_go n (Some i) = n - i

pub record AreSoughtBy {A : Type 0} (p : A → Bool) (all : List A) (codes : List ℕ) (number : ℕ) (from at : Option ℕ) : Type 0 where
  pub same : from_place p from all ≡ from_place p at all
  pub code : HasCode number codes at

pub key_begins : {A : Type 0} (p : A → Bool) (all : List A) (codes : List ℕ) (code : ℕ) (from : Option ℕ) → HasCode code codes from → AreSoughtBy p all codes code from from
key_begins p all codes code from has = record { same = refl; code = has }

not_here : {A : Type 0} (p : A → Bool) (all : List A) (place : ℕ) (x : A) → slice_get all place ≡ Some x → p x ≡ false
    → from_place p (Some place) all ≡ first_from p (place + 1) (drop (place + 1) all)
not_here p all place x here not =
    let cut = cut_at all place x here in
    ap (first_from p place) (dropped all cut.front (x ∷ cut.rest) place cut.split cut.place) ∙ ap (λ b. if b then Some place else first_from p (place + 1) cut.rest) not
    ∙ ap (first_from p (place + 1)) (sym (dropped all (cut.front ++ x ∷ []) cut.rest (place + 1) (moved all cut.front cut.rest x cut.split) (one_more cut.front x place cut.place)))

pub is_here : {A : Type 0} (p : A → Bool) (all : List A) (place : ℕ) (x : A) → slice_get all place ≡ Some x → p x ≡ true → from_place p (Some place) all ≡ Some place
is_here p all place x here is =
    let cut = cut_at all place x here in
    ap (first_from p place) (dropped all cut.front (x ∷ cut.rest) place cut.split cut.place) ∙ ap (λ b. if b then Some place else first_from p (place + 1) cut.rest) is

pub key_turns : {A : Type 0} (p : A → Bool) (f : A → ℕ) (all : List A) (codes : List ℕ) (code place : ℕ) (x : A) (from next : Option ℕ) → AreNumbered p f all codes code
    → slice_get all place ≡ Some x → f x ≡ code → p x ≡ false → next ≡ next_from (slice_get codes place) place codes
    → AreSoughtBy p all codes code from (Some place) → AreSoughtBy p all codes code from next
key_turns p f all codes code place x from next are here is not to was =
    let on = next_code p f all codes code place x next are here is to in
    record { same = was.same ∙ not_here p all place x here not ∙ sym on.1; code = on.0 }

-- the number at a place
pub number_at : {A : Type 0} (f : A → ℕ) (all : List A) (codes : List ℕ) (code place : ℕ) (x : A) → codes ≡ map f all → HasCode code codes (Some place) → slice_get all place ≡ Some x → f x ≡ code
number_at f all codes code place x are has here =
    some (f x) code (sym (ap (option_map f) here) ∙ sym (slice_get-map f all place) ∙ sym (ap (λ cs. slice_get cs place) are) ∙ has)

-- so something stands there
pub is_somewhere : {A B : Type 0} (f : A → ℕ) (all : List A) (codes : List ℕ) (code place : ℕ) (at : Option ℕ) → codes ≡ map f all → at ≡ Some place → HasCode code codes at → None ≡ slice_get all place → B
is_somewhere f all codes code place at are is has none =
    let here : slice_get codes place ≡ Some code = subst (HasCode code codes) is has in
    absurd (cc (sym here ∙ ap (λ cs. slice_get cs place) are ∙ slice_get-map f all place ∙ ap (option_map f) (sym none)))

pub key_found : {A : Type 0} (p : A → Bool) (all : List A) (codes : List ℕ) (code place : ℕ) (from at : Option ℕ) (x : A) → at ≡ Some place → Some x ≡ slice_get all place → p x ≡ true
    → AreSoughtBy p all codes code from at → Some place ≡ from_place p from all
key_found p all codes code place from at x is here holds was =
    sym (is_here p all place x (sym here) holds) ∙ sym (ap (λ o. from_place p o all) is) ∙ sym was.same

pub key_missing : {A : Type 0} (p : A → Bool) (all : List A) (codes : List ℕ) (code : ℕ) (from at : Option ℕ) → at ≡ None → AreSoughtBy p all codes code from at → None ≡ from_place p from all
key_missing p all codes code from at is was = sym (ap (λ o. from_place p o all) is) ∙ sym was.same

-- a turn of the search
pub key_goes_on : {A : Type 0} (p : A → Bool) (f : A → ℕ) (all : List A) (codes : List ℕ) (code place : ℕ) (from at next : Option ℕ) (x : A) → AreNumbered p f all codes code → at ≡ Some place
    → Some x ≡ slice_get all place → p x ≡ false → next ≡ next_from (slice_get codes place) place codes
    → AreSoughtBy p all codes code from at → AreSoughtBy p all codes code from next
key_goes_on p f all codes code place from at next x are is here not to was =
    let stands = subst (AreSoughtBy p all codes code from) is was in
    key_turns p f all codes code place x from next are (sym here) (number_at f all codes code place x are.codes stands.code (sym here)) not to stands

next_by : (codes : List ℕ) (place code : ℕ) (next : Option ℕ) (n : ℕ) → slice_get codes place ≡ Some code → n ≡ length codes → next ≡ next_from (slice_get codes place) place codes
    → to_go n next < to_go n (Some place)
next_by codes place code None n here many to =
    let short = slice_get_within codes place code here in
    omega (arith, short, many)
next_by codes place code (Some i) n here many to =
    let cut = cut_at codes place code here in
    let split = moved codes cut.front cut.rest code cut.split in
    let more = one_more cut.front code place cut.place in
    let rest = dropped codes (cut.front ++ code ∷ []) cut.rest (place + 1) split more in
    let found = found_is (nat_eq code) codes (cut.front ++ code ∷ []) cut.rest (place + 1) i split more
    (ap (first_from (nat_eq code) (place + 1)) (sym rest) ∙ sym (to ∙ ap (λ c. next_from c place codes) here)) in
    let behind = found.behind in
    let short = found.short in
    omega (arith, behind, short, many)

pub key_nears : {A : Type 0} (f : A → ℕ) (all : List A) (codes : List ℕ) (code place : ℕ) (at next : Option ℕ) → codes ≡ map f all → at ≡ Some place → HasCode code codes at
    → next ≡ next_from (slice_get codes place) place codes → to_go (length all) next < to_go (length all) at
key_nears f all codes code place at next are is has to =
    let here : slice_get codes place ≡ Some code = subst (HasCode code codes) is has in
    subst (λ o. to_go (length all) next < to_go (length all) o) (sym is)
    (next_by codes place code next (length all) here (sym (ap length are ∙ length-map all f)) to)
