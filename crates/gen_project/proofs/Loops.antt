-- A loop over numbers from 0 on.
use Rattle.std.proofs.Common.{arith, ◌≡◌, ℕ, zero, suc, ◌+◌, ◌-◌, ◌<◌, ◌≤◌, List, [], ◌∷◌, ◌++◌, refl, sym, ap, ap₂, ◌∙◌, ◌*◌, map, length, length-append, append-nil, append_assoc}
use Rattle.std.proofs.lemmas.List.{length-map}
use Rattle.serde_json.specs.Data.{Data}
use Rattle.serde_json.specs.Written.{compact_text}
use Rattle.gen_project.specs.Script.{numbers_from, numbers, script, contents, beginning, ending, opened_header, opened, changed}

-- what was done, and what the numbers from k on give, are what all of them give
pub record IsLeft {A : Type 0} (F : List ℕ → List A) (start done : List A) (n k : ℕ) : Type 0 where
  pub whole : done ++ F (numbers_from k (n - k)) ≡ start ++ F (numbers n)

one_more : (n k : ℕ) → k < n → numbers_from k (n - k) ≡ k ∷ numbers_from (k + 1) (n - (k + 1))
one_more n k less = ap (numbers_from k) (count n k less)
  where
    count : (n k : ℕ) → k < n → n - k ≡ suc (n - (k + 1))
    count n k less = omega arith

none_left : (n k : ℕ) → n ≤ k → numbers_from k (n - k) ≡ []
none_left n k most = ap (numbers_from k) (count n k most)
  where
    count : (n k : ℕ) → n ≤ k → n - k ≡ 0
    count n k most = omega arith

pub turns : {A : Type 0} (F : List ℕ → List A) (piece start done done' : List A) (n k : ℕ) → ((ks : List ℕ) → F (k ∷ ks) ≡ piece ++ F ks) → k < n → done' ≡ done ++ piece → IsLeft F start done n k → IsLeft F start done' n (k + 1)
turns F piece start done done' n k step less more was = record {
  whole = ap (λ d. d ++ F (numbers_from (k + 1) (n - (k + 1)))) more
      ∙ append_assoc done piece (F (numbers_from (k + 1) (n - (k + 1))))
      ∙ ap (λ l. done ++ l) (sym (ap F (one_more n k less) ∙ step (numbers_from (k + 1) (n - (k + 1)))))
      ∙ was.whole;
}

pub ends : {A : Type 0} (F : List ℕ → List A) (start done : List A) (n k : ℕ) → F [] ≡ [] → n ≤ k → IsLeft F start done n k → done ≡ start ++ F (numbers n)
ends F start done n k none most was = sym (append-nil done) ∙ ap (λ l. done ++ l) (sym (ap F (none_left n k most) ∙ none)) ∙ was.whole

map_more : {A B : Type 0} (f : A → B) (xs : List A) (x : A) → map f (xs ++ x ∷ []) ≡ map f xs ++ f x ∷ []
map_more f [] x = refl
map_more f (y ∷ ys) x = ap (λ l. f y ∷ l) (map_more f ys x)

pub adds : {A B : Type 0} (f : A → B) (xs ys : List A) (x : A) (y : B) → ys ≡ xs ++ x ∷ [] → f x ≡ y → map f ys ≡ map f xs ++ y ∷ []
adds f xs ys x y more is = ap (map f) more ∙ map_more f xs x ∙ ap (λ z. map f xs ++ z ∷ []) is

pub begins : {A : Type 0} (F : List ℕ → List A) (start done : List A) (n : ℕ) → done ≡ start → IsLeft F start done n 0
begins F start done n is = record { whole = ap (λ d. d ++ F (numbers_from 0 (n - 0))) is ∙ ap (λ m. start ++ F (numbers_from 0 m)) (all n) }
  where
    all : (n : ℕ) → n - 0 ≡ n
    all n = omega arith

map_both : {A B : Type 0} (f : A → B) (xs ys : List A) → map f (xs ++ ys) ≡ map f xs ++ map f ys
map_both f [] ys = refl
map_both f (x ∷ xs) ys = ap (λ l. f x ∷ l) (map_both f xs ys)

-- one part more
part : {A B : Type 0} (f : A → B) (xs ys : List A) (done more : List B) → done ≡ map f xs → more ≡ done ++ map f ys → more ≡ map f (xs ++ ys)
part f xs ys done more was is = is ∙ ap (λ l. l ++ map f ys) was ∙ sym (map_both f xs ys)

pub joined : (n : ℕ) (l0 l1 l2 l3 l4 l5 : List (List ℕ)) → l0 ≡ [] → l1 ≡ l0 ++ map compact_text beginning → l2 ≡ l1 ++ compact_text (opened_header n) ∷ [] →
    l3 ≡ l2 ++ map compact_text (map (opened n) (numbers n)) → l4 ≡ l3 ++ map compact_text (map (changed n) (numbers n)) → l5 ≡ l4 ++ map compact_text ending → l5 ≡ contents n
unfolding script
joined n l0 l1 l2 l3 l4 l5 none first second third fourth fifth =
    let begun : List Data = beginning ++ opened_header n ∷ [] in
    let open_units : List Data = begun ++ map (opened n) (numbers n) in
    part compact_text (open_units ++ map (changed n) (numbers n)) ending l4 l5
    (part compact_text open_units (map (changed n) (numbers n)) l3 l4
    (part compact_text begun (map (opened n) (numbers n)) l2 l3
    (part compact_text beginning (opened_header n ∷ []) l1 l2
    (part compact_text [] beginning l0 l1 none first) second) third) fourth) fifth

-- how many contents there are
how_many : (n k : ℕ) → length (numbers_from k n) ≡ n
how_many zero k = refl
how_many (suc n) k = ap suc (how_many n (k + 1))

script_counted : (n : ℕ) → length (script n) ≡ 2 * n + 5
unfolding script
script_counted n =
    let begun : List Data = beginning ++ opened_header n ∷ [] in
    let open_units : List Data = begun ++ map (opened n) (numbers n) in
    length-append (open_units ++ map (changed n) (numbers n)) ending
    ∙ ap (λ m. m + 2) (length-append open_units (map (changed n) (numbers n)) ∙ ap₂ (λ a b. a + b) (length-append begun (map (opened n) (numbers n)) ∙ ap (λ m. 3 + m) (of (opened n))) (of (changed n)))
    ∙ sum n
  where
    of : (f : ℕ → Data) → length (map f (numbers n)) ≡ n
    of f = length-map (numbers n) f ∙ how_many n 0

    sum : (n : ℕ) → ((3 + n) + n) + 2 ≡ 2 * n + 5
    sum n = omega arith

pub counted : {A : Type 0} (f : A → List ℕ) (xs : List A) (n : ℕ) → map f xs ≡ contents n → length xs ≡ 2 * n + 5
counted f xs n is = sym (length-map xs f) ∙ ap length is ∙ length-map (script n) compact_text ∙ script_counted n
