-- Questions to a list of files, asked of the list that shows them.
use Rattle.std.proofs.Common.{◌≡◌, ◌∙◌, ◌≤◌, nat_lt, length, take, length-take, IfSome, arith, ◌||◌, ◌++◌, ℕ, cond, Bool, true, false, List, [], ◌∷◌, Option, Some, None, option_map, map, reverse, refl, ap}
use mathlib.Core.List.{reverse_aux}
use Rattle.std.specs.List.{find, list_any}
use Rattle.std.specs.Str.{bytes_eq}
use Rattle.std.proofs.lemmas.List.{take_all}
use Rattle.io_edges.specs.declared.ends.Found.TheVariants.{Bytes}
use Rattle.io_edges.specs.Files.{bytes_at, has_path, found_in}

any_shown : {A B : Type 0} (f : A → B) (p : B → Bool) (xs : List A) → list_any p (map f xs) ≡ list_any (λ x. p (f x)) xs
any_shown f p [] = refl
any_shown f p (x ∷ xs) = ap (λ b. p (f x) || b) (any_shown f p xs)

find_case : {A B : Type 0} (f : A → B) (b : Bool) (x : A) (o : Option B) (q : Option A) → o ≡ option_map f q → cond b (Some (f x)) o ≡ option_map f (cond b (Some x) q)
find_case f true x o q e = refl
find_case f false x o q e = e

find_shown : {A B : Type 0} (f : A → B) (p : B → Bool) (xs : List A) → find p (map f xs) ≡ option_map f (find (λ x. p (f x)) xs)
find_shown f p [] = refl
find_shown f p (x ∷ xs) = find_case f (p (f x)) x (find p (map f xs)) (find (λ x. p (f x)) xs) (find_shown f p xs)

reverse_onto : {A B : Type 0} (f : A → B) (xs ys : List A) → reverse_aux (map f xs) (map f ys) ≡ map f (reverse_aux xs ys)
reverse_onto f [] ys = refl
reverse_onto f (x ∷ xs) ys = reverse_onto f xs (x ∷ ys)

reverse_shown : {A B : Type 0} (f : A → B) (xs : List A) → reverse (map f xs) ≡ map f (reverse xs)
reverse_shown f xs = reverse_onto f xs []

second : {A : Type 0} (f : A → List ℕ × List ℕ) (o : Option A) → option_map (λ b. b.1) (option_map f o) ≡ option_map (λ x. (f x).1) o
second f None = refl
second f (Some x) = refl

-- whether a file has a path
pub has_shown : {A : Type 0} (f : A → List ℕ × List ℕ) (path : List ℕ) (xs : List A) → has_path (map f xs) path ≡ list_any (λ x. bytes_eq (f x).0 path) xs
has_shown f path xs = any_shown f (λ b. bytes_eq b.0 path) xs

-- the bytes of the last file with a path
pub bytes_shown : {A : Type 0} (f : A → List ℕ × List ℕ) (path : List ℕ) (xs : List A)
    → bytes_at (map f xs) path ≡ option_map (λ x. (f x).1) (find (λ x. bytes_eq (f x).0 path) (reverse xs))
bytes_shown f path xs = ap (λ l. option_map (λ b. b.1) (find (λ b. bytes_eq b.0 path) l)) (reverse_shown f xs)
    ∙ (ap (option_map (λ b. b.1)) (find_shown f (λ b. bytes_eq b.0 path) (reverse xs)) ∙ second f (find (λ x. bytes_eq (f x).0 path) (reverse xs)))

-- a file of which no more than its first 4,194,305 bytes are read, where these are fewer
pub read_whole : (known : Option (List ℕ)) (limit : ℕ) (old bytes : List ℕ) → limit ≡ 4194305 → old ≡ []
    → IfSome (option_map (take limit) known) (λ xs. bytes ≡ old ++ xs) → length bytes ≤ 4194304 → IfSome known (λ all. Bytes bytes ≡ found_in (Some all))
read_whole None limit old bytes l o e w = tt
read_whole (Some xs) limit old bytes l o e w =
    let f : bytes ≡ take limit xs = rw o at e in
    let m : length xs ≤ 4194304 = omega (arith, length-take limit xs, ap length f) in
    let same : bytes ≡ xs = f ∙ take_all limit xs (omega arith) in
    let small : nat_lt 4194304 (length xs) ≡ false = grind arith in
    rw (small, same) refl
