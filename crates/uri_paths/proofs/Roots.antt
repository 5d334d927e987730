-- Which paths are under a root.
use Rattle.std.proofs.Common.{◌⊎◌, inl, inr, ◌≡◌, ℕ, ◌<◌, Bool, true, false, not, ◌==◌, List, [], ◌∷◌, ◌++◌, length, drop, sym, refl, ap, ◌∙◌, ⊎_elim, append-nil, arith, drop_at}
use Rattle.std.specs.Prelude.{◌≤◌, slice_index, codes, bytes_eq}
use Rattle.std.specs.List.{filter}
use Rattle.std.proofs.lemmas.Bool.{cases_Bool, and_parts, and_from, eq-eqb, both_ways, false_from_ne_true, true≢false, eqb-true}
use Rattle.std.proofs.lemmas.List.Elements.{filter-append}
use Rattle.std.proofs.lemmas.Slice.Eq.{bytes_eq-Decides}
use Rattle.uri_paths.specs.Parts.{slash, parts, is_empty}
use Rattle.uri_paths.specs.Paths.{IsPath, components, spelled, path_of_names, is_front, under}
use Rattle.uri_paths.proofs.Split.{parts_append}
use Rattle.uri_paths.proofs.Spelled.{root_components, path_back, spelled_append, path_spelled}

front_append : (xs ys : List (List ℕ)) → is_front xs (xs ++ ys) ≡ true
front_append [] ys = refl
front_append (x ∷ xs) ys = and_from _ _ ((bytes_eq-Decides x x).1 refl) (front_append xs ys)

front_more : (xs ys : List (List ℕ)) → is_front xs ys ≡ true → (more : List (List ℕ)) × (ys ≡ xs ++ more)
front_more [] ys front = (ys, refl)
front_more (x ∷ xs) [] front = ([], absurd (true≢false (sym front)))
front_more (x ∷ xs) (y ∷ ys) front =
    let both = and_parts _ _ front in
    let rest = front_more xs ys both.1 in
    let same : x ≡ y = (bytes_eq-Decides x y).0 both.0 in (rest.0, (λ i. sym same i ∷ rest.1 i))

components_append : (a b : List ℕ) → components (a ++ slash ∷ b) ≡ components a ++ components b
unfolding components
components_append a b = ap (filter (λ part. not (is_empty part))) (parts_append a b) ∙ filter-append (λ part. not (is_empty part)) (parts a) (parts b)

pub under_all : (root path : List ℕ) → root ≡ codes "/" → true ≡ under root path
unfolding under
under_all root path is = sym (ap (λ cs. is_front cs (components path)) (ap components is ∙ root_components))

pub under_itself : (root path : List ℕ) → path ≡ root → true ≡ under root path
unfolding under
under_itself root path same = sym (ap (λ p. is_front (components root) (components p)) same ∙ ap (is_front (components root)) (sym (append-nil (components root))) ∙ front_append (components root) [])

pub under_below : (root behind : List ℕ) → under root (root ++ slash ∷ behind) ≡ true
unfolding under
under_below root behind = ap (is_front (components root)) (components_append root behind) ∙ front_append (components root) (components behind)

-- a path under a root that isn't `/` is the root and spelled names behind it
under_names : (root path : List ℕ) → IsPath root → IsPath path → (root ≡ codes "/" → ⊥) → under root path ≡ true → (more : List (List ℕ)) × (path ≡ root ++ spelled more)
unfolding under
under_names root path is_root is_path other below =
    let front = front_more (components root) (components path) below in
    let back : path_of_names (components root) ≡ root = path_back root is_root in
    let some : 0 < length (components root) = some_of (components root) root back other in
    let spelled_root : spelled (components root) ≡ root = sym (path_spelled (components root) some) ∙ back in
    (front.0, sym (path_back path is_path) ∙ ap path_of_names front.1 ∙ path_spelled (components root ++ front.0) (some_more (components root) front.0 some) ∙ spelled_append (components root) front.0 ∙ ap (λ t. t ++ spelled front.0) spelled_root)
  where
    some_of : (names : List (List ℕ)) (root : List ℕ) → path_of_names names ≡ root → (root ≡ codes "/" → ⊥) → 0 < length names
    some_of [] root back other = absurd (other (sym back))
    some_of (name ∷ names) root back other = omega arith

    some_more : (names more : List (List ℕ)) → 0 < length names → 0 < length (names ++ more)
    some_more [] more some = absurd (omega arith)
    some_more (name ∷ names) more some = omega arith

pub under_none : (root path : List ℕ) → IsPath root → IsPath path → (root ≡ codes "/" → ⊥) → ((rest : List ℕ) → path ≡ root ++ rest → ⊥) → false ≡ under root path
under_none root path is_root is_path other none =
    sym (false_from_ne_true (under root path) (λ below. let found = under_names root path is_root is_path other below in none (spelled found.0) found.1))

first_spelled : (names : List (List ℕ)) (b : ℕ) (rest : List ℕ) → b ∷ rest ≡ spelled names → b ≡ slash
first_spelled [] b rest same = cc
first_spelled (name ∷ names) b rest same = cc

pub under_next : (root path : List ℕ) (b : ℕ) (rest : List ℕ) → IsPath root → IsPath path → (root ≡ codes "/" → ⊥) → path ≡ root ++ b ∷ rest → (b == slash) ≡ under root path
under_next root path b rest is_root is_path other parted =
    ⊎_elim
    (λ here. here ∙ sym (ap (under root) (parted ∙ ap (λ x. root ++ x ∷ rest) (eqb-true b slash here)) ∙ under_below root rest))
    (λ apart. apart ∙ sym (false_from_ne_true (under root path) (λ below.
    let found = under_names root path is_root is_path other below in
    let tails : b ∷ rest ≡ spelled found.0 = sym (drop_at root (b ∷ rest) _ refl) ∙ ap (drop (length root)) (sym parted ∙ found.1) ∙ drop_at root (spelled found.0) _ refl in
    both_ways _ apart (eq-eqb b slash (first_spelled found.0 b rest tails)))))
    (cases_Bool (b == slash))

pub under_only : (root path : List ℕ) → IsPath root → IsPath path → (root ≡ codes "/" → ⊥) → under root path ≡ true → (path ≡ root) ⊎ ((behind : List ℕ) × (path ≡ root ++ slash ∷ behind))
under_only root path is_root is_path other below =
    let found = under_names root path is_root is_path other below in
    by_names path root found.0 found.1
  where
    by_names : (path root : List ℕ) (names : List (List ℕ)) → path ≡ root ++ spelled names → (path ≡ root) ⊎ ((behind : List ℕ) × (path ≡ root ++ slash ∷ behind))
    by_names path root [] parted = inl (parted ∙ append-nil root)
    by_names path root (name ∷ names) parted = inr (name ++ spelled names, parted)

-- ---- the same, by what the code compared: the texts s of the path and t of the root

pub is_root : (root t : List ℕ) (r : Bool) → t ≡ root → r ≡ bytes_eq t (codes "/") → r ≡ true → root ≡ codes "/"
is_root root t r lent tested true' = sym lent ∙ (bytes_eq-Decides t (codes "/")).0 (sym tested ∙ true')

pub no_root : (root t : List ℕ) (r : Bool) → t ≡ root → r ≡ bytes_eq t (codes "/") → r ≡ false → root ≡ codes "/" → ⊥
no_root root t r lent tested false' is = both_ways r false' (tested ∙ (bytes_eq-Decides t (codes "/")).1 (lent ∙ is))

pub behind_empty : (root path s t rest : List ℕ) → s ≡ path → t ≡ root → s ≡ t ++ rest → length rest < 1 → true ≡ under root path
behind_empty root path s t [] lent held parted short = under_itself root path (sym lent ∙ parted ∙ append-nil t ∙ held)
behind_empty root path s t (b ∷ rest) lent held parted short = absurd (omega arith)

pub behind_next : (root path s t rest : List ℕ) → IsPath root → IsPath path → (root ≡ codes "/" → ⊥) → s ≡ path → t ≡ root → s ≡ t ++ rest → 1 ≤ length rest → (slice_index rest 0 == slash) ≡ under root path
behind_next root path s t [] is_root is_path other lent held parted long = absurd (omega arith)
behind_next root path s t (b ∷ rest) is_root is_path other lent held parted long =
    under_next root path b rest is_root is_path other (sym lent ∙ parted ∙ ap (λ r. r ++ b ∷ rest) held)

pub behind_none : (root path s t : List ℕ) → IsPath root → IsPath path → (root ≡ codes "/" → ⊥) → s ≡ path → t ≡ root → ((rest : List ℕ) → s ≡ t ++ rest → ⊥) → false ≡ under root path
behind_none root path s t is_root is_path other lent held none =
    under_none root path is_root is_path other (λ rest parted. none rest (lent ∙ parted ∙ ap (λ r. r ++ rest) (sym held)))
