-- Paths and their components.
use Rattle.std.proofs.Common.{◌≡◌, ℕ, ◌<◌, true, false, not, ◌&&◌, ◌||◌, ◌==◌, ◌⊎◌, List, [], ◌∷◌, ◌++◌, length, drop, All, sym, map, refl, ap, ◌∙◌, subst, inl, inr, ⊎_elim, append_assoc, append-nil, arith}
use Rattle.std.specs.Prelude.{codes, bytes_eq}
use Rattle.std.specs.List.{list_all, filter, onto_first}
use Rattle.std.proofs.lemmas.Bool.{cond-true, cond-false, cond_both, cases_Bool, and_parts, or_cases, true≢false, eqb-true, or_right}
use Rattle.std.proofs.lemmas.List.Elements.{All-nil, All-head, All-tail}
use Rattle.std.proofs.lemmas.List.Splits.{slice_split_none, slice_split_at}
use Rattle.std.proofs.lemmas.Slice.Eq.{bytes_eq-Decides}
use Rattle.uri_paths.specs.Parts.{slash, parts, is_empty, is_name}
use Rattle.uri_paths.specs.Named.{IsComponent}
use Rattle.uri_paths.specs.Paths.{is_absolute, is_path, IsPath, components, spelled, path_of_names}
use Rattle.uri_paths.proofs.Split.{parts_whole, names_stay, names_are, components_are}

-- the parts of spelled names are the names
pub parts_spelled : (name : List ℕ) (names : List (List ℕ)) → IsComponent name → All IsComponent names → parts (name ++ spelled names) ≡ name ∷ names
parts_spelled name [] here each = ap parts (append-nil name) ∙ slice_split_none (λ b. b == slash) name here.whole
parts_spelled name (next ∷ names) here each =
    slice_split_at (λ b. b == slash) name slash (next ++ spelled names) here.whole refl
    ∙ ap (λ ps. name ∷ ps) (parts_spelled next names (All-head IsComponent next names each) (All-tail IsComponent next names each))

-- components spell a path
pub spells_path : (names : List (List ℕ)) → All IsComponent names → IsPath (path_of_names names)
unfolding is_path
spells_path [] each = refl
spells_path (name ∷ names) each =
    let split = parts_spelled name names (All-head IsComponent name names each) (All-tail IsComponent name names each) in
    or_right _ _ (ap (list_all is_name) split ∙ components_are (name ∷ names) each)

spelled_onto : (b : ℕ) (ps : List (List ℕ)) → spelled (onto_first b ps) ≡ slash ∷ b ∷ drop 1 (spelled ps)
spelled_onto b [] = refl
spelled_onto b (p ∷ ps) = refl

-- the parts of a text spell it behind a slash
pub spelled_parts : (text : List ℕ) → spelled (parts text) ≡ slash ∷ text
spelled_parts [] = refl
spelled_parts (b ∷ text) =
    ⊎_elim
    (λ here. ap spelled (cond-true (b == slash) ([] ∷ parts text) (onto_first b (parts text)) here) ∙ ap (λ t. slash ∷ t) (spelled_parts text) ∙ ap (λ x. slash ∷ x ∷ text) (sym (eqb-true b slash here)))
    (λ other. ap spelled (cond-false (b == slash) ([] ∷ parts text) (onto_first b (parts text)) other) ∙ spelled_onto b (parts text) ∙ ap (λ t. slash ∷ b ∷ drop 1 t) (spelled_parts text))
    (cases_Bool (b == slash))

path_onto : (b : ℕ) (ps : List (List ℕ)) → path_of_names (onto_first b ps) ≡ spelled (onto_first b ps)
path_onto b [] = refl
path_onto b (p ∷ ps) = refl

path_parts : (text : List ℕ) → path_of_names (parts text) ≡ spelled (parts text)
path_parts [] = refl
path_parts (b ∷ text) =
    cond_both (b == slash) ([] ∷ parts text) (onto_first b (parts text)) (λ ps. path_of_names ps ≡ spelled ps) (λ _. refl) (λ _. path_onto b (parts text))

-- what a path is: `/`, or a slash and names
pub record Rooted (path : List ℕ) : Type 0 where
  pub behind : List ℕ
  pub begins : path ≡ slash ∷ behind
  pub names : list_all is_name (parts behind) ≡ true

pub path_cases : (path : List ℕ) → IsPath path → (path ≡ codes "/") ⊎ Rooted path
unfolding is_path
path_cases path is =
    ⊎_elim
    (λ root. inl ((bytes_eq-Decides path (codes "/")).0 root))
    (λ other. let both = and_parts _ _ other in inr (rooted path both.0 both.1))
    (or_cases _ _ is)
  where
    rooted : (path : List ℕ) → is_absolute path ≡ true → list_all is_name (parts (drop 1 path)) ≡ true → Rooted path
    rooted [] absolute names = absurd (true≢false (sym absolute))
    rooted (b ∷ behind) absolute names = record { behind = behind; begins = ap (λ x. x ∷ behind) (eqb-true b slash absolute); names = names }

-- the components of a path that isn't `/`
pub rooted_components : (path : List ℕ) (rooted : Rooted path) → components path ≡ parts rooted.behind
unfolding components
rooted_components path rooted = ap (λ t. filter (λ part. not (is_empty part)) (parts t)) rooted.begins ∙ names_stay (parts rooted.behind) rooted.names

pub root_components : components (codes "/") ≡ []
unfolding components
root_components = refl

-- the components of a path have names and no slash
pub path_components : (path : List ℕ) → IsPath path → All IsComponent (components path)
path_components path is =
    ⊎_elim
    (λ root. subst (All IsComponent) (sym (ap components root ∙ root_components)) (All-nil IsComponent))
    (λ rooted. subst (All IsComponent) (sym (rooted_components path rooted)) (names_are (parts rooted.behind) rooted.names (parts_whole rooted.behind)))
    (path_cases path is)

-- a path is the one of its components
pub path_back : (path : List ℕ) → IsPath path → path_of_names (components path) ≡ path
path_back path is =
    ⊎_elim
    (λ root. ap path_of_names (ap components root ∙ root_components) ∙ sym root)
    (λ rooted. ap path_of_names (rooted_components path rooted) ∙ path_parts rooted.behind ∙ spelled_parts rooted.behind ∙ sym rooted.begins)
    (path_cases path is)

pub spelled_append : (names more : List (List ℕ)) → spelled (names ++ more) ≡ spelled names ++ spelled more
spelled_append [] more = refl
spelled_append (name ∷ names) more = ap (λ t. slash ∷ name ++ t) (spelled_append names more) ∙ ap (λ t. slash ∷ t) (sym (append_assoc name (spelled names) (spelled more)))

-- ---- the test for a path

pub is_path_behind : (text behind : List ℕ) → text ≡ slash ∷ behind → bytes_eq text (codes "/") ≡ false → list_all is_name (parts behind) ≡ is_path text
unfolding is_path
is_path_behind text behind begins other =
    let e : is_path text ≡ (bytes_eq text (codes "/") || list_all is_name (parts behind)) = ap (λ t. bytes_eq t (codes "/") || (is_absolute t && list_all is_name (parts (drop 1 t)))) begins ∙ ap (λ t. bytes_eq t (codes "/") || list_all is_name (parts behind)) (sym begins) in
    sym (e ∙ ap (λ t. t || list_all is_name (parts behind)) other)

pub is_path_none : (text : List ℕ) → ((rest : List ℕ) → text ≡ slash ∷ rest → ⊥) → false ≡ is_path text
unfolding is_path
is_path_none [] none = refl
is_path_none (b ∷ text) none =
    ⊎_elim
    (λ here. absurd (none text (ap (λ x. x ∷ text) (eqb-true b slash here))))
    (λ other. let e : (b == 47) ≡ false = other in rw (e) refl)
    (cases_Bool (b == slash))

pub path_spelled : (names : List (List ℕ)) → 0 < length names → path_of_names names ≡ spelled names
path_spelled [] some = absurd (omega arith)
path_spelled (name ∷ names) some = refl

-- the same for a list that code holds, of which it knows that it isn't empty
pub spelled_path : {A : Type 0} (f : A → List ℕ) (names : List A) → (length names == 0) ≡ false → path_of_names (map f names) ≡ spelled (map f names)
spelled_path f [] some = absurd (true≢false some)
spelled_path f (name ∷ names) some = refl
