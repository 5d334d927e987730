-- A table that is searched by its entries' texts.
use Rattle.std.proofs.Common.{◌≡◌, refl, ℕ, Bool, true, false, List, [], ◌∷◌, map, Option, Some, option_map, bytes_eq, if◌then◌else◌}
use Rattle.std.specs.List.{find}

first_or : {A B : Type 0} → (text : A → List ℕ) → (it : A → B) → (e : A) → (r : Option A) → (s : Option (List ℕ × B))
    → option_map it r ≡ option_map {T = List ℕ × B} (λ e. e.1) s → (b : Bool)
    → option_map it (if b then Some e else r) ≡ option_map {T = List ℕ × B} (λ e. e.1) (if b then Some (text e, it e) else s)
first_or text it e r s h true = refl
first_or text it e r s h false = h

-- a search sees of the entries their texts and what is wanted of them
pub found_in : {A B : Type 0} → (text : A → List ℕ) → (it : A → B) → (name : List ℕ) → (table : List A)
    → option_map it (find (λ e. bytes_eq (text e) name) table)
    ≡ option_map {T = List ℕ × B} (λ e. e.1) (find (λ e. bytes_eq e.0 name) (map (λ e. (text e, it e)) table))
found_in text it name [] = refl
found_in text it name (e ∷ es) =
    first_or text it e (find (λ e. bytes_eq (text e) name) es)
    (find (λ e. bytes_eq e.0 name) (map (λ e. (text e, it e)) es)) (found_in text it name es) (bytes_eq (text e) name)
