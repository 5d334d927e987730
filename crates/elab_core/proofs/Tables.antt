-- A table that is searched is the table that is looked up.
use Rattle.std.proofs.Common.{◌≡◌, refl, ap, ◌∙◌, ℕ, Bool, true, false, List, [], ◌∷◌, map, Option, Some, None, option_map, bytes_eq, if◌then◌else◌}
use Rattle.std.specs.List.{find}
use Rattle.c_literals.specs.declared.ops.Op.{Op}
use Rattle.elab_core.specs.Operators.{lookup}

found_first : {E : Type 0} → (kind : E → Op) → (e : E) → (rest : Option E) → (b : Bool)
    → option_map kind (if b then Some e else rest) ≡ (if b then Some (kind e) else option_map kind rest)
found_first kind e rest true = refl
found_first kind e rest false = refl

pub found_in : {E : Type 0} → (name : E → List ℕ) → (kind : E → Op) → (text : List ℕ) → (table : List E)
    → option_map kind (find (λ e. bytes_eq (name e) text) table)
    ≡ lookup (map (λ e. (name e, kind e)) table) text
found_in name kind text [] = refl
found_in name kind text (e ∷ es) =
    found_first kind e (find (λ e. bytes_eq (name e) text) es) (bytes_eq (name e) text)
    ∙ ap (λ k. if bytes_eq (name e) text then Some (kind e) else k) (found_in name kind text es)
