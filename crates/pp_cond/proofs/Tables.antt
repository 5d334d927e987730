-- A table that is searched is the table that is looked up.
use Rattle.std.proofs.Common.{◌≡◌, refl, ap, ◌∙◌, ℕ, Bool, true, false, List, [], ◌∷◌, map, Option, Some, None, option_map, bytes_eq, if◌then◌else◌}
use Rattle.std.specs.List.{find}
use Rattle.pp_cond.specs.declared.marks.Mark.{Mark}
use Rattle.pp_cond.specs.declared.marks.Mark.TheVariants.{Other}
use Rattle.pp_cond.specs.Marks.{lookup}

abbrev pub or_other : Option Mark → Mark
or_other None = Other
or_other (Some k) = k

found_first : {E : Type 0} → (mark : E → Mark) → (e : E) → (rest : Option E) → (b : Bool)
    → or_other (option_map mark (if b then Some e else rest)) ≡ (if b then mark e else or_other (option_map mark rest))
found_first mark e rest true = refl
found_first mark e rest false = refl

pub found_in : {E : Type 0} → (name : E → List ℕ) → (mark : E → Mark) → (text : List ℕ) → (table : List E)
    → or_other (option_map mark (find (λ e. bytes_eq (name e) text) table))
    ≡ lookup (map (λ e. (name e, mark e)) table) text
found_in name mark text [] = refl
found_in name mark text (e ∷ es) =
    found_first mark e (find (λ e. bytes_eq (name e) text) es) (bytes_eq (name e) text)
    ∙ ap (λ k. if bytes_eq (name e) text then mark e else k) (found_in name mark text es)
