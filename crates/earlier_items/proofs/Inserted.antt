-- An answer that is put in is what its question is answered by from then on, and no other.
use Rattle.std.proofs.Common.{rules, ◌≡◌, refl, sym, ap, ◌∙◌, Bool, true, false, List, [], ◌∷◌, Option, Some, None, cond, if◌then◌else◌}
use Rattle.std.specs.Bool.{Decides}
use Rattle.std.specs.Cmp.{IsEquivalence, decided}
use Rattle.std.specs.Map.{lookup}
use Rattle.std.specs.Option.{option_or}
use Rattle.indexmap.specs.IndexMap.{insert_entry}
use Rattle.scope_tables.specs.declared.entities.Entity.{Entity}
use Rattle.elab_state.specs.declared.wants.Wanted.{Wanted}
use Rattle.elab_state.specs.Same.{same_wanted}
use Rattle.elab_state.specs.Wants.{Told, answered}
use Rattle.earlier_items.specs.Before.{or_nothing, said}

twice : {X : Type 0} → (b : Bool) → (x y z : X) → cond b x z ≡ cond b x (cond b y z)
twice true x y z = refl
twice false x y z = refl

apart : {X : Type 0} → (a b : Bool) → (b ≡ true → a ≡ false) → (x y z : X) → cond a x (cond b y z) ≡ cond b y (cond a x z)
apart true true h x y z = let bad : ⊥ = let no : true ≡ false = h refl in cc in absurd bad
apart true false h x y z = refl
apart false true h x y z = refl
apart false false h x y z = refl

module _ {K X : Type 0} {eq : K → K → Bool} (laws : IsEquivalence eq) (k q : K) (v : X) where
  pub looked : (es : List (K × X)) → lookup (eq q) (insert_entry eq es k v) ≡ cond (eq k q) (Some v) (lookup (eq q) es)
  looked [] = ap (λ b. cond b (Some v) None) (laws.symm q k)
  looked (e ∷ es) = place (eq k e.0) refl (looked es)
    where
      place : (b : Bool) → eq k e.0 ≡ b → lookup (eq q) (insert_entry eq es k v) ≡ cond (eq k q) (Some v) (lookup (eq q) es)
          → lookup (eq q) (if b then (e.0, v) ∷ es else e ∷ insert_entry eq es k v) ≡ cond (eq k q) (Some v) (cond (eq q e.0) (Some e.1) (lookup (eq q) es))
      place true t later =
          let is : eq q e.0 ≡ eq k q = laws.symm q e.0 ∙ sym (laws.congr k e.0 q t) in
          ap (λ b. cond b (Some v) (lookup (eq q) es)) is
          ∙ twice (eq k q) (Some v) (Some e.1) (lookup (eq q) es)
          ∙ ap (λ b. cond (eq k q) (Some v) (cond b (Some e.1) (lookup (eq q) es))) (sym is)
      place false n later =
          ap (cond (eq q e.0) (Some e.1)) later
          ∙ apart (eq q e.0) (eq k q) (λ y. sym (laws.congr k q e.0 y) ∙ n) (Some e.1) (Some v) (lookup (eq q) es)

pub wanted_decides : (a b : Wanted) → Decides (same_wanted a b) (a ≡ b)
wanted_decides a b = search rules

answer_of : (b : Bool) → (a : Option Entity) → (other others : Option (Option Entity))
    → option_or (cond b (Some a) other) others ≡ cond b (Some a) (option_or other others)
answer_of true a other others = refl
answer_of false a other others = refl

pub answered_then : (w q : Wanted) → (e : Entity) → (old new : Told)
    → new.entries ≡ insert_entry same_wanted old.entries w (Some e) → new.others ≡ old.others → answered new q ≡ (if same_wanted w q then Some (Some e) else answered old q)
answered_then w q e old new entries others =
    ap (λ xs. option_or (lookup (same_wanted q) xs) new.others) entries
    ∙ ap (λ o. option_or (lookup (same_wanted q) (insert_entry same_wanted old.entries w (Some e))) o) others
    ∙ ap (λ r. option_or r old.others) (looked (decided same_wanted wanted_decides) w q (Some e) old.entries)
    ∙ answer_of (same_wanted w q) (Some e) (lookup (same_wanted q) old.entries) old.others

or_others : (r others : Option (Option Entity)) → others ≡ Some None → option_or r others ≡ Some (or_nothing (option_or r others))
or_others (Some a) others e = refl
or_others None others e = e ∙ sym (ap (λ o. Some (or_nothing o)) e)

-- where all others have no entity, each question is answered by what is said of it
pub all_said : (told : Told) → told.others ≡ Some None → (q : Wanted) → answered told q ≡ Some (said told q)
unfolding said
all_said told e q = or_others (lookup (same_wanted q) told.entries) told.others e
