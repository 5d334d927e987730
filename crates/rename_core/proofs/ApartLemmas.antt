-- Units that mention nothing of a class add nothing to it.
use Rattle.std.proofs.Common.{◌≡◌, Bool, true, false, List, [], ◌∷◌, inl, inr, refl, ap, ◌∙◌}
use Rattle.std.specs.List.{filter}
use Rattle.std.specs.Prelude.{if◌then◌else◌, ◌⊎◌}
use Rattle.tok_data.specs.declared.sources.TokId.{TokId}
use Rattle.scope_tables.specs.declared.entities.Anchor.TheVariants.{External}
use Rattle.scope_tables.specs.declared.entities.Occ.{Occ}
use Rattle.rename_core.specs.Apart.{IsApart, OthersAddNothing}
use Rattle.rename_core.specs.Classes.{Has, Linked, in_a_unit, by_name, Reaches, one, more}

kept_has : (keep : List Occ → Bool) (us : List (List Occ)) (os : List Occ) → Has us os → keep os ≡ true → Has (filter keep us) os
kept_has keep [] os h e = absurd h
kept_has keep (u ∷ us) os h e = by_test (keep u) refl h (λ k. kept_has keep us os k e)
  where
    by_test : (b : Bool) → keep u ≡ b → (u ≡ os) ⊎ Has us os → (Has us os → Has (filter keep us) os) → Has (if b then u ∷ filter keep us else filter keep us) os
    by_test true f (inl i) again = inl i
    by_test true f (inr k) again = inr (again k)
    by_test false f (inl i) again = absurd (let g : keep u ≡ true = ap keep i ∙ e in let bad : ⊥ = cc (f, g) in bad)
    by_test false f (inr k) again = again k

has_kept : (keep : List Occ → Bool) (us : List (List Occ)) (os : List Occ) → Has (filter keep us) os → Has us os
has_kept keep [] os h = absurd h
has_kept keep (u ∷ us) os h = by_test (keep u) h (has_kept keep us os)
  where
    by_test : (b : Bool) → Has (if b then u ∷ filter keep us else filter keep us) os → (Has (filter keep us) os → Has us os) → (u ≡ os) ⊎ Has us os
    by_test true (inl i) again = inl i
    by_test true (inr k) again = inr (again k)
    by_test false k again = inr (again k)

module _ (us : List (List Occ)) (keep : List Occ → Bool) (t : TokId) (apart : (os : List Occ) → Has us os → keep os ≡ false → IsApart (filter keep us) t os) where
  stays : (os : List Occ) → Has us os → (keep os ≡ false → ⊥) → Has (filter keep us) os
  stays os h never = by_test (keep os) refl
    where
      by_test : (b : Bool) → keep os ≡ b → Has (filter keep us) os
      by_test true e = kept_has keep us os h e
      by_test false e = absurd (never e)

  link_stays : (s r : TokId) → (s ≡ t) ⊎ Reaches (filter keep us) t s → Linked us s r → Linked (filter keep us) s r
  link_stays s r from (in_a_unit x y os a h p q) = in_a_unit s r os a (stays os h (λ e. (apart os h e).tokens s a from p)) p q
  link_stays s r from (by_name x y os ps name h k p q) =
      let here = stays os h (λ e. (apart os h e).tokens s (External name) from p) in
      by_name s r os ps name here (stays ps k (λ e. (apart ps k e).names s r name os from here p q)) p q

  link_was : (s r : TokId) → Linked (filter keep us) s r → Linked us s r
  link_was s r (in_a_unit x y os a h p q) = in_a_unit s r os a (has_kept keep us os h) p q
  link_was s r (by_name x y os ps name h k p q) = by_name s r os ps name (has_kept keep us os h) (has_kept keep us ps k) p q

  reach_stays : (s : TokId) → Reaches us t s → Reaches (filter keep us) t s
  reach_stays s (one x l) = one x (link_stays t x (inl refl) l)
  reach_stays s (more r x c l) = let d = reach_stays r c in more r x d (link_stays r x (inr d) l)

  reach_was : (s : TokId) → Reaches (filter keep us) t s → Reaches us t s
  reach_was s (one x l) = one x (link_was t x l)
  reach_was s (more r x c l) = more r x (reach_was r c) (link_was r x l)

pub others_add_nothing : OthersAddNothing
others_add_nothing us keep t apart s = (reach_stays us keep t apart s, reach_was us keep t apart s)
