-- Whether something is asked.
use Rattle.std.proofs.Common.{◌≡◌, refl, sym, ap, ◌∙◌, subst, T, true, false, List, [], ◌∷◌}
use Rattle.elab_state.specs.declared.wants.Wanted.{Wanted}
use Rattle.stmt_checks.specs.Meanings.{is_none}

pub nothing_asked : (qs : List Wanted) → is_none qs ≡ true → qs ≡ []
nothing_asked [] e = refl
nothing_asked (q ∷ qs) e = absurd (subst T (sym e) tt)

pub something_asked : (qs : List Wanted) → is_none qs ≡ false → qs ≡ [] → ⊥
something_asked qs e none = subst T (sym (ap is_none none) ∙ e) tt
