-- That units which mention nothing of a class add nothing to it.
use Rattle.std.specs.Prelude.{◌≡◌, ℕ, Bool, true, false, List, ◌⊎◌, ◌↔◌}
use Rattle.std.specs.List.{filter}
use Rattle.tok_data.specs.declared.sources.TokId.{TokId}
use Rattle.scope_tables.specs.declared.entities.Anchor.{Anchor}
use Rattle.scope_tables.specs.declared.entities.Anchor.TheVariants.{External}
use Rattle.scope_tables.specs.declared.entities.Occ.{Occ}
use Rattle.rename_core.specs.Classes.{Has, Reaches}
use Rattle.rename_core.specs.Occurrences.{denotes}

-- a unit has no occurrence of the token, or of one that it reaches in some units, and none with an External name of those
pub record IsApart (us : List (List Occ)) (t : TokId) (os : List Occ) : Type 0 where
  pub tokens : (s : TokId) (a : Anchor) → (s ≡ t) ⊎ Reaches us t s → denotes os s a ≡ true → ⊥
  pub names : (s r : TokId) (name : List ℕ) (ps : List Occ) → (s ≡ t) ⊎ Reaches us t s → Has us ps → denotes ps s (External name) ≡ true → denotes os r (External name) ≡ true → ⊥

-- of some units those are kept that a test passes, the others being apart from what is reached in these
abbrev pub OthersAddNothing : Type 0
OthersAddNothing = (us : List (List Occ)) (keep : List Occ → Bool) (t : TokId) → ((os : List Occ) → Has us os → keep os ≡ false → IsApart (filter keep us) t os)
    → (s : TokId) → Reaches us t s ↔ Reaches (filter keep us) t s
