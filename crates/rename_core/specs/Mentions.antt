-- What the units say of all tokens, by token and by what is denoted. Units have numbers, in turn.
use Rattle.std.specs.Prelude.{ℕ, ◌+◌, Bool, ◌&&◌, List, [], ◌∷◌, ◌++◌, map, if◌then◌else◌}
use Rattle.tok_data.specs.declared.sources.TokId.{TokId}
use Rattle.scope_tables.specs.declared.entities.Anchor.{Anchor}
use Rattle.scope_tables.specs.declared.entities.Anchor.TheVariants.{External, Local, Made, Macro}
use Rattle.scope_tables.specs.declared.entities.Occ.{Occ}
use Rattle.rename_core.specs.declared.mentions.Told.{Told}
use Rattle.rename_core.specs.declared.mentions.Denoted.{Denoted}
use Rattle.rename_core.specs.declared.mentions.Denoted.TheVariants.{Everywhere, Within}
use Rattle.rename_core.specs.contracts.mentions.DenotedPartialEq.TheImpl as denoteds
use Rattle.scope_tables.specs.Occurrences.{counts}
use Rattle.rename_core.specs.Occurrences.{anchors_at}

abbrev pub same_denoted : Denoted → Denoted → Bool
same_denoted a b = denoteds.eq-value.it a b

-- what an anchor in a unit denotes
abbrev pub denoted_in : ℕ → Anchor → Denoted
denoted_in i (External name) = Everywhere name
denoted_in i (Local t) = Within i (Local t)
denoted_in i (Made t name) = Within i (Made t name)
denoted_in i (Macro name) = Within i (Macro name)

abbrev pub denoted_by : Told → Denoted
denoted_by told = denoted_in told.unit told.anchor

abbrev pub told_in : ℕ → Anchor → Told
told_in i a = record { unit = i; anchor = a }

-- what the units say that a token denotes, the first one having the number i
abbrev pub tolds : ℕ → TokId → List (List Occ) → List Told
tolds i t [] = []
tolds i t (os ∷ us) = map (told_in i) (anchors_at t os) ++ tolds (i + 1) t us

abbrev pub is_of : ℕ → Denoted → Occ → Bool
is_of i d o = counts o.role && same_denoted (denoted_in i o.anchor) d

abbrev pub tokens_in : ℕ → Denoted → List Occ → List TokId
tokens_in i d [] = []
tokens_in i d (o ∷ os) = if is_of i d o then o.tok ∷ tokens_in i d os else tokens_in i d os

-- the tokens that denote it, in the units
abbrev pub tokens_of : ℕ → Denoted → List (List Occ) → List TokId
tokens_of i d [] = []
tokens_of i d (os ∷ us) = tokens_in i d os ++ tokens_of (i + 1) d us
