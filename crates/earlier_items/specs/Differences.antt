-- What some items in front of others say of names, beside what others say.
use Rattle.std.specs.Prelude.{◌≡◌, Bool, false, List, None, ◌⊎◌}
use Rattle.asking.specs.Lists.{Has}
use Rattle.std.specs.HashSet.{contains}
use Rattle.elab_state.specs.Asked.{identifiers}
use Rattle.elab_state.specs.Same.{same_wanted}
use Rattle.elab_state.specs.Wants.{Told}
use Rattle.elab_state.specs.declared.wants.Wanted.{Wanted}
use Rattle.tok_data.specs.declared.tokens.OutToken.{OutToken}
use Rattle.earlier_items.specs.Before.{said}
use Rattle.earlier_items.specs.declared.differences.Changed.{Changed}

abbrev pub IsAmong : List Wanted → Wanted → Type 0
IsAmong = Has

-- an identifier of these tokens asks it
abbrev pub Asks : List OutToken → Wanted → Type 0
Asks ts q = IsAmong (identifiers false ts) q

unfoldable pub has_question : Changed → Wanted → Bool
has_question changed q = contains same_wanted changed.names q

-- of each question these say nothing, or what those say
abbrev pub AreSaid : Told → Told → Type 0
AreSaid known names = (q : Wanted) → (said names q ≡ None) ⊎ (said names q ≡ said known q)

-- what was noted stays
pub record IsFurther (known names names' : Told) (changed changed' : Changed) : Type 0 where
  pub stays : (q : Wanted) → said names q ≡ said known q → said names' q ≡ said known q
  pub less : (q : Wanted) → has_question changed' q ≡ false → has_question changed q ≡ false
