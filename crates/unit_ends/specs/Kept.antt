-- What is kept of a unit, so that what it says of a name is found and not searched for.
use Rattle.std.specs.Prelude.{◌≡◌, ℕ, Bool, nat_eq, List, Option, option_map}
use Rattle.std.specs.Cmp.Lexicographic.{pointwise}
use Rattle.std.specs.HashMap.{HashMap, get}
use Rattle.std.specs.HashSet.{HashSet, contains}
use denote.Ref.{Bor}
use Rattle.type_data.specs.Same.{same_tag}
use Rattle.type_data.specs.declared.names.TagId.{TagId}
use Rattle.scope_tables.specs.declared.entities.Entity.{Entity}
use Rattle.scope_tables.specs.declared.meanings.How.{How}
use Rattle.unit_ends.specs.declared.asked.Asked.{Asked}
use Rattle.unit_ends.specs.declared.asked.Asked.TheVariants as asked
use Rattle.unit_ends.specs.Ends.{any, defines, is_tentative, gives, stated, is_used, bodies_declare}
use Rattle.unit_ends.specs.Last.{last, is_complete}
use Rattle.unit_ends.specs.Items.{Items}

abbrev pub asks : Asked → How → Bool
asks asked.Stated = any
asks asked.Defined = defines
asks asked.Tentative = is_tentative
asks asked.Given = gives

-- a set has the name
unfoldable pub has : {S : Type 0} → HashSet (List ℕ) S → List ℕ → Bool
has set name = contains (pointwise nat_eq) set name

-- a set has the tag
unfoldable pub has_tag : {S : Type 0} → HashSet TagId S → TagId → Bool
has_tag set tag = contains same_tag set tag

-- a map has an entity at the name
unfoldable pub at : {S : Type 0} → HashMap (List ℕ) (Bor Entity) S → List ℕ → Option Entity
at map name = option_map (λ e. e.now) (get (pointwise nat_eq) map name)

-- what is kept of a unit says of each name and tag what the unit says
pub record IsKept (items : Items) (defined tentative given used external : List ℕ → Bool) (at_end : List ℕ → Option Entity) (complete : TagId → Bool) : Type 0 where
  pub definitions : (q : List ℕ) → defined q ≡ stated defines q items.heads
  pub tentatives : (q : List ℕ) → tentative q ≡ stated is_tentative q items.heads
  pub givens : (q : List ℕ) → given q ≡ stated gives q items.heads
  pub uses : (q : List ℕ) → used q ≡ is_used q items.heads items.bodies
  pub externals : (q : List ℕ) → external q ≡ bodies_declare q items.bodies
  pub ends : (q : List ℕ) → at_end q ≡ last q items.heads
  pub tags : (id : TagId) → complete id ≡ is_complete id items.heads
