-- What units show to one another (ISO C11 6.2.2), and which of them is the first to declare or define a name.
use Rattle.std.specs.Prelude.{◌≡◌, ℕ, Bool, true, ◌&&◌, nat_eq, is_some, List, Option, option_map}
use Rattle.std.specs.Cmp.Lexicographic.{pointwise}
use Rattle.std.specs.HashMap.{HashMap, get}
use Rattle.scope_tables.specs.declared.units.Export.{Export}
use Rattle.scope_tables.specs.declared.units.Exports.{Exports}
use Rattle.unit_index.specs.declared.exported.Does.{Does}
use Rattle.unit_index.specs.declared.exported.Does.TheVariants as doing
use Rattle.unit_index.specs.declared.exported.Exporter.{Exporter}
use Rattle.unit_index.specs.Firsts.{first_some, given}
use Rattle.unit_index.specs.Handles.{Tagging}

-- a unit
pub record Shown : Type 0 where
  pub path : List ℕ
  pub exports : Exports

-- a name of a unit
pub record From : Type 0 where
  pub path : List ℕ
  pub tags : Tagging
  pub export : Export

abbrev pub does_it : Does → Export → Bool
does_it doing.Declares e = true
does_it doing.Defines e = is_some e.defined

abbrev pub from : List ℕ → Tagging → Export → From
from p ts e = record { path = p; tags = ts; export = e }

abbrev pub one : Does → List ℕ → Tagging → List ℕ → Export → Option From
one does path tags q e = given (does_it does e && pointwise nat_eq e.name q) (from path tags e)

abbrev pub first_in : Does → List ℕ → Shown → Option From
first_in does q u = first_some (one does u.path u.exports.tags q) u.exports.names

-- the first unit that does it, with the first name of it that does
abbrev pub first : Does → List Shown → List ℕ → Option From
first does us q = first_some (first_in does q) us

abbrev pub from_of : Exporter → From
from_of o = record { path = o.path.now; tags = o.tags.now; export = o.export.now }

-- a map has it at the name
unfoldable pub at : {S : Type 0} → HashMap (List ℕ) Exporter S → List ℕ → Option From
at map name = option_map from_of (get (pointwise nat_eq) map name)

-- what is kept says of each name what the units say
pub record IsKept (us : List Shown) (declared defined : List ℕ → Option From) : Type 0 where
  pub declarations : (q : List ℕ) → declared q ≡ first doing.Declares us q
  pub definitions : (q : List ℕ) → defined q ≡ first doing.Defines us q
