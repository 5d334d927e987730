-- The warnings across units: a name has another type than in the first unit that declares it (ISO C11 6.2.7p2), and a name is defined in
-- an earlier unit too (6.9p5).
use Rattle.std.specs.Prelude.{ℕ, bytes_eq, List, [], ◌∷◌, ◌++◌, codes, Option, Some, None, if◌then◌else◌}
use Rattle.std.specs.Option.{option_map_or}
use Rattle.std.specs.List.{find, flat_map}
use Rattle.tok_data.specs.declared.sources.TokId.{TokId}
use Rattle.scope_tables.specs.declared.units.Export.{Export}
use Rattle.type_print.specs.Printed.{text, unqualified}
use Rattle.unit_index.specs.declared.across.CrossFault.{CrossFault}
use Rattle.unit_index.specs.declared.exported.Does.TheVariants.{Declares, Defines}
use Rattle.unit_index.specs.Exported.{From, Shown, first}
use Rattle.unit_index.specs.Handles.{Tagging}
use Rattle.unit_index.specs.Matching.{Test}

abbrev pub fault : List ℕ → ℕ → TokId → List ℕ → CrossFault
fault path number t message = record { unit = path; fault = record { tok = t; rule = number; text = message } }

-- the name's types here and in the first unit
abbrev pub type_text : From → Tagging → Export → List ℕ
type_text f tags e = (((((e.name ++ codes " is ") ++ text tags e.ty unqualified []) ++ codes " here, ") ++ text f.tags f.export.ty unqualified []) ++ codes " in ") ++ f.path

abbrev pub definition_text : List ℕ → Export → List ℕ
definition_text first e = ((e.name ++ codes " is defined in ") ++ first) ++ codes " too"

-- the warnings, by a test of which types match
module _ (test : Test) where
  abbrev pub differing : From → List ℕ → Tagging → Export → List CrossFault
  differing f path tags e = if test f.tags tags f.export.ty e.ty then [] else fault path 801 e.first (type_text f tags e) ∷ []

  -- its type isn't compatible with that in the first unit that declares it, which is another one
  abbrev pub by_type : Option From → List ℕ → Tagging → Export → List CrossFault
  by_type None path tags e = []
  by_type (Some f) path tags e = if bytes_eq f.path path then [] else differing f path tags e

abbrev pub defined_too : List ℕ → List ℕ → Export → Option TokId → List CrossFault
defined_too first path e None = []
defined_too first path e (Some tok) = fault path 802 tok (definition_text first e) ∷ []

-- the first unit that defines it is another one
abbrev pub by_definition : Option From → List ℕ → Export → List CrossFault
by_definition None path e = []
by_definition (Some f) path e = if bytes_eq f.path path then [] else defined_too f.path path e e.defined

module _ (test : Test) (us : List Shown) where
  abbrev pub of_name : Shown → Export → List CrossFault
  of_name u e = by_type test (first Declares us e.name) u.path u.exports.tags e ++ by_definition (first Defines us e.name) u.path e

  abbrev pub of_unit : Shown → List CrossFault
  of_unit u = flat_map (of_name u) u.exports.names

-- in the order of the units, and of the names of each
abbrev pub cross : Test → List Shown → List CrossFault
cross test us = flat_map (of_unit test us) us

-- the tags of the first unit with this path
abbrev pub tags_at : List Shown → List ℕ → Tagging
tags_at us path = option_map_or (λ u. u.exports.tags) (find (λ u. bytes_eq u.path path) us) []
