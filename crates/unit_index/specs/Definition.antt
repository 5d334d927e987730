-- Where the entities that a token denotes are defined.
use Rattle.std.specs.Prelude.{Bool, true, false, List, map, if◌then◌else◌}
use Rattle.std.specs.List.{filter, list_any}
use Rattle.tok_data.specs.declared.sources.TokId.{TokId}
use Rattle.scope_tables.specs.declared.entities.Occ.{Occ}
use Rattle.scope_tables.specs.declared.entities.Role.{Role}
use Rattle.scope_tables.specs.declared.entities.Role.TheVariants as role
use Rattle.unit_index.specs.Known.{Known}
use Rattle.unit_index.specs.Occurrences.{shared}
use Rattle.unit_index.specs.Tokens.{in_order, is_outside}

abbrev pub defines : Role → Bool
defines role.Defines = true
defines role.Declares = false
defines role.Uses = false
defines role.Pasted = false
defines role.Spelled = false

abbrev pub declares : Role → Bool
declares role.Declares = true
declares role.Defines = false
declares role.Uses = false
declares role.Pasted = false
declares role.Spelled = false

abbrev pub toks_that : (Role → Bool) → List Occ → List TokId
toks_that does os = map (λ o. o.tok) (filter (λ o. does o.role) os)

-- the tokens that define one of them, else those that declare one
abbrev pub defining : List Occ → List TokId
defining os = if list_any (λ o. defines o.role) os then toks_that defines os else toks_that declares os

-- those of library texts are left out; none is left where the answer is null
unfoldable pub definition : List Known → TokId → List TokId
definition us t = filter is_outside (in_order (defining (shared us t)))
