-- Where the entities that a token denotes are mentioned.
use Rattle.std.specs.Prelude.{Bool, true, false, not, ◌&&◌, ◌||◌, List, map}
use Rattle.std.specs.List.{filter, list_any}
use Rattle.tok_data.specs.declared.sources.TokId.{TokId}
use Rattle.scope_tables.specs.declared.entities.Occ.{Occ}
use Rattle.scope_tables.specs.declared.entities.Role.{Role}
use Rattle.scope_tables.specs.declared.entities.Role.TheVariants as role
use Rattle.unit_index.specs.Known.{Known}
use Rattle.scope_tables.specs.Occurrences.{is_at}
use Rattle.unit_index.specs.Occurrences.{occs_of, shared}
use Rattle.unit_index.specs.Tokens.{in_order, is_outside}

abbrev pub introduces : Role → Bool
introduces role.Defines = true
introduces role.Declares = true
introduces role.Uses = false
introduces role.Pasted = false
introduces role.Spelled = false

-- a token defines or declares there
abbrev pub is_introduced : TokId → Occ → Bool
is_introduced t o = introduces o.role && is_at t o

-- it does so in some unit, whatever it is there
abbrev pub introduced : List Known → TokId → Bool
introduced us t = list_any (λ u. list_any (is_introduced t) (occs_of u)) us

-- with declarations all tokens, else those that only use, in every unit
abbrev pub is_wanted : List Known → Bool → TokId → Bool
is_wanted us declarations t = is_outside t && (declarations || not (introduced us t))

unfoldable pub references : List Known → TokId → Bool → List TokId
references us t declarations = filter (is_wanted us declarations) (in_order (map (λ o. o.tok) (shared us t)))
