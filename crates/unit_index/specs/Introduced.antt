-- Which of some tokens a unit introduces.
use Rattle.std.specs.Prelude.{Bool, not, ◌&&◌}
use Rattle.std.specs.List.{list_any}
use Rattle.tok_data.specs.declared.sources.TokId.{TokId}
use Rattle.unit_index.specs.Known.{Known}
use Rattle.scope_tables.specs.Occurrences.{same_tok}
use Rattle.unit_index.specs.Occurrences.{occs_of}
use Rattle.unit_index.specs.References.{is_introduced}
use Rattle.unit_index.specs.Tokens.{is_outside}

-- a token of the list is q, and the unit introduces it
abbrev pub brings : Known → TokId → TokId → Bool
brings u q r = same_tok r q && list_any (is_introduced r) (occs_of u)

abbrev pub is_left : (TokId → Bool) → TokId → Bool
is_left found t = is_outside t && not (found t)
