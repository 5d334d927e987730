-- Tokens that mention what a token denotes.
use Rattle.std.specs.Prelude.{Bool, true, ◌&&◌, List}
use Rattle.tok_data.specs.declared.sources.TokId.{TokId}
use Rattle.scope_tables.specs.declared.entities.Anchor.{Anchor}
use Rattle.scope_tables.specs.declared.entities.Occ.{Occ}
use Rattle.scope_tables.specs.declared.entities.Role.{Role}
use Rattle.unit_index.specs.declared.shared.Asked.{Asked}
use Rattle.unit_index.specs.declared.shared.Asked.TheVariants as asked
use Rattle.unit_index.specs.Definition.{defines, declares, toks_that}
use Rattle.unit_index.specs.Known.{Known}
use Rattle.scope_tables.specs.Occurrences.{same_tok, same_anchor}
use Rattle.unit_index.specs.Occurrences.{shared}
use Rattle.unit_index.specs.Tokens.{in_order}

abbrev pub any : Role → Bool
any role = true

abbrev pub is_asked : Asked → Role → Bool
is_asked asked.All = any
is_asked asked.Defining = defines
is_asked asked.Declaring = declares

-- an occurrence has the anchor
abbrev pub is_under : Anchor → Occ → Bool
is_under a o = same_anchor o.anchor a

-- an occurrence that is asked for is one of the token
abbrev pub gives : Asked → TokId → Occ → Bool
gives k t o = is_asked k o.role && same_tok o.tok t

abbrev pub tokens_of : Asked → List Known → TokId → List TokId
tokens_of k us t = in_order (toks_that (is_asked k) (shared us t))
