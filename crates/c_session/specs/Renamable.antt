-- Whether what a position denotes may get another name (LSP 3.17, textDocument/prepareRename): its range and its spelling, or null where something stands in the
-- way of any name.
use Rattle.std.specs.Prelude.{ℕ, List, map, Option, None, Some, slice_get, if◌then◌else◌}
use Rattle.c_tokens.specs.Lexed.{lexed}
use Rattle.doc_texts.specs.Texts.{Texts}
use Rattle.lsp_answers.specs.Located.{renamable_data}
use Rattle.plain_mean.specs.Given.{text_in}
use Rattle.plain_mean.specs.Spelled.{spelling_of}
use Rattle.c_session.specs.Classed.{class_in}
use Rattle.rename_core.specs.Refusals.{can_be_renamed}
use Rattle.serde_json.specs.Data.{Data, null}
use Rattle.text_lines.specs.declared.encoding.Encoding.{Encoding}
use Rattle.text_lines.specs.declared.pos.Pos.{Pos}
use Rattle.tok_data.specs.declared.sources.TokId.{TokId}
use Rattle.unit_index.specs.Known.{Known}
use Rattle.unit_index.specs.Occurrences.{occs_of}
use Rattle.c_session.specs.Places.{range_in}
use Rattle.c_session.specs.Positions.{token_at}

-- the spelling of the token with this number of a text
unfoldable pub spelling_in : List ℕ → ℕ → List ℕ
spelling_in text at = spelling_of (slice_get (lexed text).tokens at)

abbrev pub shown : List ℕ → Pos × Pos → Data
shown name range = renamable_data name range.0 range.1

-- with the token's own range
abbrev pub of_token : List Known → Texts → Encoding → List ℕ → Option TokId → Data
of_token us texts encoding path None = null
of_token us texts encoding path (Some t) =
    if can_be_renamed (class_in (map occs_of us) t) then shown (spelling_in (text_in texts path) t.at) (range_in (text_in texts path) encoding t.at) else null

unfoldable pub renamable : List Known → Texts → Encoding → List ℕ → Pos → Data
renamable us texts encoding path pos = of_token us texts encoding path (token_at texts encoding path pos)
