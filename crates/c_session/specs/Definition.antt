-- Where what a position denotes is defined (LSP 3.17, textDocument/definition), in all units.
use Rattle.std.specs.Prelude.{ℕ, List, [], ◌∷◌, Option, None, Some}
use Rattle.doc_texts.specs.Texts.{Texts}
use Rattle.lsp_answers.specs.Located.{location_data, listed}
use Rattle.lsp_answers.specs.declared.located.Located.{Located}
use Rattle.serde_json.specs.Data.{Data, null}
use Rattle.text_lines.specs.declared.encoding.Encoding.{Encoding}
use Rattle.text_lines.specs.declared.pos.Pos.{Pos}
use Rattle.tok_data.specs.declared.sources.TokId.{TokId}
use Rattle.unit_index.specs.Definition as index
use Rattle.unit_index.specs.Known.{Known}
use Rattle.c_session.specs.Places.{mention, gathered}
use Rattle.c_session.specs.Positions.{token_at}

-- null exactly where no token is left
abbrev pub or_null : List Located → Data
or_null [] = null
or_null (t ∷ ts) = listed location_data (t ∷ ts)

abbrev pub of_token : List Known → Texts → Encoding → Option TokId → Data
of_token us texts encoding None = null
of_token us texts encoding (Some t) = or_null (gathered (mention texts encoding) (index.definition us t))

unfoldable pub definition : List Known → Texts → Encoding → List ℕ → Pos → Data
definition us texts encoding path pos = of_token us texts encoding (token_at texts encoding path pos)
