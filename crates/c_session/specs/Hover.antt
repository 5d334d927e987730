-- What is told of the token at a position (LSP 3.17, Hover): what the first unit that mentions it says of it there.
use Rattle.std.specs.Prelude.{ℕ, List, Option, None, Some}
use Rattle.doc_texts.specs.Texts.{Texts}
use Rattle.lsp_answers.specs.Located.{hover_data}
use Rattle.plain_mean.specs.Given.{text_in}
use Rattle.serde_json.specs.Data.{Data, null}
use Rattle.text_lines.specs.declared.encoding.Encoding.{Encoding}
use Rattle.text_lines.specs.declared.pos.Pos.{Pos}
use Rattle.tok_data.specs.declared.sources.TokId.{TokId}
use Rattle.unit_index.specs.Hover.{hover_text}
use Rattle.unit_index.specs.Known.{Known}
use Rattle.unit_index.specs.Speaking.{Speech, speaking}
use Rattle.c_session.specs.Places.{range_in}
use Rattle.c_session.specs.Positions.{token_at}

abbrev pub said_by : Speech → List ℕ
said_by s = hover_text s.unit.meaning.exports.tags s.entity

abbrev pub of_speech : Pos × Pos → Option Speech → Data
of_speech range None = null
of_speech range (Some s) = hover_data (said_by s) range.0 range.1

-- with the token's own range
abbrev pub of_token : List Known → Texts → Encoding → List ℕ → Option TokId → Data
of_token us texts encoding path None = null
of_token us texts encoding path (Some t) = of_speech (range_in (text_in texts path) encoding t.at) (speaking us t)

unfoldable pub hover : List Known → Texts → Encoding → List ℕ → Pos → Data
hover us texts encoding path pos = of_token us texts encoding path (token_at texts encoding path pos)
