-- Where what a position denotes is mentioned (LSP 3.17, textDocument/references), in all units.
use Rattle.std.specs.Prelude.{ℕ, Bool, List, [], Option, None, Some}
use Rattle.doc_texts.specs.Texts.{Texts}
use Rattle.lsp_answers.specs.Located.{location_data, listed}
use Rattle.lsp_answers.specs.declared.located.Located.{Located}
use Rattle.serde_json.specs.Data.{Data}
use Rattle.text_lines.specs.declared.encoding.Encoding.{Encoding}
use Rattle.text_lines.specs.declared.pos.Pos.{Pos}
use Rattle.tok_data.specs.declared.sources.TokId.{TokId}
use Rattle.unit_index.specs.Known.{Known}
use Rattle.unit_index.specs.References as index
use Rattle.c_session.specs.Places.{mention, gathered}
use Rattle.c_session.specs.Positions.{token_at}

-- none where it denotes nothing
abbrev pub of_token : List Known → Texts → Encoding → Bool → Option TokId → List Located
of_token us texts encoding declarations None = []
of_token us texts encoding declarations (Some t) = gathered (mention texts encoding) (index.references us t declarations)

unfoldable pub references : List Known → Texts → Encoding → List ℕ → Pos → Bool → Data
references us texts encoding path pos declarations = listed location_data (of_token us texts encoding declarations (token_at texts encoding path pos))
