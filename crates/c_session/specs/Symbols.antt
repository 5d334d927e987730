-- What a file declares at file scope (LSP 3.17, textDocument/documentSymbol), as the first unit that reads it has it.
use Rattle.std.specs.Prelude.{ℕ, List}
use Rattle.doc_texts.specs.Texts.{Texts}
use Rattle.lsp_answers.specs.Located.{symbol_data, listed}
use Rattle.serde_json.specs.Data.{Data}
use Rattle.text_lines.specs.declared.encoding.Encoding.{Encoding}
use Rattle.unit_index.specs.Known.{Known}
use Rattle.unit_index.specs.Symbols as index
use Rattle.c_session.specs.Places.{symbol, gathered}

unfoldable pub symbols : List Known → Texts → Encoding → List ℕ → Data
symbols us texts encoding path = listed symbol_data (gathered (symbol texts encoding) (index.symbols us path))
