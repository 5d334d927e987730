-- The text of a response round that of its result.
use Rattle.std.specs.Prelude.{ℕ, List, ◌++◌, codes}
use Rattle.serde_json.specs.Written.{compact_text}
use Rattle.json_view.specs.declared.id.Id.{Id}
use Rattle.lsp_answers.specs.Replies.{id_data}

-- up to the result
unfoldable pub response_start : Id → List ℕ
response_start id = codes "{\"id\":" ++ compact_text (id_data id) ++ codes ",\"jsonrpc\":\"2.0\",\"result\":"

abbrev pub response_text : Id → List ℕ → List ℕ
response_text id result = response_start id ++ result ++ codes "}"
