-- The text of a `textDocument/publishDiagnostics` round its Diagnostics.
use Rattle.std.specs.Prelude.{ℕ, ℤ, List, ◌++◌, codes, Option, None, Some}
use Rattle.serde_json.specs.Data.{Data, number, string}
use Rattle.serde_json.specs.Find.{of_integer}
use Rattle.serde_json.specs.Written.{compact_text}

abbrev pub number_data : ℤ → Data
number_data z = number (of_integer z)

-- up to the bracket that opens the array
abbrev pub publish_start : List ℕ
publish_start = codes "{\"jsonrpc\":\"2.0\",\"method\":\"textDocument/publishDiagnostics\",\"params\":{\"diagnostics\":["

-- the version, where there is one
abbrev pub version_part : Option ℤ → List ℕ
version_part None = codes ""
version_part (Some version) = codes ",\"version\":" ++ compact_text (number_data version)

-- from behind the bracket that closes it
unfoldable pub publish_end : List ℕ → Option ℤ → List ℕ
publish_end uri version = codes ",\"uri\":" ++ compact_text (string uri) ++ version_part version ++ codes "}}"
