-- The notification `textDocument/publishDiagnostics` of LSP 3.17.
use Rattle.std.specs.Prelude.{ℕ, ℤ, List, codes, Option, None, Some, if◌then◌else◌}
use Rattle.serde_json.specs.Data.{Data, number, string, object, array, unsigned, Members, no_members, member}
use Rattle.serde_json.specs.Find.{of_integer}
use Rattle.serde_json.specs.Written.{compact_text}
use Rattle.serde_json.specs.View.{items_of}
use Rattle.plain_mean.specs.Messages.{is_warning}
use Rattle.plain_mean.specs.declared.types.Shown.{Shown}
use Rattle.text_lines.specs.Positions.{pos_at}
use Rattle.text_lines.specs.declared.encoding.Encoding.{Encoding}
use Rattle.text_lines.specs.declared.pos.Pos.{Pos}
use Rattle.frame_form.specs.Written.{framed}
use Rattle.lsp_answers.specs.Places.{range_data}

-- the severity of a rule (LSP 3.17, DiagnosticSeverity): an error or a warning
abbrev pub severity : ℕ → ℕ
severity rule = if is_warning rule then 2 else 1

-- a Diagnostic on a range
abbrev pub fault_data : ℕ → List ℕ → Data → Data
fault_data rule message range = object
    (member (codes "code") (number (unsigned rule))
    (member (codes "message") (string message)
    (member (codes "range") range
    (member (codes "severity") (number (unsigned (severity rule)))
    (member (codes "source") (string (codes "c11ls")) no_members)))))

abbrev pub diagnostic_data : ℕ → List ℕ → Pos → Pos → Data
diagnostic_data rule message start end = fault_data rule message (range_data start end)

-- the Diagnostic for a fault of a text
unfoldable pub diagnostic : List ℕ → Encoding → Shown → Data
diagnostic text encoding fault = diagnostic_data fault.rule fault.text (pos_at text fault.start encoding) (pos_at text fault.end encoding)

-- what is said of a document behind its Diagnostics: the URI, and the version where it is open
abbrev pub named_members : List ℕ → Option ℤ → Members
named_members uri None = member (codes "uri") (string uri) no_members
named_members uri (Some version) = member (codes "uri") (string uri) (member (codes "version") (number (of_integer version)) no_members)

-- the notification `textDocument/publishDiagnostics`
abbrev pub publish_data : List Data → List ℕ → Option ℤ → Data
publish_data diagnostics uri version = object
    (member (codes "jsonrpc") (string (codes "2.0"))
    (member (codes "method") (string (codes "textDocument/publishDiagnostics"))
    (member (codes "params") (object (member (codes "diagnostics") (array (items_of diagnostics)) (named_members uri version))) no_members)))

-- the diagnostics of a document, behind their header
unfoldable pub publish : List ℕ → Option ℤ → List Data → List ℕ
publish uri version diagnostics = framed (compact_text (publish_data diagnostics uri version))
