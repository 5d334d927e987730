-- The questions about a file: their methods and params (LSP 3.17, Language Features). All members are read before the URI is turned into a path.
use Rattle.std.specs.Prelude.{ℕ, Bool, List, codes, Option, Some, None, Result, Ok, Err, if◌then◌else◌}
use Rattle.std.specs.Str.{bytes_eq}
use Rattle.serde_json.specs.Data.{Data}
use Rattle.text_lines.specs.declared.pos.Pos.{Pos}
use Rattle.json_view.specs.Refusals.{Refusal, and_then}
use Rattle.json_view.specs.Members.{text_of, bool_of, object_of, pos_of}
use Rattle.uri_paths.specs.Uris.{path_of_uri}
use Rattle.c_session.specs.declared.question.Question.{Question}
use Rattle.c_session.specs.declared.question.Question.TheVariants as question
use Rattle.c_session.specs.Params.{params_of, document_in}
use Rattle.c_session.specs.Reasons.{Reason, by_params, by_uri, if_ok}
use Rattle.c_session.specs.declared.questions.About.{About}
use Rattle.c_session.specs.declared.questions.QuestionKind.{QuestionKind}
use Rattle.c_session.specs.declared.questions.QuestionKind.TheVariants as kind

-- what a method asks about a file
unfoldable pub question_named : List ℕ → Option QuestionKind
question_named method =
    if bytes_eq method (codes "textDocument/hover") then Some kind.Hover
    else (if bytes_eq method (codes "textDocument/definition") then Some kind.Definition
    else (if bytes_eq method (codes "textDocument/references") then Some kind.References
    else (if bytes_eq method (codes "textDocument/documentSymbol") then Some kind.Symbols
    else (if bytes_eq method (codes "textDocument/prepareRename") then Some kind.Renamable
    else None))))

-- a position in a document (LSP 3.17, TextDocumentPositionParams)
abbrev pub position_in : Option Data → Result Pos Refusal
position_in params = and_then (params_of params) (pos_of (codes "position"))

-- whether the places that declare it are wanted too (LSP 3.17, ReferenceContext)
abbrev pub declarations_of : Data → Result Bool Refusal
declarations_of d = and_then (object_of (codes "context") d) (bool_of (codes "includeDeclaration"))

abbrev pub declarations_in : Option Data → Result Bool Refusal
declarations_in params = and_then (params_of params) declarations_of

abbrev pub question_in : QuestionKind → Option Data → Result Question Refusal
question_in kind.Hover params = and_then (position_in params) (λ pos. Ok (question.Hover pos))
question_in kind.Definition params = and_then (position_in params) (λ pos. Ok (question.Definition pos))
question_in kind.References params =
    and_then (position_in params) (λ pos.
    and_then (declarations_in params) (λ declarations.
    Ok (question.References pos declarations)))
question_in kind.Symbols params = Ok question.Symbols
question_in kind.Renamable params = and_then (position_in params) (λ pos. Ok (question.Renamable pos))

-- a question about the file that a URI names
pub record Asked : Type 0 where
  pub uri : List ℕ
  pub question : Question

unfoldable pub asked_in : QuestionKind → Option Data → Result Asked Refusal
asked_in k params =
    and_then (document_in params) (λ document.
    and_then (text_of (codes "uri") document) (λ uri.
    and_then (question_in k params) (λ q.
    Ok (record { uri = uri; question = q }))))

-- the same by the file's path
unfoldable pub about_in : QuestionKind → Option Data → Result About Reason
about_in k params =
    if_ok (by_params (asked_in k params)) (λ asked.
    if_ok (by_uri (path_of_uri asked.uri)) (λ path.
    Ok (record { path = path; question = asked.question })))
