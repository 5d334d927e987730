-- A rename (LSP 3.17, textDocument/rename): its params, and what is answered. All members are read before the URI is turned into a path.
use Rattle.std.specs.Prelude.{ℕ, List, [], codes, map, flat_map, Option, None, Some, Result, Ok, Err}
use Rattle.doc_texts.specs.Texts.{Texts}
use Rattle.doc_texts.specs.declared.ranges.ByteRange.{ByteRange}
use Rattle.json_view.specs.Members.{text_of}
use Rattle.json_view.specs.Refusals.{Refusal, and_then}
use Rattle.lsp_answers.specs.Renames.{edits_data}
use Rattle.lsp_answers.specs.declared.located.Located.{Located}
use Rattle.plain_mean.specs.Given.{text_in}
use Rattle.project_conf.specs.declared.conf.Conf.{Conf}
use Rattle.c_session.specs.Outcomes.{rename, work_of}
use Rattle.plain_mean.specs.Ranges.{Ranges, ranges_of}
use Rattle.rename_core.specs.declared.confirming.Edits.{Edits}
use Rattle.rename_core.specs.declared.error.RenameError.{RenameError}
use Rattle.rename_core.specs.declared.error.RenameError.TheVariants.{NoName}
use Rattle.serde_json.specs.Data.{Data}
use Rattle.text_lines.specs.declared.encoding.Encoding.{Encoding}
use Rattle.text_lines.specs.declared.pos.Pos.{Pos}
use Rattle.tok_data.specs.declared.sources.TokId.{TokId}
use Rattle.uri_paths.specs.Uris.{path_of_uri}
use Rattle.c_session.specs.Params.{params_of, document_in}
use Rattle.c_session.specs.Places.{shown_at, span, uri_for}
use Rattle.c_session.specs.Questions.{position_in}
use Rattle.c_session.specs.Reasons.{Reason, by_params, by_uri, if_ok}

abbrev pub rename_method : List ℕ
rename_method = codes "textDocument/rename"

-- ---- params

abbrev pub new_name_in : Option Data → Result (List ℕ) Refusal
new_name_in params = and_then (params_of params) (text_of (codes "newName"))

-- another name for what a position denotes in the file that a URI names
pub record Wanted : Type 0 where
  pub uri : List ℕ
  pub pos : Pos
  pub new_name : List ℕ

unfoldable pub wanted_in : Option Data → Result Wanted Refusal
wanted_in params =
    and_then (document_in params) (λ document.
    and_then (text_of (codes "uri") document) (λ uri.
    and_then (position_in params) (λ pos.
    and_then (new_name_in params) (λ name.
    Ok (record { uri = uri; pos = pos; new_name = name })))))

-- the same by the file's path
pub record Renaming : Type 0 where
  pub path : List ℕ
  pub pos : Pos
  pub new_name : List ℕ

unfoldable pub renaming_in : Option Data → Result Renaming Reason
renaming_in params =
    if_ok (by_params (wanted_in params)) (λ w.
    if_ok (by_uri (path_of_uri w.uri)) (λ path.
    Ok (record { path = path; pos = w.pos; new_name = w.new_name })))

-- ---- what it comes to

-- a position that is in no name denotes nothing, whatever the new name
abbrev pub outcome_at : Texts → Conf → Option TokId → List ℕ → Result Edits RenameError
outcome_at texts conf None name = Err NoName
outcome_at texts conf (Some t) name = rename texts conf t name

-- the units that are worked out for it
abbrev pub work_at : Texts → Conf → Option TokId → List ℕ → ℕ
work_at texts conf None name = 0
work_at texts conf (Some t) name = work_of texts conf t name

-- ---- the edits

abbrev pub located_at : Texts → Encoding → List ℕ → ByteRange → Located
located_at texts encoding path r = shown_at (uri_for texts path) 0 [] (span (text_in texts path) encoding (r.start, r.end))

abbrev pub located_in : Texts → Encoding → Ranges → List Located
located_in texts encoding r = map (located_at texts encoding r.path) r.ranges

-- a WorkspaceEdit that puts the name in the place of each token, in order of path, then place: just where the texts with the edits made have it
abbrev pub edits_of : Texts → Encoding → Edits → Data
edits_of texts encoding e = edits_data e.new_name (flat_map (located_in texts encoding) (ranges_of texts e.toks))
