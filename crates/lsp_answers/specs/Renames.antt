-- The edits by which tokens get a name, file by file (LSP 3.17, WorkspaceEdit).
use Rattle.std.specs.Prelude.{ℕ, Bool, List, [], ◌∷◌, codes, filter, bytes_eq}
use Rattle.serde_json.specs.Data.{Data, object, Members, no_members, member, put}
use Rattle.lsp_answers.specs.Located.{edit_data, listed}
use Rattle.lsp_answers.specs.declared.located.Located.{Located}

-- a token of the file with this URI
abbrev pub is_in : List ℕ → Located → Bool
is_in uri t = bytes_eq uri t.uri

-- the TextEdits of a file: those of its tokens, in their order
abbrev pub file_data : List ℕ → List Located → List ℕ → Data
file_data name toks uri = listed (edit_data name) (filter (is_in uri) toks)

-- the file of each token of `some` by its URI, with the edits of all its tokens
unfoldable pub by_file : List ℕ → List Located → List Located → Members
by_file name toks [] = no_members
by_file name toks (t ∷ some) = put t.uri (file_data name toks t.uri) (by_file name toks some)

-- a WorkspaceEdit: each file that has some of the tokens, once, with their edits
abbrev pub edits_data : List ℕ → List Located → Data
edits_data name toks = object (member (codes "changes") (object (by_file name toks toks)) no_members)
