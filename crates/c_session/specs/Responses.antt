-- Which bytes answer a message: a request gets exactly one response, and a notification none (JSON-RPC 2.0, 4 and 5).
use Rattle.std.specs.Prelude.{◌≡◌, ℕ, ℤ, Bool, true, ◌||◌, List, [], ◌++◌, codes, Option, None, Some}
use Rattle.std.specs.List.{All, concat}
use Rattle.std.specs.Str.{bytes_eq}
use Rattle.serde_json.specs.Data.{Data}
use Rattle.json_view.specs.declared.id.Id.{Id}
use Rattle.c_session.specs.Message.{Message, NotJson, Batch, NotObject, Ignored, BadId, BadMethod, Notification, Request}
use Rattle.lsp_answers.specs.Replies.{response, error, log}
use Rattle.c_session.specs.Diagnostics.{publish}

-- The bytes are one response: a result for the id, or an error for it, or for null where no id is known.
pub data IsResponse (id : Option Id) (bytes : List ℕ) : Type 0 where
  HasResult : (known : Id) (result : Data) → id ≡ Some known → bytes ≡ response known result → IsResponse id bytes
  HasError : (code : ℤ) (text : List ℕ) → bytes ≡ error id code text → IsResponse id bytes

-- The bytes are one notification of the server: a log message, or the diagnostics of a document.
pub data IsNotice (bytes : List ℕ) : Type 0 where
  Logs : (text : List ℕ) → bytes ≡ log text → IsNotice bytes
  Publishes : (uri : List ℕ) (version : Option ℤ) (diagnostics : List Data) → bytes ≡ publish uri version diagnostics → IsNotice bytes

-- The bytes are notifications of the server, one after another, or none.
pub record AreNotices (bytes : List ℕ) : Type 0 where
  pub notices : List (List ℕ)
  pub each : All IsNotice notices
  pub joined : bytes ≡ concat notices

-- The bytes are one response, and then notifications.
pub record IsResponded (id : Option Id) (bytes : List ℕ) : Type 0 where
  pub first : List ℕ
  pub rest : List ℕ
  pub responds : IsResponse id first
  pub notices : AreNotices rest
  pub joined : bytes ≡ first ++ rest

-- The bytes answer a message: one response in front of all else where it is a request, and nothing but one response
-- where it is neither a request nor a notification. A response of the client is answered by nothing.
abbrev pub IsAnswered : Message → List ℕ → Type 0
IsAnswered (Request id method params) bytes = IsResponded (Some id) bytes
IsAnswered (Notification method params) bytes = AreNotices bytes
IsAnswered Ignored bytes = bytes ≡ []
IsAnswered NotJson bytes = IsResponse None bytes
IsAnswered Batch bytes = IsResponse None bytes
IsAnswered NotObject bytes = IsResponse None bytes
IsAnswered BadId bytes = IsResponse None bytes
IsAnswered (BadMethod id) bytes = IsResponse id bytes

-- the notifications by which a client edits a document (LSP 3.17, "Text Document Synchronization")
abbrev pub is_edit : List ℕ → Bool
is_edit method = bytes_eq method (codes "textDocument/didOpen") || (bytes_eq method (codes "textDocument/didChange") || bytes_eq method (codes "textDocument/didClose"))

-- The bytes refuse the message: an error, or, for an edit of a document, a log message that names the edit.
pub data IsRefusal (m : Message) (bytes : List ℕ) : Type 0 where
  Fails : (id : Option Id) (code : ℤ) (text : List ℕ) → bytes ≡ error id code text → IsRefusal m bytes
  Logs : (method : List ℕ) (params : Option Data) (text : List ℕ) → is_edit method ≡ true → m ≡ Notification method params →
      bytes ≡ log (method ++ codes ": " ++ text) → IsRefusal m bytes

-- the message is the notification `exit` (LSP 3.17, "Exit Notification")
abbrev pub IsExit : Message → Type 0
IsExit (Notification method params) = method ≡ codes "exit"
IsExit (Request id method params) = ⊥
IsExit Ignored = ⊥
IsExit NotJson = ⊥
IsExit Batch = ⊥
IsExit NotObject = ⊥
IsExit BadId = ⊥
IsExit (BadMethod id) = ⊥
