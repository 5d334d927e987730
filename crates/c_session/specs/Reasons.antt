-- Why the params of a message are refused: by themselves, by a URI in them, or by the texts.
use Rattle.std.specs.Prelude.{ℕ, List, Result, Ok, Err}
use Rattle.json_view.specs.Refusals.{Refusal}
use Rattle.uri_paths.specs.declared.error.UriError.{UriError}
use Rattle.doc_texts.specs.Docs.{doc_error_name}
use Rattle.doc_texts.specs.declared.error.DocError.{DocError}
use Rattle.c_session.specs.Refusals.{refusal_text, uri_refusal}

pub data Reason : Type 0 where
  ByParams : Refusal → Reason
  ByUri : UriError → Reason
  ByTexts : DocError → Reason

abbrev pub reason_text : Reason → List ℕ
reason_text (ByParams r) = refusal_text r
reason_text (ByUri e) = uri_refusal e
reason_text (ByTexts e) = doc_error_name e

abbrev pub by_params : {T : Type 0} → Result T Refusal → Result T Reason
by_params (Ok x) = Ok x
by_params (Err r) = Err (ByParams r)

abbrev pub by_uri : {T : Type 0} → Result T UriError → Result T Reason
by_uri (Ok x) = Ok x
by_uri (Err e) = Err (ByUri e)

abbrev pub by_texts : {T : Type 0} → Result T DocError → Result T Reason
by_texts (Ok x) = Ok x
by_texts (Err e) = Err (ByTexts e)

-- the next step, unless this one was refused
abbrev pub if_ok : {T U : Type 0} → Result T Reason → (T → Result U Reason) → Result U Reason
if_ok (Ok x) next = next x
if_ok (Err r) next = Err r
