-- A content's value, from what its reader says where the bytes are text.
use Rattle.std.proofs.Common.{◌≡◌, ℕ, List, true, false, cond, refl, Some, None}
use Rattle.std.specs.Str.{IsUtf8, is_utf8}
use Rattle.std.proofs.lemmas.Str.{IsUtf8-from_is_utf8, is_utf8-from_IsUtf8}
use Rattle.serde_json.specs.Data.{Data}
use Rattle.serde_json.specs.Read.{read}
use Rattle.c_session.specs.Message.{value_of}

pub value_some : (content : List ℕ) (d : Data) → IsUtf8 content → read content ≡ Some d → value_of content ≡ Some d
unfolding value_of
value_some content d text reads = rw (is_utf8-from_IsUtf8 content text) reads

pub value_none : (content : List ℕ) → (IsUtf8 content → read content ≡ None) → value_of content ≡ None
unfolding value_of
value_none content unread =
    elim (is_utf8 content) as (λ b. is_utf8 content ≡ b → cond b (read content) None ≡ None) [
      | true ↦ λ e. unread (IsUtf8-from_is_utf8 content e)
      | false ↦ λ e. refl
    ] refl
