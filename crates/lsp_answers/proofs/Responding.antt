-- The text of a response is what is written piece by piece.
use Rattle.std.proofs.Common.{◌≡◌, ℕ, List, ◌++◌, refl, sym, ap, ◌∙◌, append_assoc, codes}
use Rattle.serde_json.specs.Data.{Data}
use Rattle.serde_json.specs.Written.{compact_text}
use Rattle.serde_json.proofs.OnLiterals.{serde_json_on_literals}
use Rattle.json_view.specs.declared.id.Id.{Id}
use Rattle.frame_form.specs.Written.{framed}
use Rattle.lsp_answers.specs.Replies.{id_data, response_data, response}
use Rattle.lsp_answers.specs.Ties.Around.{response_start, response_text}

spelled_out : (id result : List ℕ) → List ℕ
spelled_out id result = codes "{\"id\":" ++ (id ++ (codes ",\"jsonrpc\":\"2.0\",\"result\":" ++ (result ++ codes "}")))

members_spelled : (id result : Data) → compact_text (response_data id result) ≡ spelled_out (compact_text id) (compact_text result)
unfolding serde_json_on_literals spelled_out
members_spelled id result = refl

regrouped : (start id middle result : List ℕ) → start ++ (id ++ (middle ++ (result ++ codes "}"))) ≡ (start ++ id ++ middle) ++ result ++ codes "}"
regrouped start id middle result = simp append_assoc

pub response_spelled : (id : Id) (result : Data) → compact_text (response_data (id_data id) result) ≡ response_text id (compact_text result)
unfolding spelled_out response_start
response_spelled id result = members_spelled (id_data id) result
    ∙ regrouped (codes "{\"id\":") (compact_text (id_data id)) (codes ",\"jsonrpc\":\"2.0\",\"result\":") (compact_text result)

-- what is written of a result whose text is known, behind its header
pub responded : (id : Id) (result : Data) (text content : List ℕ) → text ≡ compact_text result → content ≡ response_text id text → framed content ≡ response id result
unfolding response
responded id result text content is made = ap framed (made ∙ ap (response_text id) is ∙ sym (response_spelled id result))
