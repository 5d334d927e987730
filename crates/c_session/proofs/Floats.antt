-- What is told has no float.
use Rattle.std.proofs.Common.{◌≡◌, ℕ, Bool, List, false, true, refl}
use Rattle.lsp_answers.specs.Located.{hover_data, renamable_data}
use Rattle.lsp_answers.specs.Replies.{initialize_result}
use Rattle.serde_json.specs.Written.{has_float}
use Rattle.text_lines.specs.declared.encoding.Encoding.{Encoding}
use Rattle.text_lines.specs.declared.pos.Pos.{Pos}

pub hover_has_none : (text : List ℕ) (start end : Pos) → has_float (hover_data text start end) ≡ false
hover_has_none text start end = refl

pub renamable_has_none : (name : List ℕ) (start end : Pos) → has_float (renamable_data name start end) ≡ false
renamable_has_none name start end = refl

pub initialize_has_none : (encoding : Encoding) (prepare : Bool) → has_float (initialize_result encoding prepare) ≡ false
initialize_has_none encoding true = refl
initialize_has_none encoding false = refl
