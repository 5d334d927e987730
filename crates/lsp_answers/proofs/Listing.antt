-- The text of an array is what is written token by token.
use Rattle.std.proofs.Common.{◌≡◌, List, ◌++◌, false, refl, codes, map}
use Rattle.serde_json.specs.View.{items_of}
use Rattle.serde_json.specs.Written.{compact_text, items_text, has_float}
use Rattle.serde_json.proofs.OnLiterals.{serde_json_on_literals}
use Rattle.lsp_answers.specs.Located.{listed}
use Rattle.lsp_answers.specs.Ties.Forms.{element_data}
use Rattle.lsp_answers.specs.declared.located.Located.{Located}
use Rattle.lsp_answers.specs.declared.located.Form.{Form}
use Rattle.lsp_answers.specs.declared.located.Form.TheVariants.{Location, Symbol}

pub element_has_none : (form : Form) (t : Located) → has_float (element_data form t) ≡ false
unfolding serde_json_on_literals
element_has_none Location t = refl
element_has_none Symbol t = refl

pub array_spelled : (form : Form) (toks : List Located) →
    codes "[" ++ items_text false (items_of (map (element_data form) toks)) ≡ compact_text (listed (element_data form) toks)
unfolding serde_json_on_literals
array_spelled form toks = refl
