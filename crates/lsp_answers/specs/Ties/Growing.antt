-- The texts of the files' edits, as they grow token by token.
use Rattle.std.specs.Prelude.{ℕ, Bool, true, List, [], ◌∷◌, ◌++◌, codes, Option, Some, None}
use Rattle.serde_json.specs.Data.{string}
use Rattle.serde_json.specs.Written.{compact_text, comma_if}
use Rattle.lsp_answers.specs.Located.{edit_data}
use Rattle.lsp_answers.specs.declared.located.Located.{Located}

-- what stands in front of the next element of an array, whose text up to its last element is known if it has one
unfoldable pub start_of : Option (List ℕ) → List ℕ
start_of None = codes "["
start_of (Some before) = before ++ codes ","

-- the text with the edits of more tokens
unfoldable pub grown : List ℕ → Option (List ℕ) → List Located → Option (List ℕ)
grown name before [] = before
grown name before (t ∷ ts) = grown name (Some (start_of before ++ compact_text (edit_data name t))) ts

-- the members of an object, whose values are arrays without their last brackets
unfoldable pub files_text : Bool → List (List ℕ × List ℕ) → List ℕ
files_text later [] = codes "}"
files_text later (e ∷ es) = (((comma_if later ++ compact_text (string e.0)) ++ codes ":") ++ e.1) ++ codes "]" ++ files_text true es
