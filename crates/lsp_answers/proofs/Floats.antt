-- The values that are written have no float.
use Rattle.std.proofs.Common.{◌≡◌, ℕ, ℤ, pos, negsuc, List, Option, None, Some, false, refl}
use Rattle.serde_json.specs.Data.{Data}
use Rattle.serde_json.specs.Find.{of_integer, is_float}
use Rattle.serde_json.specs.Written.{has_float}
use Rattle.json_view.specs.declared.id.Id.{Id}
use Rattle.json_view.specs.declared.id.Id.TheVariants.{Text, Int, Big}
use Rattle.lsp_answers.specs.Replies.{id_data, id_or_null, response_data, error_data}

pub integer_is_none : (z : ℤ) → is_float (of_integer z) ≡ false
integer_is_none (pos n) = refl
integer_is_none (negsuc n) = refl

pub id_has_none : (id : Id) → has_float (id_data id) ≡ false
id_has_none (Text text) = refl
id_has_none (Int z) = integer_is_none z
id_has_none (Big n) = refl

pub null_or_id_has_none : (id : Option Id) → has_float (id_or_null id) ≡ false
null_or_id_has_none None = refl
null_or_id_has_none (Some id) = id_has_none id

pub response_has_none : (id : Id) (result : Data) → has_float result ≡ false → has_float (response_data (id_data id) result) ≡ false
response_has_none id result none = rw (id_has_none id, none) refl

pub error_has_none : (id : Option Id) (code : ℤ) (text : List ℕ) → has_float (error_data (id_or_null id) code text) ≡ false
error_has_none id code text = rw (integer_is_none code, null_or_id_has_none id) refl
