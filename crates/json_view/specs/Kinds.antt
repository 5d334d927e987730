-- JSON values as the kinds that LSP 3.17 reads: texts, arrays, whole numbers, truth values, ids. A number with a fraction, an exponent
-- or a minus before its zero, or beyond 64 bits, is a float, and no whole number.
use Rattle.std.specs.Prelude.{◌^◌, ℕ, ℤ, pos, negsuc, Bool, List, [], ◌∷◌, codes, nat_lt, Result, Ok, Err, if◌then◌else◌}
use Rattle.std.specs.Prelude.{int_le}
use Rattle.std.specs.Option.{ok_or, option_map}
use Rattle.serde_json.specs.Data.{Num, unsigned, negative, float, Data, null, boolean, number, string, array, object, Items, no_items, item}
use Rattle.serde_json.specs.Find.{as_str, as_array, as_bool}
use Rattle.json_view.specs.declared.id.Id.{Id}
use Rattle.json_view.specs.declared.id.Id.TheVariants.{Text, Int, Big}
use Rattle.json_view.specs.Refusals.{Refusal, WrongKind, OutOfRange}

abbrev pub text_in : List ℕ → Data → Result (List ℕ) Refusal
text_in key d = ok_or (as_str d) (WrongKind key)

-- the elements of an array
abbrev pub list_of : Items → List Data
list_of no_items = []
list_of (item d ds) = d ∷ list_of ds

abbrev pub array_in : List ℕ → Data → Result (List Data) Refusal
array_in key d = ok_or (option_map list_of (as_array d)) (WrongKind key)

abbrev pub bool_in : List ℕ → Data → Result Bool Refusal
bool_in key d = ok_or (as_bool d) (WrongKind key)

-- a number, where it is a whole one, as the given type has it
abbrev pub whole_in : {T : Type 0} → (Num → Result T Refusal) → List ℕ → Data → Result T Refusal
whole_in read key null = Err (WrongKind key)
whole_in read key (boolean b) = Err (WrongKind key)
whole_in read key (number n) = read n
whole_in read key (string s) = Err (WrongKind key)
whole_in read key (array ds) = Err (WrongKind key)
whole_in read key (object ms) = Err (WrongKind key)

-- from 0 to 2^32 - 1
abbrev pub u32_number : List ℕ → Num → Result ℕ Refusal
u32_number key (unsigned n) = if nat_lt n (2 ^ 32) then Ok n else Err (OutOfRange key)
u32_number key (negative z) = Err (OutOfRange key)
u32_number key (float x) = Err (WrongKind key)

abbrev pub u32_in : List ℕ → Data → Result ℕ Refusal
u32_in key d = whole_in (u32_number key) key d

-- from -2^31 to 2^31 - 1
abbrev pub i32_number : List ℕ → Num → Result ℤ Refusal
i32_number key (unsigned n) = if nat_lt n (2 ^ 31) then Ok (pos n) else Err (OutOfRange key)
i32_number key (negative z) = if int_le (negsuc 2147483647) z then Ok z else Err (OutOfRange key)
i32_number key (float x) = Err (WrongKind key)

abbrev pub i32_in : List ℕ → Data → Result ℤ Refusal
i32_in key d = whole_in (i32_number key) key d

-- an id's number: every whole number of 64 bits is one
abbrev pub id_number : Num → Result Id Refusal
id_number (unsigned n) = if nat_lt n (2 ^ 63) then Ok (Int (pos n)) else Ok (Big n)
id_number (negative z) = Ok (Int z)
id_number (float x) = Err (WrongKind (codes "id"))

-- the id of a request: a text or a whole number (LSP 3.17, RequestMessage)
abbrev pub id_in : Data → Result Id Refusal
id_in null = Err (WrongKind (codes "id"))
id_in (boolean b) = Err (WrongKind (codes "id"))
id_in (number n) = id_number n
id_in (string s) = Ok (Text s)
id_in (array ds) = Err (WrongKind (codes "id"))
id_in (object ms) = Err (WrongKind (codes "id"))
