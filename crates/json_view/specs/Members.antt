-- The members of a JSON value, each as its kind, or the first refusal that they show.
use Rattle.std.specs.Prelude.{ℕ, ℤ, Bool, List, codes, Option, Some, None, Result, Ok, Err}
use Rattle.serde_json.specs.Data.{Data, null, boolean, number, string, array, object}
use Rattle.serde_json.specs.Find.{get}
use Rattle.text_lines.specs.declared.pos.Pos.{Pos}
use Rattle.json_view.specs.declared.id.Id.{Id}
use Rattle.json_view.specs.Refusals.{Refusal, Missing, WrongKind, and_then}
use Rattle.json_view.specs.Kinds.{text_in, array_in, bool_in, u32_in, i32_in, id_in}

-- the member of this name, read as a kind
abbrev pub read_as : {T : Type 0} → (Data → Result T Refusal) → List ℕ → Option Data → Result T Refusal
read_as kind key None = Err (Missing key)
read_as kind key (Some member) = kind member

abbrev pub text_of : List ℕ → Data → Result (List ℕ) Refusal
text_of key d = read_as (text_in key) key (get key d)

abbrev pub bool_of : List ℕ → Data → Result Bool Refusal
bool_of key d = read_as (bool_in key) key (get key d)

abbrev pub u32_of : List ℕ → Data → Result ℕ Refusal
u32_of key d = read_as (u32_in key) key (get key d)

abbrev pub i32_of : List ℕ → Data → Result ℤ Refusal
i32_of key d = read_as (i32_in key) key (get key d)

abbrev pub id_of : Data → Result Id Refusal
id_of d = read_as id_in (codes "id") (get (codes "id") d)

-- what an object's members are read as, or that it is no object
abbrev pub object_in : {T : Type 0} → (Data → Result T Refusal) → List ℕ → Data → Result T Refusal
object_in members key null = Err (WrongKind key)
object_in members key (boolean b) = Err (WrongKind key)
object_in members key (number n) = Err (WrongKind key)
object_in members key (string s) = Err (WrongKind key)
object_in members key (array ds) = Err (WrongKind key)
object_in members key (object ms) = members (object ms)

abbrev pub object_of : List ℕ → Data → Result Data Refusal
object_of key d = read_as (object_in Ok key) key (get key d)

abbrev pub array_of : List ℕ → Data → Result (List Data) Refusal
array_of key d = read_as (array_in key) key (get key d)

-- a position has a `line` and a `character` (LSP 3.17, Position)
unfoldable pub line_and_character : Data → Result Pos Refusal
line_and_character d =
    and_then (u32_of (codes "line") d) (λ line.
    and_then (u32_of (codes "character") d) (λ character.
    Ok (record { line = line; character = character })))

unfoldable pub pos_of : List ℕ → Data → Result Pos Refusal
pos_of key d = read_as (object_in line_and_character key) key (get key d)

-- a range has a `start` and an `end` (LSP 3.17, Range)
unfoldable pub start_and_end : Data → Result (Pos × Pos) Refusal
start_and_end d =
    and_then (pos_of (codes "start") d) (λ start.
    and_then (pos_of (codes "end") d) (λ end.
    Ok (start, end)))

unfoldable pub range_of : List ℕ → Data → Result (Pos × Pos) Refusal
range_of key d = read_as (object_in start_and_end key) key (get key d)
