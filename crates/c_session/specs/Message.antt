-- The kind of a content (JSON-RPC 2.0): what the value that is read from it asks for.
use Rattle.std.specs.Prelude.{ℕ, List, codes, Option, Some, None, is_some, if◌then◌else◌}
use Rattle.std.specs.Result.{result_ok}
use Rattle.std.specs.Str.{is_utf8}
use Rattle.serde_json.specs.Data.{Data}
use Rattle.serde_json.specs.Find.{get, as_array, as_object, as_str}
use Rattle.serde_json.specs.Read.{read}
use Rattle.json_view.specs.Kinds.{id_in}
use Rattle.json_view.specs.declared.id.Id.{Id}

-- The kinds of a content, in the order in which they are looked for.
pub data Message : Type 0 where
  -- no JSON value
  NotJson : Message
  -- an array
  Batch : Message
  -- any other value that is no object
  NotObject : Message
  -- an object without `method`: a response of the client
  Ignored : Message
  -- an `id` that is neither a text nor a whole number of 64 bits
  BadId : Message
  -- a `method` that is no text, with the id
  BadMethod : Option Id → Message
  -- no `id`: the method and its params
  Notification : List ℕ → Option Data → Message
  Request : Id → List ℕ → Option Data → Message

-- the value that is read from a content
unfoldable pub value_of : List ℕ → Option Data
value_of content = if is_utf8 content then read content else None

-- the id that a value stands for
abbrev pub id_of : Data → Option Id
id_of d = result_ok (id_in d)

-- what a method asks, with the id where there is one
abbrev pub asked : Option Id → List ℕ → Option Data → Message
asked None method params = Notification method params
asked (Some id) method params = Request id method params

abbrev pub with_method : Option Id → Option (List ℕ) → Option Data → Message
with_method id None params = BadMethod id
with_method id (Some method) params = asked id method params

-- an object with a member `method`, seen with its members `id` and `params`
abbrev pub with_id : Option Data → Data → Option Data → Message
with_id None method params = with_method None (as_str method) params
with_id (Some d) method params = with_read_id (id_of d) method params
  where
    with_read_id : Option Id → Data → Option Data → Message
    with_read_id None method params = BadId
    with_read_id (Some id) method params = with_method (Some id) (as_str method) params

abbrev pub of_object : Option Data → Option Data → Option Data → Message
of_object None id params = Ignored
of_object (Some method) id params = with_id id method params

unfoldable pub of_value : Data → Message
of_value d = if is_some (as_array d) then Batch else (if is_some (as_object d) then of_object (get (codes "method") d) (get (codes "id") d) (get (codes "params") d) else NotObject)

abbrev pub of_read : Option Data → Message
of_read None = NotJson
of_read (Some d) = of_value d

-- the kind of a content
abbrev pub message : List ℕ → Message
message content = of_read (value_of content)
