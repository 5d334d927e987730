-- A generated session: a header that declares n functions, n units that each define one and call the next, an edit of each,
-- and the end, as the contents that a client would send (LSP 3.17).
use Rattle.std.specs.Prelude.{ℕ, zero, suc, ◌+◌, ◌==◌, List, [], ◌∷◌, ◌++◌, map, codes, decimal, if◌then◌else◌}
use Rattle.serde_json.specs.Data.{Data, null, number, string, object, array, unsigned, no_items, item, no_members, member}
use Rattle.serde_json.specs.Written.{compact_text}

-- the numbers from one on, so many
abbrev pub numbers_from : ℕ → ℕ → List ℕ
numbers_from k zero = []
numbers_from k (suc more) = k ∷ numbers_from (k + 1) more

abbrev pub numbers : ℕ → List ℕ
numbers n = numbers_from 0 n

-- ---- the texts

-- the line of the header that declares a function
abbrev pub prototype : ℕ → List ℕ
prototype k = codes "int f" ++ decimal k ++ codes "(int);\n"

abbrev pub prototypes : List ℕ → List ℕ
prototypes [] = []
prototypes (k ∷ ks) = prototype k ++ prototypes ks

abbrev pub header : ℕ → List ℕ
header n = prototypes (numbers n)

-- the function that each one calls: the next, and the last one the first
abbrev pub next : ℕ → ℕ → ℕ
next n k = if k + 1 == n then 0 else k + 1

-- a unit by its own number, that of the function that it calls, and what it adds
abbrev pub unit_calling : ℕ → ℕ → List ℕ → List ℕ
unit_calling k called added = codes "#include \"h.h\"\nint f" ++ decimal k ++ codes "(int x) { return f" ++ decimal called ++ codes "(x) + " ++ added ++ codes "; }\n"

abbrev pub unit : ℕ → ℕ → List ℕ → List ℕ
unit n k added = unit_calling k (next n k) added

abbrev pub unit_uri : ℕ → List ℕ
unit_uri k = codes "file:///g/u" ++ decimal k ++ codes ".c"

-- ---- the messages (JSON-RPC 2.0, LSP 3.17)

abbrev pub version_2 : Data
version_2 = string (codes "2.0")

-- a request, whose members stand in the order of their keys
abbrev pub request : ℕ → List ℕ → Data → Data
request id method params = object
    (member (codes "id") (number (unsigned id)) (member (codes "jsonrpc") version_2
    (member (codes "method") (string method) (member (codes "params") params no_members))))

abbrev pub notification : List ℕ → Data → Data
notification method params = object
    (member (codes "jsonrpc") version_2 (member (codes "method") (string method) (member (codes "params") params no_members)))

-- nothing is said of the client, and there is no root
abbrev pub initialize : Data
initialize = request 1 (codes "initialize")
    (object (member (codes "capabilities") (object no_members) (member (codes "processId") null (member (codes "rootUri") null no_members))))

abbrev pub initialized : Data
initialized = notification (codes "initialized") (object no_members)

abbrev pub did_open : List ℕ → List ℕ → Data
did_open uri text = notification (codes "textDocument/didOpen") (object (member (codes "textDocument") (object
    (member (codes "languageId") (string (codes "c")) (member (codes "text") (string text)
    (member (codes "uri") (string uri) (member (codes "version") (number (unsigned 1)) no_members))))) no_members))

-- the whole text is replaced
abbrev pub did_change : List ℕ → List ℕ → Data
did_change uri text = notification (codes "textDocument/didChange") (object
    (member (codes "contentChanges") (array (item (object (member (codes "text") (string text) no_members)) no_items))
    (member (codes "textDocument") (object (member (codes "uri") (string uri) (member (codes "version") (number (unsigned 2)) no_members))) no_members)))

-- these two have no params
abbrev pub shutdown : Data
shutdown = object (member (codes "id") (number (unsigned 2)) (member (codes "jsonrpc") version_2 (member (codes "method") (string (codes "shutdown")) no_members)))

abbrev pub exit : Data
exit = object (member (codes "jsonrpc") version_2 (member (codes "method") (string (codes "exit")) no_members))

-- ---- the script

abbrev pub opened : ℕ → ℕ → Data
opened n k = did_open (unit_uri k) (unit n k (decimal k))

-- the number is gone, and an undeclared name stands in its place
abbrev pub changed : ℕ → ℕ → Data
changed n k = did_change (unit_uri k) (unit n k (codes "y"))

abbrev pub opened_header : ℕ → Data
opened_header n = did_open (codes "file:///g/h.h") (header n)

abbrev pub beginning : List Data
beginning = initialize ∷ initialized ∷ []

abbrev pub ending : List Data
ending = shutdown ∷ exit ∷ []

unfoldable pub script : ℕ → List Data
script n = beginning ++ (opened_header n ∷ []) ++ map (opened n) (numbers n) ++ map (changed n) (numbers n) ++ ending

abbrev pub contents : ℕ → List (List ℕ)
contents n = map compact_text (script n)
