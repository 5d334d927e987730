-- The texts of refusals that a client is told.
use Rattle.std.specs.Prelude.{ℕ, List, [], ◌++◌, codes}
use Rattle.json_view.specs.Refusals.{Refusal, Missing, WrongKind, OutOfRange, NoMemory}
use Rattle.uri_paths.specs.declared.error.UriError.{UriError}
use Rattle.uri_paths.specs.declared.error.UriError.TheVariants as uri

-- params that aren't as stated, by the key of the first member that isn't; want of memory is told to no client
abbrev pub refusal_text : Refusal → List ℕ
refusal_text (Missing key) = codes "params: Missing " ++ key
refusal_text (WrongKind key) = codes "params: WrongKind " ++ key
refusal_text (OutOfRange key) = codes "params: OutOfRange " ++ key
refusal_text NoMemory = []

-- a URI that names no path
abbrev pub uri_refusal : UriError → List ℕ
uri_refusal uri.NotUrl = codes "uri: NotUrl"
uri_refusal uri.NotFile = codes "uri: NotFile"
uri_refusal uri.HasHost = codes "uri: HasHost"
uri_refusal uri.NotText = codes "uri: NotText"
uri_refusal uri.NoMemory = []
