-- How a refused rename is told: its code (JSON-RPC 2.0, 5.1; LSP 3.17, ErrorCodes) and its message, which is the refusal's name.
use Rattle.std.specs.Prelude.{ℕ, ℤ, negsuc, List, codes}
use Rattle.rename_core.specs.declared.error.RenameError.{RenameError}
use Rattle.rename_core.specs.declared.error.RenameError.TheVariants.{NoName, NotIdentifier, Library, Pasted, Stringized, TwoMeanings, ExternalTaken, Clash, NoMemory}

-- InvalidParams
abbrev pub invalid_params : ℤ
invalid_params = negsuc 32601

-- RequestFailed: the request was as it should be, and can't be done
abbrev pub request_failed : ℤ
request_failed = negsuc 32802

unfoldable pub refusal_code : RenameError → ℤ
refusal_code NoName = request_failed
refusal_code NotIdentifier = invalid_params
refusal_code (Library t) = request_failed
refusal_code (Pasted t) = request_failed
refusal_code (Stringized t) = request_failed
refusal_code (TwoMeanings t) = request_failed
refusal_code (ExternalTaken t) = request_failed
refusal_code (Clash t) = request_failed
refusal_code NoMemory = request_failed

-- want of memory is told to no client
unfoldable pub refusal_name : RenameError → List ℕ
refusal_name NoName = codes "NoName"
refusal_name NotIdentifier = codes "NotIdentifier"
refusal_name (Library t) = codes "Library"
refusal_name (Pasted t) = codes "Pasted"
refusal_name (Stringized t) = codes "Stringized"
refusal_name (TwoMeanings t) = codes "TwoMeanings"
refusal_name (ExternalTaken t) = codes "ExternalTaken"
refusal_name (Clash t) = codes "Clash"
refusal_name NoMemory = codes "NoMemory"
