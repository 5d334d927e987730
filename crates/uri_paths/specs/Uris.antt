-- The `file:` URIs of paths (RFC 8089; the URL Standard of WHATWG, sections 1.3 and 4).
use Rattle.std.specs.Prelude.{ℕ, Bool, not, ◌&&◌, ◌||◌, ◌==◌, List, [], ◌∷◌, ◌++◌, flat_map, codes, bytes_eq, None, Result, Ok, Err, if◌then◌else◌}
use Rattle.std.specs.List.{list_any}
use Rattle.std.specs.Char.{is_ascii_alphanumeric}
use Rattle.std.specs.Str.{is_utf8}
use Rattle.percent_encoding.specs.Percent.{percent_encode_byte, percent_decode}
use Rattle.url.specs.Parts as url
use Rattle.url.specs.Parser.{Parsed, parse_url}
use Rattle.uri_paths.specs.declared.error.UriError.{UriError}
use Rattle.uri_paths.specs.declared.error.UriError.TheVariants.{NotUrl, NotFile, HasHost, NotText}
use Rattle.uri_paths.specs.Parts.{parts, is_here, is_up}
use Rattle.uri_paths.specs.Paths.{components, path_of_names}

-- ---- from a URI to a path

-- the bytes have a part `.` or `..`
abbrev pub has_dots : List ℕ → Bool
has_dots bytes = list_any (λ part. is_here part || is_up part) (parts bytes)

-- the bytes can be the text of a path
unfoldable pub is_path_text : List ℕ → Bool
is_path_text bytes = is_utf8 bytes && (not (list_any (λ b. b == 0) bytes) && not (has_dots bytes))

-- the path of a URI's decoded path, without its empty components
abbrev pub of_decoded : List ℕ → Result (List ℕ) UriError
of_decoded bytes = if is_path_text bytes then Ok (path_of_names (components bytes)) else Err NotText

-- the path of a URL that has been parsed
unfoldable pub of_parts : url.Parts → Result (List ℕ) UriError
of_parts parsed =
    if not (bytes_eq parsed.scheme (codes "file")) then Err NotFile
    else (if url.has_host parsed then Err HasHost
    else of_decoded (percent_decode parsed.path))

abbrev pub of_parsed : Parsed url.Parts → Result (List ℕ) UriError
of_parsed (Ok parsed) = of_parts parsed
of_parsed (Err e) = Err NotUrl

-- the path that a URI names, or the first reason why it names none
abbrev pub path_of_uri : List ℕ → Result (List ℕ) UriError
path_of_uri uri = of_parsed (parse_url None uri)

-- ---- from a path to a URI

-- a letter, a digit or one of `-._~`, which no URI needs to escape (RFC 3986, 2.3), or a slash
abbrev pub is_kept : ℕ → Bool
is_kept b = is_ascii_alphanumeric b || (b == 45 || (b == 46 || (b == 95 || (b == 126 || b == 47))))

-- a byte in a URI: as it is, or as `%` and its two hexadecimal digits
abbrev pub escaped : ℕ → List ℕ
escaped b = if is_kept b then b ∷ [] else percent_encode_byte b

-- the URI of a path
unfoldable pub uri_of_path : List ℕ → List ℕ
uri_of_path path = codes "file://" ++ flat_map escaped path
