-- Paths: absolute, with no empty, `.` or `..` component, so that each file has one path.
use Rattle.std.specs.Prelude.{◌≡◌, ℕ, ◌-◌, Bool, true, false, not, ◌&&◌, ◌||◌, ◌==◌, List, [], ◌∷◌, ◌++◌, length, take, drop, slice_index, codes, bytes_eq, Option, Some, None, option_map, if◌then◌else◌}
use Rattle.std.specs.List.{list_all, filter}
use Rattle.uri_paths.specs.Parts.{slash, parts, is_empty, is_here, is_up, is_name}

-- the text begins with `/`
abbrev pub is_absolute : List ℕ → Bool
is_absolute text = slice_index text 0 == slash

-- a path is `/`, or begins with `/` and has a name before, between and behind its other slashes
unfoldable pub is_path : List ℕ → Bool
is_path text = bytes_eq text (codes "/") || (is_absolute text && list_all is_name (parts (drop 1 text)))

abbrev pub IsPath : List ℕ → Type 0
IsPath text = is_path text ≡ true

-- the path with this text, if it is one
abbrev pub path_read : List ℕ → Option (List ℕ)
path_read text = if is_path text then Some text else None

-- the components of a text: its parts that aren't empty
unfoldable pub components : List ℕ → List (List ℕ)
components text = filter (λ part. not (is_empty part)) (parts text)

-- a `/` and each component after it
abbrev pub spelled : List (List ℕ) → List ℕ
spelled [] = []
spelled (name ∷ names) = slash ∷ name ++ spelled names

-- the path with these components
abbrev pub path_of_names : List (List ℕ) → List ℕ
path_of_names [] = codes "/"
path_of_names (name ∷ names) = spelled (name ∷ names)

-- ---- folders

-- the first list is a front of the second
abbrev pub is_front : List (List ℕ) → List (List ℕ) → Bool
is_front [] names = true
is_front (folder ∷ folders) [] = false
is_front (folder ∷ folders) (name ∷ names) = bytes_eq folder name && is_front folders names

-- the path is the root itself, or lies in a folder under it
unfoldable pub under : List ℕ → List ℕ → Bool
under root path = is_front (components root) (components path)

-- the folder that a file or folder lies in, by its components
abbrev pub above : List (List ℕ) → List (List ℕ)
above names = take (length names - 1) names

-- where these parts lead from a folder: an empty part and `.` stay, `..` goes up, and a name goes down. There is nothing
-- above `/`
abbrev pub walk : List (List ℕ) → List (List ℕ) → Option (List (List ℕ))
walk folder [] = Some folder
walk folder (part ∷ rest) =
    if is_empty part || is_here part then walk folder rest
    else (if is_up part then (if length folder == 0 then None else walk (above folder) rest)
    else walk (folder ++ part ∷ []) rest)

-- the path that a name means in a folder, or from `/` where it begins with `/`
unfoldable pub resolved : List (List ℕ) → List ℕ → Option (List ℕ)
resolved folder name = option_map path_of_names (walk (if is_absolute name then [] else folder) (parts name))

-- the path that a name means in a folder, and beside a file
abbrev pub within : List ℕ → List ℕ → Option (List ℕ)
within folder name = resolved (components folder) name

abbrev pub beside : List ℕ → List ℕ → Option (List ℕ)
beside path name = resolved (above (components path)) name
