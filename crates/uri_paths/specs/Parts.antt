-- What stands between the slashes of a text, and which of these parts are names.
use Rattle.std.specs.Prelude.{ℕ, Bool, not, ◌||◌, ◌==◌, List, length, codes, bytes_eq}
use Rattle.std.specs.List.{slice_split}

-- the byte of `/`
abbrev pub slash : ℕ
slash = 47

-- what stands before, between and behind the slashes of a text: one part more than it has slashes
abbrev pub parts : List ℕ → List (List ℕ)
parts text = slice_split (λ b. b == slash) text

-- two slashes have nothing between them
abbrev pub is_empty : List ℕ → Bool
is_empty part = length part == 0

-- `.`, which means the folder that it stands in
abbrev pub is_here : List ℕ → Bool
is_here part = bytes_eq part (codes ".")

-- `..`, which means the folder above
abbrev pub is_up : List ℕ → Bool
is_up part = bytes_eq part (codes "..")

-- any other part is the name of a file or folder
abbrev pub is_name : List ℕ → Bool
is_name part = not (is_empty part || (is_here part || is_up part))
