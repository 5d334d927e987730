-- A frame as a server writes it (LSP 3.17, "Base Protocol"): the one field that is required, and the content.
use Rattle.std.specs.Prelude.{ℕ, List, [], ◌∷◌, ◌++◌, length, decimal, codes}

-- the header part of a content of so many bytes
abbrev pub header_of : ℕ → List ℕ
header_of n = codes "Content-Length: " ++ decimal n ++ 13 ∷ 10 ∷ 13 ∷ 10 ∷ []

-- a content behind its header part
unfoldable pub framed : List ℕ → List ℕ
framed content = header_of (length content) ++ content
