-- What stands in front of a declarator.
use Rattle.std.specs.Prelude.{ℕ, Bool, true, false, List, [], ◌∷◌, ◌++◌, flat_map, reverse, codes, if◌then◌else◌}
use Rattle.type_print.specs.declared.declarators.Piece.{Piece}
use Rattle.type_print.specs.declared.declarators.Piece.TheVariants.{Star, Open}
use Rattle.type_print.specs.Names.{words, parted}

abbrev pub is_nothing : List ℕ → Bool
is_nothing [] = true
is_nothing (c ∷ cs) = false

abbrev pub gap_text : Bool → List ℕ
gap_text gap = if gap then codes " " else []

-- `*` with its qualifiers, and a space before what follows these
abbrev pub piece_text : Piece → List ℕ
piece_text (Star q gap) = codes "*" ++ (parted (words q) ++ gap_text gap)
piece_text Open = codes "("

-- the last piece stands first
abbrev pub front_text : List Piece → List ℕ
front_text ps = flat_map piece_text (reverse ps)

abbrev pub is_star : Piece → Bool
is_star (Star q gap) = true
is_star Open = false
