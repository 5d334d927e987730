-- How deep brackets nest: opening ones less closing ones, never below 0. 256 levels are allowed.
use Rattle.std.specs.Prelude.{ℕ, ◌+◌, ◌-◌, ◌==◌, List, [], ◌∷◌, Option, Some, None, Bool, true, false, if◌then◌else◌}
use Rattle.c_parser.specs.declared.kinds.Kind.{Kind}
use Rattle.c_parser.specs.declared.kinds.Kind.TheVariants.{OpenParen, CloseParen, OpenBracket, CloseBracket, OpenBrace, CloseBrace}

abbrev pub opens : Kind → Bool
opens OpenParen = true
opens OpenBracket = true
opens OpenBrace = true
opens _ = false

abbrev pub closes : Kind → Bool
closes CloseParen = true
closes CloseBracket = true
closes CloseBrace = true
closes _ = false

-- the number of the first bracket that opens a 257th level, if there is one; `depth` levels are open at the front
abbrev pub too_deep_from : ℕ → ℕ → List Kind → Option ℕ
too_deep_from depth at [] = None
too_deep_from depth at (k ∷ ks) =
    if opens k then (if depth == 256 then Some at else too_deep_from (depth + 1) (at + 1) ks)
    else (if closes k then too_deep_from (depth - 1) (at + 1) ks else too_deep_from depth (at + 1) ks)

abbrev pub too_deep : List Kind → Option ℕ
too_deep = too_deep_from 0 0
