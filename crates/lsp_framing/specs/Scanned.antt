-- The lines of a header part as they are met byte by byte, behind what stands of a line so far.
use Rattle.std.specs.Prelude.{ℕ, ◌-◌, if◌then◌else◌, ◌&&◌, ◌==◌, List, [], ◌∷◌, ◌++◌, length, take, slice_index, Option, Some, None}
use Rattle.std.specs.Option.{option_map_or}

-- The line that a byte ends, behind what stands of the line so far: the byte is an LF that follows a CR.
unfoldable pub line_ended : List ℕ → ℕ → Option (List ℕ)
line_ended so_far byte = if byte == 10 && slice_index so_far (length so_far - 1) == 13 then Some (take (length so_far - 1) so_far) else None

-- The lines of a text that have ended. `so_far` is what stands of the first.
abbrev pub lines_from : List ℕ → List ℕ → List (List ℕ)
lines_from so_far [] = []
lines_from so_far (b ∷ rest) = option_map_or (λ line. line ∷ lines_from [] rest) (line_ended so_far b) (lines_from (so_far ++ b ∷ []) rest)

abbrev pub lines_met : List ℕ → List (List ℕ)
lines_met text = lines_from [] text
