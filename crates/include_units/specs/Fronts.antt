-- What reading the parts of a text one by one gives.
use Rattle.std.specs.Prelude.{◌≡◌, ◌≤◌, ℕ, ◌+◌, ◌-◌, List, [], ◌∷◌, take, drop, not, Option, None, Some}
use Rattle.std.specs.List.{prefix_len}
use Rattle.tok_data.specs.declared.tokens.PpToken.{PpToken}
use Rattle.tok_data.specs.declared.tokens.OutToken.{OutToken}
use Rattle.include_units.specs.declared.texts.Front.{Front}
use Rattle.include_units.specs.Texts.{Part, source_tokens, before_run, parts_from}

abbrev pub front_parts : List ℕ → Front → List Part
front_parts name f = f.part ∷ parts_from name f.at f.behind.now

abbrev pub all_parts : List ℕ → Option Front → List Part
all_parts name None = []
all_parts name (Some f) = front_parts name f

abbrev pub width : List PpToken → ℕ
width ts = prefix_len (λ t. not t.line_start) ts

abbrev pub run_parts : List ℕ → ℕ → OutToken → List PpToken → List Part
run_parts name at first ts =
    before_run (first ∷ source_tokens name at (take (width ts) ts)) (parts_from name (at + width ts) (drop (width ts) ts))

abbrev pub parts_after : Option Part → List Part → List Part
parts_after None parts = []
parts_after (Some part) parts = part ∷ parts

-- tokens behind others of a text, and the number of the first of them
abbrev pub IsFurther : ℕ → List PpToken → ℕ → List PpToken → Type 0
IsFurther at tokens at' tokens' = (at ≤ at') × (tokens' ≡ drop (at' - at) tokens)
