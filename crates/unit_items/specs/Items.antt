-- The items of a unit (ISO C11 6.9) by name: an item is told by its label and the number of earlier items with that label.
use Rattle.std.specs.Prelude.{ℕ, ◌+◌, ◌-◌, List, [], ◌∷◌, drop, take, bytes_eq, if◌then◌else◌}
use Rattle.item_cut.specs.Items as cut
use Rattle.item_cut.specs.Labels.{label}
use Rattle.tok_data.specs.declared.tokens.OutToken.{OutToken}
use Rattle.unit_items.specs.declared.items.Item.{Item}

-- how many of the labels are this one
abbrev pub times : List ℕ → List (List ℕ) → ℕ
times text [] = 0
times text (one ∷ more) = if bytes_eq one text then times text more + 1 else times text more

abbrev pub item : List ℕ → List (List ℕ) → ℕ → ℕ → Item
item text seen start end = record { name = record { label = text; nth = times text seen }; start = start; end = end }

-- items in order, of which the first begins with the first of the tokens; `seen` are the labels of those before
abbrev pub named : List OutToken → List (List ℕ) → List (ℕ × ℕ) → List Item
named tokens seen [] = []
named tokens seen (places ∷ more) =
    let size : ℕ = places.1 - places.0 in
    let text : List ℕ = label (take size tokens) in
    item text seen places.0 places.1 ∷ named (drop size tokens) (text ∷ seen) more

abbrev pub items_of : List OutToken → List Item
items_of tokens = named tokens [] (cut.items tokens)
