-- The texts that the tokens of items are named by.
use Rattle.std.specs.Prelude.{ℕ, List, ◌++◌, codes, decimal}
use Rattle.type_data.specs.declared.names.ItemName.{ItemName}

-- the text that an item's tokens are named by
abbrev pub text_of : ItemName → List ℕ
text_of item = item.label ++ (codes "#" ++ decimal item.nth)
