-- What is said of the items of a unit stands in the order of these. A list of such things is parted by item from its front.
use Rattle.std.specs.Prelude.{ℕ, Bool, List, take, drop}
use Rattle.std.specs.List.{prefix_len}
use Rattle.scope_tables.specs.declared.meanings.BodyMeaning.{BodyMeaning}
use Rattle.scope_tables.specs.declared.meanings.HeadMeaning.{HeadMeaning}
use Rattle.type_data.specs.declared.names.ItemName.{ItemName}
use Rattle.type_data.specs.contracts.names.ItemNamePartialEq.TheImpl as items

abbrev pub same_item : ItemName → ItemName → Bool
same_item a b = items.eq-value.it a b

abbrev pub count : {A : Type 0} → (A → ItemName) → ItemName → List A → ℕ
count named item xs = prefix_len (λ x. same_item (named x) item) xs

-- what is said of this item, and what of the items behind it
abbrev pub front : {A : Type 0} → (A → ItemName) → ItemName → List A → List A
front named item xs = take (count named item xs) xs

abbrev pub behind : {A : Type 0} → (A → ItemName) → ItemName → List A → List A
behind named item xs = drop (count named item xs) xs

abbrev pub of_head : HeadMeaning → ItemName
of_head h = h.item

abbrev pub of_body : BodyMeaning → ItemName
of_body b = b.item
