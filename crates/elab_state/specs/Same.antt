-- Which questions, and which items, are the same: two with the same parts. What the parts are compared by is the derived `==` of their types.
use Rattle.std.specs.Prelude.{Bool}
use Rattle.type_data.specs.declared.names.ItemName.{ItemName}
use Rattle.type_data.specs.contracts.names.ItemNamePartialEq.TheImpl as items
use Rattle.elab_state.specs.declared.wants.Wanted.{Wanted}
use Rattle.elab_state.specs.contracts.wants.WantedPartialEq.TheImpl as questions

abbrev pub same_wanted : Wanted → Wanted → Bool
same_wanted a b = questions.eq-value.it a b

abbrev pub same_item : ItemName → ItemName → Bool
same_item a b = items.eq-value.it a b
